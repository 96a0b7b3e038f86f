-- A failed change leaves the bytes.
use Rattle.disk_model.proofs.FileLemmas.{sound-failed}
use Rattle.disk_model.proofs.memory_file.MemoryFile.fail.Goals as goal

pub invariant_of-self-2 : goal.invariant_of-self-2
invariant_of-self-2 c = rw c.in_ok-push.ensures.items (sound-failed _ _ _ _ _ _ c.self.invariant c.args.change)
