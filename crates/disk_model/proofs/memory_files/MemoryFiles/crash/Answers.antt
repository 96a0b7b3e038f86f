-- A crash keeps the order.
use Rattle.disk_model.proofs.SlotLemmas.{rising-left}
use Rattle.disk_model.proofs.memory_files.MemoryFiles.crash.Goals as goal

pub invariant_of-self : goal.invariant_of-self
invariant_of-self c = rw c.crash_each.ensures (rising-left _ _ c.self.invariant)
