-- An empty slot changes nothing.
use Rattle.disk_model.proofs.SlotLemmas.{same-inserted}
use Rattle.disk_model.proofs.memory_files.MemoryFiles.make.Goals as goal

pub returns-in_ok-insert-in-Err-clause-same : goal.returns-in_ok-insert-in-Err-clause-same
returns-in_ok-insert-in-Err-clause-same c n = rw (c.in_ok-insert-in-Err.ensures.items, c.empty.ensures, c.self.view_is) (same-inserted _ _ _ c.in-Err.ensures.absent n)
