use Rattle.std.proofs.Common.{◌≡◌, ℕ, List, length, Some}
use Rattle.std.specs.Prelude.{slice_get}
use Rattle.disk_model.specs.MemoryState.{MemoryState}
use Rattle.disk_model.specs.FileState.{FileState}
use Rattle.host_model.proofs.in_memory.memory_devices.Given as goal

abbrev pub invariant-strips : goal.invariant-strips
invariant-strips l = (length l.log.items ≡ l.device)
    × (slice_get l.log.items 0 ≡ Some l.fn.first)
    × ((device : ℕ) (s : MemoryState FileState) → slice_get l.log.items device ≡ Some s → s.tally.book.name.device ≡ device)
