-- The numbers so far are gathered.
use Rattle.std.proofs.Common.{◌≡◌, ◌++◌, drop}
use Rattle.disk_model.specs.Slots.{numbers_in}
use Rattle.disk_model.proofs.memory_files.MemoryFiles.numbers.Given as goal

abbrev pub invariant-loop-i : goal.invariant-loop-i
invariant-loop-i l = numbers_in l.self-inside.slots.items ≡ l.numbers.items ++ numbers_in (drop l.i l.self-inside.slots.items)
