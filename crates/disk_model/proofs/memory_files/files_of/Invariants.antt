-- The files so far are stored, and no crash takes one away.
use Rattle.std.proofs.Common.{◌≡◌, ℕ, None, drop}
use Rattle.disk_model.specs.Slots.{slot_at, file_at, with_files, no_files}
use Rattle.disk_model.proofs.memory_files.files_of.Given as goal

abbrev pub invariant-loop-i : goal.invariant-loop-i
invariant-loop-i l = record {
  stored : (n : ℕ) → with_files (file_at l.all) (drop l.i l.files) n ≡ with_files no_files l.files n;
  settled : (n : ℕ) → (slot_at n l.all).doubt ≡ None;
}
