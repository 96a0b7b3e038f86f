-- The slots so far are as a crash leaves them, and the others as they were.
use Rattle.std.proofs.Common.{◌≡◌, ℕ, ◌<◌, ◌≤◌, length, get_or}
use Rattle.disk_model.specs.Slots.{empty_slot, left_slot}
use Rattle.disk_model.proofs.memory_files.crash_each.Given as goal

abbrev pub invariant-loop-i : goal.invariant-loop-i
invariant-loop-i l = record {
  same_length : length l.slots.items ≡ length l.initial.slots.items;
  done : (k : ℕ) → k < l.i → get_or l.slots.items k (empty_slot 0) ≡ left_slot l.pick (get_or l.initial.slots.items k (empty_slot 0));
  left : (k : ℕ) → l.i ≤ k → get_or l.slots.items k (empty_slot 0) ≡ get_or l.initial.slots.items k (empty_slot 0);
}
