use Rattle.std.proofs.Common.{◌≡◌, ◌≤◌, length, ◌-◌}
use Rattle.disk_real.proofs.reading.read_full_at.Given as goal

abbrev pub invariant-loop : goal.invariant-loop
invariant-loop l = (l.count ≤ length l.into) × (length l.into ≡ length l.fn.into)
