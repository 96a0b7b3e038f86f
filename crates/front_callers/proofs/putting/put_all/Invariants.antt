use Rattle.std.proofs.Common.{◌≡◌, take}
use Rattle.front_callers.specs.Callers.{puts}
use Rattle.front_callers.proofs.putting.put_all.Given as goal

abbrev pub invariant-loop-row : goal.invariant-loop-row
invariant-loop-row g l = (l.pass.caller ≡ l.fn.pass.caller) × (l.pass.own ≡ puts l.fn.pass.caller 0 (take l.row-index l.rows))
