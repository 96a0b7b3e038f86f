use Rattle.std.proofs.Common.{◌≡◌, ◌-◌, ◌^◌, min, take}
use Rattle.host_model.specs.Lent.{rise_of}
use Rattle.host_model.proofs.lending.rise_between.Given as goal

abbrev pub invariant-counts : goal.invariant-counts
invariant-counts l = l.rise ≡ min (rise_of (take l.i l.before) (take l.i l.now)) (2 ^ 64 - 1)
