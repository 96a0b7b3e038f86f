use Rattle.std.proofs.Common.{◌≡◌}
use Rattle.front_rule.specs.Rule.{first_pen}
use Rattle.front_rule.specs.Making.{first_passes}
use Rattle.front_rule.proofs.front.Front.make.Given as goal

abbrev pub invariant-loop-caller : goal.invariant-loop-caller
invariant-loop-caller g l = (l.pen ≡ first_pen l.fn.blank.origin l.caller) × (l.passes.items ≡ first_passes l.fn.blank.origin l.caller)
