use Rattle.std.proofs.Common.{◌-◌}
use Rattle.front_rule.proofs.settling.settled.Given as goal

-- the number that is told
abbrev pub ghosts-settled_told : goal.ghosts-settled_told
ghosts-settled_told g a = record { number = a.upto - g.K.StoreName.first }
