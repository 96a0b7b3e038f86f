use Rattle.std.proofs.Common.{◌+◌}
use Rattle.front_rule.proofs.settling.failed.Given as goal

-- the number that is told
abbrev pub ghosts-failed_told : goal.ghosts-failed_told
ghosts-failed_told g a = record { number = a.pen.now.failed + 1 }
