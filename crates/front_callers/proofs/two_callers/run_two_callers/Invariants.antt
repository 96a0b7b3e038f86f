use Rattle.std.proofs.Common.{[]}
use Rattle.front_callers.proofs.two_callers.run_two_callers.Given as goal

-- the history of the blank that was just made
abbrev pub ghosts-run_named : goal.ghosts-run_named
ghosts-run_named g a = record {
  base = [];
  first = a.blank.origin.first;
  callers = 2;
  table = a.blank.table;
  recovered = [];
  read = [];
  start = a.blank.origin.first;
  devices = [];
  opened = [];
}
