use Rattle.std.specs.Prelude.{[]}
use Rattle.front_rule.proofs.tests.two_callers_append_to_one_list.Given as goal

-- the history of the blank that was just made
abbrev pub ghosts-two_entries : goal.ghosts-two_entries
ghosts-two_entries g a = record {
  base = [];
  first = a.blank.origin.first;
  callers = 2;
  table = a.blank.table;
  recovered = [];
  read = [];
  start = a.blank.origin.first;
  devices = [];
  opened = [];
}
