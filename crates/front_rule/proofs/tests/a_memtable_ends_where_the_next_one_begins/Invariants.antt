use Rattle.std.specs.Prelude.{[]}
use Rattle.front_rule.proofs.tests.a_memtable_ends_where_the_next_one_begins.Given as goal

-- the history of the blank that was just made
abbrev pub ghosts-next_memtable : goal.ghosts-next_memtable
ghosts-next_memtable g a = record {
  base = [];
  first = a.blank.origin.first;
  callers = 1;
  table = a.blank.table;
  recovered = [];
  read = [];
  start = a.blank.origin.first;
  devices = [];
  opened = [];
}
