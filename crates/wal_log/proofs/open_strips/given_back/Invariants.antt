use Rattle.std.proofs.Common.{◌≡◌, ◌+◌, ◌++◌, ◌≤◌, map, vec_len, vec_capacity}
use Rattle.std.specs.Prelude.{reverse}
use Rattle.wal_log.specs.Strips.{strip_in}
use Rattle.wal_log.proofs.open_strips.given_back.Given as goal

abbrev pub invariant-journals : goal.invariant-journals
invariant-journals g l = record {
  all : map strip_in l.journals.items ++ reverse l.strips.items ≡ map strip_in l.fn.journals.items ++ reverse l.fn.after.items;
  room : vec_len l.journals + vec_len l.strips ≤ vec_capacity l.strips;
}

abbrev pub decreases-journals : goal.decreases-journals
decreases-journals g l = vec_len l.journals
