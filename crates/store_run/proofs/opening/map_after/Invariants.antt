use Rattle.std.proofs.Common.{◌≡◌, [], ◌++◌, length}
use Rattle.std.specs.Vec.Iter.{into_iter_items, into_iter_len}
use Rattle.rdb_base.specs.Maps.{applied_all}
use Rattle.store_run.specs.Rows.{rows_of}
use Rattle.store_run.proofs.opening.map_after.Given as goal

abbrev pub invariant-loop-entry : goal.invariant-loop-entry
invariant-loop-entry l = record {
  rest : l.yielded ++ into_iter_items l.entry-iterator ≡ into_iter_items l.initial.entry-iterator;
  len : into_iter_len l.entry-iterator ≡ length (into_iter_items l.entry-iterator);
  map : rows_of l.map ≡ applied_all [] l.yielded;
  told : l.told ≡ l.yielded;
}
