-- What a list of entries that takes no memory has told.
use Rattle.std.specs.Prelude.{List, [], Option, Some, None}
use Rattle.std.specs.declared.snapshot.Snapshot.{Snapshot}
use Rattle.rdb_base.specs.declared.entry.Entry.{Entry}

-- the entries that a snapshot has seen
abbrev pub told : Option (Snapshot (List Entry)) → List Entry
told None = []
told (Some seen) = seen.value
