-- A list that takes no memory.
use Rattle.std.specs.Prelude.{List, [], Option, Some, None}
use Rattle.std.specs.declared.snapshot.Snapshot.{Snapshot}

-- the list that was seen
abbrev pub told : {T : Type 0} → Option (Snapshot (List T)) → List T
told None = []
told (Some seen) = seen.value
