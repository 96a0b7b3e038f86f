-- What a manifest keeps for contracts alone.
use Rattle.std.specs.Prelude.{Option, Some, None}
use Rattle.std.specs.declared.snapshot.Snapshot.{Snapshot}
use Rattle.edition_code.specs.Values.{EditionValue}

-- the newest edition that may stand: the one in doubt, or where none is, the one that surely stands
abbrev pub newest_of : EditionValue → Option (Snapshot EditionValue) → EditionValue
newest_of stands None = stands
newest_of stands (Some doubt) = doubt.value
