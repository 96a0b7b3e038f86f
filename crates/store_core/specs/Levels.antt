-- What lies below a memtable, as one run.
use Rattle.std.specs.Prelude.{List, [], ◌∷◌}
use Rattle.rdb_base.specs.Levels.{over}
use Rattle.rdb_base.specs.declared.pair.Pair.{Pair}
use Rattle.partition_plan.specs.Compactions.{parts_level}
use Rattle.store_core.specs.Editions.{all_plain}
use Rattle.store_core.specs.declared.edition_part.EditionPart.{EditionPart}
use Rattle.store_core.specs.declared.levels.Levels.{Levels}
use Rattle.store_core.specs.declared.member.Member.{Member}

-- members, the newest first, above what lies below them
abbrev pub stacked : List Member → List Pair → List Pair
stacked [] low = low
stacked (member ∷ members) low = over member.run (stacked members low)

-- the newest changes of partitions
abbrev pub files_level : List EditionPart → List Pair
files_level parts = parts_level (all_plain parts)

-- the newest changes of all levels
abbrev pub run_of : Levels → List Pair
run_of levels = stacked levels.members (over levels.carried (files_level levels.parts))
