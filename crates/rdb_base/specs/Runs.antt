-- A sorted run: pairs whose keys rise, each key once.
use Rattle.std.specs.Prelude.{◌≡◌, ℕ, ◌+◌, List, [], ◌∷◌, Option, Some, None, if◌then◌else◌}
use Rattle.std.specs.List.{AllByRecursion}
use Rattle.std.specs.Ordering.{is_eq}
use Rattle.std.specs.declared.cmp.Ordering.TheVariants.{Less}
use Rattle.rdb_base.specs.Order.{key_cmp}
use Rattle.rdb_base.specs.PairFields.{size_of}
use Rattle.rdb_base.specs.declared.change.Change.{Change}
use Rattle.rdb_base.specs.declared.pair.Pair.{Pair}

-- a key below the keys of all of these
abbrev pub IsBelowAll : List ℕ → List Pair → Type 0
IsBelowAll key pairs = AllByRecursion (λ other. key_cmp key other.key ≡ Less) pairs

-- a run: each pair's key is below those of all pairs after it
abbrev pub IsRun : List Pair → Type 0
IsRun [] = Unit {0}
IsRun (pair ∷ pairs) = IsBelowAll pair.key pairs × IsRun pairs

-- each key of these is below this one
abbrev pub AreBelow : List Pair → List ℕ → Type 0
AreBelow pairs key = AllByRecursion (λ other. key_cmp other.key key ≡ Less) pairs

-- the change at a key, where the run has the key
abbrev pub change_at : List Pair → List ℕ → Option Change
change_at [] key = None
change_at (pair ∷ pairs) key = if is_eq (key_cmp pair.key key) then Some pair.change else change_at pairs key

-- the size of a pair, in bytes: the length of its field
abbrev pub pair_size : Pair → ℕ
pair_size pair = size_of pair.key pair.change

-- the sizes of all pairs together
abbrev pub sizes : List Pair → ℕ
sizes [] = 0
sizes (pair ∷ pairs) = pair_size pair + sizes pairs
