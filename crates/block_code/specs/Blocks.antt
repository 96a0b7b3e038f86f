-- A block: the bytes of pairs whose keys rise, and which pairs one block may have.
use Rattle.std.specs.Prelude.{◌≡◌, ℕ, ◌+◌, ◌-◌, ◌*◌, ◌%◌, ◌≤◌, List, [], ◌∷◌, ◌++◌, length, replicate}
use Rattle.std.specs.Int.{w16, to_be_bytes}
use Rattle.std.specs.List.{AllByRecursion}
use Rattle.rdb_base.specs.Runs.{IsRun, pair_size, sizes}
use Rattle.rdb_base.specs.PairFields.{pair_field, IsPairWithin}
use Rattle.rdb_base.specs.declared.pair.Pair.{Pair}
use Rattle.rdb_base.specs.declared.pair_field.PairLimits.{PairLimits}
use Rattle.block_code.specs.declared.format.TheConstants.{UNIT}

-- the places of pairs that follow one another from this place on, each as a number
unfoldable pub offsets_from : ℕ → List Pair → List ℕ
offsets_from place [] = []
offsets_from place (pair ∷ pairs) = to_be_bytes w16 place ++ offsets_from (place + pair_size pair) pairs

-- pairs, one after another
unfoldable pub pair_fields : List Pair → List ℕ
pair_fields [] = []
pair_fields (pair ∷ pairs) = pair_field pair.key pair.change ++ pair_fields pairs

-- the bytes of a count and of so many offsets: the place of a block's first pair
abbrev pub head_size : ℕ → ℕ
head_size count = 2 + 2 * count

-- the bytes of a block before its padding
abbrev pub block_size : List Pair → ℕ
block_size pairs = head_size (length pairs) + sizes pairs

-- how many bytes are missing to a whole number of units
abbrev pub padding : ℕ → ℕ
padding size = (UNIT - size % UNIT) % UNIT

-- a block: its count, the places of its pairs, the pairs, and bytes 00 up to a whole unit
unfoldable pub block : List Pair → List ℕ
block pairs = to_be_bytes w16 (length pairs) ++ (offsets_from (head_size (length pairs)) pairs ++ (pair_fields pairs ++ replicate (padding (block_size pairs)) 0))

-- the pairs of one block: at least one, within the limits, keys rising, and two or more only within one unit
pub record IsBlock (limits : PairLimits) (pairs : List Pair) : Type 0 where
  pub some : 1 ≤ length pairs
  pub one_unit : 2 ≤ length pairs → block_size pairs ≤ UNIT
  pub within : AllByRecursion (λ (pair : Pair). IsPairWithin limits.key_max limits.value_max pair.key pair.change) pairs
  pub rises : IsRun pairs

-- these bytes are the block of some pairs
abbrev pub IsBlockOf : PairLimits → List Pair → List ℕ → Type 0
IsBlockOf limits pairs bytes = IsBlock limits pairs × (bytes ≡ block pairs)
