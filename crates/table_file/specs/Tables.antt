-- The bytes of a table: the blocks that a sorted run is cut into, a count for each unit, and a footer.
use Rattle.std.specs.Prelude.{◌≡◌, ℕ, ◌+◌, ◌-◌, ◌*◌, ◌/◌, ◌^◌, ◌<◌, ◌≤◌, List, [], ◌∷◌, ◌++◌, length, replicate}
use Rattle.std.specs.Int.{w16, w32, to_be_bytes}
use Rattle.std.specs.List.{AllByRecursion}
use Rattle.rdb_base.specs.Runs.{IsRun}
use Rattle.rdb_base.specs.PairFields.{IsPairWithin}
use Rattle.rdb_base.specs.declared.pair.Pair.{Pair}
use Rattle.rdb_base.specs.declared.pair_field.PairLimits.{PairLimits}
use Rattle.block_code.specs.declared.format.TheConstants.{UNIT}
use Rattle.block_code.specs.Blocks.{block, IsBlock}
use Rattle.table_file.specs.declared.format.TheConstants.{MAGIC, FIRST_VERSION}

-- the units of a block
abbrev pub units_of : List Pair → ℕ
units_of pairs = length (block pairs) / UNIT

-- blocks, one after another
unfoldable pub block_bytes : List (List Pair) → List ℕ
block_bytes [] = []
block_bytes (pairs ∷ blocks) = block pairs ++ block_bytes blocks

-- a block's count, and 0 for each further unit of it
abbrev pub unit_counts : List Pair → List ℕ
unit_counts pairs = to_be_bytes w16 (length pairs) ++ replicate (2 * (units_of pairs - 1)) 0

-- the counts of all units
unfoldable pub count_bytes : List (List Pair) → List ℕ
count_bytes [] = []
count_bytes (pairs ∷ blocks) = unit_counts pairs ++ count_bytes blocks

-- the units of all blocks
abbrev pub all_units : List (List Pair) → ℕ
all_units [] = 0
all_units (pairs ∷ blocks) = units_of pairs + all_units blocks

-- the pairs of all blocks
abbrev pub all_pairs : List (List Pair) → List Pair
all_pairs [] = []
all_pairs (pairs ∷ blocks) = pairs ++ all_pairs blocks

-- magic, version, zero, and how many units and pairs there are
abbrev pub footer : ℕ → ℕ → List ℕ
footer units pairs = to_be_bytes w32 MAGIC ++ (to_be_bytes w16 FIRST_VERSION ++ (to_be_bytes w16 0 ++ (to_be_bytes w32 units ++ to_be_bytes w32 pairs)))

-- each of these pairs is within the limits
abbrev pub AreWithin : PairLimits → List Pair → Type 0
AreWithin limits pairs = AllByRecursion (λ (pair : Pair). IsPairWithin limits.key_max limits.value_max pair.key pair.change) pairs

-- the table of these blocks
unfoldable pub table_of : List (List Pair) → List ℕ
table_of blocks = block_bytes blocks ++ (count_bytes blocks ++ footer (all_units blocks) (length (all_pairs blocks)))

-- bytes are the table of a run that is cut into these blocks
pub record IsTableOf (limits : PairLimits) (blocks : List (List Pair)) (run : List Pair) (bytes : List ℕ) : Type 0 where
  pub some : 1 ≤ length blocks
  pub each : AllByRecursion (IsBlock limits) blocks
  pub all : all_pairs blocks ≡ run
  pub rises : IsRun run
  pub units : all_units blocks < 2 ^ 32
  pub pairs : length run < 2 ^ 32
  pub spelled : bytes ≡ table_of blocks

-- bytes are a table of a run: there is a cut of the run into blocks that it is spelled by
abbrev pub IsTable : PairLimits → List Pair → List ℕ → Type 0
IsTable limits run bytes = (blocks : List (List Pair)) × IsTableOf limits blocks run bytes
