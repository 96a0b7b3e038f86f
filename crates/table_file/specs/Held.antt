-- How a table is held: its bytes, and the place where each of its pairs begins.
use Rattle.std.specs.Prelude.{◌≡◌, ℕ, zero, suc, ◌+◌, ◌*◌, List, [], ◌∷◌, ◌++◌, map, drop, Result, Ok, Err, IsOk}
use Rattle.std.specs.Int.{w16}
use Rattle.std.specs.List.{AllByRecursion}
use Rattle.rdb_base.specs.PairFields.{number_at, pair_at}
use Rattle.rdb_base.specs.Runs.{sizes}
use Rattle.rdb_base.specs.declared.change.Change.{Change}
use Rattle.rdb_base.specs.declared.change.Change.TheVariants.{Del}
use Rattle.rdb_base.specs.declared.pair.Pair.{Pair}
use Rattle.block_code.specs.declared.format.TheConstants.{UNIT, FIRST_LIMITS}
use Rattle.block_code.specs.Reading.{if_whole}
use Rattle.table_file.specs.Tables.{IsTable}

-- what contracts see of a table: its run and its bytes
pub record TableState : Type 0 where
  pub run : List Pair
  pub bytes : List ℕ

-- ---- pairs where they begin

-- what is read at a place
abbrev pub pair_there : List ℕ → ℕ → Result ((List ℕ × Change) × List ℕ) ℕ
pair_there bytes start = pair_at FIRST_LIMITS.key_max FIRST_LIMITS.value_max (drop start bytes)

-- the pair that was read; any where there is none
abbrev pub pair_read : Result ((List ℕ × Change) × List ℕ) ℕ → Pair
pair_read (Ok x) = record { key = x.0.0; change = x.0.1 }
pair_read (Err left) = record { key = []; change = Del }

-- the pairs that begin at these places
abbrev pub pairs_held : List ℕ → List ℕ → List Pair
pairs_held bytes starts = map (λ start. pair_read (pair_there bytes start)) starts

-- a pair begins at each of these places
abbrev pub ArePlaces : List ℕ → List ℕ → Type 0
ArePlaces bytes starts = AllByRecursion (λ start. IsOk (pair_there bytes start)) starts

-- what a table keeps: the bytes are a table of the pairs that begin at the places, and their sizes are summed up
pub record IsHeld (bytes starts : List ℕ) (size : ℕ) : Type 0 where
  pub table : IsTable FIRST_LIMITS (pairs_held bytes starts) bytes
  pub places : ArePlaces bytes starts
  pub summed : size ≡ sizes (pairs_held bytes starts)

-- ---- where pairs begin, as offsets and counts tell it

-- so many places of the block that begins at this one, as far as its offsets are there
unfoldable pub places_in : ℕ → ℕ → List ℕ → List ℕ
places_in block zero offsets = []
places_in block (suc n) offsets = if_whole (number_at w16 offsets) (λ one. (block + one.0) ∷ places_in block n one.1) []

-- the places of all pairs of so many units, the first of which begins at this place
unfoldable pub places_of_units : ℕ → ℕ → List ℕ → List ℕ → List ℕ
places_of_units zero place units counts = []
places_of_units (suc n) place units counts = if_whole (number_at w16 counts) (λ one. places_in place one.0 (drop 2 units) ++ places_of_units n (place + UNIT) (drop UNIT units) one.1) []

-- the places of all pairs of a table that has so many units
abbrev pub places_of : ℕ → List ℕ → List ℕ
places_of units bytes = places_of_units units 0 bytes (drop (UNIT * units) bytes)
