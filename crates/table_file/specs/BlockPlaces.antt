-- Where the blocks of a table lie.
use Rattle.std.specs.Prelude.{◌≡◌, ℕ, zero, suc, ◌+◌, ◌*◌, List, [], ◌∷◌, ◌++◌, length, ◌==◌, if◌then◌else◌}
use Rattle.std.specs.Int.{w16}
use Rattle.rdb_base.specs.PairFields.{number_at}
use Rattle.rdb_base.specs.declared.pair.Pair.{Pair}
use Rattle.block_code.specs.declared.format.TheConstants.{UNIT, FIRST_LIMITS}
use Rattle.block_code.specs.Blocks.{block}
use Rattle.block_code.specs.Reading.{if_whole}
use Rattle.table_file.specs.declared.block_place.BlockPlace.{BlockPlace}
use Rattle.table_file.specs.Tables.{IsTableOf}

-- blocks that follow one another from a place on
abbrev pub block_places : ℕ → List (List Pair) → List BlockPlace
block_places place [] = []
block_places place (pairs ∷ blocks) = record { place = place; count = length pairs; len = length (block pairs) } ∷ block_places (place + length (block pairs)) blocks

-- these are the blocks of the table of a run, from its first byte on
abbrev pub HasBlocks : List Pair → List ℕ → List BlockPlace → Type 0
HasBlocks run bytes found = (blocks : List (List Pair)) × IsTableOf FIRST_LIMITS blocks run bytes × (found ≡ block_places 0 blocks)

-- ---- as the counts tell it

-- a block, if it has a pair
abbrev pub some_block : BlockPlace → List BlockPlace
some_block place = if place.count == 0 then [] else place ∷ []

-- how many units have no count before the next that has one, at most so many
unfoldable pub further_units : ℕ → List ℕ → ℕ
further_units zero counts = 0
further_units (suc n) counts = if_whole (number_at w16 counts) (λ one. if one.0 == 0 then 1 + further_units n one.1 else 0) 0

-- the blocks that begin in so many units with these counts
unfoldable pub blocks_told : ℕ → ℕ → List ℕ → List BlockPlace
blocks_told zero place counts = []
blocks_told (suc n) place counts = if_whole (number_at w16 counts) (λ one. some_block (record { place = place; count = one.0; len = UNIT * (1 + further_units n one.1) }) ++ blocks_told n (place + UNIT) one.1) []
