-- What readers of blocks answer.
use Rattle.std.specs.Prelude.{◌≡◌, ℕ, List, length}
use Rattle.rdb_base.specs.PairFields.{lent_change}
use Rattle.rdb_base.specs.declared.pair.Pair.{Pair}
use Rattle.rdb_base.specs.declared.pair_field.PairField.{PairField}
use Rattle.block_code.specs.declared.ends.BlockEnds.{BlockEnds}
use Rattle.block_code.specs.declared.format.TheConstants.{FIRST_LIMITS}
use Rattle.block_code.specs.Blocks.{IsBlockOf}

-- a lent pair as the pair that it is
abbrev pub pair_lent : PairField → Pair
pair_lent field = record { key = field.key.now; change = lent_change field.change }

-- what a reader keeps, as values
abbrev pub ends_lent : BlockEnds → (ℕ × List ℕ) × List ℕ
ends_lent ends = ((ends.count, ends.last.now), ends.rest.now)

-- these bytes are the block of so many pairs
abbrev pub HasBlock : ℕ → List ℕ → Type 0
HasBlock count bytes = (pairs : List Pair) × IsBlockOf FIRST_LIMITS pairs bytes × (length pairs ≡ count)

-- these bytes are the block of no pairs at all
abbrev pub HasNone : List ℕ → Type 0
HasNone bytes = (pairs : List Pair) → IsBlockOf FIRST_LIMITS pairs bytes → ⊥
