-- How a table is read from bytes, which may be anything: its blocks, or how many bytes are left from the first wrong field on.
use Rattle.std.specs.Prelude.{ℕ, zero, suc, ◌+◌, ◌-◌, ◌*◌, ◌/◌, List, [], ◌∷◌, length, take, drop, Option, Some, None, Result, Ok, Err, nat_lt, ◌==◌, if◌then◌else◌}
use Rattle.std.specs.Int.{w16, w32}
use Rattle.rdb_base.specs.PairFields.{◌>>=◌, number_at, placed}
use Rattle.rdb_base.specs.declared.pair.Pair.{Pair}
use Rattle.rdb_base.specs.declared.pair_field.PairLimits.{PairLimits}
use Rattle.block_code.specs.declared.format.TheConstants.{UNIT}
use Rattle.block_code.specs.Reading.{number_is, block_at, last_key}
use Rattle.table_file.specs.declared.format.TheConstants.{MAGIC, FIRST_VERSION, FOOTER_LEN, UNIT_AND_COUNT}

-- ---- counts

-- what was read of units with this tail after all of them: a place in the units is a place in all
abbrev pub in_units : {X : Type 0} → List ℕ → List ℕ → Result X ℕ → Result X ℕ
in_units tail units (Ok x) = Ok x
in_units tail units (Err left) = Err (length units + length tail - (length units - left))

-- the count of the next unit, in what is left of the array and in the unit: the array's is wrong where they differ, and the unit's is where
-- both are 0
unfoldable pub counts_agree : List ℕ → List ℕ → List ℕ → Result (List ℕ) ℕ
counts_agree tail units counts = do
  here ← number_at w16 counts
  told ← in_units tail units (number_at w16 units)
  if here.0 == told.0 then (if here.0 == 0 then Err (length units + length tail) else Ok here.1) else Err (length counts)

-- so many further units, whose counts are 0: what is after these counts
unfoldable pub further_at : ℕ → List ℕ → Result (List ℕ) ℕ
further_at zero counts = Ok counts
further_at (suc n) counts = do
  rest ← number_is w16 0 counts
  further_at n rest

-- the sum of so many counts
unfoldable pub sum_at : ℕ → List ℕ → Result ℕ ℕ
sum_at zero counts = Ok 0
sum_at (suc n) counts = do
  one ← number_at w16 counts
  more ← sum_at n one.1
  Ok (one.0 + more)

-- ---- blocks

-- the next block, whose keys are above the last one: the unit's count in the array, the block, and the counts of its further
-- units. Its pairs, and the units and the counts after it. The tail is all counts and the footer
unfoldable pub next_block_at : PairLimits → List ℕ → List ℕ → List ℕ → List ℕ → Result (List Pair × (List ℕ × List ℕ)) ℕ
next_block_at limits tail last units counts = do
  rest ← counts_agree tail units counts
  block ← in_units tail units (block_at limits last units)
  more ← further_at ((length units - length block.1) / UNIT - 1) rest
  Ok (block.0, (block.1, more))

-- the blocks of all units, of which there are at most so many. Keys rise over all of them
unfoldable pub blocks_at : PairLimits → List ℕ → ℕ → List ℕ → List ℕ → List ℕ → Result (List (List Pair)) ℕ
blocks_at limits tail zero last units counts = Ok []
blocks_at limits tail (suc n) last units counts = if length units == 0 then Ok [] else do
  next ← next_block_at limits tail last units counts
  blocks ← blocks_at limits tail n (last_key last next.0) next.1.0 next.1.1
  Ok (next.0 ∷ blocks)

-- ---- the whole

-- the footer: how many units there are. They have to agree with the length of the whole, and the pairs with the counts
unfoldable pub footer_at : List ℕ → Result ℕ ℕ
footer_at bytes = do
  version ← number_is w32 MAGIC (drop (length bytes - FOOTER_LEN) bytes)
  empty ← number_is w16 FIRST_VERSION version
  told ← number_is w16 0 empty
  units ← number_at w32 told
  if units.0 == 0 then Err (length told) else if length bytes == UNIT_AND_COUNT * units.0 + FOOTER_LEN then (do
    sum ← sum_at units.0 (drop (UNIT * units.0) bytes)
    pairs ← number_is w32 sum units.1
    Ok units.0) else Err (length told)

-- the blocks of a table
unfoldable pub table_fields : PairLimits → List ℕ → Result (List (List Pair)) ℕ
table_fields limits bytes = if nat_lt (length bytes) FOOTER_LEN then Err (length bytes) else do
  units ← footer_at bytes
  blocks_at limits (drop (UNIT * units) bytes) units [] (take (UNIT * units) bytes) (drop (UNIT * units) bytes)

-- the blocks of a table, or its first wrong place
abbrev pub blocks_of : PairLimits → List ℕ → Result (List (List Pair)) ℕ
blocks_of limits bytes = placed bytes (table_fields limits bytes)

-- ---- what a reader keeps, since it copies no pair

-- the last key of a block, or the one before it, and what is after the block
abbrev pub kept_of : {X : Type 0} → List ℕ → Result (List Pair × X) ℕ → Result (List ℕ × X) ℕ
kept_of last (Ok block) = Ok (last_key last block.0, block.1)
kept_of last (Err left) = Err left

-- ---- the first wrong place alone

-- none where all was read
abbrev pub wrong_of : {X : Type 0} → Result X ℕ → Option ℕ
wrong_of (Ok x) = None
wrong_of (Err left) = Some left

-- the first wrong place of bytes as a table of these limits: none where there is none
abbrev pub first_wrong : PairLimits → List ℕ → Option ℕ
first_wrong limits bytes = wrong_of (blocks_of limits bytes)
