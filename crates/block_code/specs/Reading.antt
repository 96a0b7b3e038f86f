-- How a block is read from units of 4,096 bytes, which may be anything: its pairs and the units after it, or how many bytes
-- are left from the first wrong field on.
use Rattle.std.specs.Prelude.{ℕ, zero, suc, ◌+◌, ◌-◌, List, [], ◌∷◌, length, take, drop, Result, Ok, Err, ◌==◌, if◌then◌else◌}
use Rattle.std.specs.Int.{Width, w8, w16}
use Rattle.std.specs.Ordering.{is_lt}
use Rattle.rdb_base.specs.Order.{key_cmp}
use Rattle.rdb_base.specs.PairFields.{◌>>=◌, number_at, key_field_at, pair_at, placed}
use Rattle.rdb_base.specs.declared.pair.Pair.{Pair}
use Rattle.rdb_base.specs.declared.pair_field.PairLimits.{PairLimits}
use Rattle.block_code.specs.declared.format.TheConstants.{UNIT, FIRST_LIMITS}
use Rattle.block_code.specs.Blocks.{head_size, padding}

-- a number of some width that has to be this one: what is after it
abbrev pub number_is : Width → ℕ → List ℕ → Result (List ℕ) ℕ
number_is w n bytes = do
  one ← number_at w bytes
  if one.0 == n then Ok one.1 else Err (length bytes)

-- so many numbers of two bytes are there: what is after them
unfoldable pub numbers_at : ℕ → List ℕ → Result (List ℕ) ℕ
numbers_at zero bytes = Ok bytes
numbers_at (suc n) bytes = do
  one ← number_at w16 bytes
  numbers_at n one.1

-- what follows from a field that is whole, or else another thing
abbrev pub if_whole : {X Y : Type 0} → Result X ℕ → (X → Y) → Y → Y
if_whole (Ok x) f other = f x
if_whole (Err left) f other = other

-- so many offsets, of which the first is this place. Each next one is the end of the pair before, as far as the pairs before
-- are whole; after a pair that is not, offsets only have to be there
unfoldable pub offsets_at : PairLimits → ℕ → ℕ → List ℕ → List ℕ → Result (List ℕ) ℕ
offsets_at limits zero place offsets pairs = Ok offsets
offsets_at limits (suc n) place offsets pairs = do
  rest ← number_is w16 place offsets
  if_whole (pair_at limits.key_max limits.value_max pairs) (λ pair. offsets_at limits n (place + (length pairs - length pair.1)) rest pair.1) (numbers_at n rest)

-- a pair whose key is above the last one. A key that is not is wrong at its length
unfoldable pub next_pair_at : PairLimits → List ℕ → List ℕ → Result (Pair × List ℕ) ℕ
next_pair_at limits last bytes = do
  key ← key_field_at limits.key_max bytes
  if is_lt (key_cmp last key.0) then (do
    pair ← pair_at limits.key_max limits.value_max bytes
    Ok (record { key = pair.0.0; change = pair.0.1 }, pair.1)) else Err (length bytes)

-- so many pairs whose keys rise above the last one
unfoldable pub pairs_at : PairLimits → ℕ → List ℕ → List ℕ → Result (List Pair × List ℕ) ℕ
pairs_at limits zero last bytes = Ok ([], bytes)
pairs_at limits (suc n) last bytes = do
  one ← next_pair_at limits last bytes
  more ← pairs_at limits n one.0.key one.1
  Ok (one.0 ∷ more.0, more.1)

-- so many bytes 00: what is after them
unfoldable pub zeros_at : ℕ → List ℕ → Result (List ℕ) ℕ
zeros_at zero bytes = Ok bytes
zeros_at (suc n) bytes = do
  rest ← number_is w8 0 bytes
  zeros_at n rest

-- the offsets of a block of so many pairs, which begins where this area begins: what is after them
abbrev pub offsets_of_area : PairLimits → ℕ → List ℕ → Result (List ℕ) ℕ
offsets_of_area limits count area = offsets_at limits count (head_size count) (drop 2 area) (drop (head_size count) area)

-- its pairs
abbrev pub pairs_of_area : PairLimits → List ℕ → ℕ → List ℕ → Result (List Pair × List ℕ) ℕ
pairs_of_area limits last count area = pairs_at limits count last (drop (head_size count) area)

-- its padding, where this is left after its pairs
abbrev pub padding_of_area : List ℕ → List ℕ → Result (List ℕ) ℕ
padding_of_area area rest = zeros_at (padding (length area - length rest)) rest

-- its offsets, pairs and padding, which have to end within the area: its pairs, and what is after it
unfoldable pub block_in : PairLimits → List ℕ → ℕ → List ℕ → Result (List Pair × List ℕ) ℕ
block_in limits last count area = do
  offsets ← offsets_of_area limits count area
  pairs ← pairs_of_area limits last count area
  rest ← padding_of_area area pairs.1
  Ok (pairs.0, rest)

-- what was read of the first of these units: the others are after it, and a place in it is a place in all
abbrev pub in_unit : {X : Type 0} → List ℕ → Result (X × List ℕ) ℕ → Result (X × List ℕ) ℕ
in_unit units (Ok x) = Ok (x.0, drop UNIT units)
in_unit units (Err left) = Err (length units - (length (take UNIT units) - left))

-- the offsets, pairs and padding of a block that has to end within the first of these units
abbrev pub block_in_unit : PairLimits → List ℕ → ℕ → List ℕ → Result (List Pair × List ℕ) ℕ
block_in_unit limits last count units = in_unit units (block_in limits last count (take UNIT units))

-- the block at the front of these units, whose keys are above the last one. It has to end within the first unit, or, where it
-- has one pair, within all of them
unfoldable pub block_at : PairLimits → List ℕ → List ℕ → Result (List Pair × List ℕ) ℕ
block_at limits last units = do
  count ← number_at w16 units
  if count.0 == 0 then Err (length units) else if count.0 == 1 then block_in limits last 1 units else block_in_unit limits last count.0 units

-- the pairs of bytes that are one block and no more
unfoldable pub block_fields : PairLimits → List ℕ → Result (List Pair) ℕ
block_fields limits bytes = do
  block ← block_at limits [] bytes
  if length block.1 == 0 then Ok block.0 else Err (length block.1)

-- the pairs of a block of the first format, or the first wrong place
abbrev pub block_of : List ℕ → Result (List Pair) ℕ
block_of bytes = placed bytes (block_fields FIRST_LIMITS bytes)

-- how many pairs were read
abbrev pub count_of : Result (List Pair) ℕ → Result ℕ ℕ
count_of (Ok pairs) = Ok (length pairs)
count_of (Err place) = Err place

-- ---- what a reader keeps of a block, since it copies no pair

-- the last of these keys, or the one before them
abbrev pub last_key : List ℕ → List Pair → List ℕ
last_key last [] = last
last_key last (pair ∷ pairs) = last_key pair.key pairs

-- how many pairs a block has and the last of their keys, and what is after it
abbrev pub ends_of : {X : Type 0} → List ℕ → Result (List Pair × X) ℕ → Result ((ℕ × List ℕ) × X) ℕ
ends_of last (Ok block) = Ok ((length block.0, last_key last block.0), block.1)
ends_of last (Err left) = Err left

-- ---- the pairs of a block that was found whole

-- the pairs that were read, none where a place was wrong
abbrev pub pairs_read : Result (List Pair) ℕ → List Pair
pairs_read (Ok pairs) = pairs
pairs_read (Err place) = []

-- the pairs of a block of the first format, none where the bytes are no block
abbrev pub pairs_of : List ℕ → List Pair
pairs_of bytes = pairs_read (block_of bytes)
