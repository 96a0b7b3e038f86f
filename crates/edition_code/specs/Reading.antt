-- How an edition is read from a payload, which may be any bytes: a field and the bytes after it, or how many bytes are left
-- from the first wrong field on.
use Rattle.std.specs.Prelude.{ℕ, zero, suc, Bool, true, false, ◌&&◌, List, [], ◌∷◌, ◌++◌, length, Result, Ok, Err, Option, Some, None, nat_lt, ◌==◌, if◌then◌else◌}
use Rattle.std.specs.Int.{w8, w16, w32, w64}
use Rattle.std.specs.Ordering.{is_lt}
use Rattle.rdb_base.specs.Order.{key_cmp}
use Rattle.rdb_base.specs.PairFields.{◌>>=◌, number_at, bytes_at, key_field_at, placed}
use Rattle.edition_code.specs.declared.run_field.RunField.{RunField}
use Rattle.edition_code.specs.declared.index_field.IndexField.{IndexField}
use Rattle.edition_code.specs.declared.format.TheConstants.{DIGEST_LEN, LOW_MAX, PARTITIONS_MAX, RUNS_MAX}
use Rattle.edition_code.specs.Values.{PartValue, EditionValue}
use Rattle.edition_code.specs.Editions.{is_in, run_numbers, part_numbers, greatest_base}

-- ---- files

-- the number of a file: 0 is wrong, one that was not drawn, and one that stands before
unfoldable pub file_number_at : ℕ → List ℕ → List ℕ → Result (ℕ × List ℕ) ℕ
file_number_at next before bytes = do
  number ← number_at w64 bytes
  if number.0 == 0 then Err (length bytes) else if nat_lt number.0 next then (if is_in number.0 before then Err (length bytes) else Ok number) else Err (length bytes)

-- a digest
abbrev pub digest_at : List ℕ → Result (List ℕ × List ℕ) ℕ
digest_at bytes = bytes_at DIGEST_LEN bytes

-- the file of a run. These numbers stand before it
unfoldable pub run_at : ℕ → List ℕ → List ℕ → Result (RunField × List ℕ) ℕ
run_at next before bytes = do
  number ← file_number_at next before bytes
  len ← number_at w64 number.1
  digest ← digest_at len.1
  Ok (record { number = number.0; length = len.0; digest = digest.0 }, digest.1)

-- the files of so many runs
unfoldable pub runs_at : ℕ → ℕ → List ℕ → List ℕ → Result (List RunField × List ℕ) ℕ
runs_at zero next before bytes = Ok ([], bytes)
runs_at (suc n) next before bytes = do
  one ← run_at next before bytes
  more ← runs_at n next (before ++ one.0.number ∷ []) one.1
  Ok (one.0 ∷ more.0, more.1)

-- each byte is 00
abbrev pub are_zero : List ℕ → Bool
are_zero [] = true
are_zero (byte ∷ bytes) = (byte == 0) && are_zero bytes

-- no index, of which the number 0 was read: its length and its digest have to be 00 too
unfoldable pub no_index_at : List ℕ → Result (List ℕ) ℕ
no_index_at bytes = do
  len ← number_at w64 bytes
  if len.0 == 0 then (do
    digest ← digest_at len.1
    if are_zero digest.0 then Ok digest.1 else Err (length len.1)) else Err (length bytes)

-- an index has the fields of a run
abbrev pub index_of : RunField → IndexField
index_of run = record { number = run.number; length = run.length; digest = run.digest }

-- no index, and what is after its fields
abbrev pub no_index : List ℕ → Result (Option IndexField × List ℕ) ℕ
no_index bytes = do
  rest ← no_index_at bytes
  Ok (None, rest)

-- the index of so many runs: without a run there is none
unfoldable pub index_at : ℕ → ℕ → List ℕ → List ℕ → Result (Option IndexField × List ℕ) ℕ
index_at runs next before bytes = do
  number ← number_at w64 bytes
  if number.0 == 0 then no_index number.1 else if runs == 0 then Err (length bytes) else do
    file ← run_at next before bytes
    Ok (Some (index_of file.0), file.1)

-- ---- partitions

-- the bound of the first partition, which is empty
unfoldable pub first_low_at : List ℕ → Result (List ℕ × List ℕ) ℕ
first_low_at bytes = do
  n ← number_at w16 bytes
  if n.0 == 0 then Ok ([], n.1) else Err (length bytes)

-- the bound of a further partition. One that is not above the last is wrong at its length
unfoldable pub next_low_at : List ℕ → List ℕ → Result (List ℕ × List ℕ) ℕ
next_low_at last bytes = do
  low ← key_field_at LOW_MAX bytes
  if is_lt (key_cmp last low.0) then Ok low else Err (length bytes)

-- the bound of a partition, which is the first one or comes after one with this bound
abbrev pub low_at : Bool → List ℕ → List ℕ → Result (List ℕ × List ℕ) ℕ
low_at is_first last bytes = if is_first then first_low_at bytes else next_low_at last bytes

-- a partition's low bound, its base number, and how many runs it has
pub record PartHead : Type 0 where
  pub low : List ℕ
  pub base : ℕ
  pub runs : ℕ

-- the head of a partition: more than RUNS_MAX runs are wrong
unfoldable pub part_head_at : Bool → List ℕ → List ℕ → Result (PartHead × List ℕ) ℕ
part_head_at is_first last bytes = do
  low ← low_at is_first last bytes
  base ← number_at w64 low.1
  runs ← number_at w8 base.1
  if nat_lt RUNS_MAX runs.0 then Err (length base.1) else Ok (record { low = low.0; base = base.0; runs = runs.0 }, runs.1)

-- a partition
unfoldable pub part_at : ℕ → Bool → List ℕ → List ℕ → List ℕ → Result (PartValue × List ℕ) ℕ
part_at next is_first last before bytes = do
  head ← part_head_at is_first last bytes
  runs ← runs_at head.0.runs next before head.1
  index ← index_at head.0.runs next (before ++ run_numbers runs.0) runs.1
  Ok (record { low = head.0.low; base = head.0.base; runs = runs.0; index = index.0 }, index.1)

-- so many partitions
unfoldable pub parts_at : ℕ → ℕ → Bool → List ℕ → List ℕ → List ℕ → Result (List PartValue × List ℕ) ℕ
parts_at zero next is_first last before bytes = Ok ([], bytes)
parts_at (suc n) next is_first last before bytes = do
  one ← part_at next is_first last before bytes
  more ← parts_at n next false one.0.low (before ++ part_numbers one.0) one.1
  Ok (one.0 ∷ more.0, more.1)

-- ---- the whole

-- an edition's number is at least 1, and was drawn: both are tested once `next` is whole
unfoldable pub numbers_at : List ℕ → Result ((ℕ × ℕ) × List ℕ) ℕ
numbers_at bytes = do
  number ← number_at w64 bytes
  if number.0 == 0 then Err (length bytes) else do
    next ← number_at w64 number.1
    if nat_lt number.0 next.0 then Ok ((number.0, next.0), next.1) else Err (length bytes)

-- how many partitions there are: 1 to PARTITIONS_MAX
unfoldable pub count_at : List ℕ → Result (ℕ × List ℕ) ℕ
count_at bytes = do
  count ← number_at w32 bytes
  if count.0 == 0 then Err (length bytes) else if nat_lt PARTITIONS_MAX count.0 then Err (length bytes) else Ok count

-- the fields of an edition. Nothing may follow the last one, and `first` is tested after all others
unfoldable pub edition_fields : List ℕ → Result EditionValue ℕ
edition_fields bytes = do
  numbers ← numbers_at bytes
  first ← number_at w64 numbers.1
  count ← count_at first.1
  parts ← parts_at count.0 numbers.0.1 true [] [] count.1
  if length parts.1 == 0 then (if nat_lt (greatest_base parts.0) first.0 then Err (length numbers.1) else Ok (record { number = numbers.0.0; next = numbers.0.1; first = first.0; partitions = parts.0 })) else Err (length parts.1)

-- the edition that a payload is, or the place of the first wrong field
abbrev pub edition_of : List ℕ → Result EditionValue ℕ
edition_of bytes = placed bytes (edition_fields bytes)

-- the head of a payload's first partition, or how many bytes are left from the first wrong field on: no field after it is
-- looked at
unfoldable pub first_part_head : List ℕ → Result PartHead ℕ
first_part_head bytes = do
  numbers ← numbers_at bytes
  first ← number_at w64 numbers.1
  count ← count_at first.1
  part ← part_head_at true [] count.1
  Ok part.0
