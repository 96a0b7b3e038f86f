-- What holds of every pair field.
use Rattle.std.specs.Prelude.{◌≡◌, ◌<◌, ◌^◌, ◌-◌, ◌≤◌, ℕ, List, ◌++◌, length, Ok, Err}
use Rattle.rdb_base.specs.Bytes.{AreBytes}
use Rattle.rdb_base.specs.PairFields.{pair_field, pair_at, size_of, IsPairWithin}
use Rattle.rdb_base.specs.declared.change.Change.{Change}

-- within limits that the fields can hold, what is spelled is read back, whatever follows
abbrev pub PairReadsBack : Type 0
PairReadsBack = (key_max value_max : ℕ) (key : List ℕ) (change : Change) (rest : List ℕ) → key_max < 2 ^ 16 → value_max < 2 ^ 32 - 1
    → IsPairWithin key_max value_max key change → pair_at key_max value_max (pair_field key change ++ rest) ≡ Ok ((key, change), rest)

-- what is read of bytes was spelled there, within the limits
abbrev pub PairWasSpelled : Type 0
PairWasSpelled = (key_max value_max : ℕ) (key : List ℕ) (change : Change) (bytes rest : List ℕ) → AreBytes bytes
    → pair_at key_max value_max bytes ≡ Ok ((key, change), rest) → (bytes ≡ pair_field key change ++ rest) × IsPairWithin key_max value_max key change

-- what is left from the first wrong field on is no more than was there
abbrev pub BadFieldIsInside : Type 0
BadFieldIsInside = (key_max value_max : ℕ) (bytes : List ℕ) (left : ℕ) → pair_at key_max value_max bytes ≡ Err left → left ≤ length bytes

-- the size is the field's length
abbrev pub PairHasSize : Type 0
PairHasSize = (key : List ℕ) (change : Change) → length (pair_field key change) ≡ size_of key change
