-- The pair field: how a key with its change lies in a log and in a table, and how it is read back.
use Rattle.std.specs.Prelude.{◌≡◌, ℕ, ◌+◌, ◌-◌, ◌≤◌, List, ◌++◌, length, take, drop, Result, Ok, Err, nat_lt, ◌==◌, if◌then◌else◌}
use Rattle.std.specs.Int.{Width, w16, w32, byte_len, from_be_bytes, to_be_bytes}
use Rattle.rdb_base.specs.declared.limits.TheConstants.{DELETION_TAG}
use Rattle.rdb_base.specs.declared.change.Change.{Change}
use Rattle.rdb_base.specs.declared.change.Change.TheVariants as changes
use Rattle.rdb_base.specs.declared.bad_field.BadField.{BadField}
use Rattle.rdb_base.specs.declared.pair_field.LentChange.{LentChange}
use Rattle.rdb_base.specs.declared.pair_field.LentChange.TheVariants as lent

-- ---- how a pair is spelled

-- a change after its key: the value's length and the value, or the tag of a deletion
abbrev pub change_field : Change → List ℕ
change_field (changes.Put value) = to_be_bytes w32 (length value) ++ value
change_field changes.Del = to_be_bytes w32 DELETION_TAG

-- the key's length, the key and the change
abbrev pub pair_field : List ℕ → Change → List ℕ
pair_field key change = to_be_bytes w16 (length key) ++ key ++ change_field change

-- how many bytes that is
abbrev pub size_of : List ℕ → Change → ℕ
size_of key (changes.Put value) = 6 + length key + length value
size_of key changes.Del = 6 + length key

-- a change's value has at most so many bytes
abbrev pub IsChangeWithin : ℕ → Change → Type 0
IsChangeWithin value_max (changes.Put value) = length value ≤ value_max
IsChangeWithin value_max changes.Del = Unit {0}

-- a key of 1 to so many bytes, and a value of at most so many
abbrev pub IsPairWithin : ℕ → ℕ → List ℕ → Change → Type 0
IsPairWithin key_max value_max key change = (1 ≤ length key) × (length key ≤ key_max) × IsChangeWithin value_max change

-- ---- how fields are read: a field and the bytes after it, or how many bytes are left from the first wrong field on

infixl 10 ◌>>=◌
-- the next field, after a field that was there
abbrev pub ◌>>=◌ : {A B : Type 0} → Result A ℕ → (A → Result B ℕ) → Result B ℕ
(Ok x) >>= f = f x
(Err left) >>= f = Err left

-- what a reader returned, seen by view, is what the definition reads
abbrev pub GivesField : {X Y : Type 0} → (X → Y) → Result X BadField → Result Y ℕ → Type 0
GivesField view (Ok x) read = read ≡ Ok (view x)
GivesField view (Err bad) read = read ≡ Err bad.left

-- a number of some width
abbrev pub number_at : Width → List ℕ → Result (ℕ × List ℕ) ℕ
number_at w bytes = if nat_lt (length bytes) (byte_len w) then Err (length bytes) else Ok (from_be_bytes w (take (byte_len w) bytes), drop (byte_len w) bytes)

-- so many bytes
abbrev pub bytes_at : ℕ → List ℕ → Result (List ℕ × List ℕ) ℕ
bytes_at n bytes = if nat_lt (length bytes) n then Err (length bytes) else Ok (take n bytes, drop n bytes)

-- a length and a key of 1 to so many bytes
unfoldable pub key_field_at : ℕ → List ℕ → Result (List ℕ × List ℕ) ℕ
key_field_at key_max bytes = do
  n ← number_at w16 bytes
  if n.0 == 0 then Err (length bytes) else if nat_lt key_max n.0 then Err (length bytes) else bytes_at n.0 n.1

-- a tag, and a value of at most so many bytes where the tag is its length
unfoldable pub change_field_at : ℕ → List ℕ → Result (Change × List ℕ) ℕ
change_field_at value_max bytes = do
  tag ← number_at w32 bytes
  if tag.0 == DELETION_TAG then Ok (changes.Del, tag.1) else if nat_lt value_max tag.0 then Err (length bytes) else do
    value ← bytes_at tag.0 tag.1
    Ok (changes.Put value.0, value.1)

-- a key and its change
unfoldable pub pair_at : ℕ → ℕ → List ℕ → Result ((List ℕ × Change) × List ℕ) ℕ
pair_at key_max value_max bytes = do
  key ← key_field_at key_max bytes
  change ← change_field_at value_max key.1
  Ok ((key.0, change.0), change.1)

-- the same reading, with the place of the first wrong byte in the whole bytes in place of how many are left
abbrev pub placed : {X : Type 0} → List ℕ → Result X ℕ → Result X ℕ
placed whole (Ok x) = Ok x
placed whole (Err left) = Err (length whole - left)

-- a lent change as the change that it is
abbrev pub lent_change : LentChange → Change
lent_change (lent.Put value) = changes.Put value.now
lent_change lent.Del = changes.Del
