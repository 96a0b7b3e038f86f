-- The payloads of a log: a header, or entries one after another. Numbers are big-endian.
use Rattle.std.specs.Prelude.{ℕ, zero, suc, ◌+◌, List, [], ◌∷◌, ◌++◌, length, Result, Ok, Err, nat_lt, ◌==◌, if◌then◌else◌}
use Rattle.std.specs.Int.{w8, w32, w64, to_be_bytes}
use Rattle.rdb_base.specs.declared.limits.TheConstants.{KEY_MAX, VALUE_MAX, NUMBER_MAX}
use Rattle.entry_code.specs.declared.format.TheConstants.{HEADER_KIND, ENTRIES_KIND}
use Rattle.rdb_base.specs.declared.entry.Entry.{Entry}
use Rattle.rdb_base.specs.PairFields.{◌>>=◌, number_at, pair_at, pair_field, placed}

-- a header: its kind, its segment, and the number of the segment's first entry
abbrev pub header_payload : ℕ → ℕ → List ℕ
header_payload segment first = HEADER_KIND ∷ (to_be_bytes w64 segment ++ to_be_bytes w64 first)

-- an entry's caller and ordinal
abbrev pub entry_numbers : ℕ → ℕ → List ℕ
entry_numbers caller ordinal = to_be_bytes w32 caller ++ to_be_bytes w64 ordinal

-- an entry: its caller, its ordinal, its key and its change
unfoldable pub entry_field : Entry → List ℕ
entry_field entry = entry_numbers entry.caller entry.ordinal ++ pair_field entry.key entry.change

-- entries one after another
unfoldable pub entry_fields : List Entry → List ℕ
entry_fields [] = []
entry_fields (entry ∷ entries) = entry_field entry ++ entry_fields entries

-- the kind, the number of the first entry and how many they are
abbrev pub entries_head : ℕ → ℕ → List ℕ
entries_head first count = ENTRIES_KIND ∷ (to_be_bytes w64 first ++ to_be_bytes w32 count)

-- a payload of entries, of which the first has this number
abbrev pub entries_payload : ℕ → List Entry → List ℕ
entries_payload first entries = entries_head first (length entries) ++ entry_fields entries

-- the segment that a header names, and the number of its first entry
pub record Header : Type 0 where
  pub segment : ℕ
  pub first : ℕ

-- entries in a row, and the number of the first
pub record Numbered : Type 0 where
  pub first : ℕ
  pub entries : List Entry

-- ---- how they are read: a field and the bytes after it, or how many bytes are left from the first wrong field on

-- a payload's first byte
abbrev pub kind_at : ℕ → List ℕ → Result (List ℕ) ℕ
kind_at kind bytes = do
  k ← number_at w8 bytes
  if k.0 == kind then Ok k.1 else Err (length bytes)

-- nothing may follow the last field
abbrev pub ended : {X : Type 0} → X → List ℕ → Result X ℕ
ended x bytes = if length bytes == 0 then Ok x else Err (length bytes)

-- the fields of a header: a first number below the segment, or above NUMBER_MAX, is wrong
unfoldable pub header_fields : List ℕ → Result Header ℕ
header_fields bytes = do
  rest ← kind_at HEADER_KIND bytes
  segment ← number_at w64 rest
  first ← number_at w64 segment.1
  if nat_lt first.0 segment.0 then Err (length segment.1) else if nat_lt NUMBER_MAX first.0 then Err (length segment.1) else ended (record { segment = segment.0; first = first.0 }) first.1

-- an entry's fields
unfoldable pub entry_at : List ℕ → Result (Entry × List ℕ) ℕ
entry_at bytes = do
  caller ← number_at w32 bytes
  ordinal ← number_at w64 caller.1
  pair ← pair_at KEY_MAX VALUE_MAX ordinal.1
  Ok (record { caller = caller.0; ordinal = ordinal.0; key = pair.0.0; change = pair.0.1 }, pair.1)

-- so many entries
unfoldable pub entries_at : ℕ → List ℕ → Result (List Entry × List ℕ) ℕ
entries_at zero bytes = Ok ([], bytes)
entries_at (suc n) bytes = do
  one ← entry_at bytes
  more ← entries_at n one.1
  Ok (one.0 ∷ more.0, more.1)

-- the fields of a payload of entries: a count of 0 is wrong, and so is one that ends above NUMBER_MAX
unfoldable pub entries_fields : List ℕ → Result Numbered ℕ
entries_fields bytes = do
  rest ← kind_at ENTRIES_KIND bytes
  first ← number_at w64 rest
  count ← number_at w32 first.1
  if count.0 == 0 then Err (length first.1) else if nat_lt NUMBER_MAX (first.0 + count.0) then Err (length first.1) else do
    entries ← entries_at count.0 count.1
    ended (record { first = first.0; entries = entries.0 }) entries.1

-- the first entry of a payload of entries, or how many bytes are left from the first wrong field on: no field after it is
-- looked at
unfoldable pub first_entry : List ℕ → Result Entry ℕ
first_entry bytes = do
  rest ← kind_at ENTRIES_KIND bytes
  first ← number_at w64 rest
  count ← number_at w32 first.1
  if count.0 == 0 then Err (length first.1) else if nat_lt NUMBER_MAX (first.0 + count.0) then Err (length first.1) else do
    one ← entry_at count.1
    Ok one.0

-- the header that a payload is, or the place of the first wrong byte
abbrev pub header_of : List ℕ → Result Header ℕ
header_of bytes = placed bytes (header_fields bytes)

-- the entries that a payload has, or the place of the first wrong byte
abbrev pub entries_of : List ℕ → Result Numbered ℕ
entries_of bytes = placed bytes (entries_fields bytes)
