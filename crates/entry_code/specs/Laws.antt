-- What holds of every payload.
use Rattle.std.specs.Prelude.{◌≡◌, ℕ, ◌+◌, ◌^◌, ◌≤◌, ◌<◌, List, [], ◌∷◌, length, Ok}
use Rattle.rdb_base.specs.Lengths.{IsKeyLength}
use Rattle.rdb_base.specs.declared.limits.TheConstants.{VALUE_MAX, NUMBER_MAX}
use Rattle.rdb_base.specs.declared.entry.Entry.{Entry}
use Rattle.rdb_base.specs.PairFields.{IsChangeWithin}
use Rattle.entry_code.specs.Payloads.{header_payload, entries_payload, header_of, entries_of}

-- what every entry meets
pub record IsEntryWithin (entry : Entry) : Type 0 where
  pub caller : entry.caller < 2 ^ 32
  pub ordinal : entry.ordinal < 2 ^ 64
  pub key : IsKeyLength (length entry.key)
  pub change : IsChangeWithin VALUE_MAX entry.change

-- each of them does
abbrev pub AreEntriesWithin : List Entry → Type 0
AreEntriesWithin [] = Unit {0}
AreEntriesWithin (entry ∷ entries) = IsEntryWithin entry × AreEntriesWithin entries

-- a header that is encoded is read back
abbrev pub HeaderReadsBack : Type 0
HeaderReadsBack = (segment first : ℕ) → segment ≤ first → first ≤ NUMBER_MAX → header_of (header_payload segment first) ≡ Ok (record { segment = segment; first = first })

-- entries that are encoded are read back
abbrev pub EntriesReadBack : Type 0
EntriesReadBack = (first : ℕ) (entries : List Entry) → AreEntriesWithin entries → 1 ≤ length entries → length entries < 2 ^ 32 → first + length entries ≤ NUMBER_MAX → entries_of (entries_payload first entries) ≡ Ok (record { first = first; entries = entries })
