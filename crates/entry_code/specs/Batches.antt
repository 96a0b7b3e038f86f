-- A batch of entries that are spelled as they come.
use Rattle.std.specs.Prelude.{◌≡◌, ℕ, ◌+◌, ◌-◌, ◌≤◌, ◌<◌, ◌^◌, Bool, false, List, length, drop, nat_lt, if◌then◌else◌}
use Rattle.rdb_base.specs.declared.limits.TheConstants.{NUMBER_MAX}
use Rattle.entry_code.specs.declared.format.TheConstants.{ENTRIES_HEAD}
use Rattle.rdb_base.specs.declared.entry.Entry.{Entry}
use Rattle.entry_code.specs.Laws.{AreEntriesWithin}
use Rattle.entry_code.specs.Payloads.{entry_fields}

-- the number of the first entry, the entries, for how many bytes of fields there is room, and whether the payload is lent
pub record BatchState : Type 0 where
  pub first : ℕ
  pub entries : List Entry
  pub room : ℕ
  pub lent : Bool

-- the bytes after the head are the entries' fields
pub record IsSpelled (bytes : List ℕ) (entries : List Entry) : Type 0 where
  pub fields : drop ENTRIES_HEAD bytes ≡ entry_fields entries
  pub head : 0 < length entries → ENTRIES_HEAD ≤ length bytes

-- what a batch keeps: its bytes are spelled where it has them, its entries counted, within the limits, and few
pub record IsBatch (bytes : List ℕ) (count first : ℕ) (entries : List Entry) (lent : Bool) : Type 0 where
  pub spelled : lent ≡ false → IsSpelled bytes entries
  pub counted : count ≡ length entries
  pub within : AreEntriesWithin entries
  pub few : length (entry_fields entries) < 2 ^ 30
  pub ends : first + length entries ≤ NUMBER_MAX

-- room for fields after a head
abbrev pub room_in : ℕ → ℕ → ℕ
room_in capacity length = if nat_lt length ENTRIES_HEAD then 0 else capacity - length
