-- What two callers put, and what one list then has.
use Rattle.std.specs.Prelude.{◌≡◌, ℕ, ◌+◌, ◌≤◌, List, [], ◌∷◌, None, length}
use Rattle.rdb_base.specs.Histories.{calls_of, IsFair}
use Rattle.rdb_base.specs.declared.change.Change.{Change}
use Rattle.rdb_base.specs.declared.change.Change.TheVariants.{Put}
use Rattle.rdb_base.specs.declared.entry.Entry.{Entry}
use Rattle.rdb_base.specs.declared.row.Row.{Row}
use Rattle.front_rule.specs.declared.parts.LeafPart.{LeafPart}
use Rattle.front_rule.specs.declared.parts.PassPart.{PassPart}
use Rattle.front_rule.specs.declared.parts.PenPart.{PenPart}

-- the leaf is of the open memtable, and over all keys
abbrev pub IsOverAllKeys : PenPart → LeafPart → Type 0
IsOverAllKeys pen leaf = (leaf.memtable ≡ pen.memtable) × (leaf.low ≡ []) × (leaf.high ≡ None)

-- the next entry of a pass's caller
abbrev pub entry_of : PassPart → List ℕ → Change → Entry
entry_of pass key change = record { caller = pass.caller; ordinal = length pass.own; key = key; change = change }

-- one entry for each row, in order, whose ordinals rise from this one on
abbrev pub puts : ℕ → ℕ → List Row → List Entry
puts caller ordinal [] = []
puts caller ordinal (row ∷ rows) = record { caller = caller; ordinal = ordinal; key = row.key; change = Put row.value } ∷ puts caller (ordinal + 1) rows

-- a list with these rows of callers 0 and 1, each once and in order, and no entry of anyone else
pub record HasBoth (list : List Entry) (first second : List Row) : Type 0 where
  pub fair : IsFair list
  pub first_is : calls_of list 0 ≡ puts 0 0 first
  pub second_is : calls_of list 1 ≡ puts 1 0 second
  pub others : (c : ℕ) → 2 ≤ c → calls_of list c ≡ []
