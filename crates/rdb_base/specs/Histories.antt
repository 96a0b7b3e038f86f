-- A history: the map that it began with, the number of its first entry, and its entries.
use Rattle.std.specs.Prelude.{◌≡◌, ℕ, ◌+◌, ◌-◌, ◌≤◌, ◌==◌, List, [], ◌∷◌, length, take, filter, slice_get, Some}
use Rattle.rdb_base.specs.declared.row.Row.{Row}
use Rattle.rdb_base.specs.declared.entry.Entry.{Entry}
use Rattle.rdb_base.specs.Maps.{applied_all}

pub record History : Type 0 where
  pub base : List Row
  pub first : ℕ
  pub entries : List Entry

-- the number after the last entry's
abbrev pub end : History → ℕ
end history = history.first + length history.entries

-- the history has this entry under this number
abbrev pub IsEntry : History → ℕ → Entry → Type 0
IsEntry history number entry = (history.first ≤ number) × (slice_get history.entries (number - history.first) ≡ Some entry)

-- the map after all entries whose number is below this one
abbrev pub after : History → ℕ → List Row
after history number = applied_all history.base (take (number - history.first) history.entries)

-- the entries of one caller, in their order
abbrev pub calls_of : List Entry → ℕ → List Entry
calls_of entries caller = filter (λ entry. entry.caller == caller) entries

-- the ordinals rise by one from this one on
abbrev pub AreNumbered : ℕ → List Entry → Type 0
AreNumbered ordinal [] = Unit {0}
AreNumbered ordinal (entry ∷ entries) = (entry.ordinal ≡ ordinal) × AreNumbered (ordinal + 1) entries

-- each caller's entries are numbered from 0 on
abbrev pub IsFair : List Entry → Type 0
IsFair entries = (caller : ℕ) → AreNumbered 0 (calls_of entries caller)
