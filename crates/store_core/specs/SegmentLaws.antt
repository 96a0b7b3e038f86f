-- Which log segments an edition needs: each entry that its tables may not have lies in none before its first one.
use Rattle.std.specs.Prelude.{◌≡◌, ℕ, ◌≤◌, ◌<◌, true, List, [], ◌∷◌, ◌++◌, length, Option, IfSome, Some, slice_get}
use Rattle.std.specs.List.{AllByRecursion}
use Rattle.std.specs.Map.{values_of}
use Rattle.rdb_base.specs.Histories.{end}
use Rattle.rdb_base.specs.Ranges.{in_range}
use Rattle.rdb_base.specs.declared.entry.Entry.{Entry}
use Rattle.store_core.specs.Editions.{high_of, segment_with}
use Rattle.store_core.specs.Laws.{LedTo}
use Rattle.store_core.specs.Worlds.{World, memtables}
use Rattle.store_core.specs.declared.draft.Draft.{Draft}
use Rattle.store_core.specs.declared.edition.Edition.{Edition}
use Rattle.store_core.specs.declared.edition_part.EditionPart.{EditionPart}
use Rattle.store_core.specs.declared.memtable.Memtable.{Memtable}
use Rattle.store_core.specs.declared.store_answer.StoreAnswer.{StoreAnswer}
use Rattle.store_core.specs.declared.store_event.StoreEvent.{StoreEvent}

-- each entry of a partition's range that is not below its base lies in a segment from `first` on
abbrev pub PartNeeds : ℕ → List Memtable → List Entry → Option (List ℕ) → EditionPart → Type 0
PartNeeds first memtables log high part =
    (n : ℕ) (entry : Entry) → slice_get log n ≡ Some entry → part.base ≤ n → in_range part.low high entry.key ≡ true → first ≤ segment_with memtables n

-- so of all partitions
abbrev pub PartsNeed : ℕ → List Memtable → List Entry → List EditionPart → Type 0
PartsNeed first memtables log [] = Unit {0}
PartsNeed first memtables log (part ∷ parts) = PartNeeds first memtables log (high_of parts) part × PartsNeed first memtables log parts

-- and of an edition, whose first segment is not after the active one
pub record EditionNeeds (memtables : List Memtable) (log : List Entry) (active : ℕ) (edition : Edition) : Type 0 where
  pub parts : PartsNeed edition.first memtables log edition.parts
  pub first : edition.first ≤ active

-- the numbers of memtables do not fall
abbrev pub NumbersRise : List Memtable → Type 0
NumbersRise [] = Unit {0}
NumbersRise (m ∷ ms) = AllByRecursion (λ (other : Memtable). m.number ≤ other.number) ms × NumbersRise ms

-- what the claim reads of a world
pub record Tail : Type 0 where
  pub end : ℕ
  pub log : List Entry
  pub installed : Memtable
  pub opened : Option Memtable
  pub older : List (ℕ × Memtable)
  pub used : Edition
  pub stands : Edition
  pub gated : Option Edition

abbrev pub tail_of : World → Tail
tail_of w = record { end = end w.history; log = w.log; installed = w.installed; opened = w.opened; older = w.older; used = w.used; stands = w.stands; gated = w.gated }

abbrev pub memtables_in : Tail → List Memtable
memtables_in t = values_of t.older ++ t.installed ∷ []

-- the next memtable begins where the log ends then, and has the next number
abbrev pub OpensNext : Tail → Memtable → Type 0
OpensNext t m = (m.base ≤ length t.log) × (t.installed.number < m.number)

pub record AreNeeded (t : Tail) (made : Option Draft) : Type 0 where
  pub whole : t.end ≡ length t.log
  pub rise : NumbersRise (memtables_in t)
  pub keys : AllByRecursion (λ (m : ℕ × Memtable). m.0 < t.installed.number) t.older
  pub base : t.installed.base ≤ length t.log
  pub opened : IfSome t.opened (OpensNext t)
  pub used : EditionNeeds (memtables_in t) t.log t.installed.number t.used
  pub stands : EditionNeeds (memtables_in t) t.log t.installed.number t.stands
  pub gated : IfSome t.gated (EditionNeeds (memtables_in t) t.log t.installed.number)
  pub draft : IfSome made (λ d. EditionNeeds (memtables_in t) t.log t.installed.number d.edition)

abbrev pub Needed : World → Type 0
Needed w = AreNeeded (tail_of w) w.draft

-- Over every list of events, the used, the settled and the gated edition need no segment before their first: each log entry that is not
-- below its partition's base lies in that one or in a later one.
pub record SegmentsNeeded (w : World) : Type 0 where
  pub used : EditionNeeds (memtables w) w.log w.installed.number w.used
  pub stands : EditionNeeds (memtables w) w.log w.installed.number w.stands
  pub gated : IfSome w.gated (EditionNeeds (memtables w) w.log w.installed.number)

abbrev pub NoEarlierSegmentIsNeeded : Type 0
NoEarlierSegmentIsNeeded = (before : List StoreEvent) (told : List StoreAnswer) (w : World) → LedTo before told w → SegmentsNeeded w
