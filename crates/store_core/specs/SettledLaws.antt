-- What is settled: no edition and no frozen member goes beyond it.
use Rattle.std.specs.Prelude.{ℕ, ◌≤◌, List, Option, IfSome}
use Rattle.std.specs.List.{AllByRecursion}
use Rattle.rdb_base.specs.Histories.{end}
use Rattle.store_core.specs.Laws.{LedTo}
use Rattle.store_core.specs.Worlds.{World}
use Rattle.store_core.specs.declared.draft.Draft.{Draft}
use Rattle.store_core.specs.declared.edition.Edition.{Edition}
use Rattle.store_core.specs.declared.edition_part.EditionPart.{EditionPart}
use Rattle.store_core.specs.declared.frame.Frame.{Frame}
use Rattle.store_core.specs.declared.member.Member.{Member}
use Rattle.store_core.specs.declared.memtable.Memtable.{Memtable}
use Rattle.store_core.specs.declared.store_answer.StoreAnswer.{StoreAnswer}
use Rattle.store_core.specs.declared.store_event.StoreEvent.{StoreEvent}

-- no base of these partitions is above a number
abbrev pub BasesUpto : ℕ → List EditionPart → Type 0
BasesUpto number parts = AllByRecursion (λ (part : EditionPart). part.base ≤ number) parts

abbrev pub EditionUpto : ℕ → Option Edition → Type 0
EditionUpto number edition = IfSome edition (λ e. BasesUpto number e.parts)

abbrev pub DraftUpto : ℕ → Option Draft → Type 0
DraftUpto number draft = IfSome draft (λ d. BasesUpto number d.edition.parts)

-- no memtable begins above a number, and no member ends above it
abbrev pub MemtablesUpto : ℕ → List (ℕ × Memtable) → Type 0
MemtablesUpto number older = AllByRecursion (λ (m : ℕ × Memtable). m.1.base ≤ number) older

abbrev pub OpenedUpto : ℕ → Option Memtable → Type 0
OpenedUpto number opened = IfSome opened (λ m. m.base ≤ number)

abbrev pub MembersUpto : ℕ → List Member → Type 0
MembersUpto number members = AllByRecursion (λ (m : Member). m.upto ≤ number) members

-- a frame that is under way ends between what is settled and the end
abbrev pub FrameWithin : ℕ → ℕ → Option Frame → Type 0
FrameWithin settled number frame = IfSome frame (λ f. (settled ≤ f.upto) × (f.upto ≤ number))

-- what the claim reads of a world
pub record Bases : Type 0 where
  pub end : ℕ
  pub settled : ℕ
  pub frame : Option Frame
  pub base : ℕ
  pub opened : Option Memtable
  pub older : List (ℕ × Memtable)
  pub frozen : List Member
  pub used : List EditionPart
  pub stands : List EditionPart
  pub gated : Option Edition
  pub draft : Option Draft

abbrev pub bases_in : World → Bases
bases_in w =
    record {
      end = end w.history;
      settled = w.settled;
      frame = w.frame;
      base = w.installed.base;
      opened = w.opened;
      older = w.older;
      frozen = w.frozen;
      used = w.used.parts;
      stands = w.stands.parts;
      gated = w.gated;
      draft = w.draft;
    }

-- All entries that a memtable, a member or an edition begins after, ends before or has in its tables are settled.
pub record AreCovered (b : Bases) : Type 0 where
  pub within : b.settled ≤ b.end
  pub frame : FrameWithin b.settled b.end b.frame
  pub base : b.base ≤ b.settled
  pub opened : OpenedUpto b.settled b.opened
  pub older : MemtablesUpto b.settled b.older
  pub frozen : MembersUpto b.settled b.frozen
  pub used : BasesUpto b.settled b.used
  pub stands : BasesUpto b.settled b.stands
  pub gated : EditionUpto b.settled b.gated
  pub draft : DraftUpto b.settled b.draft

abbrev pub Covered : World → Type 0
Covered w = AreCovered (bases_in w)

abbrev pub BasesAreSettled : Type 0
BasesAreSettled = (before : List StoreEvent) (told : List StoreAnswer) (w : World) → LedTo before told w → Covered w
