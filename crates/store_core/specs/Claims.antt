-- What holds of every world that events lead to: of the smaller record that the answers depend on, and of the callers' counts.
use Rattle.std.specs.Prelude.{◌≡◌, ℕ, ◌≤◌, List, [], ◌∷◌, ◌++◌, length, Option, IfSome}
use Rattle.std.specs.List.{AllByRecursion}
use Rattle.rdb_base.specs.Histories.{History, after, end, calls_of, IsFair}
use Rattle.rdb_base.specs.Runs.{IsRun}
use Rattle.rdb_base.specs.Levels.{over, live, newest}
use Rattle.rdb_base.specs.declared.entry.Entry.{Entry}
use Rattle.rdb_base.specs.declared.pair.Pair.{Pair}
use Rattle.partition_plan.specs.Compactions.{AreAllParts}
use Rattle.store_core.specs.Editions.{all_plain}
use Rattle.store_core.specs.Levels.{stacked, files_level, run_of}
use Rattle.store_core.specs.Worlds.{World, range, caller_in}
use Rattle.store_core.specs.declared.caller.Caller.{Caller}
use Rattle.store_core.specs.declared.draft.Draft.{Draft}
use Rattle.store_core.specs.declared.edition_part.EditionPart.{EditionPart}
use Rattle.store_core.specs.declared.levels.Levels.{Levels}
use Rattle.store_core.specs.declared.member.Member.{Member}
use Rattle.store_core.specs.declared.memtable.Memtable.{Memtable}
use Rattle.store_core.specs.declared.pin.Pin.{Pin}

-- members, the newest first, that are the entries from `low` up to `upto`: each begins where the one before it ends
abbrev pub Covers : History → ℕ → ℕ → List Member → Type 0
Covers h upto low [] = upto ≡ low
Covers h upto low (m ∷ ms) = (m.upto ≡ upto) × (m.base ≤ m.upto) × (m.run ≡ newest [] (range h m.base m.upto)) × Covers h m.base low ms

-- levels whose rows are the map after the entries below a number
pub record IsMapAt (h : History) (number : ℕ) (levels : Levels) : Type 0 where
  pub from : h.first ≤ number
  pub upto : number ≤ end h
  pub rows : live (run_of levels) ≡ after h number
  pub rises : IsRun (run_of levels)

abbrev pub HeldHolds : History → Caller → Type 0
HeldHolds h caller = IfSome caller.held (λ version. IsMapAt h version.base version.below)

abbrev pub PinHolds : History → Pin → Type 0
PinHolds h pin = IsMapAt h pin.front pin.below

-- members above what is carried on above partitions are the map after the entries below a number
pub record IsBelow (h : History) (number : ℕ) (members : List Member) (carried : List Pair) (parts : List EditionPart) : Type 0 where
  pub rows : live (stacked members (over carried (files_level parts))) ≡ after h number
  pub rises : IsRun carried
  pub all : AreAllParts (all_plain parts)

-- a draft took these members, and what it carries on above its partitions is the map that they were above the old ones
pub record DraftHolds (h : History) (number : ℕ) (members : List Member) (draft : Draft) : Type 0 where
  pub taken : draft.taken ≡ length members
  pub below : IsBelow h number [] draft.carried draft.edition.parts

-- ---- what the answers depend on

pub record Core : Type 0 where
  pub history : History
  pub installed : Memtable
  pub opened : Option Memtable
  pub frozen : List Member
  pub carried : List Pair
  pub parts : List EditionPart
  pub draft : Option Draft
  pub callers : List (ℕ × Caller)
  pub pins : List Pin

abbrev pub core_of : World → Core
core_of w =
    record {
      history = w.history;
      installed = w.installed;
      opened = w.opened;
      frozen = w.frozen;
      carried = w.carried;
      parts = w.used.parts;
      draft = w.draft;
      callers = w.callers;
      pins = w.pins;
    }

-- The frozen members are newer ones, which a draft did not take, and those that it took. These, over what is carried on and the
-- partitions in use, are the map after `upto`; the newer ones are the entries from there up to the installed memtable.
pub record IsSound (c : Core) : Type 0 where
  pub upto : ℕ
  pub newer : List Member
  pub taken : List Member
  pub frozen : c.frozen ≡ newer ++ taken
  pub from : c.history.first ≤ upto
  pub covers : Covers c.history c.installed.base upto newer
  pub below : IsBelow c.history upto taken c.carried c.parts
  pub base : c.installed.base ≤ end c.history
  pub opened : IfSome c.opened (λ memtable. (c.installed.base ≤ memtable.base) × (memtable.base ≤ end c.history))
  pub draft : IfSome c.draft (λ draft. DraftHolds c.history upto taken draft)
  pub held : (number : ℕ) → HeldHolds c.history (caller_in c.callers number)
  pub pins : AllByRecursion (PinHolds c.history) c.pins

abbrev pub Sound : World → Type 0
Sound w = IsSound (core_of w)

-- ---- the callers' counts

-- the entries are numbered for each caller, and each caller has counted its own
pub record IsCounted (entries : List Entry) (callers : List (ℕ × Caller)) : Type 0 where
  pub fair : IsFair entries
  pub counts : (number : ℕ) → (caller_in callers number).calls ≡ length (calls_of entries number)

abbrev pub Counted : World → Type 0
Counted w = IsCounted w.history.entries w.callers
