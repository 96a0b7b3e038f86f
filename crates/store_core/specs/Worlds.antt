-- The world of a store: all that its state is, how its parts are read, and how it begins.
use Rattle.std.specs.Prelude.{ℕ, ◌-◌, ◌==◌, Bool, false, List, [], ◌∷◌, ◌++◌, take, drop, Option, Some, None, if◌then◌else◌}
use Rattle.std.specs.BTreeMap.{is_at, insert_entry}
use Rattle.std.specs.Map.{lookup, values_of}
use Rattle.std.specs.Ordering.{nat_cmp}
use Rattle.rdb_base.specs.Histories.{History}
use Rattle.rdb_base.specs.declared.entry.Entry.{Entry}
use Rattle.rdb_base.specs.declared.pair.Pair.{Pair}
use Rattle.store_core.specs.declared.caller.Caller.{Caller}
use Rattle.store_core.specs.declared.draft.Draft.{Draft}
use Rattle.store_core.specs.declared.edition.Edition.{Edition}
use Rattle.store_core.specs.declared.edition_part.EditionPart.{EditionPart}
use Rattle.store_core.specs.declared.frame.Frame.{Frame}
use Rattle.store_core.specs.declared.levels.Levels.{Levels}
use Rattle.store_core.specs.declared.member.Member.{Member}
use Rattle.store_core.specs.declared.memtable.Memtable.{Memtable}
use Rattle.store_core.specs.declared.pin.Pin.{Pin}
use Rattle.store_core.specs.declared.segment.Segment.{Segment}

pub record World : Type 0 where
  -- the history, and the log's entries, numbered from 0 on
  pub history : History
  pub log : List Entry
  -- the next number to be drawn, for a file or an edition
  pub next : ℕ
  -- memtables: the installed one, the next one where it is open and not yet installed, and those before by rising numbers
  pub installed : Memtable
  pub opened : Option Memtable
  pub older : List (ℕ × Memtable)
  -- frozen members, the newest first, and what compactions carried on
  pub frozen : List Member
  pub carried : List Pair
  -- the log: entries below this number are settled; the frame under way; whether the start of a segment is; the live segments, oldest first
  pub settled : ℕ
  pub frame : Option Frame
  pub starting : Bool
  pub segments : List Segment
  -- the files, by rising numbers
  pub files : List (ℕ × List Pair)
  -- editions: the one in use, the last settled one, one that is written and not settled, and one that is made
  pub used : Edition
  pub stands : Edition
  pub gated : Option Edition
  pub draft : Option Draft
  -- callers by rising numbers, and pins by their numbers
  pub callers : List (ℕ × Caller)
  pub pins : List Pin

-- ---- how the parts are read

-- the entries of a history from one number up to another
abbrev pub range : History → ℕ → ℕ → List Entry
range history low high = take (high - low) (drop (low - history.first) history.entries)

-- a caller of whom nothing happened yet
abbrev pub newcomer : Caller
newcomer = record { calls = 0; front = 0; held = None }

abbrev pub or_newcomer : Option Caller → Caller
or_newcomer None = newcomer
or_newcomer (Some caller) = caller

-- the caller of a number
abbrev pub caller_in : List (ℕ × Caller) → ℕ → Caller
caller_in callers number = or_newcomer (lookup (is_at (nat_cmp number)) callers)

-- the callers with this one at a number
abbrev pub with_caller : List (ℕ × Caller) → ℕ → Caller → List (ℕ × Caller)
with_caller callers number caller = insert_entry nat_cmp callers number caller

-- what lies below the installed memtable
abbrev pub levels_of : World → Levels
levels_of w = record { members = w.frozen; carried = w.carried; parts = w.used.parts }

-- the memtable of a number, but for one that is not installed yet
abbrev pub memtable_in : World → ℕ → Option Memtable
memtable_in w number = if w.installed.number == number then Some w.installed else lookup (is_at (nat_cmp number)) w.older

-- the memtables but one that is not installed yet, the oldest first
abbrev pub memtables : World → List Memtable
memtables w = values_of w.older ++ w.installed ∷ []

-- ---- the beginning

-- all keys in one partition, which has no run
abbrev pub first_parts : List EditionPart
first_parts = record { low = []; base = 0; runs = [] } ∷ []

abbrev pub first_edition : Edition
first_edition = record { number = 0; next = 1; first = 0; parts = first_parts }

abbrev pub opening : World
opening =
    record {
      history = record { base = []; first = 0; entries = [] };
      log = [];
      next = 1;
      installed = record { number = 0; base = 0; ended = None };
      opened = None;
      older = [];
      frozen = [];
      carried = [];
      settled = 0;
      frame = None;
      starting = false;
      segments = record { number = 0; first = 0 } ∷ [];
      files = [];
      used = first_edition;
      stands = first_edition;
      gated = None;
      draft = None;
      callers = [];
      pins = [];
    }
