-- What contracts see of a seat, its one part, and what stands beside it in numbers.
use Rattle.std.specs.Prelude.{◌≡◌, ℕ, ◌+◌, ◌≤◌, ◌^◌, List, [], ◌∷◌, None, length}
use Rattle.rdb_base.specs.Histories.{calls_of}
use Rattle.rdb_base.specs.declared.entry.Entry.{Entry}
use Rattle.rdb_base.specs.declared.change.Change.TheVariants.{Del}
use Rattle.front_rule.specs.Parts.{base_of}
use Rattle.front_rule.specs.declared.parts.PenPart.{PenPart}
use Rattle.front_rule.specs.declared.parts.LeafPart.{LeafPart}
use Rattle.front_rule.specs.declared.parts.PassPart.{PassPart}
use Rattle.front_rule.specs.declared.parts.NotePart.{NotePart}
use Rattle.front_rule.specs.declared.parts.LivePart.{LivePart}
use Rattle.front_rule.specs.declared.parts.Part.{Part}
use Rattle.front_rule.specs.declared.parts.Part.TheVariants as part

-- ---- stand-ins, for a seat that has not just one part of its kind; no public value is one

abbrev pub no_entry : Entry
no_entry = record { caller = 0; ordinal = 0; key = []; change = Del }

abbrev pub no_pen : PenPart
no_pen = record { list = []; memtable = 0; bases = []; safe = 0; live = 0; next = 0; failed = 0; made = 0; ended = [] }

abbrev pub no_leaf : LeafPart
no_leaf = record { memtable = 0; bases = []; low = []; high = None; list = [] }

abbrev pub no_pass : PassPart
no_pass = record { caller = 0; seen = []; own = []; memtable = 0; bases = []; safe = 0; next = 0; told = 0 }

abbrev pub no_note : NotePart
no_note = record { list = []; memtable = 0; bases = []; safe = 0 }

abbrev pub no_live : LivePart
no_live = record { live = 0; next = 0; failed = 0 }

-- ---- the one part: of the pen's seat, and of the badge of any other

abbrev pub pen_of : List Part → PenPart
pen_of (part.Pen p ∷ []) = p
pen_of parts = no_pen

abbrev pub leaf_of : List (List Part) → LeafPart
leaf_of ((part.Leaf l ∷ []) ∷ []) = l
leaf_of views = no_leaf

abbrev pub pass_of : List (List Part) → PassPart
pass_of ((part.Pass a ∷ []) ∷ []) = a
pass_of views = no_pass

abbrev pub note_of : List (List Part) → NotePart
note_of ((part.Note t ∷ []) ∷ []) = t
note_of views = no_note

abbrev pub keeper_of : List (List Part) → LivePart
keeper_of ((part.Keeper k ∷ []) ∷ []) = k
keeper_of views = no_live

abbrev pub live_of : List (List Part) → LivePart
live_of ((part.Live l ∷ []) ∷ []) = l
live_of views = no_live

-- the parts of a badge's one seat
abbrev pub held : List (List Part) → List Part
held (w ∷ []) = w
held views = []

-- ---- what a mark's numbers say of its part

pub record PenHolds (first : ℕ) (parts : List Part) (front memtable : ℕ) : Type 0 where
  pub part_is : parts ≡ part.Pen (pen_of parts) ∷ []
  pub front_is : front ≡ first + length (pen_of parts).list
  pub memtable_is : memtable ≡ (pen_of parts).memtable
  pub within : front ≤ 2 ^ 62

pub record LeafHolds (first : ℕ) (views : List (List Part)) (front memtable base : ℕ) : Type 0 where
  pub part_is : views ≡ (part.Leaf (leaf_of views) ∷ []) ∷ []
  pub front_is : front ≡ first + length (leaf_of views).list
  pub memtable_is : memtable ≡ (leaf_of views).memtable
  pub base_is : base ≡ first + base_of (leaf_of views).bases
  pub base_within : base ≤ front
  pub within : front ≤ 2 ^ 62

pub record NoteHolds (first : ℕ) (views : List (List Part)) (front memtable : ℕ) : Type 0 where
  pub part_is : views ≡ (part.Note (note_of views) ∷ []) ∷ []
  pub front_is : front ≡ first + length (note_of views).list
  pub memtable_is : memtable ≡ (note_of views).memtable
  pub within : front ≤ 2 ^ 62

pub record LiveHolds (views : List (List Part)) (live next : ℕ) : Type 0 where
  pub part_is : views ≡ (part.Live (live_of views) ∷ []) ∷ []
  pub live_is : live ≡ (live_of views).live
  pub next_is : next ≡ (live_of views).next

-- the numbers that a pass has beside its seat
pub record PassNumbers : Type 0 where
  pub caller : ℕ
  pub ordinal : ℕ
  pub front : ℕ
  pub memtable : ℕ

pub record PassHolds (first : ℕ) (views : List (List Part)) (numbers : PassNumbers) : Type 0 where
  pub part_is : views ≡ (part.Pass (pass_of views) ∷ []) ∷ []
  pub caller_is : numbers.caller ≡ (pass_of views).caller
  pub ordinal_is : numbers.ordinal ≡ length (pass_of views).own
  pub front_is : numbers.front ≡ first + length (pass_of views).seen
  pub memtable_is : numbers.memtable ≡ (pass_of views).memtable
  pub own_within : length (pass_of views).own ≤ length (pass_of views).seen
  pub calls : calls_of (pass_of views).seen (pass_of views).caller ≡ (pass_of views).own
  pub within : numbers.front ≤ 2 ^ 62
