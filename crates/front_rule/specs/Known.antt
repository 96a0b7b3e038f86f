-- What a seat knows after a call, from what it knew: the words of the contracts.
use Rattle.std.specs.Prelude.{◌≡◌, ◌≢◌, ℕ, ◌+◌, ◌≤◌, ◌<◌, max, nat_lt, Some, None, List, [], ◌∷◌, ◌++◌, length, take, slice_index_or, if◌then◌else◌}
use Rattle.std.specs.List.{AllByRecursion}
use mathlib.Core.List.{IsPrefix}
use Rattle.rdb_base.specs.Histories.{calls_of, IsFair}
use Rattle.rdb_base.specs.declared.entry.Entry.{Entry}
use Rattle.front_rule.specs.declared.parts.PenPart.{PenPart}
use Rattle.front_rule.specs.declared.parts.LeafPart.{LeafPart}
use Rattle.front_rule.specs.declared.parts.PassPart.{PassPart}
use Rattle.front_rule.specs.declared.parts.NotePart.{NotePart}
use Rattle.front_rule.specs.declared.parts.LivePart.{LivePart}
use Rattle.front_rule.specs.Parts.{base_of}

-- ---- memtables go on

-- from memtable m, with the bases up to it, to memtable n, with the bases up to that one: no base is lost, and each one more counts one number
pub record GoesOn (m : ℕ) (before : List ℕ) (n : ℕ) (after : List ℕ) : Type 0 where
  pub bases : IsPrefix before after
  pub numbers : m + length after ≡ n + length before

-- ---- an entry is appended

-- the pen, with this entry last
abbrev pub pen_with : PenPart → Entry → PenPart
pen_with p e = record p { list = p.list ++ e ∷ [] }

-- the leaf, which has then seen this list
abbrev pub leaf_after : LeafPart → List Entry → LeafPart
leaf_after l list = record l { list = list }

-- the pass that made the call: it has one more call, and has seen all that the pen knows
abbrev pub pass_with : PassPart → PenPart → Entry → PassPart
pass_with a p e = record a { seen = p.list ++ e ∷ []; own = a.own ++ e ∷ []; memtable = p.memtable; bases = p.bases }

-- ---- notes: of the pen, of a pass, of a leaf, and of the list up to the base of a leaf's memtable

abbrev pub note_of_pen : PenPart → NotePart
note_of_pen p = record { list = p.list; memtable = p.memtable; bases = p.bases; safe = p.safe }

abbrev pub note_of_pass : PassPart → NotePart
note_of_pass a = record { list = a.seen; memtable = a.memtable; bases = a.bases; safe = a.safe }

-- a leaf knows of no safe place
abbrev pub note_of_leaf : LeafPart → NotePart
note_of_leaf l = record { list = l.list; memtable = l.memtable; bases = l.bases; safe = 0 }

-- the list up to the base of the leaf's memtable, all of it safe
abbrev pub note_of_base : LeafPart → NotePart
note_of_base l = record { list = take (base_of l.bases) l.list; memtable = l.memtable; bases = l.bases; safe = base_of l.bases }

-- ---- a pass learns

-- the longer of two lists; the second where they are as long
abbrev pub longer : {A : Type 0} → List A → List A → List A
longer xs ys = if nat_lt (length ys) (length xs) then xs else ys

-- the pass, when it has taken in what a note knows
abbrev pub learnt : PassPart → NotePart → PassPart
learnt a t = record a { seen = longer a.seen t.list; memtable = max a.memtable t.memtable; bases = longer a.bases t.bases; safe = max a.safe t.safe }

-- the pass, when it has seen all that the pen knows
abbrev pub pass_caught : PassPart → PenPart → PassPart
pass_caught a p = record a { seen = p.list; memtable = p.memtable; bases = p.bases; safe = p.safe }

-- ---- the pen's safe place, failures, and the ends of passes

-- the pen, whose safe place is then at least this one
abbrev pub pen_settled : PenPart → ℕ → PenPart
pen_settled p upto = record p { safe = max p.safe upto }

-- pen and pass, when this many failures were told
abbrev pub pen_failed : PenPart → ℕ → PenPart
pen_failed p failed = record p { failed = failed }

abbrev pub pass_failed : PassPart → ℕ → PassPart
pass_failed a failed = record a { told = failed }

-- pen and pass, when the pen made the next caller's pass
abbrev pub pen_made : PenPart → PenPart
pen_made p = record p { made = p.made + 1 }

abbrev pub pass_made : PenPart → PassPart
pass_made p = record { caller = p.made; seen = p.list; own = []; memtable = p.memtable; bases = p.bases; safe = p.safe; next = 0; told = 0 }

-- the pen, when this pass has ended
abbrev pub pen_ended : PenPart → PassPart → PenPart
pen_ended p a = record p { next = max p.next a.next; ended = p.ended ++ record { caller = a.caller; calls = a.own } ∷ [] }

-- this caller got a pass, and its pass has not ended
pub record IsGoing (p : PenPart) (caller : ℕ) : Type 0 where
  pub made : caller < p.made
  pub ended : AllByRecursion (λ e. e.caller ≢ caller) p.ended

-- the list is fair, each ended caller's calls stand in it, and a caller that was not made has no call there
pub record IsWhole (p : PenPart) : Type 0 where
  pub fair : IsFair p.list
  pub ended : AllByRecursion (λ e. calls_of p.list e.caller ≡ e.calls) p.ended
  pub unmade : (c : ℕ) → p.made ≤ c → calls_of p.list c ≡ []

-- ---- memtables and leaves

-- the pen, when its memtable has ended at the list's end and the next one begins there
abbrev pub pen_frozen : PenPart → PenPart
pen_frozen p = record p { memtable = p.memtable + 1; bases = p.bases ++ length p.list ∷ [] }

-- a leaf over all keys of the memtable that then begins
abbrev pub leaf_first : PenPart → LeafPart
leaf_first p = record { memtable = p.memtable + 1; bases = p.bases ++ length p.list ∷ []; low = []; high = None; list = p.list }

-- a leaf with the keys below this one, and a leaf with the others
abbrev pub left_of : LeafPart → List ℕ → LeafPart
left_of l at = record l { high = Some at }

abbrev pub right_of : LeafPart → List ℕ → LeafPart
right_of l at = record l { low = at }

-- where the leaf's memtable ends, by the bases of a note of a later memtable: at the base of the next one
abbrev pub end_by : NotePart → LeafPart → ℕ
end_by t l = slice_index_or t.bases (length l.bases) 0

-- the note's list up to there
unfoldable pub until_end : NotePart → LeafPart → List Entry
until_end t l = take (end_by t l) t.list

-- ---- live and next numbers

-- the keeper, with these numbers
abbrev pub kept : LivePart → ℕ → ℕ → LivePart
kept k live next = record k { live = live; next = next }

-- the pen, whose live number is then not below the note's
abbrev pub pen_released : PenPart → LivePart → PenPart
pen_released p l = record p { live = max p.live l.live }

-- the pass, whose next number is then not below the note's
abbrev pub next_learnt : PassPart → LivePart → PassPart
next_learnt a l = record a { next = max a.next l.next }
