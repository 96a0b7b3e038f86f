-- The kinds of steps. Of each kind: which parts a seat must have for it (`Can..`), and what it makes of them and tells.
-- A step tells of the history's first number, the parts before it, the word that it found and the parts after it.
use Rattle.std.specs.Prelude.{◌≡◌, ℕ, ◌+◌, ◌≤◌, ◌<◌, ◌^◌, max, true, List, [], ◌∷◌, ◌++◌, length}
use mathlib.Core.List.{IsPrefix}
use Rattle.rdb_base.specs.Histories.{calls_of}
use Rattle.rdb_base.specs.declared.entry.Entry.{Entry}
use Rattle.rdb_base.specs.Ranges.{in_range}
use Rattle.front_rule.specs.Parts.{base_of, entries_in, HasAllOf}
use Rattle.front_rule.specs.Known.{GoesOn, pen_with, leaf_after, pass_with, note_of_pen, note_of_pass, note_of_leaf, note_of_base, learnt, pass_caught, pen_settled, pen_failed, pass_failed, pen_made, pass_made, pen_ended, IsGoing, IsWhole, pen_frozen, leaf_first, left_of, right_of, end_by, until_end, pen_released, next_learnt}
use Rattle.front_rule.specs.declared.parts.PenPart.{PenPart}
use Rattle.front_rule.specs.declared.parts.LeafPart.{LeafPart}
use Rattle.front_rule.specs.declared.parts.PassPart.{PassPart}
use Rattle.front_rule.specs.declared.parts.NotePart.{NotePart}
use Rattle.front_rule.specs.declared.parts.LivePart.{LivePart}
use Rattle.front_rule.specs.declared.parts.Part.{Part}
use Rattle.front_rule.specs.declared.parts.Part.TheVariants as part

-- ---- the word rises by one: an entry is appended

-- the parts that an append needs, in the order in which they are joined
abbrev pub three : PenPart → LeafPart → PassPart → List Part
three p l a = part.Pen p ∷ part.Leaf l ∷ part.Pass a ∷ []

-- the pen, a leaf of the open memtable that has the key in its range, and the pass of the entry's caller
abbrev pub CanAppend : ℕ → Entry → List Part → Type 0
CanAppend first e (part.Pen p ∷ part.Leaf l ∷ part.Pass a ∷ []) =
    (l.memtable ≡ p.memtable)
    × (in_range l.low l.high e.key ≡ true)
    × (e.caller ≡ a.caller)
    × (e.ordinal ≡ length a.own)
    × (first + length p.list < 2 ^ 62)
CanAppend first e v = ⊥

abbrev pub Appends : ℕ → Entry → List Part → ℕ → List Part → Type 0
Appends first e (part.Pen p ∷ part.Leaf l ∷ part.Pass a ∷ []) n w =
    (w ≡ three (pen_with p e) (leaf_after l (p.list ++ e ∷ [])) (pass_with a p e))
    × (n ≡ first + length p.list)
    × IsPrefix a.seen p.list
    × IsPrefix l.list p.list
    × (entries_in l (p.list ++ e ∷ []) ≡ entries_in l l.list ++ e ∷ [])
    × (calls_of (p.list ++ e ∷ []) a.caller ≡ a.own ++ e ∷ [])
    × (l.bases ≡ p.bases)
    × GoesOn a.memtable a.bases p.memtable p.bases
Appends first e v n w = Unit {0}

-- ---- the word rises by nothing: the open memtable ends

-- the pen, all of whose list is safe
abbrev pub CanFreeze : ℕ → List Part → Type 0
CanFreeze first (part.Pen p ∷ []) = p.safe ≡ length p.list
CanFreeze first v = ⊥

abbrev pub Freezes : ℕ → List Part → ℕ → List Part → Type 0
Freezes first (part.Pen p ∷ []) n w = (w ≡ part.Pen (pen_frozen p) ∷ part.Leaf (leaf_first p) ∷ []) × (n ≡ first + length p.list)
Freezes first v n w = Unit {0}

-- ---- the word is loaded, and stays: notes and passes

-- a note is added to the pen, to a pass, to a leaf or to another note
abbrev pub CanNote : ℕ → List Part → Type 0
CanNote first (part.Pen p ∷ []) = Unit {0}
CanNote first (part.Pass a ∷ []) = Unit {0}
CanNote first (part.Leaf l ∷ []) = Unit {0}
CanNote first (part.Note t ∷ []) = Unit {0}
CanNote first v = ⊥

abbrev pub Notes : ℕ → List Part → ℕ → List Part → Type 0
Notes first (part.Pen p ∷ []) n w = w ≡ part.Pen p ∷ part.Note (note_of_pen p) ∷ []
Notes first (part.Pass a ∷ []) n w = w ≡ part.Pass a ∷ part.Note (note_of_pass a) ∷ []
Notes first (part.Leaf l ∷ []) n w = (w ≡ part.Leaf l ∷ part.Note (note_of_base l) ∷ []) × (length (note_of_base l).list ≡ base_of l.bases)
Notes first (part.Note t ∷ []) n w = w ≡ part.Note t ∷ part.Note t ∷ []
Notes first v n w = Unit {0}

-- a pass that learns this note keeps what it had seen, takes in the note's list, and finds its own calls there; memtables go on from both
pub record GoesForward (a : PassPart) (t : NotePart) : Type 0 where
  pub seen : IsPrefix a.seen (learnt a t).seen
  pub noted : IsPrefix t.list (learnt a t).seen
  pub own : calls_of (learnt a t).seen a.caller ≡ a.own
  pub seen_on : GoesOn a.memtable a.bases (learnt a t).memtable (learnt a t).bases
  pub noted_on : GoesOn t.memtable t.bases (learnt a t).memtable (learnt a t).bases

-- a pass takes in a note
abbrev pub CanLearn : ℕ → List Part → Type 0
CanLearn first (part.Pass a ∷ part.Note t ∷ []) = Unit {0}
CanLearn first v = ⊥

abbrev pub Learns : ℕ → List Part → ℕ → List Part → Type 0
Learns first (part.Pass a ∷ part.Note t ∷ []) n w = (w ≡ part.Pass (learnt a t) ∷ []) × GoesForward a t
Learns first v n w = Unit {0}

-- a pass looks at a leaf: unless the pass knows of a later memtable, the leaf has all entries of its range that the pass has then seen
abbrev pub CanLook : ℕ → List Part → Type 0
CanLook first (part.Pass a ∷ part.Leaf l ∷ []) = Unit {0}
CanLook first v = ⊥

abbrev pub Looks : ℕ → List Part → ℕ → List Part → Type 0
Looks first (part.Pass a ∷ part.Leaf l ∷ []) n w =
    (w ≡ part.Pass (learnt a (note_of_leaf l)) ∷ part.Leaf l ∷ [])
    × GoesForward a (note_of_leaf l)
    × (a.memtable ≤ l.memtable → HasAllOf l (learnt a (note_of_leaf l)).seen)
Looks first v n w = Unit {0}

-- a pass sees all that the pen knows
abbrev pub CanCatch : ℕ → List Part → Type 0
CanCatch first (part.Pen p ∷ part.Pass a ∷ []) = Unit {0}
CanCatch first v = ⊥

abbrev pub Catches : ℕ → List Part → ℕ → List Part → Type 0
Catches first (part.Pen p ∷ part.Pass a ∷ []) n w =
    (w ≡ part.Pen p ∷ part.Pass (pass_caught a p) ∷ [])
    × IsPrefix a.seen p.list
    × (calls_of p.list a.caller ≡ a.own)
    × (a.safe ≤ p.safe)
    × GoesOn a.memtable a.bases p.memtable p.bases
Catches first v n w = Unit {0}

-- ---- the word is loaded, and stays: leaves

-- a leaf is compared with a note of a later memtable: the leaf has all entries of its range up to its memtable's end
abbrev pub CanCompare : ℕ → List Part → Type 0
CanCompare first (part.Note t ∷ part.Leaf l ∷ []) = l.memtable < t.memtable
CanCompare first v = ⊥

abbrev pub Compares : ℕ → List Part → ℕ → List Part → Type 0
Compares first (part.Note t ∷ part.Leaf l ∷ []) n w =
    (w ≡ part.Note t ∷ part.Leaf l ∷ [])
    × HasAllOf l (until_end t l)
    × IsPrefix l.list (until_end t l)
    × (end_by t l ≤ length t.list)
    × GoesOn l.memtable l.bases t.memtable t.bases
Compares first v n w = Unit {0}

-- a leaf is cut in two at a key of its range
abbrev pub CanCut : List ℕ → ℕ → List Part → Type 0
CanCut at first (part.Leaf l ∷ []) = in_range l.low l.high at ≡ true
CanCut at first v = ⊥

abbrev pub Cuts : List ℕ → ℕ → List Part → ℕ → List Part → Type 0
Cuts at first (part.Leaf l ∷ []) n w = w ≡ part.Leaf (left_of l at) ∷ part.Leaf (right_of l at) ∷ []
Cuts at first v n w = Unit {0}

-- ---- the word is loaded, and stays: the pen

-- the pen's safe place rises to this place of its list
abbrev pub CanSettle : ℕ → ℕ → List Part → Type 0
CanSettle upto first (part.Pen p ∷ []) = upto ≤ length p.list
CanSettle upto first v = ⊥

abbrev pub Settles : ℕ → ℕ → List Part → ℕ → List Part → Type 0
Settles upto first (part.Pen p ∷ []) n w = (w ≡ part.Pen (pen_settled p upto) ∷ []) × (max p.safe upto ≤ length p.list)
Settles upto first v n w = Unit {0}

-- this many failures were told, the last one to this pass
abbrev pub CanFail : ℕ → ℕ → List Part → Type 0
CanFail failed first (part.Pen p ∷ part.Pass a ∷ []) = p.failed < failed
CanFail failed first v = ⊥

abbrev pub Fails : ℕ → ℕ → List Part → ℕ → List Part → Type 0
Fails failed first (part.Pen p ∷ part.Pass a ∷ []) n w =
    (w ≡ part.Pen (pen_failed p failed) ∷ part.Pass (pass_failed a failed) ∷ []) × (a.told ≤ p.failed)
Fails failed first v n w = Unit {0}

-- the pen makes the next caller's pass
abbrev pub CanMake : ℕ → List Part → Type 0
CanMake first (part.Pen p ∷ []) = Unit {0}
CanMake first v = ⊥

abbrev pub Makes : ℕ → List Part → ℕ → List Part → Type 0
Makes first (part.Pen p ∷ []) n w = (w ≡ part.Pen (pen_made p) ∷ part.Pass (pass_made p) ∷ []) × (calls_of p.list p.made ≡ [])
Makes first v n w = Unit {0}

-- a pass ends
abbrev pub CanEnd : ℕ → List Part → Type 0
CanEnd first (part.Pen p ∷ part.Pass a ∷ []) = Unit {0}
CanEnd first v = ⊥

abbrev pub Ends : ℕ → List Part → ℕ → List Part → Type 0
Ends first (part.Pen p ∷ part.Pass a ∷ []) n w =
    (w ≡ part.Pen (pen_ended p a) ∷ [])
    × IsPrefix a.seen p.list
    × (calls_of p.list a.caller ≡ a.own)
    × (a.safe ≤ p.safe)
    × (a.told ≤ p.failed)
    × (n ≡ first + length p.list)
    × IsWhole (pen_ended p a)
    × IsGoing p a.caller
    × GoesOn a.memtable a.bases p.memtable p.bases
Ends first v n w = Unit {0}

-- ---- the word is loaded, and stays: live and next numbers

-- the keeper's numbers rise to these, and a live note of them is added
abbrev pub CanKeep : LivePart → ℕ → List Part → Type 0
CanKeep to first (part.Keeper k ∷ []) = (k.live ≤ to.live) × (k.next ≤ to.next) × (k.failed ≤ to.failed)
CanKeep to first v = ⊥

abbrev pub Keeps : LivePart → ℕ → List Part → ℕ → List Part → Type 0
Keeps to first (part.Keeper k ∷ []) n w = w ≡ part.Keeper to ∷ part.Live to ∷ []
Keeps to first v n w = Unit {0}

-- the pen takes in the live number of a live note, or a pass the next number
abbrev pub CanTake : ℕ → List Part → Type 0
CanTake first (part.Pen p ∷ part.Live l ∷ []) = Unit {0}
CanTake first (part.Pass a ∷ part.Live l ∷ []) = Unit {0}
CanTake first v = ⊥

abbrev pub Takes : ℕ → List Part → ℕ → List Part → Type 0
Takes first (part.Pen p ∷ part.Live l ∷ []) n w = w ≡ part.Pen (pen_released p l) ∷ []
Takes first (part.Pass a ∷ part.Live l ∷ []) n w = w ≡ part.Pass (next_learnt a l) ∷ []
Takes first v n w = Unit {0}

-- the pen is compared with the keeper
abbrev pub CanMeet : ℕ → List Part → Type 0
CanMeet first (part.Pen p ∷ part.Keeper k ∷ []) = Unit {0}
CanMeet first v = ⊥

abbrev pub Meets : ℕ → List Part → ℕ → List Part → Type 0
Meets first (part.Pen p ∷ part.Keeper k ∷ []) n w = (w ≡ part.Pen p ∷ part.Keeper k ∷ []) × (p.live ≤ k.live) × (p.next ≤ k.next)
Meets first v n w = Unit {0}
