-- The rule over the word and the parts of all seats: there is one list of entries, and each seat knows a part of it.
use Rattle.std.specs.Prelude.{◌≡◌, ℕ, ◌+◌, ◌≤◌, ◌<◌, ◌^◌, None, List, [], ◌∷◌, length, take}
use Rattle.std.specs.List.{AllByRecursion}
use Rattle.seat_parts.specs.Seats.{weigh}
use Rattle.rdb_base.specs.Histories.{calls_of, IsFair}
use Rattle.front_rule.specs.Parts.{pens, keepers, passes, ends, covers, end_of, Climbs, HasAllOf, Stands}
use Rattle.front_rule.specs.declared.origin.Origin.{Origin}
use Rattle.front_rule.specs.declared.parts.PenPart.{PenPart}
use Rattle.front_rule.specs.declared.parts.LeafPart.{LeafPart}
use Rattle.front_rule.specs.declared.parts.PassPart.{PassPart}
use Rattle.front_rule.specs.declared.parts.NotePart.{NotePart}
use Rattle.front_rule.specs.declared.parts.LivePart.{LivePart}
use Rattle.front_rule.specs.declared.parts.Part.{Part}
use Rattle.front_rule.specs.declared.parts.Part.TheVariants as part

-- ---- what the rule says of one part, beside the pen's

-- a leaf has all entries of its range up to its memtable's end
pub record LeafFits (g : PenPart) (l : LeafPart) : Type 0 where
  pub stands : Stands g l.memtable l.bases l.list
  pub has : HasAllOf l (take (end_of g l.bases) g.list)

-- a pass has seen a front of the list, and its own calls are those of its caller there and in the whole list
pub record PassFits (g : PenPart) (a : PassPart) : Type 0 where
  pub stands : Stands g a.memtable a.bases a.seen
  pub calls : calls_of g.list a.caller ≡ a.own
  pub seen_calls : calls_of a.seen a.caller ≡ a.own
  pub safe : a.safe ≤ g.safe
  pub told : a.told ≤ g.failed

-- a note or a pin knows a front of the list
pub record NoteFits (g : PenPart) (t : NotePart) : Type 0 where
  pub stands : Stands g t.memtable t.bases t.list
  pub safe : t.safe ≤ g.safe

abbrev pub Fits : PenPart → Part → Type 0
Fits g (part.Pen p) = p ≡ g
Fits g (part.Leaf l) = LeafFits g l
Fits g (part.Pass a) = PassFits g a
Fits g (part.Note t) = NoteFits g t
Fits g other = Unit {0}

-- what the rule says of live and next numbers, beside the keeper's: it speaks of no list
abbrev pub IsUpTo : LivePart → Part → Type 0
IsUpTo k (part.Pen p) = (p.live ≤ k.live) × (p.next ≤ k.next)
IsUpTo k (part.Pass a) = a.next ≤ k.next
IsUpTo k (part.Keeper own) = own ≡ k
IsUpTo k (part.Live l) = (l.live ≤ k.live) × (l.next ≤ k.next) × (l.failed ≤ k.failed)
IsUpTo k other = Unit {0}

-- ---- what the rule says of the pen's part alone, and of all parts together

-- the list is fair and has room, ended callers have their calls there, and each base is safe
pub record IsWell (first : ℕ) (g : PenPart) : Type 0 where
  pub room : first + length g.list ≤ 2 ^ 62
  pub fair : IsFair g.list
  pub ended : AllByRecursion (λ e. calls_of g.list e.caller ≡ e.calls) g.ended
  pub safe : g.safe ≤ length g.list
  pub some_base : 0 < length g.bases
  pub bases : AllByRecursion (λ b. b ≤ g.safe) g.bases
  pub climbs : Climbs 0 g.bases

-- one pen, one keeper, for each caller that was made one pass or one end, and no two leaves of a memtable that share a key
pub record IsShared (g : PenPart) (parts : List Part) : Type 0 where
  pub one_pen : weigh pens parts ≡ 1
  pub one_keeper : weigh keepers parts ≡ 1
  pub made : (c : ℕ) → c < g.made → weigh (passes c) parts + weigh (ends c) g.ended ≡ 1
  pub unmade : (c : ℕ) → g.made ≤ c → (weigh (passes c) parts + weigh (ends c) g.ended ≡ 0) × (calls_of g.list c ≡ [])
  pub apart : (m : ℕ) (key : List ℕ) → weigh (covers m key) parts ≤ 1

-- the rule, where the pen knows this and the keeper that
pub record SoundWith (first word : ℕ) (pen : PenPart) (keeper : LivePart) (parts : List Part) : Type 0 where
  pub word_is : word ≡ first + length pen.list
  pub well : IsWell first pen
  pub shared : IsShared pen parts
  pub fit : AllByRecursion (Fits pen) parts
  pub upto : AllByRecursion (IsUpTo keeper) parts

-- the rule: there are a pen and a keeper with which it holds
pub record Sound (first word : ℕ) (parts : List Part) : Type 0 where
  pub pen : PenPart
  pub keeper : LivePart
  pub rule : SoundWith first word pen keeper parts

-- ---- what the first seat knows, before it is split

-- the pen of a word that was just made, when this many callers have a pass
abbrev pub first_pen : Origin → ℕ → PenPart
first_pen o made = record { list = []; memtable = o.memtable; bases = 0 ∷ []; safe = 0; live = o.live; next = o.next; failed = 0; made = made; ended = [] }

-- a leaf over all keys of the first memtable
abbrev pub first_leaf : Origin → LeafPart
first_leaf o = record { memtable = o.memtable; bases = 0 ∷ []; low = []; high = None; list = [] }

abbrev pub first_keeper : Origin → LivePart
first_keeper o = record { live = o.live; next = o.next; failed = 0 }

abbrev pub opening_parts : Origin → List Part
opening_parts o = part.Pen (first_pen o 0) ∷ part.Leaf (first_leaf o) ∷ part.Keeper (first_keeper o) ∷ []
