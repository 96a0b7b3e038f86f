-- What single parts say: which are the pen's or a pass's, where memtables begin and end, and which entries a leaf has.
use Rattle.std.specs.Prelude.{◌≡◌, ℕ, ◌+◌, ◌≤◌, ◌<◌, ◌==◌, Bool, ◌&&◌, if◌then◌else◌, List, [], ◌∷◌, length, drop, filter, slice_index_or}
use mathlib.Core.List.{IsPrefix}
use Rattle.rdb_base.specs.declared.entry.Entry.{Entry}
use Rattle.rdb_base.specs.Ranges.{in_range}
use Rattle.front_rule.specs.declared.parts.PenPart.{PenPart}
use Rattle.front_rule.specs.declared.parts.Ended.{Ended}
use Rattle.front_rule.specs.declared.parts.LeafPart.{LeafPart}
use Rattle.front_rule.specs.declared.parts.Part.{Part}
use Rattle.front_rule.specs.declared.parts.Part.TheVariants as part

-- ---- how often something is among the parts: the rule adds these numbers up

-- 1 where it is true
abbrev pub one_if : Bool → ℕ
one_if b = if b then 1 else 0

-- whether it is the pen's part
abbrev pub pens : Part → ℕ
pens (part.Pen p) = 1
pens other = 0

-- whether it is the keeper's part
abbrev pub keepers : Part → ℕ
keepers (part.Keeper k) = 1
keepers other = 0

-- whether it is the pass of this caller
abbrev pub passes : ℕ → Part → ℕ
passes c (part.Pass a) = one_if (a.caller == c)
passes c other = 0

-- whether it is the end of this caller's pass
abbrev pub ends : ℕ → Ended → ℕ
ends c e = one_if (e.caller == c)

-- whether it is a leaf of this memtable whose range has this key
abbrev pub covers : ℕ → List ℕ → Part → ℕ
covers m key (part.Leaf l) = one_if (l.memtable == m && in_range l.low l.high key)
covers m key other = 0

-- ---- memtables, one after another: each by the place at which it begins, its base

-- where the last of these memtables begins
abbrev pub base_of : List ℕ → ℕ
base_of [] = 0
base_of (b ∷ []) = b
base_of (b ∷ c ∷ bs) = base_of (c ∷ bs)

-- where the last of these memtables ends: where the next one begins, or where the list does if the memtable is open
abbrev pub end_of : PenPart → List ℕ → ℕ
end_of g bases = slice_index_or g.bases (length bases) (length g.list)

-- each base is not below the one before
abbrev pub Climbs : ℕ → List ℕ → Type 0
Climbs b [] = Unit {0}
Climbs b (c ∷ bases) = (b ≤ c) × Climbs c bases

-- the entries of the leaf's range in this list, from the base of the leaf's memtable on
unfoldable pub entries_in : LeafPart → List Entry → List Entry
entries_in l list = filter (λ e. in_range l.low l.high e.key) (drop (base_of l.bases) list)

-- the leaf has all entries of its range that this list has
abbrev pub HasAllOf : LeafPart → List Entry → Type 0
HasAllOf l list = entries_in l list ≡ entries_in l l.list

-- a front of the pen's list that ends in this memtable, which is the last of these
pub record Stands (g : PenPart) (memtable : ℕ) (bases : List ℕ) (list : List Entry) : Type 0 where
  pub list_is : IsPrefix list g.list
  pub bases_is : IsPrefix bases g.bases
  pub some_base : 0 < length bases
  pub number : memtable + length g.bases ≡ g.memtable + length bases
  pub from : base_of bases ≤ length list
  pub upto : length list ≤ end_of g bases
