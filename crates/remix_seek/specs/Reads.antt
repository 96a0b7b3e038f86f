-- What a run has at a place: the pair's key, its change, and its value where there is one.
use Rattle.std.specs.Prelude.{◌≡◌, ℕ, List, Option, Some, None, slice_get}
use denote.Ref.{Bor}
use Rattle.rdb_base.specs.declared.change.Change.{Change}
use Rattle.rdb_base.specs.declared.change.Change.TheVariants.{Put, Del}
use Rattle.rdb_base.specs.declared.pair.Pair.{Pair}

-- the key of the pair at a place
abbrev pub KeyOf : Option Pair → List ℕ → Type 0
KeyOf None key = ⊥
KeyOf (Some pair) key = key ≡ pair.key

abbrev pub KeyAt : List Pair → ℕ → List ℕ → Type 0
KeyAt run place key = KeyOf (slice_get run place) key

-- the change of the pair at a place
abbrev pub ChangeOf : Option Pair → Change → Type 0
ChangeOf None change = ⊥
ChangeOf (Some pair) change = change ≡ pair.change

abbrev pub ChangeAt : List Pair → ℕ → Change → Type 0
ChangeAt run place change = ChangeOf (slice_get run place) change

-- the value of a change, lent; nothing exactly where it is a deletion
abbrev pub ValueOf : Change → Option (Bor (List ℕ)) → Type 0
ValueOf (Put value) (Some lent) = lent.now ≡ value
ValueOf Del None = Unit {0}
ValueOf (Put value) None = ⊥
ValueOf Del (Some lent) = ⊥

abbrev pub LentOf : Option Pair → Option (Bor (List ℕ)) → Type 0
LentOf None lent = ⊥
LentOf (Some pair) lent = ValueOf pair.change lent

-- the value of the pair at a place, lent
abbrev pub ValueAt : List Pair → ℕ → Option (Bor (List ℕ)) → Type 0
ValueAt run place lent = LentOf (slice_get run place) lent
