-- A thing that is lent: it is at home, or out with the counts of faults that it had when it was handed out.
use Rattle.std.specs.Prelude.{◌≡◌, ℕ, ◌+◌, ◌-◌, ◌^◌, ◌≤◌, ◌<◌, max, List, [], ◌∷◌, Option, Some, None, ⊤}
use Rattle.std.specs.List.{AllByRecursion}
use Rattle.fault_count.specs.Counts.{one_more, sum_of}

-- What contracts see of it while it is at home; the counts that it had when it was handed out, and none while it is at
-- home; and how often it failed in all.
pub record Lent (T : Type 0) : Type 0 where
  pub home : Option T
  pub out : List ℕ
  pub faults : ℕ

-- what a host keeps of a thing that may be out, as it is lent
abbrev pub lent_of : {X T : Type 0} → (X → T) → Option X → List ℕ → ℕ → Lent T
lent_of told (Some thing) counts faults = record { home = Some (told thing); out = []; faults = faults }
lent_of told None counts faults = record { home = None; out = counts; faults = faults }

-- none of the counts fell; there may be more of them now
abbrev pub NoneFell : List ℕ → List ℕ → Type 0
NoneFell [] now = ⊤
NoneFell (b ∷ before) [] = ⊥
NoneFell (b ∷ before) (n ∷ now) = (b ≤ n) × NoneFell before now

-- how much the counts rose in all; one that was not there before rose from nothing
abbrev pub rise_of : List ℕ → List ℕ → ℕ
rise_of before [] = 0
rise_of [] (n ∷ now) = n + rise_of [] now
rise_of (b ∷ before) (n ∷ now) = (n - b) + rise_of before now

-- the sum of counts, or the last value if it is more
abbrev pub total_of : List ℕ → ℕ
total_of counts = sum_of 0 (rise_of [] counts)

-- faults in all, after the counts rose
abbrev pub risen : ℕ → List ℕ → List ℕ → ℕ
risen faults before now = max faults (sum_of faults (rise_of before now))

-- no count is past the last value
abbrev pub AllFit : List ℕ → Type 0
AllFit counts = AllByRecursion (λ n. n < 2 ^ 64) counts

-- each count is at most this many faults in all, and at most the last value
abbrev pub AreWithin : ℕ → List ℕ → Type 0
AreWithin faults counts = AllByRecursion (λ n. (n ≤ faults) × (n < 2 ^ 64)) counts

-- it is at home
abbrev pub IsHome : {T : Type 0} → Lent T → Type 0
IsHome lent = (home : _) × (lent.home ≡ Some home)

-- it is out, and none of its counts has fallen since it was handed out
abbrev pub IsOut : {T : Type 0} → List ℕ → Lent T → Type 0
IsOut now lent = (lent.home ≡ None) × NoneFell lent.out now

-- it is handed out with these counts
abbrev pub handed_out : {T : Type 0} → List ℕ → Lent T → Lent T
handed_out counts lent = record { home = None; out = counts; faults = lent.faults }

-- it is back, and its faults rose by what its counts rose while it was out
abbrev pub taken_back : {T : Type 0} → T → List ℕ → Lent T → Lent T
taken_back home now lent = record { home = Some home; out = []; faults = risen lent.faults lent.out now }

-- what lends it failed once itself
abbrev pub failed_once : {T : Type 0} → Lent T → Lent T
failed_once lent = record lent { faults = one_more lent.faults }
