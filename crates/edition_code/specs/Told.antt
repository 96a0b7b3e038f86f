-- The numbers that stand before a field, as a list that contracts see, and how they are kept.
use Rattle.std.specs.Prelude.{◌≡◌, ℕ, ◌<◌, ◌≤◌, Bool, false, ◌||◌, ◌==◌, List, [], slice_index_or, Option, Some, None}
use Rattle.std.specs.Ordering.{nat_cmp}
use Rattle.std.specs.BTreeSet.{BTreeSet, contains}
use Rattle.std.specs.declared.snapshot.Snapshot.{Snapshot}
use Rattle.edition_code.specs.Editions.{is_in}

-- the numbers that a snapshot has seen
abbrev pub told : Option (Snapshot (List ℕ)) → List ℕ
told None = []
told (Some seen) = seen.value

-- whether a number is marked at its place
abbrev pub is_marked : List Bool → ℕ → Bool
is_marked marks n = slice_index_or marks n false

-- one number more is marked
abbrev pub Marks : List Bool → List Bool → ℕ → Type 0
Marks before now number = (n : ℕ) → is_marked now n ≡ (number == n) || is_marked before n

-- the same numbers are marked
abbrev pub KeepsMarks : List Bool → List Bool → Type 0
KeepsMarks before now = (n : ℕ) → is_marked now n ≡ is_marked before n

-- a number below `most` is marked exactly where it was told, another is in the set exactly where it was told
pub record IsKept (most : ℕ) (marks : List Bool) (others : BTreeSet ℕ) (told : List ℕ) : Type 0 where
  pub marked : (n : ℕ) → n < most → is_marked marks n ≡ is_in n told
  pub other : (n : ℕ) → most ≤ n → contains nat_cmp others n ≡ is_in n told
