-- The world of leaves: what its state is, and how it begins.
use Rattle.std.specs.Prelude.{◌≡◌, ℕ, List, [], ◌∷◌, Option, Some, slice_get, map}
use Rattle.std.specs.BTreeMap.{is_at}
use Rattle.std.specs.Map.{lookup}
use Rattle.std.specs.Ordering.{nat_cmp}
use Rattle.meta_trie.specs.Tries.{Anchored}
use Rattle.worm_leaf.specs.Leaves.{LeafState, unused}
use Rattle.worm_core.specs.declared.split.Split.{Split}
use Rattle.worm_core.specs.declared.walker.Walker.{Walker}

-- the leaves by number, the splits in order, how many of them are published, and the walkers by rising numbers
pub record World : Type 0 where
  pub leaves : List LeafState
  pub splits : List Anchored
  pub published : ℕ
  pub walkers : List (ℕ × Walker)

-- at the beginning leaf 0 is over all keys and has no pair
abbrev pub opening : World
opening = record { leaves = unused ∷ []; splits = []; published = 0; walkers = [] }

-- ---- how the parts of the state are read

-- the walker of a number, where there is one
abbrev pub walker_at : List (ℕ × Walker) → ℕ → Option Walker
walker_at walkers number = lookup (is_at (nat_cmp number)) walkers

-- the walker of a number, and the leaf that it stands on
pub record Stands (leaves : List LeafState) (walkers : List (ℕ × Walker)) (number : ℕ) (walker : Walker) (leaf : LeafState) : Type 0 where
  pub is : walker_at walkers number ≡ Some walker
  pub on : slice_get leaves walker.leaf ≡ Some leaf

-- the number of a leaf that begins where this one ends
pub record IsRightOf (leaves : List LeafState) (leaf : LeafState) (right : ℕ) : Type 0 where
  pub other : LeafState
  pub at : slice_get leaves right ≡ Some other
  pub meets : leaf.high ≡ Some other.low

-- ---- what the code keeps

-- a split as an anchor with its leaf
abbrev pub anchored : Split → Anchored
anchored split = record { anchor = split.anchor; leaf = split.leaf }

abbrev pub all_anchored : List Split → List Anchored
all_anchored splits = map anchored splits

-- leaf 0 is there from the beginning, and is made before the first event
abbrev pub leaves_of : List LeafState → List LeafState
leaves_of [] = unused ∷ []
leaves_of (leaf ∷ leaves) = leaf ∷ leaves
