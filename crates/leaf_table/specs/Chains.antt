-- Leaves side by side: their ranges part all keys.
use Rattle.std.specs.Prelude.{◌≡◌, ◌⊎◌, ℕ, ◌<◌, List, [], ◌∷◌, ◌++◌, length, map, true, is_some, Some, None}
use Rattle.std.specs.List.{AllByRecursion}
use Rattle.std.specs.declared.cmp.Ordering.TheVariants.{Less}
use Rattle.rdb_base.specs.Order.{key_cmp}
use Rattle.rdb_base.specs.Runs.{change_at}
use Rattle.rdb_base.specs.declared.pair.Pair.{Pair}
use Rattle.worm_leaf.specs.Leaves.{LeafState, IsLeaf, covers}
use Rattle.worm_leaf.specs.declared.limits.TheConstants.{LEAF_PAIRS_MAX}

-- a leaf ends where the next one begins, and begins below that; the last one has no end
abbrev pub Meets : LeafState → List LeafState → Type 0
Meets leaf [] = leaf.high ≡ None
Meets leaf (next ∷ more) = (leaf.high ≡ Some next.low) × (key_cmp leaf.low next.low ≡ Less)

-- each is a leaf and meets the next one
abbrev pub IsChain : List LeafState → Type 0
IsChain [] = Unit {0}
IsChain (leaf ∷ more) = IsLeaf leaf × Meets leaf more × IsChain more

-- they part all keys: the first one begins with the empty string
abbrev pub PartsAll : List LeafState → Type 0
PartsAll [] = ⊥
PartsAll (leaf ∷ more) = (leaf.low ≡ []) × IsChain (leaf ∷ more)

-- the pairs of all of them, one leaf after the other
abbrev pub pairs_of : List LeafState → List Pair
pairs_of [] = []
pairs_of (leaf ∷ more) = leaf.pairs ++ pairs_of more

-- a leaf has room for a change at a key: for a pair more, or the key is there
abbrev pub HasRoom : LeafState → List ℕ → Type 0
HasRoom leaf key = (length leaf.pairs < LEAF_PAIRS_MAX) ⊎ (is_some (change_at leaf.pairs key) ≡ true)

-- the leaf that covers the key has room for a change at it
abbrev pub HasRoomAt : List LeafState → List ℕ → Type 0
HasRoomAt leaves key = AllByRecursion (λ leaf. covers leaf key ≡ true → HasRoom leaf key) leaves

-- where the leaves begin
abbrev pub lows_of : List LeafState → List (List ℕ)
lows_of leaves = map (λ leaf. leaf.low) leaves
