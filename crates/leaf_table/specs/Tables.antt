-- Leaves by number, the order of their ranges, and the trie that finds the leaf of a key.
use Rattle.std.specs.Prelude.{◌≡◌, ◌≢◌, ◌≤◌, ℕ, ◌+◌, ◌<◌, List, [], ◌∷◌, ◌++◌, true, false, length, map, get_or, slice_get, Some, vec_len, vec_capacity}
use Rattle.std.specs.Global.{Vec}
use Rattle.std.specs.List.{AllByRecursion}
use Rattle.std.specs.declared.cmp.Ordering.TheVariants.{Less}
use Rattle.rdb_base.specs.Order.{key_cmp}
use Rattle.rdb_base.specs.Runs.{AreBelow, IsBelowAll}
use Rattle.worm_leaf.specs.Leaves.{LeafState, unused, covers}
use Rattle.meta_trie.specs.Tries.{Anchored, root}
use Rattle.leaf_table.specs.Chains.{PartsAll, pairs_of}
use Rattle.leaf_table.specs.declared.limits.TheConstants.{LEAVES_MAX}

-- the leaf with this number
abbrev pub leaf_at : List LeafState → ℕ → LeafState
leaf_at leaves number = get_or leaves number unused

-- the leaves with these numbers
abbrev pub chain_of : List LeafState → List ℕ → List LeafState
chain_of leaves order = map (leaf_at leaves) order

-- the low bounds of leaves as anchors, the first leaf with this number
abbrev pub anchors_from : ℕ → List LeafState → List Anchored
anchors_from number [] = []
anchors_from number (leaf ∷ leaves) = record { anchor = leaf.low; leaf = number } ∷ anchors_from (number + 1) leaves

-- The leaves are in the order of their ranges at these numbers, each of them, and the trie has their low bounds as
-- anchors, in the order in which they were made.
pub record IsTable (leaves : List LeafState) (order : List ℕ) (added : List Anchored) : Type 0 where
  pub parts : PartsAll (chain_of leaves order)
  pub within : AllByRecursion (λ number. number < length leaves) order
  pub there : (number : ℕ) → number < length leaves → (place : ℕ) × (slice_get order place ≡ Some number)
  pub named : root ∷ added ≡ anchors_from 0 leaves

-- The one leaf of a chain that covers a key, with the leaves before and after it: `order` has their numbers, and `at` the
-- leaves.
pub record Around (at : ℕ → LeafState) (order : List ℕ) (key : List ℕ) : Type 0 where
  pub before : List ℕ
  pub number : ℕ
  pub after : List ℕ
  pub order_is : order ≡ before ++ number ∷ after
  pub covered : covers (at number) key ≡ true
  pub lows_before : AllByRecursion (λ other. key_cmp (at other).low (at number).low ≡ Less) before
  pub not_before : AllByRecursion (λ other. covers (at other) key ≡ false) before
  pub lows_after : AllByRecursion (λ other. key_cmp key (at other).low ≡ Less) after
  pub below : AreBelow (pairs_of (map at before)) key
  pub above : IsBelowAll key (pairs_of (map at after))

-- the leaf with this number is the one that covers a key
abbrev pub Covers : List LeafState → List ℕ → List ℕ → ℕ → Type 0
Covers leaves order key number = (around : Around (leaf_at leaves) order key) × (number ≡ around.number) × (number < length leaves)

-- a list of numbers without this one
abbrev pub Lacks : ℕ → List ℕ → Type 0
Lacks number order = AllByRecursion (λ other. other ≢ number) order

-- each number stands once
abbrev pub IsOnce : List ℕ → Type 0
IsOnce [] = Unit {0}
IsOnce (number ∷ order) = Lacks number order × IsOnce order

-- There are as many numbers as leaves, at most LEAVES_MAX of both, and the lists have room for so many. What is spare is
-- unused.
pub record HasRooms (used : Vec LeafState) (numbers : Vec ℕ) (aside : Vec LeafState) : Type 0 where
  pub each : length numbers.items ≡ length used.items
  pub most : vec_len used + vec_len aside ≤ LEAVES_MAX
  pub leaves : LEAVES_MAX ≤ vec_capacity used
  pub order : LEAVES_MAX ≤ vec_capacity numbers
  pub spare : LEAVES_MAX ≤ vec_capacity aside
  pub fresh : AllByRecursion (λ leaf. leaf ≡ unused) aside.items
