-- The split of a full leaf, and when there is no room for one.
use Rattle.std.specs.Prelude.{◌≡◌, ◌<◌, ◌+◌, ◌⊎◌, ℕ, List, ◌∷◌, ◌++◌, length, take, drop, Some, true}
use Rattle.worm_leaf.specs.Anchors.{PartsAt}
use Rattle.worm_leaf.specs.Leaves.{LeafState, covers}
use Rattle.worm_leaf.specs.declared.limits.TheConstants.{LEAF_PAIRS_MAX, LEAF_PAIRS_KEPT}
use Rattle.meta_trie.specs.Tries.{Anchored, nodes_of, nodes_for}
use Rattle.meta_trie.specs.declared.limits.TheConstants.{NODES_MAX}
use Rattle.leaf_table.specs.Tables.{leaf_at, chain_of, IsTable}
use Rattle.leaf_table.specs.declared.limits.TheConstants.{LEAVES_MAX}

-- what stays of a leaf that is split: the pairs below the anchor, which is now its high bound
abbrev pub left_half : LeafState → List ℕ → LeafState
left_half leaf anchor = record { low = leaf.low; high = Some anchor; pairs = take LEAF_PAIRS_KEPT leaf.pairs }

-- the others go into a leaf that begins at the anchor
abbrev pub right_half : LeafState → List ℕ → LeafState
right_half leaf anchor = record { low = anchor; high = leaf.high; pairs = drop LEAF_PAIRS_KEPT leaf.pairs }

-- the leaf that covers a key is replaced by its halves, and all others stay
pub record SplitsAt (leaves : List LeafState) (key : List ℕ) (after : List LeafState) : Type 0 where
  pub before : List LeafState
  pub leaf : LeafState
  pub behind : List LeafState
  pub anchor : List ℕ
  pub was : leaves ≡ before ++ leaf ∷ behind
  pub covered : covers leaf key ≡ true
  pub parts : PartsAt leaf.pairs LEAF_PAIRS_KEPT anchor
  pub effect : after ≡ before ++ left_half leaf anchor ∷ right_half leaf anchor ∷ behind

-- the trie that has the low bounds of these leaves has no room for the nodes of the anchor that splits the full leaf of a key
pub record HasNoNodes (leaves : List LeafState) (key : List ℕ) : Type 0 where
  pub numbered : List LeafState
  pub order : List ℕ
  pub added : List Anchored
  pub table : IsTable numbered order added
  pub same : leaves ≡ chain_of numbered order
  pub number : ℕ
  pub within : number < length numbered
  pub covered : covers (leaf_at numbered number) key ≡ true
  pub pairs : length (leaf_at numbered number).pairs ≡ LEAF_PAIRS_MAX
  pub anchor : List ℕ
  pub parts : PartsAt (leaf_at numbered number).pairs LEAF_PAIRS_KEPT anchor
  pub full : NODES_MAX < nodes_of added + nodes_for added anchor

-- no leaf more may be used, or the trie has no room for its anchor
abbrev pub IsFullAt : List LeafState → List ℕ → Type 0
IsFullAt leaves key = (length leaves ≡ LEAVES_MAX) ⊎ HasNoNodes leaves key
