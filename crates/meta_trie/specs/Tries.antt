-- A trie of anchors as contracts see it: which leaf its anchors give for a key, and how many nodes they make.
use Rattle.std.specs.Prelude.{◌≡◌, ◌≢◌, ℕ, ◌+◌, ◌-◌, ◌<◌, ◌≤◌, ◌&&◌, ◌==◌, max, List, [], ◌∷◌, ◌++◌, length, slice_get, if◌then◌else◌, Option, Some, Result, Ok, Err}
use Rattle.std.specs.Ordering.{is_lt, is_le}
use Rattle.rdb_base.specs.Order.{key_cmp}
use Rattle.meta_trie.specs.declared.limits.TheConstants.{NODES_MAX}
use Rattle.meta_trie.specs.declared.trie_error.TrieError.{TrieError}
use Rattle.meta_trie.specs.declared.trie_error.TrieError.TheVariants as errors

-- an anchor, and the leaf of the keys from it on
pub record Anchored : Type 0 where
  pub anchor : List ℕ
  pub leaf : ℕ

-- the anchor that is always there
abbrev pub root : Anchored
root = record { anchor = []; leaf = 0 }

-- ---- the leaf of a key

-- of two anchors the better one for a key: the greater of those that are not above it
abbrev pub better : List ℕ → Anchored → Anchored → Anchored
better key best next = if is_le (key_cmp next.anchor key) && is_lt (key_cmp best.anchor next.anchor) then next else best

-- the best one of an anchor and more of them
abbrev pub best_of : List ℕ → Anchored → List Anchored → Anchored
best_of key best [] = best
best_of key best (next ∷ more) = best_of key (better key best next) more

-- the leaf of the greatest anchor that is not above the key, among the empty one and those that were added, in any order
abbrev pub cover : List Anchored → List ℕ → ℕ
cover added key = (best_of key root added).leaf

-- ---- the nodes of anchors: their distinct prefixes, the empty one among them

-- how many bytes two strings have in common from their beginning on
abbrev pub common : List ℕ → List ℕ → ℕ
common [] b = 0
common (x ∷ a) [] = 0
common (x ∷ a) (y ∷ b) = if x == y then common a b + 1 else 0

-- the length of the longest prefix of a string that begins one of these anchors, too
abbrev pub deepest : List Anchored → List ℕ → ℕ
deepest [] string = 0
deepest (a ∷ more) string = max (common a.anchor string) (deepest more string)

-- the nodes that one more anchor brings: its prefixes that begin none of these anchors
abbrev pub nodes_for : List Anchored → List ℕ → ℕ
nodes_for added anchor = length anchor - deepest added anchor

-- the nodes that more anchors bring, one after the other
abbrev pub nodes_after : List Anchored → List Anchored → ℕ
nodes_after added [] = 0
nodes_after added (a ∷ more) = nodes_for added a.anchor + nodes_after (added ++ a ∷ []) more

-- the nodes of the anchors that were added, with that of the empty prefix
abbrev pub nodes_of : List Anchored → ℕ
nodes_of added = nodes_after [] added + 1

-- ---- what is answered

-- an anchor that was not added, and is not the empty one
abbrev pub IsNew : List Anchored → List ℕ → Type 0
IsNew added anchor = (place : ℕ) (a : Anchored) → slice_get (root ∷ added) place ≡ Some a → a.anchor ≢ anchor

-- an anchor that was added, or the empty one
abbrev pub IsThere : List Anchored → List ℕ → Type 0
IsThere added anchor = (place : ℕ) × (a : Anchored) × (slice_get (root ∷ added) place ≡ Some a) × (a.anchor ≡ anchor)

-- `TrieFull`, with the nodes that there are, exactly where there would be more than NODES_MAX with the anchor
abbrev pub RoomAnswer : {X : Type 0} → Result X TrieError → List Anchored → List ℕ → Type 0
RoomAnswer (Ok made) added anchor = nodes_of added + nodes_for added anchor ≤ NODES_MAX
RoomAnswer (Err (errors.TrieFull nodes)) added anchor =
    (nodes ≡ nodes_of added) × (NODES_MAX < nodes_of added + nodes_for added anchor)
RoomAnswer (Err errors.Memory) added anchor = nodes_of added + nodes_for added anchor ≤ NODES_MAX

-- the anchors that were added to the empty one, in the order of adding, and the anchor whose adding is prepared
pub record TrieState : Type 0 where
  pub added : List Anchored
  pub ready : Option (List ℕ)
