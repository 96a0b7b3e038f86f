-- What becomes of a node when one more anchor begins with its prefix.
use Rattle.std.specs.Prelude.{◌≡◌, ℕ, zero, suc, ◌+◌, Bool, false, ◌||◌, ◌==◌, List, [], ◌∷◌, ◌++◌, take, drop, Option, Some, None, is_none, if◌then◌else◌}
use Rattle.meta_trie.specs.declared.node.Node.{Node}
use Rattle.meta_trie.specs.Nodes.{has_next, NodeStands}
use Rattle.meta_trie.specs.Tries.{Anchored}
use Rattle.meta_trie.specs.Tables.{node_at}
use Rattle.meta_trie.specs.declared.table.Table.{Table}

-- the first byte, where there is one
abbrev pub first_of : List ℕ → Option ℕ
first_of [] = None
first_of (c ∷ rest) = Some c

-- whether a byte is the one that comes next
abbrev pub comes : Option ℕ → ℕ → Bool
comes None c = false
comes (Some d) c = c == d

-- a node after the anchor at a place: which byte comes next there, and whether it is below the least and above the greatest one
pub record Grows (n : Node) (place : ℕ) (next : Option ℕ) (less more : Bool) (m : Node) : Type 0 where
  pub own : m.own ≡ is_none next || n.own
  pub least : m.least ≡ (if less then place else n.least)
  pub greatest : m.greatest ≡ (if more then place else n.greatest)
  pub nexts : (c : ℕ) → has_next m.nexts c ≡ comes next c || has_next n.nexts c

-- the node of a prefix of one anchor alone
pub record Begun (place : ℕ) (next : Option ℕ) (m : Node) : Type 0 where
  pub own : m.own ≡ is_none next
  pub least : m.least ≡ place
  pub greatest : m.greatest ≡ place
  pub nexts : (c : ℕ) → has_next m.nexts c ≡ comes next c

-- the prefix of an anchor of some length has the node of a prefix of one anchor alone, which is at this place
abbrev pub BegunAt : List ℕ → ℕ → ℕ → Table → Type 0
BegunAt anchor len place table = (m : Node) × (node_at table (take len anchor) ≡ Some m) × Begun place (first_of (drop len anchor)) m

-- the prefix of an anchor of some length has a node that is right once the anchor is added
abbrev pub GrownAt : List Anchored → List ℕ → ℕ → Table → Type 0
GrownAt all anchor n table =
    (m : Node) × (node_at table (take n anchor) ≡ Some m)
    × ((leaf : ℕ) → NodeStands (all ++ record { anchor = anchor; leaf = leaf } ∷ []) (take n anchor) m)

-- no other prefix has another node
abbrev pub KeepsBut : List ℕ → Table → Table → Type 0
KeepsBut p table after = (q : List ℕ) → (q ≡ p → ⊥) → node_at after q ≡ node_at table q

-- the prefixes of an anchor that are longer than a length, so many of them, the shortest first
abbrev pub fronts_of : List ℕ → ℕ → ℕ → List (List ℕ)
fronts_of anchor len zero = []
fronts_of anchor len (suc k) = fronts_of anchor len k ++ take (len + suc k) anchor ∷ []
