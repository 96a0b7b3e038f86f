-- The table behind the trie: which node it has for a prefix, how many nodes it has, and for how many more it has room.
use Rattle.std.specs.Prelude.{◌≡◌, ℕ, List, [], Option, Some, None, ◌==◌, if◌then◌else◌}
use Rattle.std.specs.HashMap.{get_by, hash_map_len, spare}
use Rattle.std.specs.Cmp.Lexicographic.{pointwise}
use Rattle.meta_trie.specs.declared.table.Table.{Table}
use Rattle.meta_trie.specs.declared.node.Node.{Node}

-- the node of a prefix
abbrev pub node_at : Table → List ℕ → Option Node
node_at table prefix = get_by (λ key. pointwise ◌==◌ prefix key.items) table.nodes

-- how many nodes there are
abbrev pub count_of : Table → ℕ
count_of table = hash_map_len table.nodes

-- for how many more there is room
abbrev pub room_of : Table → ℕ
room_of table = spare table.nodes

-- the table has this node for the prefix, and for every other one what it had
abbrev pub IsSetAt : Table → List ℕ → Node → Table → Type 0
IsSetAt table prefix node after = (p : List ℕ) → node_at after p ≡ (if pointwise ◌==◌ prefix p then Some node else node_at table p)

-- the empty prefix has this node, and no other prefix has one
pub record IsRootAlone (node : Node) (table : Table) : Type 0 where
  pub here : node_at table [] ≡ Some node
  pub others : (p : List ℕ) → (p ≡ [] → ⊥) → node_at table p ≡ None
  pub count : count_of table ≡ 1
