-- All that an anchor needs, made before it is added.
use Rattle.std.specs.Prelude.{◌≡◌, ℕ, ◌+◌, ◌-◌, ◌<◌, ◌≤◌, true, List, length, take, map, Option, Some, None, is_some}
use Rattle.meta_trie.specs.Tries.{Anchored, deepest, nodes_of}
use Rattle.meta_trie.specs.Leaves.{all_of, rest_of, previouses, nexts, BeginsWithRoot}
use Rattle.meta_trie.specs.Nodes.{Best, TrieStands, NextsStand}
use Rattle.meta_trie.specs.Growths.{fronts_of}
use Rattle.meta_trie.specs.Tables.{node_at, count_of, room_of}
use Rattle.meta_trie.specs.declared.limits.TheConstants.{NODES_MAX}
use Rattle.meta_trie.specs.declared.table.Table.{Table}
use Rattle.meta_trie.specs.declared.leaf_entry.LeafEntry.{LeafEntry}
use Rattle.meta_trie.specs.declared.ready.Ready.{Ready}

-- what was made fits the trie as it is: which prefixes have nodes, the anchor below, the prefixes to come, and room for their nodes
pub record IsReady (leaves : List LeafEntry) (table : Table) (ready : Ready) : Type 0 where
  pub within : ready.len ≤ length ready.anchor.items
  pub there : (n : ℕ) → n ≤ ready.len → is_some (node_at table (take n ready.anchor.items)) ≡ true
  pub absent : (n : ℕ) → ready.len < n → n ≤ length ready.anchor.items → node_at table (take n ready.anchor.items) ≡ None
  pub best : (a : Anchored) × Best (all_of leaves) ready.anchor.items ready.previous a
  pub made : map (λ prefix. prefix.items) ready.prefixes.items ≡ fronts_of ready.anchor.items ready.len (length ready.anchor.items - ready.len)
  pub room : length ready.anchor.items - ready.len ≤ room_of table
  pub deepest : ready.len ≡ deepest (rest_of (all_of leaves)) ready.anchor.items
  pub fits : count_of table + (length ready.anchor.items - ready.len) ≤ NODES_MAX

-- the anchor that is prepared
abbrev pub anchor_of : Option Ready → Option (List ℕ)
anchor_of None = None
anchor_of (Some ready) = Some ready.anchor.items

-- what is kept for the next adding is ready, and there is room for one entry more
abbrev pub MayBeReady : List LeafEntry → Type 0 → Table → Option Ready → Type 0
MayBeReady leaves room table None = Unit {0}
MayBeReady leaves room table (Some ready) = IsReady leaves table ready × room

-- the entries and the table of a trie: the nodes are right, neighbours are, the empty anchor is the first, and the nodes are counted
pub record IsTrie (leaves : List LeafEntry) (table : Table) : Type 0 where
  pub stands : TrieStands (all_of leaves) (previouses leaves) (node_at table)
  pub nexts : NextsStand (all_of leaves) (nexts leaves)
  pub root : BeginsWithRoot (all_of leaves)
  pub count : count_of table ≡ nodes_of (rest_of (all_of leaves))
  pub most : count_of table ≤ NODES_MAX
