-- What holds of a trie holds of one that looks the same. To know: `trie-same`.
use Rattle.std.proofs.Common.{◌≡◌, ℕ, List, sym, ◌∙◌, subst, arith}
use Rattle.std.specs.Prelude.{Option}
use Rattle.meta_trie.specs.declared.node.Node.{Node}
use Rattle.meta_trie.specs.declared.leaf_entry.LeafEntry.{LeafEntry}
use Rattle.meta_trie.specs.declared.table.Table.{Table}
use Rattle.meta_trie.specs.Leaves.{all_of, previouses}
use Rattle.meta_trie.specs.Tables.{node_at, count_of}
use Rattle.meta_trie.specs.Nodes.{TrieStands}
use Rattle.meta_trie.specs.Readiness.{IsTrie}

pub trie-same : (xs ys : List LeafEntry) (s t : Table) → ys ≡ xs → ((p : List ℕ) → node_at t p ≡ node_at s p) → count_of t ≡ count_of s → IsTrie xs s → IsTrie ys t
trie-same xs ys s t e h count trie =
    subst (λ (zs : List LeafEntry). IsTrie zs t) (sym e) (record {
      stands = subst (λ (f : List ℕ → Option Node). TrieStands (all_of xs) (previouses xs) f) (sym nodes) trie.stands;
      nexts = trie.nexts;
      root = trie.root;
      count = count ∙ trie.count;
      most = omega (arith, count, trie.most);
    })
  where
    nodes : node_at t ≡ node_at s
    nodes = λ i p. h p i
