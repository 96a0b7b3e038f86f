-- The trie of the empty anchor alone. To know: `first-trie`.
use Rattle.std.proofs.Common.{◌≡◌, ℕ, zero, suc, List, [], ◌∷◌, ◌++◌, refl, sym, ap, ◌∙◌, subst, arith, ◌⊎◌, inl, inr}
use Rattle.std.specs.Prelude.{Option, Some, None}
use Rattle.meta_trie.specs.Tries.{Anchored, root}
use Rattle.meta_trie.specs.declared.node.Node.{Node}
use Rattle.meta_trie.specs.declared.table.Table.{Table}
use Rattle.meta_trie.specs.Tables.{node_at, IsRootAlone}
use Rattle.meta_trie.specs.Growths.{Begun}
use Rattle.meta_trie.specs.Nodes.{Pick, Begins, Below, NextOf, NodeStands, TrieStands, NextsStand}
use Rattle.meta_trie.specs.declared.leaf_entry.LeafEntry.{LeafEntry}
use Rattle.meta_trie.specs.Leaves.{anchored}
use Rattle.meta_trie.specs.Readiness.{IsTrie}
use Rattle.meta_trie.proofs.PrefixLemmas.{below-irrefl}
use Rattle.meta_trie.proofs.NodeLemmas.{begun-stands}
use Rattle.rdb_base.proofs.PlaceLemmas.{some_injective}

root_is : (j : ℕ) (b : Anchored) → Pick (root ∷ []) j b → (j ≡ 0) × (root ≡ b)
root_is zero b e = (refl, cc)
root_is (suc j) b e = absurd cc

nil_or : (p : List ℕ) → (p ≡ []) ⊎ (p ≡ [] → ⊥)
nil_or [] = inl refl
nil_or (c ∷ p) = inr (λ e. cons c p e)
  where
    cons : (c : ℕ) (p : List ℕ) → c ∷ p ≡ [] → ⊥
    cons c p e = absurd cc

front_nil : (p rest : List ℕ) → [] ≡ p ++ rest → p ≡ []
front_nil [] rest e = refl
front_nil (c ∷ p) rest e = absurd cc

no_node : (n : Node) → Some n ≡ None → ⊥
no_node n e = absurd cc

first-stands : (table : Table) (m : Node) → Begun 0 None m → IsRootAlone m table → TrieStands (root ∷ []) (0 ∷ []) (node_at table)
first-stands table m begun first = record {
  there = there;
  nodes = nodes;
  before = λ j b e ne. absurd (ne (ap (λ (x : Anchored). x.anchor) (sym (root_is j b e).1)));
  distinct = λ i j a b e f g. (root_is i a e).0 ∙ sym (root_is j b f).0;
}
  where
    there : (j : ℕ) (b : Anchored) (p : List ℕ) → Pick (root ∷ []) j b → Begins p b.anchor → node_at table p ≡ None → ⊥
    there j b p e f gone =
        let empty : p ≡ [] = front_nil p f.0 (ap (λ (x : Anchored). x.anchor) (root_is j b e).1 ∙ f.1) in
        no_node m (sym first.here ∙ ap (node_at table) (sym empty) ∙ gone)

    nodes : (p : List ℕ) (n : Node) → node_at table p ≡ Some n → NodeStands (root ∷ []) p n
    nodes p n e = by (nil_or p)
      where
        by : (p ≡ []) ⊎ (p ≡ [] → ⊥) → NodeStands (root ∷ []) p n
        by (inr f) = absurd (no_node n (sym e ∙ first.others p f))
        by (inl f) =
            let same : m ≡ n = some_injective m n (sym first.here ∙ ap (node_at table) (sym f) ∙ e) in
            let stands : NodeStands (root ∷ []) [] m = begun-stands [] root [] [] refl m begun (λ j b pick. absurd cc) in
            subst (λ (q : List ℕ). NodeStands (root ∷ []) q n) (sym f) (subst (λ (k : Node). NodeStands (root ∷ []) [] k) same stands)

pub first-trie : (leaves : List LeafEntry) (table : Table) (entry : LeafEntry) (m : Node) → leaves ≡ entry ∷ [] → entry.anchor.items ≡ [] → entry.leaf ≡ 0 → entry.previous ≡ 0 → entry.next ≡ None
    → Begun 0 None m → IsRootAlone m table → IsTrie leaves table
first-trie leaves table entry m is empty leaf previous next begun first = subst (λ (xs : List LeafEntry). IsTrie xs table) (sym is) (record {
  stands = subst (λ (xs : List Anchored). TrieStands xs (entry.previous ∷ []) (node_at table)) (sym all) (subst (λ (k : ℕ). TrieStands (root ∷ []) (k ∷ []) (node_at table)) (sym previous) (first-stands table m begun first));
  nexts = nexts_stand;
  root = all;
  count = first.count;
  most = omega (arith, first.count);
})
  where
    all : anchored entry ∷ [] ≡ root ∷ []
    all = λ i. record { anchor = empty i; leaf = leaf i } ∷ []

    nexts_stand : NextsStand (anchored entry ∷ []) (entry.next ∷ [])
    nexts_stand zero b e = subst (λ (o : Option ℕ). NextOf (anchored entry ∷ []) b.anchor o) (sym next) nothing
      where
        nothing : (j : ℕ) (d : Anchored) → Pick (anchored entry ∷ []) j d → Below b.anchor d.anchor → ⊥
        nothing zero d f over = below-irrefl b.anchor (subst (λ (z : List ℕ). Below b.anchor z) (same b d e f) over)
          where
            same : (b d : Anchored) → Some (anchored entry) ≡ Some b → Some (anchored entry) ≡ Some d → d.anchor ≡ b.anchor
            same b d e f = ap (λ (z : Anchored). z.anchor) (some_is d b (sym f ∙ e))
              where
                some_is : (d b : Anchored) → Some d ≡ Some b → d ≡ b
                some_is d b e = cc
        nothing (suc j) d f over = absurd cc
    nexts_stand (suc j) b e = absurd cc
