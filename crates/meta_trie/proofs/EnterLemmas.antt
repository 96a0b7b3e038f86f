-- What is made ready is entered. To know: `entered-trie`, `entered-inside`.
use Rattle.std.proofs.Common.{◌≡◌, ℕ, ◌+◌, ◌-◌, ◌<◌, ◌≤◌, List, [], ◌∷◌, ◌++◌, length, take, drop, refl, sym, ap, ◌∙◌, subst, arith, ◌⊎◌, inl, inr}
use Rattle.std.specs.Prelude.{Option, Some}
use Rattle.std.proofs.lemmas.List.{length-append, length-map}
use Rattle.std.proofs.lemmas.Bool.{cases_lt}
use Rattle.meta_trie.specs.Tries.{Anchored, root, deepest, nodes_for, nodes_of}
use Rattle.meta_trie.specs.declared.node.Node.{Node}
use Rattle.meta_trie.specs.declared.leaf_entry.LeafEntry.{LeafEntry}
use Rattle.meta_trie.specs.declared.table.Table.{Table}
use Rattle.meta_trie.specs.declared.ready.Ready.{Ready}
use Rattle.meta_trie.specs.Leaves.{all_of, previouses, nexts, next_at, previouses_with, nexts_with, anchored, rest_of, BeginsWithRoot}
use Rattle.meta_trie.specs.Tables.{node_at, count_of}
use Rattle.meta_trie.specs.Growths.{first_of, GrownAt, BegunAt}
use Rattle.meta_trie.specs.Readiness.{IsTrie, IsReady}
use Rattle.meta_trie.specs.Nodes.{Pick, Begins, Last, NodeStands, TrieStands, NextsStand}
use Rattle.meta_trie.proofs.DeepestLemmas.{nodes_of-push}
use Rattle.meta_trie.proofs.FrontLemmas.{take-differ, begun-here}
use Rattle.meta_trie.proofs.NodeLemmas.{best-last}
use Rattle.meta_trie.proofs.LinkLemmas.{previous-moved, previous-new, nexts-stand, next-inside}
use Rattle.meta_trie.proofs.TrieLemmas.{stands-after}
use Rattle.rdb_base.proofs.PlaceLemmas.{take_then_drop}

-- the anchors but the first, with one more
pub rest_of-push : (all : List Anchored) (a : Anchored) → BeginsWithRoot all → rest_of (all ++ a ∷ []) ≡ rest_of all ++ a ∷ []
rest_of-push [] a e = absurd cc
rest_of-push (x ∷ all) a e = refl

pub root-push : (all : List Anchored) (a : Anchored) → BeginsWithRoot all → BeginsWithRoot (all ++ a ∷ [])
root-push all a e = ap (λ (xs : List Anchored). xs ++ a ∷ []) e ∙ ap (λ (xs : List Anchored). root ∷ xs) (sym (rest_of-push all a e))

take-front : (q rest : List ℕ) → take (length q) (q ++ rest) ≡ q
take-front [] rest = refl
take-front (c ∷ q) rest = ap (λ z. c ∷ z) (take-front q rest)

module _ (leaves : List LeafEntry) (table mid now : Table) (r : Ready) (leaf : ℕ)
    (h : TrieStands (all_of leaves) (previouses leaves) (node_at table)) (n : NextsStand (all_of leaves) (nexts leaves)) (ready : IsReady leaves table r)
    (fresh : (j : ℕ) (b : Anchored) → Pick (all_of leaves) j b → b.anchor ≡ r.anchor.items → ⊥) where
  abbrev pub all : List Anchored
  all = all_of leaves

  abbrev pub anchor : List ℕ
  anchor = r.anchor.items

  pub last-ready : Last all anchor r.previous ready.best.0
  last-ready = best-last all anchor r.previous ready.best.0 fresh ready.best.1

  pub entered-inside : (k : ℕ) → next_at (nexts leaves) r.previous ≡ Some k → k < length leaves
  entered-inside k e = subst (λ (z : ℕ). k < z) (length-map leaves anchored) (next-inside all (previouses leaves) (nexts leaves) (node_at table) h n (record { anchor = anchor; leaf = leaf }) fresh r.previous ready.best.0 last-ready long_previous long_next k e)
    where
      long_previous : length (previouses leaves) ≡ length all
      long_previous = length-map leaves (λ (x : LeafEntry). x.previous) ∙ sym (length-map leaves anchored)

      long_next : length (nexts leaves) ≡ length all
      long_next = length-map leaves (λ (x : LeafEntry). x.next) ∙ sym (length-map leaves anchored)

  pub entered-nexts : NextsStand (all ++ record { anchor = anchor; leaf = leaf } ∷ []) (nexts_with (nexts leaves) r.previous)
  entered-nexts = nexts-stand all (previouses leaves) (nexts leaves) (node_at table) h n (record { anchor = anchor; leaf = leaf }) fresh r.previous ready.best.0 last-ready
      (length-map leaves (λ (x : LeafEntry). x.previous) ∙ sym (length-map leaves anchored)) (length-map leaves (λ (x : LeafEntry). x.next) ∙ sym (length-map leaves anchored))

  pub entered-stands : ((n : ℕ) → n ≤ r.len → GrownAt all anchor n mid)
      → ((q : List ℕ) → ((n : ℕ) → n ≤ r.len → q ≡ take n anchor → ⊥) → node_at mid q ≡ node_at table q)
      → ((n : ℕ) → r.len < n → n ≤ length anchor → BegunAt anchor n (length leaves) now)
      → ((q : List ℕ) → ((n : ℕ) → r.len < n → n ≤ length anchor → q ≡ take n anchor → ⊥) → node_at now q ≡ node_at mid q)
      → TrieStands (all ++ record { anchor = anchor; leaf = leaf } ∷ []) (previouses_with (previouses leaves) (next_at (nexts leaves) r.previous) r.previous) (node_at now)
  entered-stands grown1 others1 begun2 others2 =
      stands-after all (previouses leaves) (previouses_with (previouses leaves) (next_at (nexts leaves) r.previous) r.previous) (node_at table) (node_at now) a h fresh r.previous ready.best.0 last-ready
      (previous-new all (previouses leaves) (nexts leaves) (node_at table) h n a fresh r.previous ready.best.0 last-ready long_previous long_next)
      (previous-moved all (previouses leaves) (nexts leaves) (node_at table) h n a fresh r.previous ready.best.0 last-ready long_previous long_next)
      entered
      others
    where
      a : Anchored
      a = record { anchor = anchor; leaf = leaf }

      long_previous : length (previouses leaves) ≡ length all
      long_previous = length-map leaves (λ (x : LeafEntry). x.previous) ∙ sym (length-map leaves anchored)

      long_next : length (nexts leaves) ≡ length all
      long_next = length-map leaves (λ (x : LeafEntry). x.next) ∙ sym (length-map leaves anchored)

      grown2 : (k : ℕ) → r.len < k → k ≤ length anchor → GrownAt all anchor k now
      grown2 k lt le =
          let begun = begun2 k lt le in
          (begun.0, begun.1, begun-here leaves anchor k (length leaves) (first_of (drop k anchor)) begun.0 refl refl (λ j b pick f. h.there j b (take k anchor) pick f (ready.absent k lt le)) begun.2)

      grown : (k : ℕ) → k ≤ length anchor → GrownAt all anchor k now
      grown k le = by (cases_lt r.len k)
        where
          by : (r.len < k) ⊎ (k ≤ r.len) → GrownAt all anchor k now
          by (inr short) = let was = grown1 k short in (was.0, others2 (take k anchor) (λ m lt most e. take-differ k m anchor (omega arith) most e) ∙ was.1, was.2)
          by (inl long) = grown2 k long le

      entered : (q rest : List ℕ) → anchor ≡ q ++ rest → (m : Node) × (node_at now q ≡ Some m) × NodeStands (all ++ a ∷ []) q m
      entered q rest e =
          let long : length anchor ≡ length (q ++ rest) = ap length e in
          let front : take (length q) anchor ≡ q = ap (take (length q)) e ∙ take-front q rest in
          let got = grown (length q) (omega (arith, long, length-append q rest)) in
          (got.0, ap (node_at now) (sym front) ∙ got.1, subst (λ z. NodeStands (all ++ a ∷ []) z got.0) front (got.2 leaf))

      others : (q : List ℕ) → (Begins q anchor → ⊥) → node_at now q ≡ node_at table q
      others q f =
          others2 q (λ m lt le e. f (drop m anchor, sym (take_then_drop m anchor) ∙ ap (λ z. z ++ drop m anchor) (sym e)))
          ∙ others1 q (λ m le e. f (drop m anchor, sym (take_then_drop m anchor) ∙ ap (λ z. z ++ drop m anchor) (sym e)))

  -- the whole trie after the adding
  pub entered-trie : (entered : List LeafEntry) → IsTrie leaves table → ((k : ℕ) → k ≤ r.len → GrownAt all anchor k mid)
      → ((q : List ℕ) → ((k : ℕ) → k ≤ r.len → q ≡ take k anchor → ⊥) → node_at mid q ≡ node_at table q)
      → ((k : ℕ) → r.len < k → k ≤ length anchor → BegunAt anchor k (length leaves) now)
      → ((q : List ℕ) → ((k : ℕ) → r.len < k → k ≤ length anchor → q ≡ take k anchor → ⊥) → node_at now q ≡ node_at mid q)
      → count_of now ≡ count_of table + (length anchor - r.len)
      → all_of entered ≡ all ++ record { anchor = anchor; leaf = leaf } ∷ []
      → previouses entered ≡ previouses_with (previouses leaves) (next_at (nexts leaves) r.previous) r.previous
      → nexts entered ≡ nexts_with (nexts leaves) r.previous
      → IsTrie entered now
  entered-trie entered trie grown1 others1 begun2 others2 count is previous_is next_is = record {
    stands = subst (λ (xs : List Anchored). TrieStands xs (previouses entered) (node_at now)) (sym is) (subst (λ (ps : List ℕ). TrieStands (all ++ a ∷ []) ps (node_at now)) (sym previous_is) (entered-stands grown1 others1 begun2 others2));
    nexts = subst (λ (xs : List Anchored). NextsStand xs (nexts entered)) (sym is) (subst (λ (ns : List (Option ℕ)). NextsStand (all ++ a ∷ []) ns) (sym next_is) entered-nexts);
    root = subst (λ (xs : List Anchored). BeginsWithRoot xs) (sym is) (root-push all a trie.root);
    count = counted;
    most = omega (arith, count, ready.fits);
  }
    where
      a : Anchored
      a = record { anchor = anchor; leaf = leaf }

      counted : count_of now ≡ nodes_of (rest_of (all_of entered))
      counted =
          let rest : rest_of (all_of entered) ≡ rest_of all ++ a ∷ [] = ap rest_of is ∙ rest_of-push all a trie.root in
          let more : nodes_of (rest_of (all_of entered)) ≡ nodes_of (rest_of all) + nodes_for (rest_of all) anchor = ap nodes_of rest ∙ nodes_of-push (rest_of all) a in
          let deep : r.len ≡ deepest (rest_of all) anchor = ready.deepest in
          omega (arith, count, trie.count, more, deep)
