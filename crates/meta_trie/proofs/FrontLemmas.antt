-- The nodes of an anchor's fronts, one after another. To know: `keep-grown`, `set-here`, `grown-here`.
use Rattle.std.proofs.Common.{◌≡◌, ℕ, zero, suc, ◌+◌, ◌<◌, ◌≤◌, Bool, cond, List, [], ◌∷◌, ◌++◌, length, take, drop, get_or, refl, sym, ap, ◌∙◌, subst, arith, ◌⊎◌, inl, inr}
use Rattle.std.specs.Prelude.{Option, Some, ◌==◌}
use Rattle.std.specs.Ordering.{is_lt}
use Rattle.std.specs.Cmp.Lexicographic.{pointwise}
use Rattle.rdb_base.specs.Order.{key_cmp}
use Rattle.meta_trie.specs.Tries.{Anchored}
use Rattle.meta_trie.specs.declared.node.Node.{Node}
use Rattle.meta_trie.specs.declared.leaf_entry.LeafEntry.{LeafEntry}
use Rattle.meta_trie.specs.declared.table.Table.{Table}
use Rattle.meta_trie.specs.Leaves.{all_of, anchored}
use Rattle.meta_trie.specs.Tables.{node_at, IsSetAt}
use Rattle.meta_trie.specs.Growths.{first_of, Grows, Begun, GrownAt, BegunAt, KeepsBut}
use Rattle.meta_trie.specs.Nodes.{Pick, Begins, NodeStands}
use Rattle.meta_trie.proofs.NodeLemmas.{grown-stands, begun-stands}
use Rattle.meta_trie.proofs.LookupLemmas.{list_itself}
use Rattle.rdb_base.proofs.PlaceLemmas.{some_injective, take_then_drop}

pub take-long : (n : ℕ) (xs : List ℕ) → n ≤ length xs → length (take n xs) ≡ n
take-long zero xs le = refl
take-long (suc n) [] le = absurd (omega arith)
take-long (suc n) (x ∷ xs) le = ap suc (take-long n xs (omega arith))

pub take-differ : (n k : ℕ) (xs : List ℕ) → n < k → k ≤ length xs → take n xs ≡ take k xs → ⊥
take-differ n k xs lt le e =
    let mine : length (take n xs) ≡ n = take-long n xs (omega arith) in
    let theirs : length (take k xs) ≡ k = take-long k xs le in
    let same : length (take n xs) ≡ length (take k xs) = ap length e in
    absurd (omega (arith, mine, theirs, same))

pub set-here : (table after : Table) (prefix p : List ℕ) (m : Node) → IsSetAt table prefix m after → prefix ≡ p → node_at after p ≡ Some m
set-here table after prefix p m set e = set p ∙ ap (λ b. cond b (Some m) (node_at table p)) (ap (pointwise ◌==◌ prefix) (sym e) ∙ list_itself prefix)

pub keep-grown : (all : List Anchored) (anchor : List ℕ) (n k : ℕ) (table after : Table) → n < k → k ≤ length anchor → KeepsBut (take k anchor) table after → GrownAt all anchor n table → GrownAt all anchor n after
keep-grown all anchor n k table after lt le keeps grown = (grown.0, keeps (take n anchor) (take-differ n k anchor lt le) ∙ grown.1, grown.2)

pub all-long : (leaves : List LeafEntry) → length (all_of leaves) ≡ length leaves
all-long [] = refl
all-long (x ∷ xs) = ap suc (all-long xs)

pub pick-anchor : (leaves : List LeafEntry) (i : ℕ) (d : LeafEntry) (a : Anchored) → Pick (all_of leaves) i a → a.anchor ≡ (get_or leaves i d).anchor.items
pick-anchor [] i d a e = absurd cc
pick-anchor (x ∷ xs) zero d a e = ap (λ (z : Anchored). z.anchor) (sym (some_injective (anchored x) a e))
pick-anchor (x ∷ xs) (suc i) d a e = pick-anchor xs i d a e

pub grown-here : (leaves : List LeafEntry) (anchor : List ℕ) (len place : ℕ) (next : Option ℕ) (n m : Node) (less more : Bool) (l g : LeafEntry)
    → place ≡ length leaves → next ≡ first_of (drop len anchor)
    → less ≡ is_lt (key_cmp anchor (get_or leaves n.least l).anchor.items) → more ≡ is_lt (key_cmp (get_or leaves n.greatest g).anchor.items anchor)
    → NodeStands (all_of leaves) (take len anchor) n → Grows n place next less more m
    → (leaf : ℕ) → NodeStands (all_of leaves ++ record { anchor = anchor; leaf = leaf } ∷ []) (take len anchor) m
grown-here leaves anchor len place next n m less more l g at next_is less_is more_is old grows leaf =
    grown-stands (all_of leaves) (record { anchor = anchor; leaf = leaf }) (take len anchor) (drop len anchor) (sym (take_then_drop len anchor)) n m old.least.0 old.greatest.0 less more old old.least.1 old.greatest.1
    (less_is ∙ ap (λ z. is_lt (key_cmp anchor z)) (sym (pick-anchor leaves n.least l old.least.0 old.least.1.pick)))
    (more_is ∙ ap (λ z. is_lt (key_cmp z anchor)) (sym (pick-anchor leaves n.greatest g old.greatest.0 old.greatest.1.pick)))
    (subst (λ (o : Option ℕ). Grows n (length (all_of leaves)) o less more m) next_is (subst (λ (i : ℕ). Grows n i next less more m) (at ∙ sym (all-long leaves)) grows))

pub below-next : (n k : ℕ) → n < k + 1 → (n < k) ⊎ (n ≡ k)
below-next zero zero lt = inr refl
below-next zero (suc k) lt = inl (omega arith)
below-next (suc n) zero lt = absurd (omega arith)
below-next (suc n) (suc k) lt = by (below-next n k (omega arith))
  where
    by : (n < k) ⊎ (n ≡ k) → (suc n < suc k) ⊎ (suc n ≡ suc k)
    by (inl h) = inl (omega arith)
    by (inr h) = inr (ap suc h)

pub begun-here : (leaves : List LeafEntry) (anchor : List ℕ) (len place : ℕ) (next : Option ℕ) (m : Node)
    → place ≡ length leaves → next ≡ first_of (drop len anchor)
    → ((j : ℕ) (b : Anchored) → Pick (all_of leaves) j b → Begins (take len anchor) b.anchor → ⊥) → Begun place next m
    → (leaf : ℕ) → NodeStands (all_of leaves ++ record { anchor = anchor; leaf = leaf } ∷ []) (take len anchor) m
begun-here leaves anchor len place next m at next_is alone begun leaf =
    begun-stands (all_of leaves) (record { anchor = anchor; leaf = leaf }) (take len anchor) (drop len anchor) (sym (take_then_drop len anchor)) m
    (subst (λ (o : Option ℕ). Begun (length (all_of leaves)) o m) next_is (subst (λ (i : ℕ). Begun i next m) (at ∙ sym (all-long leaves)) begun))
    alone

pub above-next : (n k : ℕ) → k < n + 1 → (k < n) ⊎ (n ≡ k)
above-next n k lt = by (below-next k n lt)
  where
    by : (k < n) ⊎ (k ≡ n) → (k < n) ⊎ (n ≡ k)
    by (inl h) = inl h
    by (inr e) = inr (sym e)

pub keep-begun : (anchor : List ℕ) (n k place : ℕ) (table after : Table) → k < n → n ≤ length anchor → KeepsBut (take k anchor) table after → BegunAt anchor n place table → BegunAt anchor n place after
keep-begun anchor n k place table after lt le keeps begun = (begun.0, keeps (take n anchor) (λ e. take-differ k n anchor lt le (sym e)) ∙ begun.1, begun.2)
