-- The trie with one more anchor. To know: `stands-after`.
use Rattle.std.proofs.Common.{◌≡◌, ℕ, Bool, true, false, cond, List, [], ◌∷◌, ◌++◌, length, refl, sym, ap, ◌∙◌, subst, ◌⊎◌, inl, inr, eq-eqb}
use Rattle.std.specs.Prelude.{Option, Some, None, slice_get, slice_index, ◌==◌, if◌then◌else◌}
use Rattle.std.proofs.lemmas.Bool.{eqb-true}
use Rattle.meta_trie.specs.Tries.{Anchored}
use Rattle.meta_trie.specs.declared.node.Node.{Node}
use Rattle.meta_trie.specs.Nodes.{Pick, Begins, Last, NodeStands, TrieStands}
use Rattle.meta_trie.proofs.NodeLemmas.{kept-stands, begins_or, last-new, last-moved, last-kept}
use Rattle.rdb_base.proofs.PlaceLemmas.{get_snoc, some_injective}

some_none : (a : Node) → Some a ≡ None → ⊥
some_none a e = absurd cc

module _ (all : List Anchored) (previous after : List ℕ) (at now : List ℕ → Option Node) (a : Anchored) (h : TrieStands all previous at)
    (new : (j : ℕ) (b : Anchored) → Pick all j b → b.anchor ≡ a.anchor → ⊥)
    (i : ℕ) (x : Anchored) (pred : Last all a.anchor i x)
    (mine : slice_index after (length all) ≡ i)
    (theirs : (j : ℕ) (b : Anchored) → Pick all j b → (b.anchor ≡ [] → ⊥) → slice_index after j ≡ (if slice_index previous j == i then length all else slice_index previous j))
    (entered : (p rest : List ℕ) → a.anchor ≡ p ++ rest → (m : Node) × (now p ≡ Some m) × NodeStands (all ++ a ∷ []) p m)
    (others : (p : List ℕ) → (Begins p a.anchor → ⊥) → now p ≡ at p) where
  there_after : (j : ℕ) (b : Anchored) (p : List ℕ) → Pick (all ++ a ∷ []) j b → Begins p b.anchor → now p ≡ None → ⊥
  there_after j b p e f gone = by (begins_or p a.anchor) (get_snoc all a b j e)
    where
      by : Begins p a.anchor ⊎ (Begins p a.anchor → ⊥) → Pick all j b ⊎ ((j ≡ length all) × (a ≡ b)) → ⊥
      by (inl g) s = let m = entered p g.0 g.1 in some_none m.0 (sym m.1 ∙ gone)
      by (inr g) (inl k) = h.there j b p k f (sym (others p g) ∙ gone)
      by (inr g) (inr k) = g (subst (λ (y : Anchored). Begins p y.anchor) (sym k.1) f)

  nodes_after : (p : List ℕ) (n : Node) → now p ≡ Some n → NodeStands (all ++ a ∷ []) p n
  nodes_after p n e = by (begins_or p a.anchor)
    where
      by : Begins p a.anchor ⊎ (Begins p a.anchor → ⊥) → NodeStands (all ++ a ∷ []) p n
      by (inl g) = let m = entered p g.0 g.1 in subst (λ (z : Node). NodeStands (all ++ a ∷ []) p z) (some_injective m.0 n (sym m.1 ∙ e)) m.2
      by (inr g) = kept-stands all a p n g (h.nodes p n (sym (others p g) ∙ e))

  before_after : (j : ℕ) (b : Anchored) → Pick (all ++ a ∷ []) j b → (b.anchor ≡ [] → ⊥) → (y : Anchored) × Last (all ++ a ∷ []) b.anchor (slice_index after j) y
  before_after j b e ne = by (get_snoc all a b j e)
    where
      old : Pick all j b → (s : Bool) → (slice_index previous j == i) ≡ s → slice_index after j ≡ cond s (length all) (slice_index previous j) → (y : Anchored) × Last (all ++ a ∷ []) b.anchor (slice_index after j) y
      old pick true eq is =
          let was = h.before j b pick ne in
          let place : slice_index previous j ≡ i = eqb-true (slice_index previous j) i eq in
          let same : was.0 ≡ x = some_injective was.0 x (sym was.1.pick ∙ ap (slice_get all) place ∙ pred.pick) in
          let moved : Last all b.anchor i x = subst (λ (z : Anchored). Last all b.anchor i z) same (subst (λ (k : ℕ). Last all b.anchor k was.0) place was.1) in
          (a, subst (λ (k : ℕ). Last (all ++ a ∷ []) b.anchor k a) (sym is) (last-moved all a new i x pred j b pick moved))
      old pick false eq is =
          let was = h.before j b pick ne in
          (was.0, subst (λ (k : ℕ). Last (all ++ a ∷ []) b.anchor k was.0) (sym is) (last-kept all a new i x pred (slice_index previous j) was.0 b (λ f. differ (eq-eqb (slice_index previous j) i (h.distinct (slice_index previous j) i was.0 x was.1.pick pred.pick f))) was.1))
        where
          differ : (slice_index previous j == i) ≡ true → ⊥
          differ f = absurd cc

      by : Pick all j b ⊎ ((j ≡ length all) × (a ≡ b)) → (y : Anchored) × Last (all ++ a ∷ []) b.anchor (slice_index after j) y
      by (inl pick) = old pick (slice_index previous j == i) refl (theirs j b pick ne)
      by (inr k) =
          (x, subst (λ (q : ℕ). Last (all ++ a ∷ []) b.anchor q x) (sym mine ∙ ap (slice_index after) (sym k.0)) (subst (λ (y : Anchored). Last (all ++ a ∷ []) y.anchor i x) k.1 (last-new all a new i x pred)))

  pub stands-after : TrieStands (all ++ a ∷ []) after now
  stands-after = record {
    there = there_after;
    nodes = nodes_after;
    before = before_after;
    distinct = λ j k b c e f g. apart j k b c g (get_snoc all a b j e) (get_snoc all a c k f);
  }
    where
      apart : (j k : ℕ) (b c : Anchored) → b.anchor ≡ c.anchor → Pick all j b ⊎ ((j ≡ length all) × (a ≡ b)) → Pick all k c ⊎ ((k ≡ length all) × (a ≡ c)) → j ≡ k
      apart j k b c g (inl e) (inl f) = h.distinct j k b c e f g
      apart j k b c g (inl e) (inr f) = absurd (new j b e (g ∙ ap (λ (y : Anchored). y.anchor) (sym f.1)))
      apart j k b c g (inr e) (inl f) = absurd (new k c f (sym g ∙ ap (λ (y : Anchored). y.anchor) (sym e.1)))
      apart j k b c g (inr e) (inr f) = e.0 ∙ sym f.0
