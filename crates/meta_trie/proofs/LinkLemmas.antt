-- One anchor more between its neighbours. To know: `previous-moved`, `previous-new`, `nexts-stand`.
use Rattle.std.proofs.Common.{◌≡◌, ℕ, ◌<◌, Bool, true, false, List, [], ◌∷◌, ◌++◌, length, get_or, set, refl, sym, ap, ◌∙◌, subst, arith, ◌⊎◌, inl, inr, eq-eqb}
use Rattle.std.specs.Prelude.{Option, Some, None, slice_get, slice_index, ◌==◌, if◌then◌else◌}
use Rattle.std.proofs.lemmas.Bool.{eqb-true, cases_order}
use Rattle.std.proofs.lemmas.List.{get_or-set_same, get_or-set_other, length-set}
use Rattle.meta_trie.specs.Tries.{Anchored}
use Rattle.meta_trie.specs.Leaves.{next_at, previouses_with, nexts_with}
use Rattle.meta_trie.specs.declared.node.Node.{Node}
use Rattle.meta_trie.specs.Nodes.{Pick, Below, AtMost, Last, First, NextOf, TrieStands, NextsStand}
use Rattle.std.proofs.Math.ListN.{get_or-append}
use Rattle.std.proofs.Math.Seq.{get_or-append_seam}
use Rattle.meta_trie.proofs.PrefixLemmas.{below-irrefl, below-trans, at_most-below, at_most-both, not-below, compared}
use Rattle.rdb_base.proofs.PlaceLemmas.{get_last, get_more, get_snoc, get_within, some_injective}

-- the member at the end
get_or-last : {X : Type 0} (xs : List X) (x d : X) (i : ℕ) → i ≡ length xs → get_or (xs ++ x ∷ []) i d ≡ x
get_or-last xs x d i e = ap (λ n. get_or (xs ++ x ∷ []) n d) e ∙ get_or-append_seam xs x [] d

nothing_below : (x b : List ℕ) → Below x b → b ≡ [] → ⊥
nothing_below [] b h e = let empty : Below [] [] = subst (λ z. Below [] z) e h in below-irrefl [] empty
nothing_below (c ∷ x) b h e = let empty : Below (c ∷ x) [] = subst (λ z. Below (c ∷ x) z) e h in absurd cc

module _ (all : List Anchored) (previous : List ℕ) (next : List (Option ℕ)) (at : List ℕ → Option Node) (h : TrieStands all previous at) (n : NextsStand all next)
    (a : Anchored) (new : (j : ℕ) (b : Anchored) → Pick all j b → b.anchor ≡ a.anchor → ⊥) (i : ℕ) (x : Anchored) (pred : Last all a.anchor i x)
    (long_previous : length previous ≡ length all) (long_next : length next ≡ length all) where
  -- what has the place as its lower neighbour is next to the place
  next-is : (j : ℕ) (b : Anchored) → Pick all j b → (b.anchor ≡ [] → ⊥) → slice_index previous j ≡ i → next_at next i ≡ Some j
  next-is j b pick ne is = by (next_at next i) refl (n i x pred.pick)
    where
      was : (y : Anchored) × Last all b.anchor (slice_index previous j) y
      was = h.before j b pick ne

      same : was.0 ≡ x
      same = some_injective was.0 x (sym was.1.pick ∙ ap (slice_get all) is ∙ pred.pick)

      below : Below x.anchor b.anchor
      below = subst (λ (y : Anchored). Below y.anchor b.anchor) same was.1.below

      by : (o : Option ℕ) → next_at next i ≡ o → NextOf all x.anchor o → next_at next i ≡ Some j
      by None e f = absurd (f j b pick below)
      by (Some k) e first = e ∙ ap Some (place (first.1.first j b pick below))
        where
          place : AtMost first.0.anchor b.anchor → k ≡ j
          place (inr f) = h.distinct k j first.0 b first.1.pick pick f
          place (inl f) = absurd (not-below first.0.anchor x.anchor (subst (λ (y : Anchored). AtMost first.0.anchor y.anchor) same (was.1.last k first.0 first.1.pick f)) first.1.above)

  -- what is next to the place has the place as its lower neighbour
  previous-is : (k : ℕ) → next_at next i ≡ Some k → slice_index previous k ≡ i
  previous-is k e = by (subst (λ (o : Option ℕ). NextOf all x.anchor o) e (n i x pred.pick))
    where
      by : (c : Anchored) × First all x.anchor k c → slice_index previous k ≡ i
      by (c, first) = h.distinct (slice_index previous k) i was.0 x was.1.pick pred.pick (at_most-both was.0.anchor x.anchor (upper (compared was.0.anchor x.anchor)) (was.1.last i x pred.pick first.above))
        where
          was : (y : Anchored) × Last all c.anchor (slice_index previous k) y
          was = h.before k c first.pick (nothing_below x.anchor c.anchor first.above)

          upper : AtMost was.0.anchor x.anchor ⊎ Below x.anchor was.0.anchor → AtMost was.0.anchor x.anchor
          upper (inl f) = f
          upper (inr f) = absurd (not-below c.anchor was.0.anchor (first.first (slice_index previous k) was.0 was.1.pick f) was.1.below)

  pub next-inside : (k : ℕ) → next_at next i ≡ Some k → k < length all
  next-inside k e = by (subst (λ (o : Option ℕ). NextOf all x.anchor o) e (n i x pred.pick))
    where
      by : (c : Anchored) × First all x.anchor k c → k < length all
      by (c, first) = get_within all k c first.pick

  -- the lower neighbours after the adding
  pub previous-moved : (j : ℕ) (b : Anchored) → Pick all j b → (b.anchor ≡ [] → ⊥)
      → slice_index (previouses_with previous (next_at next i) i) j ≡ (if slice_index previous j == i then length all else slice_index previous j)
  previous-moved j b pick ne = by (next_at next i) refl
    where
      inside : j < length previous
      inside = omega (arith, get_within all j b pick, long_previous)

      kept : (next_at next i ≡ Some j → ⊥) → (s : Bool) → (slice_index previous j == i) ≡ s → slice_index previous j ≡ (if s then length all else slice_index previous j)
      kept f true e = absurd (f (next-is j b pick ne (eqb-true (slice_index previous j) i e)))
      kept f false e = refl

      other : (next_at next i ≡ Some j → ⊥) → slice_index previous j ≡ (if slice_index previous j == i then length all else slice_index previous j)
      other f = kept f (slice_index previous j == i) refl

      none_some : next_at next i ≡ None → next_at next i ≡ Some j → ⊥
      none_some e f = absurd cc

      by : (o : Option ℕ) → next_at next i ≡ o → slice_index (previouses_with previous o i) j ≡ (if slice_index previous j == i then length all else slice_index previous j)
      by None e = get_or-append previous (i ∷ []) 0 j inside ∙ other (none_some e)
      by (Some k) e = get_or-append (set previous k (length previous)) (i ∷ []) 0 j (omega (arith, inside, length-set previous k (length previous))) ∙ by_place (cases_order j k)
        where
          apart : (j ≡ k → ⊥) → get_or (set previous k (length previous)) j 0 ≡ (if slice_index previous j == i then length all else slice_index previous j)
          apart ne_k = get_or-set_other previous k j (length previous) 0 ne_k ∙ other (λ f. ne_k (some_place j k (sym f ∙ e)))
            where
              some_place : (p q : ℕ) → Some p ≡ Some q → p ≡ q
              some_place p q e = cc

          by_place : (j ≡ k) ⊎ ((j < k) ⊎ (k < j)) → get_or (set previous k (length previous)) j 0 ≡ (if slice_index previous j == i then length all else slice_index previous j)
          by_place (inr (inl lt)) = apart (λ f. absurd (omega (arith, f, lt)))
          by_place (inr (inr lt)) = apart (λ f. absurd (omega (arith, f, lt)))
          by_place (inl f) =
              let yes : (slice_index previous j == i) ≡ true = eq-eqb (slice_index previous j) i (ap (slice_index previous) f ∙ previous-is k e) in
              ap (λ z. get_or (set previous k (length previous)) z 0) f
              ∙ get_or-set_same previous k (length previous) 0 (subst (λ z. z < length previous) f inside)
              ∙ long_previous
              ∙ sym (ap (λ (s : Bool). if s then length all else slice_index previous j) yes)

  pub previous-new : slice_index (previouses_with previous (next_at next i) i) (length all) ≡ i
  previous-new = by (next_at next i)
    where
      by : (o : Option ℕ) → slice_index (previouses_with previous o i) (length all) ≡ i
      by None = get_or-last previous i 0 (length all) (sym long_previous)
      by (Some k) = get_or-last (set previous k (length previous)) i 0 (length all) (sym long_previous ∙ sym (length-set previous k (length previous)))

  -- the upper neighbours after the adding
  pub nexts-stand : NextsStand (all ++ a ∷ []) (nexts_with next i)
  nexts-stand j b pick = by (get_snoc all a b j pick)
    where
      changed : List (Option ℕ)
      changed = set next i (Some (length next))

      long_changed : length changed ≡ length all
      long_changed = length-set next i (Some (length next)) ∙ long_next

      at_old : (k : ℕ) → k < length all → next_at (nexts_with next i) k ≡ get_or changed k None
      at_old k lt = get_or-append changed (next_at next i ∷ []) None k (omega (arith, long_changed))

      -- next to the place comes the new one
      new_next : First (all ++ a ∷ []) x.anchor (length next) a
      new_next = record { pick = ap (slice_get (all ++ a ∷ [])) long_next ∙ get_last all a; above = pred.below; first = first }
        where
          old : (k : ℕ) (c : Anchored) → Pick all k c → Below x.anchor c.anchor → AtMost a.anchor c.anchor ⊎ Below c.anchor a.anchor → AtMost a.anchor c.anchor
          old k c e f (inl g) = g
          old k c e f (inr g) = absurd (not-below c.anchor x.anchor (pred.last k c e g) f)

          first : (k : ℕ) (c : Anchored) → Pick (all ++ a ∷ []) k c → Below x.anchor c.anchor → AtMost a.anchor c.anchor
          first k c e f = split (get_snoc all a c k e)
            where
              split : Pick all k c ⊎ ((k ≡ length all) × (a ≡ c)) → AtMost a.anchor c.anchor
              split (inl g) = old k c g f (compared a.anchor c.anchor)
              split (inr g) = inr (ap (λ (z : Anchored). z.anchor) g.1)

      -- what was next to another place still is
      kept_none : (c : Anchored) → (c.anchor ≡ x.anchor → ⊥) → (k : ℕ) → Pick all k c → NextOf all c.anchor None → NextOf (all ++ a ∷ []) c.anchor None
      kept_none c ne k e f m d g over = split (get_snoc all a d m g)
        where
          lower : AtMost c.anchor x.anchor → ⊥
          lower (inl l) = f i x pred.pick l
          lower (inr l) = ne l

          split : Pick all m d ⊎ ((m ≡ length all) × (a ≡ d)) → ⊥
          split (inl l) = f m d l over
          split (inr l) = lower (pred.last k c e (subst (λ (z : Anchored). Below c.anchor z.anchor) (sym l.1) over))

      kept_some : (c : Anchored) (p : ℕ) → (c.anchor ≡ x.anchor → ⊥) → (k : ℕ) → Pick all k c → NextOf all c.anchor (Some p) → NextOf (all ++ a ∷ []) c.anchor (Some p)
      kept_some c p ne k e (d, f) = (d, record { pick = get_more all (a ∷ []) p d f.pick; above = f.above; first = first })
        where
          lower : AtMost c.anchor x.anchor → AtMost d.anchor a.anchor
          lower (inl l) = inl (at_most-below d.anchor x.anchor a.anchor (f.first i x pred.pick l) pred.below)
          lower (inr l) = absurd (ne l)

          first : (m : ℕ) (g : Anchored) → Pick (all ++ a ∷ []) m g → Below c.anchor g.anchor → AtMost d.anchor g.anchor
          first m g l over = split (get_snoc all a g m l)
            where
              split : Pick all m g ⊎ ((m ≡ length all) × (a ≡ g)) → AtMost d.anchor g.anchor
              split (inl q) = f.first m g q over
              split (inr q) = subst (λ (z : Anchored). AtMost d.anchor z.anchor) q.1 (lower (pred.last k c e (subst (λ (z : Anchored). Below c.anchor z.anchor) (sym q.1) over)))

      kept : (c : Anchored) (o : Option ℕ) → (c.anchor ≡ x.anchor → ⊥) → (k : ℕ) → Pick all k c → NextOf all c.anchor o → NextOf (all ++ a ∷ []) c.anchor o
      kept c None ne k e f = kept_none c ne k e f
      kept c (Some p) ne k e f = kept_some c p ne k e f

      -- next to the new one comes what was next to the place
      after_none : NextOf all x.anchor None → NextOf (all ++ a ∷ []) a.anchor None
      after_none f m d g over = split (get_snoc all a d m g)
        where
          split : Pick all m d ⊎ ((m ≡ length all) × (a ≡ d)) → ⊥
          split (inl l) = f m d l (below-trans x.anchor a.anchor d.anchor pred.below over)
          split (inr l) = below-irrefl a.anchor (subst (λ (z : Anchored). Below a.anchor z.anchor) (sym l.1) over)

      after_some : (p : ℕ) → NextOf all x.anchor (Some p) → NextOf (all ++ a ∷ []) a.anchor (Some p)
      after_some p (d, f) = (d, record { pick = get_more all (a ∷ []) p d f.pick; above = above (compared a.anchor d.anchor); first = first })
        where
          above : AtMost a.anchor d.anchor ⊎ Below d.anchor a.anchor → Below a.anchor d.anchor
          above (inl (inl l)) = l
          above (inl (inr l)) = absurd (new p d f.pick (sym l))
          above (inr l) = absurd (not-below d.anchor x.anchor (pred.last p d f.pick l) f.above)

          first : (m : ℕ) (g : Anchored) → Pick (all ++ a ∷ []) m g → Below a.anchor g.anchor → AtMost d.anchor g.anchor
          first m g l over = split (get_snoc all a g m l)
            where
              split : Pick all m g ⊎ ((m ≡ length all) × (a ≡ g)) → AtMost d.anchor g.anchor
              split (inl q) = f.first m g q (below-trans x.anchor a.anchor g.anchor pred.below over)
              split (inr q) = absurd (below-irrefl a.anchor (subst (λ (z : Anchored). Below a.anchor z.anchor) (sym q.1) over))

      after_new : (o : Option ℕ) → NextOf all x.anchor o → NextOf (all ++ a ∷ []) a.anchor o
      after_new None f = after_none f
      after_new (Some p) f = after_some p f

      by : Pick all j b ⊎ ((j ≡ length all) × (a ≡ b)) → NextOf (all ++ a ∷ []) b.anchor (next_at (nexts_with next i) j)
      by (inr e) =
          let here : next_at (nexts_with next i) j ≡ next_at next i = get_or-last changed (next_at next i) None j (e.0 ∙ sym long_changed) in
          subst (λ (o : Option ℕ). NextOf (all ++ a ∷ []) b.anchor o) (sym here) (subst (λ (z : Anchored). NextOf (all ++ a ∷ []) z.anchor (next_at next i)) e.1 (after_new (next_at next i) (n i x pred.pick)))
      by (inl e) = place (cases_order j i)
        where
          inside : j < length all
          inside = get_within all j b e

          other : (j ≡ i → ⊥) → NextOf (all ++ a ∷ []) b.anchor (next_at (nexts_with next i) j)
          other ne =
              let here : next_at (nexts_with next i) j ≡ next_at next j = at_old j inside ∙ get_or-set_other next i j (Some (length next)) None ne in
              subst (λ (o : Option ℕ). NextOf (all ++ a ∷ []) b.anchor o) (sym here) (kept b (next_at next j) (λ f. ne (h.distinct j i b x e pred.pick f)) j e (n j b e))

          place : (j ≡ i) ⊎ ((j < i) ⊎ (i < j)) → NextOf (all ++ a ∷ []) b.anchor (next_at (nexts_with next i) j)
          place (inr (inl lt)) = other (λ f. absurd (omega (arith, f, lt)))
          place (inr (inr lt)) = other (λ f. absurd (omega (arith, f, lt)))
          place (inl f) =
              let same : b ≡ x = some_injective b x (sym e ∙ ap (slice_get all) f ∙ pred.pick) in
              let here : next_at (nexts_with next i) j ≡ Some (length next) = at_old j inside ∙ ap (λ z. get_or changed z None) f ∙ get_or-set_same next i (Some (length next)) None (omega (arith, f, inside, long_next)) in
              subst (λ (o : Option ℕ). NextOf (all ++ a ∷ []) b.anchor o) (sym here) (subst (λ (z : Anchored). NextOf (all ++ a ∷ []) z.anchor (Some (length next))) (sym same) (a, new_next))
