-- A split keeps what is true of every world. To know: `sound-split`.
use Rattle.std.proofs.Common.{◌≡◌, ◌≢◌, ◌⊎◌, ℕ, zero, suc, ◌+◌, ◌<◌, ◌≤◌, true, List, [], ◌∷◌, ◌++◌, length, take, drop, refl, sym, ap, ◌∙◌, subst, inl, inr, ⊎_elim, arith, length-append}
use Rattle.std.specs.Prelude.{slice_get, Option, Some, None}
use Rattle.std.specs.declared.cmp.Ordering.{Ordering}
use Rattle.std.specs.declared.cmp.Ordering.TheVariants.{Less, Equal, Greater}
use lib.ListN.{set}
use Rattle.rdb_base.specs.Order.{key_cmp}
use Rattle.rdb_base.specs.Ranges.{NotBelow, IsBelow}
use Rattle.rdb_base.specs.declared.pair.Pair.{Pair}
use Rattle.rdb_base.proofs.KeyOrder.{same_key, turned_greater}
use Rattle.rdb_base.proofs.OrderLemmas.{irreflexive, lt_lt, le_le, lt_not}
use Rattle.rdb_base.proofs.PlaceLemmas.{get_set, length_set, get_more, get_last, get_snoc, drop_more, some_injective}
use Rattle.rdb_base.proofs.RangeLemmas.{range_from, range_to, below_high}
use Rattle.meta_trie.specs.Tries.{Anchored}
use Rattle.worm_leaf.specs.Leaves.{LeafState, covers}
use Rattle.worm_core.specs.Events.{left_half, right_half}
use Rattle.worm_core.specs.Worlds.{World}
use Rattle.worm_core.specs.declared.limits.TheConstants.{LEAVES_MAX}
use Rattle.worm_core.specs.declared.walker.Walker.{Walker}
use Rattle.worm_core.proofs.HalfLemmas.{Halves}
use Rattle.worm_core.proofs.SoundLemmas.{HasLow, EndsBy, LeafSound, LowIs, WalkerSound, Sound, low-back, low-fore, low-snoc_back, low-snoc_fore, low-snoc_last}
use Rattle.worm_core.proofs.TableLemmas.{passed, passed-append}

-- what ends after the anchor does not end at it
ends_past : (high : Option (List ℕ)) (anchor low : List ℕ) → IsBelow high anchor → EndsBy high low → NotBelow low anchor
ends_past None anchor low below ends = absurd ends
ends_past (Some high) anchor low below ends = λ lt. ends (lt_lt low anchor high lt below)

ends_later : (high : Option (List ℕ)) (low anchor : List ℕ) → key_cmp low anchor ≡ Less → EndsBy high low → EndsBy high anchor
ends_later None low anchor lt ends = ends
ends_later (Some high) low anchor lt ends = λ g. ends (lt_lt low anchor high lt g)

ends_not_inside : (high : Option (List ℕ)) (anchor : List ℕ) → IsBelow high anchor → EndsBy high anchor → ⊥
ends_not_inside None anchor below ends = ends
ends_not_inside (Some high) anchor below ends = ends below

-- the last of the splits
abbrev pub newest : World → List ℕ → Anchored
newest w anchor = record { anchor = anchor; leaf = length w.leaves }

-- the world after the leaf at this number was split at this anchor
abbrev pub split_at : World → ℕ → LeafState → List ℕ → World
split_at w i leaf anchor = record w {
  leaves = set w.leaves i (left_half leaf anchor) ++ right_half leaf anchor ∷ [];
  splits = w.splits ++ newest w anchor ∷ [];
}

pub sound-split : (puts : List Pair) (w : World) (i : ℕ) (leaf : LeafState) (anchor : List ℕ) → Sound puts w → slice_get w.leaves i ≡ Some leaf → length w.leaves < LEAVES_MAX → Halves leaf anchor
    → Sound puts (split_at w i leaf anchor)
sound-split puts w i leaf anchor s at few c = record {
  count = let k = s.count in omega (arith, length-append (set w.leaves i (left_half leaf anchor)) (right_half leaf anchor ∷ []), length_set w.leaves i (left_half leaf anchor), length-append w.splits (newest w anchor ∷ []));
  most = omega (arith, length-append (set w.leaves i (left_half leaf anchor)) (right_half leaf anchor ∷ []), length_set w.leaves i (left_half leaf anchor));
  first = fore 0 [] s.first;
  lows = λ n low h. ⊎_elim (λ t. lows_more n low (s.lows n low t)) (λ t. last_low n low t.0 t.1) (back n low h);
  splits = λ j t is. ⊎_elim (λ old. ((s.splits j t old).0, fore (suc j) t.anchor (s.splits j t old).1)) (λ new. newest_is j t new.0 new.1) (get_snoc w.splits (newest w anchor) t j is);
  published = let p = s.published in omega (arith, length-append w.splits (newest w anchor ∷ []));
  apart = λ m n low a b. ⊎_elim
      (λ x. ⊎_elim (λ y. s.apart m n low x y) (λ y. absurd (is_new m (subst (λ (k : List ℕ). HasLow w.leaves m k) (sym y.1) x))) (back n low b))
      (λ x. ⊎_elim (λ y. absurd (is_new n (subst (λ (k : List ℕ). HasLow w.leaves n k) (sym x.1) y))) (λ y. x.0 ∙ sym y.0) (back n low b))
      (back m low a);
  each = λ n l is. ⊎_elim
      (λ t. ⊎_elim (λ e. subst (λ (x : LeafState). LeafSound puts (split_at w i leaf anchor).leaves x) e.1 left_sound) (λ e. other_sound n l e.0 e.1) (get_set w.leaves i n (left_half leaf anchor) l t))
      (λ t. subst (λ (x : LeafState). LeafSound puts (split_at w i leaf anchor).leaves x) t.1 right_sound)
      (get_snoc (set w.leaves i (left_half leaf anchor)) (right_half leaf anchor) l n is);
  walkers = λ n walker is. walks walker (s.walkers n walker is);
}
  where
    back : (n : ℕ) (low : List ℕ) → HasLow (split_at w i leaf anchor).leaves n low → HasLow w.leaves n low ⊎ ((n ≡ length w.leaves) × (anchor ≡ low))
    back n low h = ⊎_elim
        (λ t. inl (low-back w.leaves i leaf (left_half leaf anchor) at refl n low t))
        (λ t. inr (t.0 ∙ length_set w.leaves i (left_half leaf anchor), t.1))
        (low-snoc_back (set w.leaves i (left_half leaf anchor)) (right_half leaf anchor) n low h)

    fore : (n : ℕ) (low : List ℕ) → HasLow w.leaves n low → HasLow (split_at w i leaf anchor).leaves n low
    fore n low h = low-snoc_fore (set w.leaves i (left_half leaf anchor)) (right_half leaf anchor) n low (low-fore w.leaves i leaf (left_half leaf anchor) at refl n low h)

    last : HasLow (split_at w i leaf anchor).leaves (length w.leaves) anchor
    last = subst (λ (n : ℕ). HasLow (split_at w i leaf anchor).leaves n anchor) (length_set w.leaves i (left_half leaf anchor)) (low-snoc_last (set w.leaves i (left_half leaf anchor)) (right_half leaf anchor))

    -- no leaf began at the anchor
    is_new : (n : ℕ) → HasLow w.leaves n anchor → ⊥
    is_new n h = ends_not_inside leaf.high anchor c.high ((s.each i leaf at).next n anchor h c.low)

    right_sound : LeafSound puts (split_at w i leaf anchor).leaves (right_half leaf anchor)
    right_sound =
        let l = s.each i leaf at in
        record {
          rises = c.right.rises;
          covered = c.right.covered;
          changes = λ key in_it.
              let r = range_from anchor leaf.high key in_it in
              c.right_change key r.0 ∙ l.changes key (range_to leaf.low leaf.high key (le_le leaf.low anchor key (lt_not leaf.low anchor c.low) r.0) r.1);
          next = λ n low h lt. ⊎_elim (λ t. l.next n low t (lt_lt leaf.low anchor low c.low lt)) (λ t. absurd (irreflexive anchor (subst (λ (k : List ℕ). key_cmp anchor k ≡ Less) (sym t.1) lt))) (back n low h);
          neighbour = λ high is. (subst (λ (o : Option (List ℕ)). IsBelow o anchor) is c.high, ((l.neighbour high is).1.0, fore (l.neighbour high is).1.0 high (l.neighbour high is).1.1));
        }

    left_sound : LeafSound puts (split_at w i leaf anchor).leaves (left_half leaf anchor)
    left_sound =
        let l = s.each i leaf at in
        record {
          rises = c.left.rises;
          covered = c.left.covered;
          changes = λ key in_it.
              let r = range_from leaf.low (Some anchor) key in_it in
              c.left_change key r.1 ∙ l.changes key (range_to leaf.low leaf.high key r.0 (below_high leaf.high key anchor c.high r.1));
          next = λ n low h lt. ⊎_elim (λ t. ends_past leaf.high anchor low c.high (l.next n low t lt)) (λ t. subst (λ (k : List ℕ). NotBelow k anchor) t.1 (irreflexive anchor)) (back n low h);
          neighbour = λ high is. let e = some_injective anchor high is in (subst (λ (k : List ℕ). key_cmp leaf.low k ≡ Less) e c.low, (length w.leaves, subst (λ (k : List ℕ). HasLow (split_at w i leaf anchor).leaves (length w.leaves) k) e last));
        }

    other_sound : (n : ℕ) (o : LeafState) → n ≢ i → slice_get w.leaves n ≡ Some o → LeafSound puts (split_at w i leaf anchor).leaves o
    other_sound n o apart is =
        let k = s.each n o is in
        record {
          rises = k.rises;
          covered = k.covered;
          changes = k.changes;
          next = λ m low h lt. ⊎_elim (λ t. k.next m low t lt) (λ t. subst (λ (l : List ℕ). EndsBy o.high l) t.1 (at_anchor (subst (λ (l : List ℕ). key_cmp o.low l ≡ Less) (sym t.1) lt))) (back m low h);
          neighbour = λ high e. ((k.neighbour high e).0, ((k.neighbour high e).1.0, fore (k.neighbour high e).1.0 high (k.neighbour high e).1.1));
        }
      where
        at_anchor : key_cmp o.low anchor ≡ Less → EndsBy o.high anchor
        at_anchor lt = by_order (key_cmp leaf.low o.low) refl
          where
            by_order : (r : Ordering) → key_cmp leaf.low o.low ≡ r → EndsBy o.high anchor
            by_order Less e = absurd (ends_past leaf.high anchor o.low c.high ((s.each i leaf at).next n o.low (record { leaf = o; at = is; is = refl }) e) lt)
            by_order Equal e = absurd (apart (s.apart n i o.low (record { leaf = o; at = is; is = refl }) (record { leaf = leaf; at = at; is = same_key leaf.low o.low e })))
            by_order Greater e = ends_later o.high leaf.low anchor c.low ((s.each n o is).next i leaf.low (record { leaf = leaf; at = at; is = refl }) (turned_greater leaf.low o.low e))

    lows_more : (n : ℕ) (low : List ℕ) → LowIs w.splits n low → LowIs (split_at w i leaf anchor).splits n low
    lows_more zero low e = e
    lows_more (suc j) low t = (t.0, get_more w.splits (newest w anchor ∷ []) j t.0 t.1, t.2)

    last_low : (n : ℕ) (low : List ℕ) → n ≡ length w.leaves → anchor ≡ low → LowIs (split_at w i leaf anchor).splits n low
    last_low zero low e is = let k = s.count in absurd (omega arith)
    last_low (suc j) low e is =
        let k = s.count in
        let here : length w.splits ≡ j = omega arith in
        (newest w anchor, subst (λ (m : ℕ). slice_get (split_at w i leaf anchor).splits m ≡ Some (newest w anchor)) here (get_last w.splits (newest w anchor)), is)

    walks : (walker : Walker) → WalkerSound w.leaves w.splits walker → WalkerSound (split_at w i leaf anchor).leaves (split_at w i leaf anchor).splits walker
    walks walker k =
        let h = fore walker.leaf k.leaf.low (record { leaf = k.leaf; at = k.on; is = refl }) in
        let more : walker.rights ≤ passed k.leaf.low (drop walker.adds (split_at w i leaf anchor).splits) =
        let u = passed-append k.leaf.low (drop walker.adds w.splits) (newest w anchor ∷ []) in
        let e = ap (passed k.leaf.low) (drop_more w.splits (newest w anchor ∷ []) walker.adds k.adds) in
        let was = k.lacked in omega arith in
        record {
          leaf = h.leaf;
          on = h.at;
          from = subst (λ (l : List ℕ). NotBelow walker.key l) (sym h.is) k.from;
          table = λ j t is lt up. subst (λ (l : List ℕ). NotBelow l t.anchor) (sym h.is) (⊎_elim (λ old. k.table j t old lt up) (λ new. absurd (let a = k.adds in let e = new.0 in omega arith)) (get_snoc w.splits (newest w anchor) t j is));
          lacked = subst (λ (l : List ℕ). walker.rights ≤ passed l (drop walker.adds (split_at w i leaf anchor).splits)) (sym h.is) more;
          adds = let a = k.adds in omega (arith, length-append w.splits (newest w anchor ∷ []));
        }

    newest_is : (j : ℕ) (t : Anchored) → j ≡ length w.splits → newest w anchor ≡ t → (t.leaf ≡ suc j) × HasLow (split_at w i leaf anchor).leaves (suc j) t.anchor
    newest_is j t e is =
        let k = s.count in
        let here : length w.leaves ≡ suc j = omega arith in
        subst (λ (x : Anchored). (x.leaf ≡ suc j) × HasLow (split_at w i leaf anchor).leaves (suc j) x.anchor) is (here, subst (λ (n : ℕ). HasLow (split_at w i leaf anchor).leaves n anchor) here last)
