-- Each event but a split keeps what is true of every world. To know: `sound-opening`, `sound-put`, `sound-publish`, `sound-walker`, `sound-enter`, `sound-right`, `one-covers`.
use Rattle.std.proofs.Common.{◌≡◌, ◌≢◌, ℕ, zero, suc, ◌+◌, ◌<◌, ◌≤◌, Bool, true, false, cond, List, [], ◌∷◌, length, take, drop, refl, sym, ap, ◌∙◌, subst, ⊎_elim, arith}
use Rattle.std.specs.Prelude.{slice_get, Option, Some, None}
use Rattle.std.specs.Ordering.{is_eq}
use Rattle.std.specs.declared.cmp.Ordering.{Ordering}
use Rattle.std.specs.declared.cmp.Ordering.TheVariants.{Less, Equal, Greater}
use lib.ListN.{set}
use native.Mathlib.Decide.{dec_le}
use Rattle.rdb_base.specs.Order.{key_cmp}
use Rattle.rdb_base.specs.Ranges.{NotBelow, IsBelow, in_range}
use Rattle.rdb_base.specs.Runs.{change_at}
use Rattle.rdb_base.specs.declared.pair.Pair.{Pair}
use Rattle.rdb_base.proofs.ChangeLemmas.{change_at-with_pair}
use Rattle.rdb_base.proofs.KeyOrder.{same_key, turned_greater}
use Rattle.rdb_base.proofs.OrderLemmas.{irreflexive, le_lt, le_le, lt_not}
use Rattle.rdb_base.proofs.PlaceLemmas.{get_set, length_set, get_take_from, get_take_to, get_drop, some_injective}
use Rattle.rdb_base.proofs.RangeLemmas.{range_from, range_past}
use Rattle.rdb_base.proofs.RunLemmas.{IsRun-with_pair}
use Rattle.meta_trie.specs.Tries.{Anchored, root, best_of}
use Rattle.worm_leaf.specs.Leaves.{LeafState, covers, unused}
use Rattle.worm_leaf.proofs.LeafLemmas.{covered-with_pair}
use Rattle.worm_core.specs.Events.{put_in, entered, moved, with_walker}
use Rattle.worm_core.specs.Worlds.{World, opening, walker_at, IsRightOf}
use Rattle.worm_core.specs.declared.walker.Walker.{Walker}
use Rattle.worm_core.proofs.SoundLemmas.{HasLow, EndsBy, LeafSound, LowIs, WalkerSound, Sound, low-back, low-fore}
use Rattle.worm_core.proofs.TableLemmas.{IsBestIn, cover-best, empty-not_above, passed, passed-more}
use Rattle.worm_core.proofs.WalkerLemmas.{walker_at-with_walker}

-- ---- at the beginning

only_low : (n : ℕ) (low : List ℕ) → HasLow opening.leaves n low → (n ≡ 0) × (low ≡ [])
only_low zero low h = (refl, sym h.is ∙ sym (ap (λ (l : LeafState). l.low) (some_injective unused h.leaf h.at)))
only_low (suc n) low h = let at = h.at in absurd cc

pub sound-opening : Sound [] opening
sound-opening = record {
  count = refl;
  most = omega arith;
  first = record { leaf = unused; at = refl; is = refl };
  lows = λ n low h. first_is n low (only_low n low h);
  splits = λ j s at. absurd cc;
  published = omega arith;
  apart = λ m n low a b. (only_low m low a).0 ∙ sym (only_low n low b).0;
  each = λ n leaf at. leaf_is n leaf at;
  walkers = λ n walker at. absurd cc;
}
  where
    first_is : (n : ℕ) (low : List ℕ) → (n ≡ 0) × (low ≡ []) → LowIs [] n low
    first_is zero low t = t.1
    first_is (suc n) low t = absurd (let e = t.0 in omega arith)

    first_sound : LeafSound [] opening.leaves unused
    first_sound = record {
      rises = tt;
      covered = tt;
      changes = λ key inside. refl;
      next = λ n low h lt. absurd (irreflexive [] (subst (λ (k : List ℕ). key_cmp [] k ≡ Less) (only_low n low h).1 lt));
      neighbour = λ high is. absurd cc;
    }

    leaf_is : (n : ℕ) (leaf : LeafState) → slice_get opening.leaves n ≡ Some leaf → LeafSound [] opening.leaves leaf
    leaf_is zero leaf at = subst (λ (l : LeafState). LeafSound [] opening.leaves l) (some_injective unused leaf at) first_sound
    leaf_is (suc n) leaf at = absurd cc

-- ---- one leaf at most covers a key

ends_not : (high : Option (List ℕ)) (key low : List ℕ) → IsBelow high key → NotBelow key low → EndsBy high low → ⊥
ends_not None key low below up ends = ends
ends_not (Some high) key low below up ends = ends (le_lt low key high up below)

pub one-covers : (puts : List Pair) (w : World) → Sound puts w → (i j : ℕ) (a b : LeafState) (key : List ℕ) → slice_get w.leaves i ≡ Some a → slice_get w.leaves j ≡ Some b → covers a key ≡ true → covers b key ≡ true → i ≡ j
one-covers puts w s i j a b key at_a at_b in_a in_b = by_order (key_cmp a.low b.low) refl
  where
    by_order : (r : Ordering) → key_cmp a.low b.low ≡ r → i ≡ j
    by_order Less e = absurd (ends_not a.high key b.low (range_from a.low a.high key in_a).1 (range_from b.low b.high key in_b).0 ((s.each i a at_a).next j b.low (record { leaf = b; at = at_b; is = refl }) e))
    by_order Greater e = absurd (ends_not b.high key a.low (range_from b.low b.high key in_b).1 (range_from a.low a.high key in_a).0 ((s.each j b at_b).next i a.low (record { leaf = a; at = at_a; is = refl }) (turned_greater a.low b.low e)))
    by_order Equal e = s.apart i j a.low (record { leaf = a; at = at_a; is = refl }) (record { leaf = b; at = at_b; is = sym (same_key a.low b.low e) })

-- ---- put

pub sound-put : (puts : List Pair) (w : World) (i : ℕ) (leaf : LeafState) (pair : Pair) → Sound puts w → slice_get w.leaves i ≡ Some leaf → covers leaf pair.key ≡ true
    → Sound (pair ∷ puts) (record w { leaves = set w.leaves i (put_in leaf pair) })
sound-put puts w i leaf pair s at inside = record {
  count = length_set w.leaves i (put_in leaf pair) ∙ s.count;
  most = rw (length_set w.leaves i (put_in leaf pair)) s.most;
  first = fore 0 [] s.first;
  lows = λ n low h. s.lows n low (back n low h);
  splits = λ j t is. ((s.splits j t is).0, fore (suc j) t.anchor (s.splits j t is).1);
  published = s.published;
  apart = λ m n low a b. s.apart m n low (back m low a) (back n low b);
  each = λ n l is. ⊎_elim (λ t. subst (λ (x : LeafState). LeafSound (pair ∷ puts) (set w.leaves i (put_in leaf pair)) x) t.1 mine) (λ t. other n l t.0 t.1) (get_set w.leaves i n (put_in leaf pair) l is);
  walkers = λ n walker is. walks walker (s.walkers n walker is);
}
  where
    back : (n : ℕ) (low : List ℕ) → HasLow (set w.leaves i (put_in leaf pair)) n low → HasLow w.leaves n low
    back = low-back w.leaves i leaf (put_in leaf pair) at refl

    fore : (n : ℕ) (low : List ℕ) → HasLow w.leaves n low → HasLow (set w.leaves i (put_in leaf pair)) n low
    fore = low-fore w.leaves i leaf (put_in leaf pair) at refl

    put_at : (xs ys : List Pair) (key : List ℕ) → change_at xs key ≡ change_at ys key → (b : Bool) → cond b (Some pair.change) (change_at xs key) ≡ cond b (Some pair.change) (change_at ys key)
    put_at xs ys key e true = refl
    put_at xs ys key e false = e

    mine : LeafSound (pair ∷ puts) (set w.leaves i (put_in leaf pair)) (put_in leaf pair)
    mine =
        let l = s.each i leaf at in
        record {
          rises = IsRun-with_pair leaf.pairs pair l.rises;
          covered = covered-with_pair leaf leaf.pairs pair l.covered inside;
          changes = λ key in_it. change_at-with_pair leaf.pairs pair key ∙ put_at leaf.pairs puts key (l.changes key in_it) (is_eq (key_cmp pair.key key));
          next = λ n low h lt. l.next n low (back n low h) lt;
          neighbour = λ high is. ((l.neighbour high is).0, ((l.neighbour high is).1.0, fore (l.neighbour high is).1.0 high (l.neighbour high is).1.1));
        }

    other : (n : ℕ) (l : LeafState) → n ≢ i → slice_get w.leaves n ≡ Some l → LeafSound (pair ∷ puts) (set w.leaves i (put_in leaf pair)) l
    other n l apart is =
        let o = s.each n l is in
        record {
          rises = o.rises;
          covered = o.covered;
          changes = λ key in_it. o.changes key in_it ∙ sym (by_order key in_it (key_cmp pair.key key) refl);
          next = λ m low h lt. o.next m low (back m low h) lt;
          neighbour = λ high e. ((o.neighbour high e).0, ((o.neighbour high e).1.0, fore (o.neighbour high e).1.0 high (o.neighbour high e).1.1));
        }
      where
        by_order : (key : List ℕ) → covers l key ≡ true → (r : Ordering) → key_cmp pair.key key ≡ r → cond (is_eq r) (Some pair.change) (change_at puts key) ≡ change_at puts key
        by_order key in_it Less e = refl
        by_order key in_it Greater e = refl
        by_order key in_it Equal e = absurd (apart (one-covers puts w s n i l leaf key is at in_it (rw (sym (same_key pair.key key e)) inside)))

    walks : (walker : Walker) → WalkerSound w.leaves w.splits walker → WalkerSound (set w.leaves i (put_in leaf pair)) w.splits walker
    walks walker k =
        let h = fore walker.leaf k.leaf.low (record { leaf = k.leaf; at = k.on; is = refl }) in
        record {
          leaf = h.leaf;
          on = h.at;
          from = rw (h.is) k.from;
          table = λ j t is lt up. rw (h.is) (k.table j t is lt up);
          lacked = rw (h.is) k.lacked;
          adds = k.adds;
        }

-- ---- publish

pub sound-publish : (puts : List Pair) (w : World) (adds : ℕ) → Sound puts w → adds ≤ length w.splits → Sound puts (record w { published = adds })
sound-publish puts w adds s upto = record {
  count = s.count;
  most = s.most;
  first = s.first;
  lows = s.lows;
  splits = s.splits;
  published = upto;
  apart = s.apart;
  each = s.each;
  walkers = s.walkers;
}

-- ---- a walker more, or in another place

pub sound-walker : (puts : List Pair) (w : World) (number : ℕ) (walker : Walker) → Sound puts w → WalkerSound w.leaves w.splits walker → Sound puts (record w { walkers = with_walker w.walkers number walker })
sound-walker puts w number walker s k = record {
  count = s.count;
  most = s.most;
  first = s.first;
  lows = s.lows;
  splits = s.splits;
  published = s.published;
  apart = s.apart;
  each = s.each;
  walkers = λ n other is. ⊎_elim (λ e. subst (λ (x : Walker). WalkerSound w.leaves w.splits x) e k) (λ old. s.walkers n other old) (walker_at-with_walker w.walkers number walker n other is);
}

pub sound-enter : (puts : List Pair) (w : World) (key : List ℕ) → Sound puts w → WalkerSound w.leaves w.splits (entered w.splits w.published key)
sound-enter puts w key s =
    let best = cover-best key (take w.published w.splits) in
    let h = stands best in
    record {
      leaf = h.leaf;
      on = h.at;
      from = rw (h.is) best.upto;
      table = λ j t is lt up. rw (h.is) (best.top j t (get_take_to w.splits w.published j t lt is) up);
      lacked = omega arith;
      adds = s.published;
    }
  where
    stands : IsBestIn key (take w.published w.splits) (best_of key root (take w.published w.splits)) → HasLow w.leaves (best_of key root (take w.published w.splits)).leaf (best_of key root (take w.published w.splits)).anchor
    stands best = ⊎_elim
        (λ e. subst (λ (a : Anchored). HasLow w.leaves a.leaf a.anchor) (sym e) s.first)
        (λ t. let here = s.splits t.0 _ (get_take_from w.splits w.published t.0 _ t.1) in subst (λ (n : ℕ). HasLow w.leaves n (best_of key root (take w.published w.splits)).anchor) (sym here.0) here.1)
        best.is

-- ---- right

pub sound-right : (puts : List Pair) (w : World) (walker : Walker) (leaf : LeafState) (right : ℕ) → Sound puts w → WalkerSound w.leaves w.splits walker → slice_get w.leaves walker.leaf ≡ Some leaf
    → covers leaf walker.key ≡ false → IsRightOf w.leaves leaf right → WalkerSound w.leaves w.splits (moved walker right)
sound-right puts w walker leaf right s k on out r =
    let same : k.leaf ≡ leaf = some_injective k.leaf leaf (sym k.on ∙ on) in
    let l = s.each walker.leaf leaf on in
    let low_up : key_cmp leaf.low r.other.low ≡ Less = (l.neighbour r.other.low r.meets).0 in
    let from : NotBelow walker.key leaf.low = subst (λ (x : LeafState). NotBelow walker.key x.low) same k.from in
    let past : NotBelow walker.key r.other.low = range_past leaf.low r.other.low walker.key from (subst (λ (o : Option (List ℕ)). in_range leaf.low o walker.key ≡ false) r.meets out) in
    let table : (j : ℕ) (t : Anchored) → slice_get w.splits j ≡ Some t → j < walker.adds → NotBelow walker.key t.anchor → NotBelow leaf.low t.anchor
    = λ j t is lt up. subst (λ (x : LeafState). NotBelow x.low t.anchor) same (k.table j t is lt up) in
    let few : walker.rights ≤ passed leaf.low (drop walker.adds w.splits) = subst (λ (x : LeafState). walker.rights ≤ passed x.low (drop walker.adds w.splits)) same k.lacked in
    record {
      leaf = r.other;
      on = r.at;
      from = past;
      table = λ j t is lt up. le_le t.anchor leaf.low r.other.low (table j t is lt up) (lt_not leaf.low r.other.low low_up);
      lacked = more few low_up past table right (s.lows right r.other.low (record { leaf = r.other; at = r.at; is = refl }));
      adds = k.adds;
    }
  where
    -- the next leaf begins at an anchor that the walker's table lacked
    more : walker.rights ≤ passed leaf.low (drop walker.adds w.splits) → key_cmp leaf.low r.other.low ≡ Less → NotBelow walker.key r.other.low
        → ((j : ℕ) (t : Anchored) → slice_get w.splits j ≡ Some t → j < walker.adds → NotBelow walker.key t.anchor → NotBelow leaf.low t.anchor)
        → (n : ℕ) → LowIs w.splits n r.other.low → walker.rights + 1 ≤ passed r.other.low (drop walker.adds w.splits)
    more few low_up past table zero e = absurd (empty-not_above leaf.low (rw (sym e) low_up))
    more few low_up past table (suc j) t = later (dec_le walker.adds j)
      where
        later : Dec (walker.adds ≤ j) → walker.rights + 1 ≤ passed r.other.low (drop walker.adds w.splits)
        later (no before) = absurd (table j t.0 t.1 (omega arith) (rw (t.2) past) (rw (t.2) low_up))
        later (yes le) =
            let d = get_drop w.splits walker.adds j t.0 le t.1 in
            let up = passed-more leaf.low r.other.low (drop walker.adds w.splits) d.0 t.0 d.1 t.2 low_up in
            omega arith
