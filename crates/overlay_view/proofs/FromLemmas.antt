-- Pairs from a bound on: of newer over older ones, and of a run from a place on. To know: pairs_from-over, pairs_from-place.
use Rattle.std.proofs.Common.{◌≡◌, ℕ, zero, suc, ◌<◌, Bool, true, false, List, [], ◌∷◌, length, drop, refl, sym, ap, ◌∙◌, arith}
use Rattle.std.specs.Prelude.{not}
use Rattle.std.specs.Ordering.{is_lt}
use Rattle.std.specs.declared.cmp.Ordering.TheVariants.{Equal}
use Rattle.rdb_base.specs.Order.{key_cmp}
use Rattle.rdb_base.specs.Runs.{IsRun, change_at}
use Rattle.rdb_base.specs.Levels.{over, or_change}
use Rattle.rdb_base.specs.Pages.{pairs_from}
use Rattle.rdb_base.specs.Searches.{IsPlaceOf, is_below_at}
use Rattle.rdb_base.specs.declared.pair.Pair.{Pair}
use Rattle.rdb_base.proofs.KeyOrder.{same_key}
use Rattle.rdb_base.proofs.ChangeLemmas.{change_at-filter_kept, change_at-filter_none, change_at-over}
use Rattle.rdb_base.proofs.RunLemmas.{IsRun-filter, IsRun-over}
use Rattle.rdb_base.proofs.RunEqualityLemmas.{run_ext}
use Rattle.overlay_view.proofs.ListLemmas.{filter-first}

abbrev pub is_from : List ℕ → Pair → Bool
is_from bound pair = not (is_lt (key_cmp pair.key bound))

-- what is left of newer over older pairs from a bound on
pub pairs_from-over : (newer older : List Pair) (bound : List ℕ) → IsRun older → pairs_from (over newer older) bound ≡ over (pairs_from newer bound) (pairs_from older bound)
pairs_from-over newer older bound run =
    run_ext (pairs_from (over newer older) bound) (over (pairs_from newer bound) (pairs_from older bound))
    (IsRun-filter (is_from bound) (over newer older) (IsRun-over newer older run))
    (IsRun-over (pairs_from newer bound) (pairs_from older bound) (IsRun-filter (is_from bound) older run))
    (λ key. at key (not (is_lt (key_cmp key bound))) refl)
  where
    same : (key : List ℕ) (b : Bool) → not (is_lt (key_cmp key bound)) ≡ b → (q : Pair) → key_cmp q.key key ≡ Equal → is_from bound q ≡ b
    same key b e q eq = ap (λ (k : List ℕ). not (is_lt (key_cmp k bound))) (same_key q.key key eq) ∙ e

    at : (key : List ℕ) (b : Bool) → not (is_lt (key_cmp key bound)) ≡ b → change_at (pairs_from (over newer older) bound) key ≡ change_at (over (pairs_from newer bound) (pairs_from older bound)) key
    at key true e =
        change_at-filter_kept (is_from bound) (over newer older) key (same key true e)
        ∙ change_at-over newer older key
        ∙ sym (change_at-over (pairs_from newer bound) (pairs_from older bound) key
        ∙ (λ i. or_change (change_at-filter_kept (is_from bound) newer key (same key true e) i) (change_at-filter_kept (is_from bound) older key (same key true e) i)))
    at key false e =
        change_at-filter_none (is_from bound) (over newer older) key (same key false e)
        ∙ sym (change_at-over (pairs_from newer bound) (pairs_from older bound) key
        ∙ (λ i. or_change (change_at-filter_none (is_from bound) newer key (same key false e) i) (change_at-filter_none (is_from bound) older key (same key false e) i)))

-- no key is below the bound
none_below : (pairs : List Pair) (bound : List ℕ) → ((i : ℕ) → i < length pairs → is_below_at pairs bound i ≡ false) → pairs_from pairs bound ≡ pairs
none_below [] bound f = refl
none_below (p ∷ ps) bound f =
    filter-first (is_from bound) p ps true (ap not (f 0 (omega arith)))
    ∙ ap (λ (qs : List Pair). p ∷ qs) (none_below ps bound (λ i lt. f (suc i) (omega arith)))

-- the pairs from a bound's place on are those from the bound on
pub pairs_from-place : (pairs : List Pair) (bound : List ℕ) (at : ℕ) → IsPlaceOf pairs bound at → drop at pairs ≡ pairs_from pairs bound
pairs_from-place [] bound zero turn = refl
pairs_from-place [] bound (suc at) turn = refl
pairs_from-place (p ∷ ps) bound zero turn = sym (none_below (p ∷ ps) bound (λ i lt. turn.after i (omega arith) lt))
pairs_from-place (p ∷ ps) bound (suc at) turn =
    pairs_from-place ps bound at (record { inside = omega (arith, turn.inside); before = λ i lt. turn.before (suc i) (omega arith); after = λ i le lt. turn.after (suc i) (omega arith) (omega arith) })
    ∙ sym (filter-first (is_from bound) p ps false (ap not (turn.before 0 (omega arith))))
