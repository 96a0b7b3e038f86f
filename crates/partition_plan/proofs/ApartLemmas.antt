-- Runs that lie apart at a bound. To know: `over-apart`, `run-apart`, `below-from_pairs`.
use Rattle.std.proofs.Common.{◌≡◌, ℕ, Bool, true, List, [], ◌∷◌, ◌++◌, refl, sym, ap, ◌∙◌}
use Rattle.std.specs.Prelude.{not, Option, None}
use Rattle.std.specs.List.{AllByRecursion}
use Rattle.std.specs.Ordering.{is_lt}
use Rattle.std.specs.declared.cmp.Ordering.{Ordering}
use Rattle.std.specs.declared.cmp.Ordering.TheVariants.{Less, Equal, Greater}
use Rattle.rdb_base.specs.Order.{key_cmp}
use Rattle.rdb_base.specs.Ranges.{NotBelow}
use Rattle.rdb_base.specs.Runs.{IsRun, IsBelowAll, AreBelow, change_at}
use Rattle.rdb_base.specs.Levels.{over, or_change, pairs_below}
use Rattle.rdb_base.specs.Pages.{pairs_from}
use Rattle.rdb_base.specs.declared.change.Change.{Change}
use Rattle.rdb_base.specs.declared.pair.Pair.{Pair}
use Rattle.rdb_base.proofs.KeyOrder.{total, turned_less}
use Rattle.rdb_base.proofs.OrderLemmas.{lt_le}
use Rattle.rdb_base.proofs.Lists.{all-weaker, all-filter_passes}
use Rattle.rdb_base.proofs.RunLemmas.{IsRun-append, IsRun-over, IsRun-filter, AreBelow-pairs_below}
use Rattle.rdb_base.proofs.RunEqualityLemmas.{run_ext}
use Rattle.rdb_base.proofs.ChangeLemmas.{change_at-append, change_at-over, or_change-none, change_at-filter_kept, change_at-filter_none}
use Rattle.rdb_base.proofs.MergeLemmas.{all-over}

-- no key of these is below a bound
abbrev pub AreFrom : List Pair → List ℕ → Type 0
AreFrom pairs bound = AllByRecursion (λ (pair : Pair). NotBelow pair.key bound) pairs

-- two orders are not one
not_less : (r : Ordering) (a b : List ℕ) → key_cmp a b ≡ r → not (is_lt r) ≡ true → NotBelow a b
not_less Less a b e h less = absurd cc
not_less Equal a b e h less = let no : Equal ≡ Less = sym e ∙ less in absurd cc
not_less Greater a b e h less = let no : Greater ≡ Less = sym e ∙ less in absurd cc

-- ---- a run and another above a bound of it

-- no pair of the one has a key of the other
none_below : (pairs : List Pair) (bound key : List ℕ) → AreBelow pairs bound → NotBelow key bound → change_at pairs key ≡ None
none_below [] bound key all up = refl
none_below (p ∷ ps) bound key all up = rw (lt_le p.key bound key all.0 up) (none_below ps bound key all.1 up)

none_from : (pairs : List Pair) (bound key : List ℕ) → AreFrom pairs bound → key_cmp key bound ≡ Less → change_at pairs key ≡ None
none_from [] bound key all less = refl
none_from (p ∷ ps) bound key all less = rw (turned_less key p.key (lt_le key bound p.key less all.0)) (none_from ps bound key all.1 less)

below_all : (p : Pair) (pairs : List Pair) (bound : List ℕ) → key_cmp p.key bound ≡ Less → AreFrom pairs bound → IsBelowAll p.key pairs
below_all p pairs bound less all = all-weaker (λ (q : Pair). NotBelow q.key bound) (λ (q : Pair). key_cmp p.key q.key ≡ Less) (λ q up. lt_le p.key bound q.key less up) pairs all

-- the two are one run
pub run-apart : (x y : List Pair) (bound : List ℕ) → IsRun x → IsRun y → AreBelow x bound → AreFrom y bound → IsRun (x ++ y)
run-apart x y bound rx ry bx fy = IsRun-append x y rx ry (all-weaker (λ (p : Pair). key_cmp p.key bound ≡ Less) (λ (p : Pair). IsBelowAll p.key y) (λ p less. below_all p y bound less fy) x bx)

-- newer pairs over older ones, both apart at a bound
pub over-apart : (a b x y : List Pair) (bound : List ℕ) → AreBelow a bound → AreFrom b bound → IsRun x → IsRun y → AreBelow x bound → AreFrom y bound → over (a ++ b) (x ++ y) ≡ over a x ++ over b y
over-apart a b x y bound ba fb rx ry bx fy =
    run_ext (over (a ++ b) (x ++ y)) (over a x ++ over b y)
    (IsRun-over (a ++ b) (x ++ y) (run-apart x y bound rx ry bx fy))
    (run-apart (over a x) (over b y) bound (IsRun-over a x rx) (IsRun-over b y ry)
    (all-over (λ (p : Pair). key_cmp p.key bound ≡ Less) a x ba bx)
    (all-over (λ (p : Pair). NotBelow p.key bound) b y fb fy))
    (λ key. by_order key (key_cmp key bound) refl)
  where
    left : (key : List ℕ) → change_at (over (a ++ b) (x ++ y)) key ≡ or_change (or_change (change_at a key) (change_at b key)) (or_change (change_at x key) (change_at y key))
    left key = change_at-over (a ++ b) (x ++ y) key ∙ (λ i. or_change (change_at-append a b key i) (change_at-append x y key i))

    right : (key : List ℕ) → change_at (over a x ++ over b y) key ≡ or_change (or_change (change_at a key) (change_at x key)) (or_change (change_at b key) (change_at y key))
    right key = change_at-append (over a x) (over b y) key ∙ (λ i. or_change (change_at-over a x key i) (change_at-over b y key i))

    none_none : (o p : Option Change) → or_change (or_change o None) (or_change p None) ≡ or_change (or_change o p) (or_change None None)
    none_none o p = (λ i. or_change (or_change-none o i) (or_change-none p i)) ∙ sym (or_change-none (or_change o p))

    below_it : (key : List ℕ) → key_cmp key bound ≡ Less → change_at (over (a ++ b) (x ++ y)) key ≡ change_at (over a x ++ over b y) key
    below_it key less =
        left key
        ∙ (λ i. or_change (or_change (change_at a key) (none_from b bound key fb less i)) (or_change (change_at x key) (none_from y bound key fy less i)))
        ∙ none_none (change_at a key) (change_at x key)
        ∙ (λ i. or_change (or_change (change_at a key) (change_at x key)) (or_change (sym (none_from b bound key fb less) i) (sym (none_from y bound key fy less) i)))
        ∙ sym (right key)

    from_it : (key : List ℕ) → NotBelow key bound → change_at (over (a ++ b) (x ++ y)) key ≡ change_at (over a x ++ over b y) key
    from_it key up =
        left key
        ∙ (λ i. or_change (or_change (none_below a bound key ba up i) (change_at b key)) (or_change (none_below x bound key bx up i) (change_at y key)))
        ∙ (λ i. or_change (or_change (sym (none_below a bound key ba up) i) (sym (none_below x bound key bx up) i)) (or_change (change_at b key) (change_at y key)))
        ∙ sym (right key)

    by_order : (key : List ℕ) (r : Ordering) → key_cmp key bound ≡ r → change_at (over (a ++ b) (x ++ y)) key ≡ change_at (over a x ++ over b y) key
    by_order key Less h = below_it key h
    by_order key Equal h = from_it key (not_less Equal key bound h refl)
    by_order key Greater h = from_it key (not_less Greater key bound h refl)

-- ---- pairs cut at a bound

pub AreFrom-pairs_from : (bound : List ℕ) (pairs : List Pair) → AreFrom (pairs_from pairs bound) bound
AreFrom-pairs_from bound pairs =
    all-weaker (λ (p : Pair). not (is_lt (key_cmp p.key bound)) ≡ true) (λ (p : Pair). NotBelow p.key bound) (λ p h. not_less (key_cmp p.key bound) p.key bound refl h)
    (pairs_from pairs bound) (all-filter_passes (λ (p : Pair). not (is_lt (key_cmp p.key bound))) pairs)

abbrev pub is_less : List ℕ → Pair → Bool
is_less bound p = is_lt (key_cmp p.key bound)

abbrev pub is_not : List ℕ → Pair → Bool
is_not bound p = not (is_lt (key_cmp p.key bound))

-- a run is its pairs below a bound and those from it on
pub below-from_pairs : (bound : List ℕ) (pairs : List Pair) → IsRun pairs → pairs_below bound pairs ++ pairs_from pairs bound ≡ pairs
below-from_pairs bound pairs run =
    run_ext (pairs_below bound pairs ++ pairs_from pairs bound) pairs
    (run-apart (pairs_below bound pairs) (pairs_from pairs bound) bound (IsRun-filter (is_less bound) pairs run) (IsRun-filter (is_not bound) pairs run) (AreBelow-pairs_below bound pairs) (AreFrom-pairs_from bound pairs))
    run
    (λ key. by_order key (key_cmp key bound) refl)
  where
    alike : (key : List ℕ) (q : Pair) (r : Ordering) → key_cmp q.key key ≡ Equal → key_cmp key bound ≡ r → key_cmp q.key bound ≡ r
    alike key q r e h = total.congr q.key key bound e ∙ h

    by_order : (key : List ℕ) (r : Ordering) → key_cmp key bound ≡ r → change_at (pairs_below bound pairs ++ pairs_from pairs bound) key ≡ change_at pairs key
    by_order key Less h =
        change_at-append (pairs_below bound pairs) (pairs_from pairs bound) key
        ∙ (λ i. or_change (change_at-filter_kept (is_less bound) pairs key (λ q e. ap is_lt (alike key q Less e h)) i) (change_at-filter_none (is_not bound) pairs key (λ q e. ap (λ o. not (is_lt o)) (alike key q Less e h)) i))
        ∙ or_change-none (change_at pairs key)
    by_order key Equal h =
        change_at-append (pairs_below bound pairs) (pairs_from pairs bound) key
        ∙ (λ i. or_change (change_at-filter_none (is_less bound) pairs key (λ q e. ap is_lt (alike key q Equal e h)) i) (change_at-filter_kept (is_not bound) pairs key (λ q e. ap (λ o. not (is_lt o)) (alike key q Equal e h)) i))
    by_order key Greater h =
        change_at-append (pairs_below bound pairs) (pairs_from pairs bound) key
        ∙ (λ i. or_change (change_at-filter_none (is_less bound) pairs key (λ q e. ap is_lt (alike key q Greater e h)) i) (change_at-filter_kept (is_not bound) pairs key (λ q e. ap (λ o. not (is_lt o)) (alike key q Greater e h)) i))
