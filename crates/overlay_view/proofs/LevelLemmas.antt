-- The pairs of a set that show are the puts of its level, which is a run. To know: IsRun-set_level, older_from-key, part-at_bounds.
use Rattle.std.proofs.Common.{◌≡◌, ℕ, zero, suc, ◌+◌, true, false, List, [], ◌∷◌, ◌++◌, map, refl, sym, ap, subst, ◌∙◌, arith}
use Rattle.std.specs.Prelude.{slice_get, Option, Some, None, filter, not}
use Rattle.std.specs.List.{AllByRecursion}
use Rattle.std.specs.Ordering.{is_lt}
use Rattle.std.specs.declared.cmp.Ordering.{Ordering}
use Rattle.std.specs.declared.cmp.Ordering.TheVariants.{Less, Equal, Greater}
use Rattle.rdb_base.specs.Order.{key_cmp}
use Rattle.rdb_base.specs.Ranges.{NotBelow, IsBelow, in_range}
use Rattle.rdb_base.specs.Runs.{IsRun, IsBelowAll}
use Rattle.rdb_base.specs.Levels.{level_of}
use Rattle.rdb_base.specs.Pages.{pairs_from}
use Rattle.rdb_base.specs.declared.pair.Pair.{Pair}
use Rattle.rdb_base.proofs.Lists.{all-weaker, all-append}
use Rattle.rdb_base.proofs.OrderLemmas.{irreflexive, lt_le, le_le, lt_not}
use Rattle.rdb_base.proofs.RangeLemmas.{range_from}
use Rattle.rdb_base.proofs.RunLemmas.{IsRun-append, IsRun-level_of}
use Rattle.rdb_base.proofs.MergeLemmas.{all-over}
use Rattle.remix_view.proofs.Lists.{some_same}
use Rattle.remix_view.specs.declared.walk.Walk.{Walk}
use Rattle.remix_view.specs.Views.{IsFormed}
use Rattle.remix_seek.specs.Places.{IsFirstPlace}
use Rattle.partition_set.specs.Partitions.{PartState, next_low, IsWithin, IsPart, AreParts, IsSet, set_level}
use Rattle.partition_set.specs.Bounds.{low_at, IsPartOf}
use Rattle.overlay_view.specs.Older.{shown_of, older_from}
use Rattle.overlay_view.proofs.ListLemmas.{filter-append, filter-all, filter-none}
use Rattle.overlay_view.proofs.FromLemmas.{is_from}
use Rattle.overlay_view.proofs.PutLemmas.{is_put}
use Rattle.overlay_view.proofs.ShownLemmas.{shown_in-first, shown_in-from}

-- ---- ranges

level-within : (low : List ℕ) (high : Option (List ℕ)) (runs : List (List Pair)) → AllByRecursion (IsWithin low high) runs → IsWithin low high (level_of runs)
level-within low high [] all = tt
level-within low high (r ∷ rs) all = all-over (λ (pair : Pair). in_range low high pair.key ≡ true) r (level_of rs) all.0 (level-within low high rs all.1)

-- the level of a partition is in its range
pub part-within : {T : Type 0} (run : T → List Pair) (high : Option (List ℕ)) (part : PartState T) → IsPart run high part → AllByRecursion (λ (pair : Pair). NotBelow pair.key part.low × IsBelow high pair.key) (level_of (map run part.runs))
part-within run high part is = all-weaker (λ (pair : Pair). in_range part.low high pair.key ≡ true) (λ (pair : Pair). NotBelow pair.key part.low × IsBelow high pair.key) (λ pair h. range_from part.low high pair.key h) (level_of (map run part.runs)) (level-within part.low high (map run part.runs) is.inside)

-- all keys of a set are from its first bound on
set-from : {T : Type 0} (run : T → List Pair) (p : PartState T) (ps : List (PartState T)) → AreParts run (p ∷ ps) → AllByRecursion (λ (pair : Pair). NotBelow pair.key p.low) (set_level run (p ∷ ps))
set-from run p [] all =
    all-append (λ (pair : Pair). NotBelow pair.key p.low) (level_of (map run p.runs)) []
    (all-weaker (λ (pair : Pair). NotBelow pair.key p.low × IsBelow None pair.key) (λ (pair : Pair). NotBelow pair.key p.low) (λ pair h. h.0) (level_of (map run p.runs)) (part-within run None p all.0)) tt
set-from run p (q ∷ qs) all =
    all-append (λ (pair : Pair). NotBelow pair.key p.low) (level_of (map run p.runs)) (set_level run (q ∷ qs))
    (all-weaker (λ (pair : Pair). NotBelow pair.key p.low × IsBelow (Some q.low) pair.key) (λ (pair : Pair). NotBelow pair.key p.low) (λ pair h. h.0) (level_of (map run p.runs)) (part-within run (Some q.low) p all.0))
    (all-weaker (λ (pair : Pair). NotBelow pair.key q.low) (λ (pair : Pair). NotBelow pair.key p.low) (λ pair h. le_le p.low q.low pair.key (lt_not p.low q.low all.1) h) (set_level run (q ∷ qs)) (set-from run q qs all.2))

-- the level of a set is a run
pub IsRun-set_level : {T : Type 0} (run : T → List Pair) (parts : List (PartState T)) → AreParts run parts → IsRun (set_level run parts)
IsRun-set_level run [] all = tt
IsRun-set_level run (p ∷ []) all = IsRun-append (level_of (map run p.runs)) [] (IsRun-level_of (map run p.runs)) tt (every (level_of (map run p.runs)))
  where
    every : (pairs : List Pair) → AllByRecursion (λ (x : Pair). IsBelowAll x.key []) pairs
    every [] = tt
    every (x ∷ xs) = (tt, every xs)
IsRun-set_level {T} run (p ∷ (q ∷ qs)) all =
    IsRun-append (level_of (map run p.runs)) (set_level run (q ∷ qs)) (IsRun-level_of (map run p.runs)) (IsRun-set_level run (q ∷ qs) all.2)
    (all-weaker (λ (pair : Pair). NotBelow pair.key p.low × IsBelow (Some q.low) pair.key) (λ (x : Pair). IsBelowAll x.key (set_level run (q ∷ qs)))
    (λ x h. all-weaker (λ (pair : Pair). NotBelow pair.key q.low) (λ (pair : Pair). key_cmp x.key pair.key ≡ Less) (λ pair up. lt_le x.key q.low pair.key h.1 up) (set_level run (q ∷ qs)) (set-from run q qs all.2))
    (level_of (map run p.runs)) (part-within run (Some q.low) p all.0))

-- ---- the partition at a place

-- no bound is below the first
low-rises : {T : Type 0} (run : T → List Pair) (p : PartState T) (ps : List (PartState T)) (i : ℕ) (part : PartState T) → AreParts run (p ∷ ps) → slice_get (p ∷ ps) i ≡ Some part → NotBelow part.low p.low
low-rises run p ps zero part all at = subst (λ q. NotBelow q.low p.low) (some_same p part at) (irreflexive p.low)
low-rises run p [] (suc i) part all at = absurd cc
low-rises run p (q ∷ qs) (suc i) part all at = le_le p.low q.low part.low (lt_not p.low q.low all.1) (low-rises run q qs i part all.2 at)

next_low-at : {T : Type 0} (parts : List (PartState T)) → next_low parts ≡ low_at parts 0
next_low-at [] = refl
next_low-at (p ∷ ps) = refl

-- the partition at a place ends where the next one begins
pub part-at_bounds : {T : Type 0} (run : T → List Pair) (parts : List (PartState T)) (i next : ℕ) (part : PartState T) → AreParts run parts → next ≡ i + 1 → slice_get parts i ≡ Some part → IsPart run (low_at parts next) part
part-at_bounds run [] i next part all e at = absurd cc
part-at_bounds run (p ∷ ps) i zero part all e at = absurd (omega arith)
part-at_bounds run (p ∷ ps) zero (suc n) part all e at = subst (λ (m : ℕ). IsPart run (low_at ps m) part) (zero_is n e) (subst (λ q. IsPart run (low_at ps 0) q) (some_same p part at) (subst (λ (bound : Option (List ℕ)). IsPart run bound p) (next_low-at ps) all.0))
  where
    zero_is : (n : ℕ) → suc n ≡ 0 + 1 → 0 ≡ n
    zero_is n e = omega arith
part-at_bounds run (p ∷ ps) (suc i) (suc n) part all e at = part-at_bounds run ps i n part all.2 (omega arith) at

-- ---- what shows

-- the pairs that show are the puts of the level
pub shown_of-level : {T : Type 0} (run : T → List Pair) (parts : List (PartState T)) → AllByRecursion (λ (part : PartState T). IsFormed part.view) parts → AreParts run parts → shown_of run parts ≡ filter is_put (set_level run parts)
shown_of-level run [] formed all = refl
shown_of-level run (p ∷ ps) formed all =
    (λ i. shown_in-first run p formed.0 all.0.indexed i ++ shown_of-level run ps formed.1 all.2 i)
    ∙ sym (filter-append is_put (level_of (map run p.runs)) (set_level run ps))

from-true : (bound key : List ℕ) → NotBelow key bound → not (is_lt (key_cmp key bound)) ≡ true
from-true bound key up = by_order (key_cmp key bound) refl
  where
    by_order : (r : Ordering) → key_cmp key bound ≡ r → not (is_lt r) ≡ true
    by_order Less e = absurd (up e)
    by_order Equal e = refl
    by_order Greater e = refl

from-false : (bound key : List ℕ) → key_cmp key bound ≡ Less → not (is_lt (key_cmp key bound)) ≡ false
from-false bound key lt = ap (λ (r : Ordering). not (is_lt r)) lt

-- partitions above a key: all of their pairs are from the key on
all-from : {T : Type 0} (run : T → List Pair) (parts : List (PartState T)) (key : List ℕ) → AreParts run parts → IsBelow (low_at parts 0) key → pairs_from (set_level run parts) key ≡ set_level run parts
all-from run [] key all below = refl
all-from run (q ∷ qs) key all below =
    filter-all (is_from key) (set_level run (q ∷ qs))
    (all-weaker (λ (pair : Pair). NotBelow pair.key q.low) (λ (pair : Pair). is_from key pair ≡ true) (λ pair up. from-true key pair.key (le_le key q.low pair.key (lt_not key q.low below) up)) (set_level run (q ∷ qs)) (set-from run q qs all))

-- a partition below the key: none of its pairs is
none-from : {T : Type 0} (run : T → List Pair) (p q : PartState T) (key : List ℕ) → IsPart run (Some q.low) p → NotBelow key q.low → pairs_from (level_of (map run p.runs)) key ≡ []
none-from run p q key is up =
    filter-none (is_from key) (level_of (map run p.runs))
    (all-weaker (λ (pair : Pair). NotBelow pair.key p.low × IsBelow (Some q.low) pair.key) (λ (pair : Pair). is_from key pair ≡ false) (λ pair h. from-false key pair.key (lt_le pair.key q.low key h.1 up)) (level_of (map run p.runs)) (part-within run (Some q.low) p is))

one_less : (n : ℕ) → suc n ≡ 0 + 1 → n ≡ 0
one_less n e = omega arith

from-key : {T : Type 0} (run : T → List Pair) (parts : List (PartState T)) (key : List ℕ) (i next : ℕ) (part : PartState T) (walk : Walk) → AllByRecursion (λ (p : PartState T). IsFormed p.view) parts → AreParts run parts → next ≡ i + 1 → slice_get parts i ≡ Some part → NotBelow key part.low → IsBelow (low_at parts next) key
    → IsFirstPlace (map run part.runs) part.view key walk.segment walk.place → older_from run parts i walk ≡ filter is_put (pairs_from (set_level run parts) key)
from-key run [] key i next part walk formed all e at up below first = absurd cc
from-key run (p ∷ ps) key i zero part walk formed all e at up below first = absurd (omega arith)
from-key {T} run (p ∷ ps) key zero (suc n) part walk formed all e at up below first =
    let same : part ≡ p = sym (some_same p part at) in
    let here = shown_in-from run p key walk formed.0 all.0.indexed (subst (λ (q : PartState T). IsFirstPlace (map run q.runs) q.view key walk.segment walk.place) same first) in
    let later = all-from run ps key all.2 (subst (λ (m : ℕ). IsBelow (low_at ps m) key) (one_less n e) below) in
    (λ i. here i ++ shown_of-level run ps formed.1 all.2 i)
    ∙ (λ i. filter is_put (pairs_from (level_of (map run p.runs)) key) ++ filter is_put (sym later i))
    ∙ sym (filter-append is_put (pairs_from (level_of (map run p.runs)) key) (pairs_from (set_level run ps) key))
    ∙ ap (filter is_put) (sym (filter-append (is_from key) (level_of (map run p.runs)) (set_level run ps)))
from-key run (p ∷ []) key (suc i) (suc n) part walk formed all e at up below first = absurd cc
from-key run (p ∷ (q ∷ qs)) key (suc i) (suc n) part walk formed all e at up below first =
    let up_first = le_le q.low part.low key (low-rises run q qs i part all.2 at) up in
    from-key run (q ∷ qs) key i n part walk formed.1 all.2 (omega arith) at up below first
    ∙ ap (filter is_put) (ap (λ (pairs : List Pair). pairs ++ pairs_from (set_level run (q ∷ qs)) key) (sym (none-from run p q key all.0 up_first)) ∙ sym (filter-append (is_from key) (level_of (map run p.runs)) (set_level run (q ∷ qs))))

-- the pairs that show from the place of a key on are the puts of the level from the key on
pub older_from-key : {T : Type 0} (run : T → List Pair) (parts : List (PartState T)) (key : List ℕ) (number : ℕ) (walk : Walk) → AllByRecursion (λ (p : PartState T). IsFormed p.view) parts → IsSet run parts → (is : IsPartOf parts key number) → IsFirstPlace (map run is.part.runs) is.part.view key walk.segment walk.place
    → older_from run parts number walk ≡ filter is_put (pairs_from (set_level run parts) key)
older_from-key run parts key number walk formed set is first = from-key run parts key number (number + 1) is.part walk formed set.each refl is.at is.above_low is.below_next first
