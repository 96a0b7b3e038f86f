-- The partition of a key, and the level there. To know: bounds-fall, first-passes, part-of_turn, change_at-set_level.
use Rattle.std.proofs.Common.{◌≡◌, ℕ, zero, suc, ◌+◌, ◌<◌, ◌≤◌, Bool, true, false, List, [], ◌∷◌, length, map, refl, sym, ap, subst, ◌∙◌, arith}
use Rattle.std.specs.Prelude.{slice_get, Option, Some, None, not}
use Rattle.std.specs.List.{AllByRecursion}
use Rattle.std.specs.Ordering.{is_gt, is_eq}
use Rattle.std.specs.declared.cmp.Ordering.{Ordering}
use Rattle.std.specs.declared.cmp.Ordering.TheVariants.{Less, Equal, Greater}
use Rattle.std.proofs.lemmas.Option.{slice_get_within}
use Rattle.rdb_base.specs.Order.{key_cmp}
use Rattle.rdb_base.specs.Ranges.{NotBelow, IsBelow, in_range}
use Rattle.rdb_base.specs.Runs.{change_at}
use Rattle.rdb_base.specs.Levels.{level_of, or_change}
use Rattle.rdb_base.specs.Halvings.{IsFalling, Halved, IsTurn}
use Rattle.rdb_base.specs.declared.change.Change.{Change}
use Rattle.rdb_base.specs.declared.pair.Pair.{Pair}
use Rattle.rdb_base.proofs.KeyOrder.{turned_less, turned_greater, greater_from_test}
use Rattle.rdb_base.proofs.OrderLemmas.{irreflexive, lt_le, le_le, lt_not}
use Rattle.rdb_base.proofs.RangeLemmas.{range_from}
use Rattle.rdb_base.proofs.Lists.{all-weaker, all-append}
use Rattle.rdb_base.proofs.ChangeLemmas.{change_at-append, or_change-none}
use Rattle.rdb_base.proofs.MergeLemmas.{all-over}
use Rattle.remix_view.proofs.Lists.{some_same}
use Rattle.partition_set.specs.Partitions.{PartState, next_low, IsWithin, IsPart, AreParts, IsSet, set_level}
use Rattle.partition_set.specs.Bounds.{low_of, low_at, IsPartOf, bound_passes, passes_at}

-- ---- a bound that is not above a key

passes_from : (low key : List ℕ) → not (is_gt (key_cmp low key)) ≡ true → NotBelow key low
passes_from low key e less = let k = ap (λ (r : Ordering). not (is_gt r)) (turned_less key low less) in absurd (let clash = sym e ∙ k in cc)

passes_to : (low key : List ℕ) → NotBelow key low → not (is_gt (key_cmp low key)) ≡ true
passes_to low key h = by_order (key_cmp low key) refl
  where
    by_order : (r : Ordering) → key_cmp low key ≡ r → not (is_gt r) ≡ true
    by_order Less e = refl
    by_order Equal e = refl
    by_order Greater e = absurd (h (turned_greater low key e))

passes_not : (low key : List ℕ) → not (is_gt (key_cmp low key)) ≡ false → key_cmp key low ≡ Less
passes_not low key e = by_test (is_gt (key_cmp low key)) refl e
  where
    by_test : (b : Bool) → is_gt (key_cmp low key) ≡ b → not b ≡ false → key_cmp key low ≡ Less
    by_test true t f = turned_greater low key (greater_from_test (key_cmp low key) t)
    by_test false t f = absurd cc

pub none_below_empty : (key : List ℕ) → NotBelow key []
none_below_empty [] less = absurd cc
none_below_empty (x ∷ xs) less = absurd cc

part_there : {T : Type 0} (parts : List (PartState T)) (i : ℕ) → i < length parts → (p : PartState T) × (slice_get parts i ≡ Some p)
part_there [] i h = absurd (omega arith)
part_there (p ∷ ps) zero h = (p, refl)
part_there (p ∷ ps) (suc i) h = part_there ps i (omega arith)

-- ---- bounds rise

-- no bound is below the first
low-rises : {T : Type 0} (run : T → List Pair) (p : PartState T) (ps : List (PartState T)) (i : ℕ) (part : PartState T) → AreParts run (p ∷ ps) → slice_get (p ∷ ps) i ≡ Some part → NotBelow part.low p.low
low-rises run p ps zero part all at = subst (λ q. NotBelow q.low p.low) (some_same p part at) (irreflexive p.low)
low-rises run p [] (suc i) part all at = absurd cc
low-rises run p (q ∷ qs) (suc i) part all at = le_le p.low q.low part.low (lt_not p.low q.low all.1) (low-rises run q qs i part all.2 at)

lows-rise : {T : Type 0} (run : T → List Pair) (ps : List (PartState T)) (i j : ℕ) (a b : PartState T) → AreParts run ps → i ≤ j → slice_get ps i ≡ Some a → slice_get ps j ≡ Some b → NotBelow b.low a.low
lows-rise run [] i j a b all le at there = absurd cc
lows-rise run (p ∷ ps) zero j a b all le at there = subst (λ q. NotBelow b.low q.low) (some_same p a at) (low-rises run p ps j b all there)
lows-rise run (p ∷ ps) (suc i) zero a b all le at there = absurd (omega arith)
lows-rise run (p ∷ ps) (suc i) (suc j) a b all le at there = lows-rise run ps i j a b all.2 (omega arith) at there

pub bounds-fall : {T : Type 0} (run : T → List Pair) (parts : List (PartState T)) (key : List ℕ) → IsSet run parts → IsFalling (passes_at parts key) (length parts)
bounds-fall run parts key is i j le lt passes =
    let a = part_there parts i (omega arith) in
    let b = part_there parts j lt in
    let here = passes_from b.0.low key (sym (ap (λ o. bound_passes key (low_of o)) b.1) ∙ passes) in
    ap (λ o. bound_passes key (low_of o)) a.1 ∙ passes_to a.0.low key (le_le a.0.low b.0.low key (lows-rise run parts i j a.0 b.0 is.each le a.1 b.1) here)

pub first-passes : {T : Type 0} (run : T → List Pair) (parts : List (PartState T)) (key : List ℕ) → IsSet run parts → (passes_at parts key 0 ≡ true) × (0 < length parts)
first-passes run [] key is = absurd (let e = is.first in cc)
first-passes run (p ∷ ps) key is =
    let empty : p.low ≡ [] = some_same p.low [] is.first in
    (passes_to p.low key (subst (NotBelow key) (sym empty) (none_below_empty key)), omega arith)

-- nothing is known but that the first bound passes
pub bounds-start : {T : Type 0} (run : T → List Pair) (parts : List (PartState T)) (key : List ℕ) → IsSet run parts → Halved (passes_at parts key) (length parts) 1 (length parts)
bounds-start run parts key is =
    let first = first-passes run parts key is in
    record { inside = omega arith; ordered = omega (arith, first.1); before = λ i lt. subst (λ (n : ℕ). passes_at parts key n ≡ true) (omega arith) first.0; after = λ i le lt. absurd (omega arith) }

-- the partition of a key is the last one whose bound passes
pub part-of_turn : {T : Type 0} (run : T → List Pair) (parts : List (PartState T)) (key : List ℕ) (n index : ℕ) → IsTurn (passes_at parts key) (length parts) n → n ≡ index + 1 → IsPartOf parts key index
part-of_turn {T} run parts key n index turn e =
    let p = part_there parts index (omega (arith, turn.inside)) in
    record {
      part = p.0;
      at = p.1;
      above_low = passes_from p.0.low key (sym (ap (λ o. bound_passes key (low_of o)) p.1) ∙ turn.before index (omega arith));
      below_next = next (slice_get parts (index + 1)) refl;
    }
  where
    next : (found : Option (PartState T)) → slice_get parts (index + 1) ≡ found → IsBelow (low_of found) key
    next None at = tt
    next (Some q) at =
        let inside = slice_get_within parts (index + 1) q at in
        passes_not q.low key (sym (ap (λ o. bound_passes key (low_of o)) at) ∙ turn.after (index + 1) (omega arith) inside)

-- ---- the level of the key's partition

level-within : (low : List ℕ) (high : Option (List ℕ)) (runs : List (List Pair)) → AllByRecursion (IsWithin low high) runs → IsWithin low high (level_of runs)
level-within low high [] all = tt
level-within low high (r ∷ rs) all = all-over (λ (pair : Pair). in_range low high pair.key ≡ true) r (level_of rs) all.0 (level-within low high rs all.1)

-- all keys of a set are from its first bound on
set-from : {T : Type 0} (run : T → List Pair) (p : PartState T) (ps : List (PartState T)) → AreParts run (p ∷ ps) → AllByRecursion (λ (pair : Pair). NotBelow pair.key p.low) (set_level run (p ∷ ps))
set-from run p [] all = all-append (λ (pair : Pair). NotBelow pair.key p.low) (level_of (map run p.runs)) [] (all-weaker (λ (pair : Pair). in_range p.low None pair.key ≡ true) (λ (pair : Pair). NotBelow pair.key p.low) (λ pair h. (range_from p.low None pair.key h).0) (level_of (map run p.runs)) (level-within p.low None (map run p.runs) all.0.inside)) tt
set-from run p (q ∷ qs) all =
    all-append (λ (pair : Pair). NotBelow pair.key p.low) (level_of (map run p.runs)) (set_level run (q ∷ qs))
    (all-weaker (λ (pair : Pair). in_range p.low (Some q.low) pair.key ≡ true) (λ (pair : Pair). NotBelow pair.key p.low) (λ pair h. (range_from p.low (Some q.low) pair.key h).0) (level_of (map run p.runs)) (level-within p.low (Some q.low) (map run p.runs) all.0.inside))
    (all-weaker (λ (pair : Pair). NotBelow pair.key q.low) (λ (pair : Pair). NotBelow pair.key p.low) (λ pair h. le_le p.low q.low pair.key (lt_not p.low q.low all.1) h) (set_level run (q ∷ qs)) (set-from run q qs all.2))

-- no pair has the key
change-missed : (pairs : List Pair) (key : List ℕ) → AllByRecursion (λ (pair : Pair). is_eq (key_cmp pair.key key) ≡ false) pairs → change_at pairs key ≡ None
change-missed [] key all = refl
change-missed (p ∷ ps) key all = rw all.0 (change-missed ps key all.1)

-- a key from the high bound on is missed by what is below the bound
missed-above : (low high : List ℕ) (runs : List (List Pair)) (key : List ℕ) → AllByRecursion (IsWithin low (Some high)) runs → NotBelow key high → change_at (level_of runs) key ≡ None
missed-above low high runs key all above =
    change-missed (level_of runs) key (all-weaker (λ (pair : Pair). in_range low (Some high) pair.key ≡ true) (λ (pair : Pair). is_eq (key_cmp pair.key key) ≡ false)
    (λ pair h. ap is_eq (lt_le pair.key high key (range_from low (Some high) pair.key h).1 above)) (level_of runs) (level-within low (Some high) runs all))

-- a key below the first bound is missed by the set
missed-below : {T : Type 0} (run : T → List Pair) (p : PartState T) (ps : List (PartState T)) (key : List ℕ) → AreParts run (p ∷ ps) → key_cmp key p.low ≡ Less → change_at (set_level run (p ∷ ps)) key ≡ None
missed-below run p ps key all below =
    change-missed (set_level run (p ∷ ps)) key (all-weaker (λ (pair : Pair). NotBelow pair.key p.low) (λ (pair : Pair). is_eq (key_cmp pair.key key) ≡ false)
    (λ pair h. ap is_eq (turned_less key pair.key (lt_le key p.low pair.key below h))) (set_level run (p ∷ ps)) (set-from run p ps all))

change-in : {T : Type 0} (run : T → List Pair) (parts : List (PartState T)) (key : List ℕ) (index next : ℕ) (part : PartState T) → AreParts run parts → next ≡ index + 1 → slice_get parts index ≡ Some part → NotBelow key part.low → IsBelow (low_at parts next) key → change_at (set_level run parts) key ≡ change_at (level_of (map run part.runs)) key
change-in run [] key index next part all e at above below = absurd cc
change-in run (p ∷ ps) key index zero part all e at above below = absurd (omega arith)
change-in run (p ∷ []) key zero (suc n) part all e at above below =
    change_at-append (level_of (map run p.runs)) [] key ∙ or_change-none (change_at (level_of (map run p.runs)) key) ∙ ap (λ q. change_at (level_of (map run q.runs)) key) (some_same p part at)
change-in run (p ∷ (q ∷ qs)) key zero (suc zero) part all e at above below =
    change_at-append (level_of (map run p.runs)) (set_level run (q ∷ qs)) key
    ∙ ap (or_change (change_at (level_of (map run p.runs)) key)) (missed-below run q qs key all.2 below)
    ∙ or_change-none (change_at (level_of (map run p.runs)) key)
    ∙ ap (λ r. change_at (level_of (map run r.runs)) key) (some_same p part at)
change-in run (p ∷ (q ∷ qs)) key zero (suc (suc n)) part all e at above below = absurd (omega arith)
change-in run (p ∷ []) key (suc i) (suc n) part all e at above below = absurd cc
change-in run (p ∷ (q ∷ qs)) key (suc i) (suc n) part all e at above below =
    change_at-append (level_of (map run p.runs)) (set_level run (q ∷ qs)) key
    ∙ ap (λ (o : Option Change). or_change o (change_at (set_level run (q ∷ qs)) key)) (missed-above p.low q.low (map run p.runs) key all.0.inside (le_le q.low part.low key (low-rises run q qs i part all.2 at) above))
    ∙ change-in run (q ∷ qs) key i n part all.2 (omega arith) at above below

-- the change of the set's level at a key is that of the key's partition
pub change_at-set_level : {T : Type 0} (run : T → List Pair) (parts : List (PartState T)) (key : List ℕ) (index : ℕ) → IsSet run parts → (is : IsPartOf parts key index) → change_at (set_level run parts) key ≡ change_at (level_of (map run is.part.runs)) key
change_at-set_level run parts key index set is = change-in run parts key index (index + 1) is.part set.each refl is.at is.above_low is.below_next

-- the index of the key's partition stands for its runs
pub part-at : {T : Type 0} (run : T → List Pair) (parts : List (PartState T)) (index : ℕ) (part : PartState T) → AreParts run parts → slice_get parts index ≡ Some part → (high : Option (List ℕ)) × IsPart run high part
part-at run [] index part all at = absurd cc
part-at run (p ∷ ps) zero part all at = (next_low ps, subst (IsPart run (next_low ps)) (some_same p part at) all.0)
part-at run (p ∷ ps) (suc i) part all at = part-at run ps i part all.2 at
