-- The pairs of a leaf after a put and after a split. To know: `leaf-put`, `covered-with_pair`, `leaf-left`, `leaf-right`, `split-inside`, `PartsAt-one`.
use Rattle.std.proofs.Common.{◌≡◌, ℕ, zero, suc, ◌+◌, ◌-◌, ◌<◌, ◌≤◌, Bool, true, false, get_or, ◌⊎◌, inl, inr, List, [], ◌∷◌, length, take, drop, refl, sym, ap, ◌∙◌, subst, arith}
use Rattle.std.specs.Prelude.{Option, Some, None, slice_get, if◌then◌else◌}
use Rattle.std.specs.List.{AllByRecursion}
use Rattle.std.specs.Ordering.{ordering_then, is_lt, is_gt}
use Rattle.std.specs.Cmp.{nat_cmp_is}
use Rattle.std.specs.declared.cmp.Ordering.TheVariants.{Less, Equal}
use Rattle.std.proofs.lemmas.List.{take-append-drop}
use Rattle.rdb_base.specs.Order.{key_cmp}
use Rattle.rdb_base.specs.Runs.{IsRun, IsBelowAll, AreBelow}
use Rattle.rdb_base.specs.Levels.{with_pair, pairs_below, pairs_above}
use Rattle.rdb_base.specs.Ranges.{in_range, IsBelow, NotBelow}
use Rattle.rdb_base.specs.declared.pair.Pair.{Pair}
use Rattle.rdb_base.proofs.KeyOrder.{total}
use Rattle.rdb_base.proofs.Lists.{all-append, all-filter}
use Rattle.rdb_base.proofs.OrderLemmas.{le_lt, lt_not}
use Rattle.rdb_base.proofs.RangeLemmas.{range_from, range_to}
use Rattle.rdb_base.proofs.RunLemmas.{IsRun-with_pair, IsRun-front, IsRun-back}
use Rattle.worm_leaf.proofs.PartingLemmas.{IsAnchor-one}
use Rattle.worm_leaf.specs.Anchors.{IsAnchor, PartsAt}
use Rattle.worm_leaf.specs.Leaves.{LeafState, IsLeaf, AreCovered, covers}
use Rattle.worm_leaf.specs.declared.limits.TheConstants.{LEAF_PAIRS_MAX, LEAF_PAIRS_KEPT}

-- with a pair in its place
pub covered-with_pair : (leaf : LeafState) (pairs : List Pair) (p : Pair) → AreCovered leaf pairs → covers leaf p.key ≡ true → AreCovered leaf (with_pair pairs p)
covered-with_pair leaf pairs p all is =
    let P : Pair → Type 0 = λ (q : Pair). covers leaf q.key ≡ true in
    all-append P (pairs_below p.key pairs) (p ∷ pairs_above p.key pairs)
    (all-filter P (λ (q : Pair). is_lt (key_cmp q.key p.key)) pairs all)
    (is, all-filter P (λ (q : Pair). is_gt (key_cmp q.key p.key)) pairs all)

pub leaf-put : (low : List ℕ) (high : Option (List ℕ)) (pairs new : List Pair) (p : Pair) → IsLeaf (record { low = low; high = high; pairs = pairs }) → in_range low high p.key ≡ true
    → new ≡ with_pair pairs p → length new ≤ LEAF_PAIRS_MAX → IsLeaf (record { low = low; high = high; pairs = new })
leaf-put low high pairs new p leaf is set most = record {
  rises = subst IsRun (sym set) (IsRun-with_pair pairs p leaf.rises);
  covered = subst (AreCovered (record { low = low; high = high; pairs = pairs })) (sym set) (covered-with_pair (record { low = low; high = high; pairs = pairs }) pairs p leaf.covered is);
  most = most;
}

-- ---- the two sides of a split

-- the pairs up to a place are below what is above the key there
below-take : (run : List Pair) (n : ℕ) (last : Pair) (key : List ℕ) → IsRun run → slice_get run n ≡ Some last → key_cmp last.key key ≡ Less → AreBelow (take (suc n) run) key
below-take [] n last key rises at lt = absurd cc
below-take (p ∷ ps) zero last key rises at lt = (subst (λ (q : Pair). key_cmp q.key key ≡ Less) (sym (same p last at)) lt, tt)
  where
    same : (p q : Pair) → Some p ≡ Some q → p ≡ q
    same p q e = cc
below-take (p ∷ ps) (suc n) last key rises at lt = (total.trans p.key last.key key (below_at ps n rises.0 at) lt, below-take ps n last key rises.1 at lt)
  where
    below_at : (qs : List Pair) (m : ℕ) → IsBelowAll p.key qs → slice_get qs m ≡ Some last → key_cmp p.key last.key ≡ Less
    below_at [] m all e = absurd cc
    below_at (q ∷ qs) zero all e = subst (λ (z : Pair). key_cmp p.key z.key ≡ Less) (same q last e) all.0
      where
        same : (p q : Pair) → Some p ≡ Some q → p ≡ q
        same p q e = cc
    below_at (q ∷ qs) (suc m) all e = below_at qs m all.1 e

-- the pairs from a place on are not below what the key there is not below
from-drop : (run : List Pair) (n : ℕ) (first : Pair) (key : List ℕ) → IsRun run → slice_get run n ≡ Some first → NotBelow first.key key → AllByRecursion (λ (p : Pair). NotBelow p.key key) (drop n run)
from-drop [] n first key rises at le = absurd cc
from-drop (p ∷ ps) zero first key rises at le = (here, rest ps rises.0)
  where
    same : (p q : Pair) → Some p ≡ Some q → p ≡ q
    same p q e = cc

    here : NotBelow p.key key
    here = subst (λ (z : Pair). NotBelow z.key key) (sym (same p first at)) le

    rest : (qs : List Pair) → IsBelowAll p.key qs → AllByRecursion (λ (q : Pair). NotBelow q.key key) qs
    rest [] all = tt
    rest (q ∷ qs) all = (lt_not key q.key (le_lt key p.key q.key here all.0), rest qs all.1)
from-drop (p ∷ ps) (suc n) first key rises at le = from-drop ps n first key rises.1 at le

-- no prefix is above what it begins
prefix-not_above : (n : ℕ) (key : List ℕ) → NotBelow key (take n key)
prefix-not_above zero [] e = absurd cc
prefix-not_above zero (c ∷ key) e = absurd cc
prefix-not_above (suc n) [] e = absurd cc
prefix-not_above (suc n) (c ∷ key) e = prefix-not_above n key (ap (λ r. ordering_then r (key_cmp key (take n key))) (nat_cmp_is c c Equal refl) ∙ e)

anchor-not_above : (last first anchor : List ℕ) → IsAnchor last first anchor → NotBelow first anchor
anchor-not_above last first anchor is = subst (λ (z : List ℕ). NotBelow first z) (sym is.prefix) (prefix-not_above (length anchor) first)

-- what held of all holds of the front and of the rest
all-take : (P : Pair → Type 0) (n : ℕ) (xs : List Pair) → AllByRecursion P xs → AllByRecursion P (take n xs)
all-take P zero xs all = tt
all-take P (suc n) [] all = tt
all-take P (suc n) (x ∷ xs) all = (all.0, all-take P n xs all.1)

all-drop : (P : Pair → Type 0) (n : ℕ) (xs : List Pair) → AllByRecursion P xs → AllByRecursion P (drop n xs)
all-drop P zero xs all = all
all-drop P (suc n) [] all = tt
all-drop P (suc n) (x ∷ xs) all = all-drop P n xs all.1

left-covered : (low : List ℕ) (high : Option (List ℕ)) (anchor : List ℕ) (pairs : List Pair) → AllByRecursion (λ (p : Pair). in_range low high p.key ≡ true) pairs → AreBelow pairs anchor
    → AllByRecursion (λ (p : Pair). in_range low (Some anchor) p.key ≡ true) pairs
left-covered low high anchor [] all below = tt
left-covered low high anchor (p ∷ ps) all below = (range_to low (Some anchor) p.key (range_from low high p.key all.0).0 below.0, left-covered low high anchor ps all.1 below.1)

right-covered : (low : List ℕ) (high : Option (List ℕ)) (anchor : List ℕ) (pairs : List Pair) → AllByRecursion (λ (p : Pair). in_range low high p.key ≡ true) pairs
    → AllByRecursion (λ (p : Pair). NotBelow p.key anchor) pairs → AllByRecursion (λ (p : Pair). in_range anchor high p.key ≡ true) pairs
right-covered low high anchor [] all above = tt
right-covered low high anchor (p ∷ ps) all above = (range_to anchor high p.key above.0 (range_from low high p.key all.0).1, right-covered low high anchor ps all.1 above.1)

pub leaf-left : (low : List ℕ) (high : Option (List ℕ)) (pairs : List Pair) (n : ℕ) (last first : Pair) (anchor : List ℕ) → IsLeaf (record { low = low; high = high; pairs = pairs })
    → slice_get pairs n ≡ Some last → IsAnchor last.key first.key anchor → length (take (suc n) pairs) ≤ LEAF_PAIRS_MAX
    → IsLeaf (record { low = low; high = Some anchor; pairs = take (suc n) pairs })
leaf-left low high pairs n last first anchor leaf at is most = record {
  rises = IsRun-front (take (suc n) pairs) (drop (suc n) pairs) (subst IsRun (sym (take-append-drop (suc n) pairs)) leaf.rises);
  covered = left-covered low high anchor (take (suc n) pairs) (all-take (λ (p : Pair). in_range low high p.key ≡ true) (suc n) pairs leaf.covered) (below-take pairs n last anchor leaf.rises at is.above);
  most = most;
}

pub leaf-right : (low : List ℕ) (high : Option (List ℕ)) (pairs : List Pair) (n : ℕ) (last first : Pair) (anchor : List ℕ) → IsLeaf (record { low = low; high = high; pairs = pairs })
    → slice_get pairs n ≡ Some first → IsAnchor last.key first.key anchor → length (drop n pairs) ≤ LEAF_PAIRS_MAX
    → IsLeaf (record { low = anchor; high = high; pairs = drop n pairs })
leaf-right low high pairs n last first anchor leaf at is most = record {
  rises = IsRun-back (take n pairs) (drop n pairs) (subst IsRun (sym (take-append-drop n pairs)) leaf.rises);
  covered = right-covered low high anchor (drop n pairs) (all-drop (λ (p : Pair). in_range low high p.key ≡ true) n pairs leaf.covered) (from-drop pairs n first anchor leaf.rises at (anchor-not_above last.key first.key anchor is));
  most = most;
}

-- what holds of all holds of the pair at a place
all-at : (P : Pair → Type 0) (n : ℕ) (xs : List Pair) (p : Pair) → AllByRecursion P xs → slice_get xs n ≡ Some p → P p
all-at P n [] p all at = absurd cc
all-at P zero (x ∷ xs) p all at = subst P (same x p at) all.0
  where
    same : (x p : Pair) → Some x ≡ Some p → x ≡ p
    same x p e = cc
all-at P (suc n) (x ∷ xs) p all at = all-at P n xs p all.1 at

-- what a key below the high bound is not below is below it, too
below-bound : (high : Option (List ℕ)) (key at : List ℕ) → NotBelow key at → IsBelow high key → IsBelow high at
below-bound None key at le below = tt
below-bound (Some high) key at le below = le_lt at key high le below

-- the anchor is above the low bound, and in the range
anchor-inside : (leaf : LeafState) (n m : ℕ) (last first : Pair) (anchor : List ℕ) → IsLeaf leaf → slice_get leaf.pairs n ≡ Some last → slice_get leaf.pairs m ≡ Some first
    → IsAnchor last.key first.key anchor → (key_cmp leaf.low anchor ≡ Less) × (covers leaf anchor ≡ true)
anchor-inside leaf n m last first anchor is at next parts =
    let P : Pair → Type 0 = λ (p : Pair). covers leaf p.key ≡ true in
    let left = range_from leaf.low leaf.high last.key (all-at P n leaf.pairs last is.covered at) in
    let right = range_from leaf.low leaf.high first.key (all-at P m leaf.pairs first is.covered next) in
    let above : key_cmp leaf.low anchor ≡ Less = le_lt leaf.low last.key anchor left.0 parts.above in (
      above,
      range_to leaf.low leaf.high anchor (lt_not leaf.low anchor above) (below-bound leaf.high first.key anchor (anchor-not_above last.key first.key anchor parts) right.1),
    )

-- two neighbours of a run
pub neighbours : (run : List Pair) (n : ℕ) (last first : Pair) → IsRun run → slice_get run n ≡ Some last → slice_get run (suc n) ≡ Some first → key_cmp last.key first.key ≡ Less
neighbours [] n last first rises at next = absurd cc
neighbours (p ∷ []) n last first rises at next = absurd cc
neighbours (p ∷ q ∷ qs) zero last first rises at next = subst (λ (z : Pair). key_cmp z.key first.key ≡ Less) (same p last at) (subst (λ (z : Pair). key_cmp p.key z.key ≡ Less) (same q first next) rises.0.0)
  where
    same : (p q : Pair) → Some p ≡ Some q → p ≡ q
    same p q e = cc
neighbours (p ∷ q ∷ qs) (suc n) last first rises at next = neighbours (q ∷ qs) n last first rises.1 at next

pub neighbours_at : (run : List Pair) (place : ℕ) (last first : Pair) → IsRun run → 0 < place → slice_get run (place - 1) ≡ Some last → slice_get run place ≡ Some first → key_cmp last.key first.key ≡ Less
neighbours_at run zero last first rises some at next = absurd (omega arith)
neighbours_at run (suc n) last first rises some at next = let one : n ≡ suc n - 1 = omega arith in neighbours run n last first rises (ap (slice_get run) one ∙ at) next

-- ---- pairs at places

pub got_is : (run : List Pair) (n : ℕ) (d p : Pair) → slice_get run n ≡ Some p → get_or run n d ≡ p
got_is [] n d p e = absurd cc
got_is (x ∷ run) zero d p e = cc
got_is (x ∷ run) (suc n) d p e = got_is run n d p e

pub get-inside : (run : List Pair) (n : ℕ) (d : Pair) → n < length run → slice_get run n ≡ Some (get_or run n d)
get-inside [] n d lt = absurd (omega arith)
get-inside (x ∷ run) zero d lt = refl
get-inside (x ∷ run) (suc n) d lt = get-inside run n d (omega arith)

pub some_at : (run : List Pair) (n : ℕ) → n < length run → (p : Pair) × (slice_get run n ≡ Some p)
some_at [] n lt = absurd (omega arith)
some_at (x ∷ run) zero lt = (x, refl)
some_at (x ∷ run) (suc n) lt = some_at run n (omega arith)

-- how many pairs there are after a put
pub length-put : (there : Bool) (old new : ℕ) → new ≡ (if there then old else old + 1) → old ≤ LEAF_PAIRS_MAX → (old < LEAF_PAIRS_MAX) ⊎ (there ≡ true) → new ≤ LEAF_PAIRS_MAX
length-put true old new e le room = omega arith
length-put false old new e le (inl lt) = omega arith
length-put false old new e le (inr f) = absurd cc

-- ---- the anchor of a full leaf

-- it is above the low bound, and in the range
pub split-inside : (leaf : LeafState) (anchor : List ℕ) → IsLeaf leaf → length leaf.pairs ≡ LEAF_PAIRS_MAX → PartsAt leaf.pairs LEAF_PAIRS_KEPT anchor
    → (key_cmp leaf.low anchor ≡ Less) × (covers leaf anchor ≡ true)
split-inside leaf anchor is full parts =
    let len : length leaf.pairs ≡ 64 = full in
    let here : PartsAt leaf.pairs 32 anchor = parts in
    let last : (p : Pair) × (slice_get leaf.pairs 31 ≡ Some p) = some_at leaf.pairs 31 (omega (arith, len)) in
    let first : (p : Pair) × (slice_get leaf.pairs 32 ≡ Some p) = some_at leaf.pairs 32 (omega (arith, len)) in
    anchor-inside leaf 31 32 last.0 first.0 anchor is last.1 first.1 (here last.0 first.0 last.1 first.1)

-- there is one alone
pub PartsAt-one : (pairs : List Pair) (place : ℕ) (one other : List ℕ) → place < length pairs → PartsAt pairs place one → PartsAt pairs place other → one ≡ other
PartsAt-one pairs place one other lt is are =
    let last : (p : Pair) × (slice_get pairs (place - 1) ≡ Some p) = some_at pairs (place - 1) (omega (arith, lt)) in
    let first : (p : Pair) × (slice_get pairs place ≡ Some p) = some_at pairs place lt in
    IsAnchor-one last.0.key first.0.key one other (is last.0 first.0 last.1 first.1) (are last.0 first.0 last.1 first.1)
