-- What a read of a view and of a run says of a search. To know: names_there, below_is, cost_of, held_there.
use Rattle.std.proofs.Common.{◌≡◌, ◌≢◌, ℕ, zero, suc, ◌+◌, ◌<◌, ◌≤◌, ◌^◌, ◌*◌, Bool, true, false, cond, List, [], ◌∷◌, length, map, get_or, refl, sym, ap, subst, ◌∙◌, arith}
use native.Mathlib.Numerals.{unary_clauses}
use Rattle.std.specs.Prelude.{slice_get, slice_index, Option, Some, None, ◌==◌, max, not, nat_lt, ◌&&◌}
use Rattle.std.specs.Ordering.{is_lt}
use Rattle.std.specs.declared.cmp.Ordering.{Ordering}
use Rattle.std.proofs.lemmas.Bool.Decides.{nat_tests}
use Rattle.rdb_base.specs.Order.{key_cmp}
use Rattle.rdb_base.specs.declared.pair.Pair.{Pair}
use Rattle.remix_view.specs.declared.segment.Segment.{Segment}
use Rattle.remix_view.specs.declared.selector.TheConstants.{FILLER}
use Rattle.remix_seek.specs.Reads.{KeyAt, KeyOf}
use Rattle.rdb_base.specs.Halvings.{Halved}
use Rattle.remix_seek.specs.Searches.{pair_below, AnchorAt, AnchorOf, anchor_below, key_below, below_at, place_in_run, below_in_segment, place_below, ArePairsThere, IsReadable, is_filler_at, filler_of, holds_at}
use Rattle.remix_view.specs.Views.{ViewState, IsFormed, SelectorAt, SelectorOf, OffsetAt, OffsetOf, RankAt, RankOf}
use Rattle.remix_view.specs.Selectors.{is_filler, run_in}
use Rattle.remix_view.specs.Spots.{IsSpotPlace, HasSpot}
use Rattle.remix_seek.specs.Versions.{run_at}
use Rattle.remix_seek.specs.Places.{SeekCost}
use Rattle.remix_view.proofs.WalkLemmas.{read_there, reach_there}

-- what a read of a run says of the test at its place
pub below_at-test : (run : List Pair) (place : ℕ) (read key : List ℕ) (order : Ordering) (b : Bool) → KeyAt run place read → order ≡ key_cmp read key → is_lt order ≡ b → below_at run key place ≡ b
below_at-test run place read key order b at is tests = by_pair (slice_get run place) at
  where
    by_pair : (found : Option Pair) → KeyOf found read → pair_below key found ≡ b
    by_pair None e = absurd e
    by_pair (Some p) e = ap (λ (k : List ℕ). is_lt (key_cmp k key)) (sym e) ∙ ap is_lt (sym is) ∙ tests

pub anchor_tested : (anchors : List (List ℕ)) (s : ℕ) (anchor key : List ℕ) (order : Ordering) (b : Bool) → AnchorAt anchors s anchor → order ≡ key_cmp anchor key → is_lt order ≡ b → anchor_below anchors key s ≡ b
anchor_tested anchors s anchor key order b at is tests = by_anchor (slice_get anchors s) at
  where
    by_anchor : (found : Option (List ℕ)) → AnchorOf found anchor → key_below key found ≡ b
    by_anchor None e = absurd e
    by_anchor (Some k) e = ap (λ (a : List ℕ). is_lt (key_cmp a key)) (sym e) ∙ ap is_lt (sym is) ∙ tests

-- the run of a number, of mapped runs
pub run_at-map : {A : Type 0} (f : A → List Pair) (xs : List A) (r : ℕ) (x : A) → r < length xs → x ≡ get_or xs r x → run_at (map f xs) r ≡ f x
run_at-map f [] r x h e = absurd (omega arith)
run_at-map f (y ∷ ys) zero x h e = ap f (sym e)
run_at-map f (y ∷ ys) (suc r) x h e = run_at-map f ys r x (omega arith) e

-- the pair that a selector names is there
pub record Names (runs : List (List Pair)) (number offset rank : ℕ) : Type 0 where
  pub run : number < length runs
  pub pair : offset + rank < length (run_at runs number)
  pub fits : offset + rank < 2 ^ 32

pub names_there : (runs : List (List Pair)) (view : ViewState) (s place selector run offset rank : ℕ) → run ≡ run_in selector → IsFormed view → IsReadable runs view s → place < 32 → selector ≢ FILLER → SelectorAt view s place selector → OffsetAt view s run offset → RankAt view s place run rank → Names runs run offset rank
names_there runs view s place selector run offset rank named formed readable low other sel off ranked = subst (λ (r : ℕ). Names runs r offset rank) (sym named) (by_segment (slice_get view.segments s) refl readable sel (subst (λ (r : ℕ). OffsetAt view s r offset) named off) (subst (λ (r : ℕ). RankAt view s place r rank) named ranked))
  where
    not_same : (x : ℕ) → x ≢ FILLER → (x == FILLER) ≡ false
    not_same x h = grind (arith, nat_tests)

    by_segment : (found : Option Segment) → slice_get view.segments s ≡ found → ArePairsThere runs found → SelectorOf found place selector → OffsetOf found (run_in selector) offset → RankOf found place (run_in selector) rank → Names runs (run_in selector) offset rank
    by_segment None e all sel off ranked = absurd sel
    by_segment (Some g) e all sel off ranked =
        let taken : is_filler (slice_index g.selectors place) ≡ false = ap is_filler (sym sel) ∙ not_same selector other in
        let there = all place low taken in
        let has : IsSpotPlace view s place = subst (λ (o : Option Segment). HasSpot o place) (sym e) (low, taken) in
        let here = (read_there view s place selector formed has (subst (λ (o : Option Segment). SelectorOf o place selector) (sym e) sel)).run in
        record {
          run = subst (λ (x : ℕ). run_in x < length runs) (sym sel) there.run;
          pair = subst (λ (n : ℕ). n < length (run_at runs (run_in selector))) ((λ i. sym off i + sym ranked i)) (subst (λ (x : ℕ). place_in_run g place x < length (run_at runs (run_in x))) (sym sel) there.pair);
          fits = reach_there view s place (run_in selector) offset rank formed here (subst (λ (o : Option Segment). OffsetOf o (run_in selector) offset) (sym e) off) (subst (λ (o : Option Segment). RankOf o place (run_in selector) rank) (sym e) ranked);
        }

-- what a read of the named pair says of the place
pub below_is : (runs : List (List Pair)) (view : ViewState) (s place selector run offset rank : ℕ) (read key : List ℕ) (order : Ordering) (b : Bool) → run ≡ run_in selector → selector ≢ FILLER → SelectorAt view s place selector → OffsetAt view s run offset → RankAt view s place run rank → KeyAt (run_at runs run) (offset + rank) read → order ≡ key_cmp read key → b ≡ is_lt order → b ≡ place_below runs view s key place
below_is runs view s place selector run offset rank read key order b names named sel off ranked there is tests = by_segment (slice_get view.segments s) sel (subst (λ (r : ℕ). OffsetAt view s r offset) names off) (subst (λ (r : ℕ). RankAt view s place r rank) names ranked)
  where
    at : KeyAt (run_at runs (run_in selector)) (offset + rank) read
    at = subst (λ (r : ℕ). KeyAt (run_at runs r) (offset + rank) read) names there

    not_same : (x : ℕ) → x ≢ FILLER → (x == FILLER) ≡ false
    not_same x h = grind (arith, nat_tests)

    by_segment : (found : Option Segment) → SelectorOf found place selector → OffsetOf found (run_in selector) offset → RankOf found place (run_in selector) rank → b ≡ below_in_segment runs found key place
    by_segment None sel off ranked = absurd sel
    by_segment (Some g) sel off ranked =
        sym (below_at-test (run_at runs (run_in selector)) (offset + rank) read key order b at is (sym tests))
        ∙ (λ i. below_at (run_at runs (run_in selector)) key (off i + ranked i))
        ∙ (λ i. cond (sym (not_same selector named) i) false (below_at (run_at runs (run_in selector)) key (place_in_run g place selector)))
        ∙ ap (λ (x : ℕ). cond (is_filler x) false (below_at (run_at runs (run_in x)) key (place_in_run g place x))) sel

pub filler_is : (view : ViewState) (s place selector : ℕ) (b : Bool) → SelectorAt view s place selector → (selector == FILLER) ≡ b → is_filler_at view s place ≡ b
filler_is view s place selector b sel tests = by_segment (slice_get view.segments s) sel
  where
    by_segment : (found : Option Segment) → SelectorOf found place selector → filler_of found place ≡ b
    by_segment None sel = absurd sel
    by_segment (Some g) sel = ap is_filler (sym sel) ∙ tests

pub halved-first : (test : ℕ → Bool) → test 0 ≡ true → Halved test 32 1 32
halved-first test is = record { inside = omega arith; ordered = omega arith; before = λ i h. first i h; after = λ i h g. absurd (omega arith) }
  where
    first : (i : ℕ) → i < 1 → test i ≡ true
    first zero h = is
    first (suc i) h = absurd (omega arith)

pub cost_of : (view : ViewState) (n before middle now : ℕ) → n ≡ length view.segments → ((k : ℕ) → n < 2 ^ k → middle ≤ before + k) → now ≤ middle + 5 → SeekCost view before now
cost_of view n before middle now long first rest k covers =
    let two : 2 ^ suc k ≡ 2 ^ k * 2 = simp unary_clauses refl in
    let low : length view.segments ≤ 2 ^ k = omega (arith, max-left (length view.segments) 1) in
    let some : 1 ≤ 2 ^ k = omega (arith, max-right (length view.segments) 1) in
    let h = first (suc k) (omega arith) in
    omega arith
  where
    max-left : (a b : ℕ) → a ≤ max a b
    max-left a b = omega arith

    max-right : (a b : ℕ) → b ≤ max a b
    max-right a b = omega arith

pub record IsHeld (view : ViewState) (s place : ℕ) : Type 0 where
  pub low : place < 32
  pub named : is_filler_at view s place ≡ false

pub held_there : (view : ViewState) (s place : ℕ) (b : Bool) → b ≡ true → b ≡ holds_at view s place → IsHeld view s place
held_there view s place b is e = by_tests (nat_lt place 32) (is_filler_at view s place) refl refl (sym e ∙ is)
  where
    by_tests : (l f : Bool) → nat_lt place 32 ≡ l → is_filler_at view s place ≡ f → (l && not f) ≡ true → IsHeld view s place
    by_tests true false p q h = record { low = grind (arith, nat_tests); named = q }
    by_tests true true p q h = absurd cc
    by_tests false f p q h = absurd cc

pub not_held : (view : ViewState) (s place : ℕ) (b : Bool) → b ≡ false → b ≡ holds_at view s place → place < 32 → is_filler_at view s place ≡ true
not_held view s place b no_one e low = by_tests (nat_lt place 32) (is_filler_at view s place) refl refl (sym e ∙ no_one)
  where
    by_tests : (l f : Bool) → nat_lt place 32 ≡ l → is_filler_at view s place ≡ f → (l && not f) ≡ false → is_filler_at view s place ≡ true
    by_tests true true p q h = q
    by_tests true false p q h = absurd cc
    by_tests false f p q h = absurd (grind (arith, nat_tests))
