-- Spots of a view from a place on. To know: spots_from-passed, spots_from-passed_last, spots_from-spot, spots_from-end.
use Rattle.std.proofs.Common.{◌≡◌, ◌≢◌, inl, inr, ℕ, zero, suc, ◌+◌, ◌<◌, ◌≤◌, ◌^◌, Bool, true, false, cond, List, [], ◌∷◌, ◌++◌, length, take, drop, refl, sym, ap, subst, ◌∙◌, arith, add-one, drop-cons}
use Rattle.std.proofs.Math.Seq.{take-suc}
use Rattle.std.proofs.lemmas.List.{drop_all}
use Rattle.std.specs.Prelude.{slice_get, slice_index, Option, Some, None, nat_lt, not, ◌||◌, ◌==◌}
use Rattle.std.specs.List.{flat_map}
use Rattle.std.proofs.lemmas.List.Sums.{sum_by-take-le}
use Rattle.std.proofs.lemmas.Bool.Decides.{nat_tests}
use Rattle.remix_view.specs.declared.spot.Spot.{Spot}
use Rattle.remix_view.specs.declared.segment.Segment.{Segment}
use Rattle.remix_view.specs.declared.selector.TheConstants.{FILLER}
use Rattle.remix_view.specs.Selectors.{IsSelector, is_filler, run_in, old_in, del_in}
use Rattle.remix_view.specs.Views.{ViewState, IsFormed, IsFormedSegment, SelectorAt, SelectorOf, OffsetAt, OffsetOf, RankAt, RankOf}
use Rattle.remix_view.specs.Spots.{spot_at, spots_past, spots_in, spots_from, spots_from_place, passed_of, passed_at, HasSpot, IsSpotPlace, SpotOf, SpotAt, IsAhead}
use Rattle.remix_view.proofs.Lists.{some_same, all-at, all-index}
use Rattle.std.proofs.lemmas.Option.{slice_get_within}

-- ---- the spots of a segment

spots_past-filler : (offsets before here rest : List ℕ) (x : ℕ) → here ≡ (x ∷ rest) → is_filler x ≡ true → spots_past offsets before here ≡ spots_past offsets (before ++ x ∷ []) rest
spots_past-filler offsets before here rest x e f = rw (e, f) refl

spots_past-spot : (offsets before here rest : List ℕ) (x : ℕ) → here ≡ (x ∷ rest) → is_filler x ≡ false → spots_past offsets before here ≡ spot_at offsets before x ∷ spots_past offsets (before ++ x ∷ []) rest
spots_past-spot offsets before here rest x e f = rw (e, f) refl

take-one_more : (sel : List ℕ) (j : ℕ) → j < length sel → take (j + 1) sel ≡ take j sel ++ slice_index sel j ∷ []
take-one_more sel j h = rw (add-one) (take-suc sel j 0 h)

pub spots_past-at_filler : (offsets sel : List ℕ) (j : ℕ) → j < length sel → is_filler (slice_index sel j) ≡ true → spots_past offsets (take j sel) (drop j sel) ≡ spots_past offsets (take (j + 1) sel) (drop (j + 1) sel)
spots_past-at_filler offsets sel j h f =
    spots_past-filler offsets (take j sel) (drop j sel) (drop (j + 1) sel) (slice_index sel j) (rw add-one (drop-cons sel j 0 h)) f
    ∙ ap (λ (front : List ℕ). spots_past offsets front (drop (j + 1) sel)) (sym (take-one_more sel j h))

pub spots_past-at_spot : (offsets sel : List ℕ) (j : ℕ) → j < length sel → is_filler (slice_index sel j) ≡ false → spots_past offsets (take j sel) (drop j sel) ≡ spot_at offsets (take j sel) (slice_index sel j) ∷ spots_past offsets (take (j + 1) sel) (drop (j + 1) sel)
spots_past-at_spot offsets sel j h f =
    spots_past-spot offsets (take j sel) (drop j sel) (drop (j + 1) sel) (slice_index sel j) (rw add-one (drop-cons sel j 0 h)) f
    ∙ ap (λ (front : List ℕ). spot_at offsets (take j sel) (slice_index sel j) ∷ spots_past offsets front (drop (j + 1) sel)) (sym (take-one_more sel j h))

-- ---- spots from a place of a view

pub spots_from_place-drop : (segments : List Segment) (s place : ℕ) (g : Segment) → slice_get segments s ≡ Some g → spots_from_place place (drop s segments) ≡ spots_past g.offsets (take place g.selectors) (drop place g.selectors) ++ flat_map spots_in (drop (s + 1) segments)
spots_from_place-drop [] s place g e = absurd cc
spots_from_place-drop (x ∷ xs) zero place g e = ap (λ (y : Segment). spots_past y.offsets (take place y.selectors) (drop place y.selectors) ++ flat_map spots_in xs) (some_same x g e)
spots_from_place-drop (x ∷ xs) (suc s) place g e = spots_from_place-drop xs s place g e ∙ ap (λ (n : ℕ). spots_past g.offsets (take place g.selectors) (drop place g.selectors) ++ flat_map spots_in (drop n (x ∷ xs))) (more s)
  where
    more : (n : ℕ) → suc (n + 1) ≡ suc n + 1
    more n = omega arith

pub spots_from_place-start : (segments : List Segment) → spots_from_place 0 segments ≡ flat_map spots_in segments
spots_from_place-start [] = refl
spots_from_place-start (x ∷ xs) = refl

pub spots_from-end : (view : ViewState) (s place : ℕ) → length view.segments ≤ s → spots_from view s place ≡ []
spots_from-end view s place h = rw (drop_all s view.segments h) refl

-- the place after one that is passed
pub spots_from-passed : (view : ViewState) (s place : ℕ) → IsFormed view → place < 31 → passed_at view s place ≡ true → spots_from view s (place + 1) ≡ spots_from view s place
spots_from-passed view s place formed low is = by_segment (slice_get view.segments s) refl
  where
    filler_of : (a b : ℕ) (t : Bool) → a < b → (not (nat_lt a b) || t) ≡ true → t ≡ true
    filler_of a b true h e = refl
    filler_of a b false h e = absurd (grind (arith, nat_tests))

    by_segment : (found : Option Segment) → slice_get view.segments s ≡ found → spots_from view s (place + 1) ≡ spots_from view s place
    by_segment None e = absurd (let k : false ≡ true = sym (ap (λ (o : Option Segment). passed_of o place) e) ∙ is in cc)
    by_segment (Some g) e =
        let here : (not (nat_lt place 32) || is_filler (slice_index g.selectors place)) ≡ true = sym (ap (λ (o : Option Segment). passed_of o place) e) ∙ is in
        let inside : place < length g.selectors = omega (arith, (all-at (IsFormedSegment view.runs) view.segments s g formed.each e).places) in
        spots_from_place-drop view.segments s (place + 1) g e
        ∙ ap (λ (front : List Spot). front ++ flat_map spots_in (drop (s + 1) view.segments)) (sym (spots_past-at_filler g.offsets g.selectors place inside (filler_of place 32 (is_filler (slice_index g.selectors place)) (omega arith) here)))
        ∙ sym (spots_from_place-drop view.segments s place g e)

-- the segment after one that is passed
pub spots_from-passed_last : (view : ViewState) (s place : ℕ) → IsFormed view → 31 ≤ place → passed_at view s place ≡ true → spots_from view (s + 1) 0 ≡ spots_from view s place
spots_from-passed_last view s place formed high is = by_segment (slice_get view.segments s) refl
  where
    filler_of : (a b : ℕ) (t : Bool) → a < b → (not (nat_lt a b) || t) ≡ true → t ≡ true
    filler_of a b true h e = refl
    filler_of a b false h e = absurd (grind (arith, nat_tests))

    none_left : (g : Segment) → length g.selectors ≡ 32 → (not (nat_lt place 32) || is_filler (slice_index g.selectors place)) ≡ true → spots_past g.offsets (take place g.selectors) (drop place g.selectors) ≡ []
    none_left g long here = by_place (nat_lt place 32) refl
      where
        past : (j : ℕ) → 32 ≤ j → spots_past g.offsets (take j g.selectors) (drop j g.selectors) ≡ []
        past j h = ap (λ (rest : List ℕ). spots_past g.offsets (take j g.selectors) rest) (drop_all j g.selectors (omega arith))

        by_place : (b : Bool) → nat_lt place 32 ≡ b → spots_past g.offsets (take place g.selectors) (drop place g.selectors) ≡ []
        by_place false e = past place (grind (arith, nat_tests))
        by_place true e =
            let low : place < 32 = grind (arith, nat_tests) in
            spots_past-at_filler g.offsets g.selectors place (omega arith) (filler_of place 32 (is_filler (slice_index g.selectors place)) low here)
            ∙ past (place + 1) (omega arith)

    by_segment : (found : Option Segment) → slice_get view.segments s ≡ found → spots_from view (s + 1) 0 ≡ spots_from view s place
    by_segment None e = absurd (let k : false ≡ true = sym (ap (λ (o : Option Segment). passed_of o place) e) ∙ is in cc)
    by_segment (Some g) e =
        let here : (not (nat_lt place 32) || is_filler (slice_index g.selectors place)) ≡ true = sym (ap (λ (o : Option Segment). passed_of o place) e) ∙ is in
        spots_from_place-start (drop (s + 1) view.segments)
        ∙ sym (spots_from_place-drop view.segments s place g e ∙ ap (λ (front : List Spot). front ++ flat_map spots_in (drop (s + 1) view.segments)) (none_left g (all-at (IsFormedSegment view.runs) view.segments s g formed.each e).places here))

-- a place that is not passed, of a segment that is there, has a spot
pub not_passed : (view : ViewState) (s place : ℕ) → s < length view.segments → passed_at view s place ≡ false → IsSpotPlace view s place
not_passed view s place h is = in_list view.segments s h is
  where
    both : (a b : ℕ) (t : Bool) → (not (nat_lt a b) || t) ≡ false → (a < b) × (t ≡ false)
    both a b true e = absurd (grind (arith, nat_tests))
    both a b false e = (grind (arith, nat_tests), refl)

    in_list : (segments : List Segment) (i : ℕ) → i < length segments → passed_of (slice_get segments i) place ≡ false → HasSpot (slice_get segments i) place
    in_list [] i h e = absurd (omega arith)
    in_list (x ∷ xs) zero h e = both place 32 (is_filler (slice_index x.selectors place)) e
    in_list (x ∷ xs) (suc i) h e = in_list xs i (omega arith) e

-- a spot that stands at a place is the first from there on
pub spots_from-spot : (view : ViewState) (s place : ℕ) (spot : Spot) → IsFormed view → IsSpotPlace view s place → SpotAt view s place spot → spots_from view s place ≡ spot ∷ spots_from view s (place + 1)
spots_from-spot view s place spot formed has at = by_segment (slice_get view.segments s) refl has at
  where
    by_segment : (found : Option Segment) → slice_get view.segments s ≡ found → HasSpot found place → SpotOf found place spot → spots_from view s place ≡ spot ∷ spots_from view s (place + 1)
    by_segment None e has at = absurd has
    by_segment (Some g) e has at =
        let inside : place < length g.selectors = omega (arith, (all-at (IsFormedSegment view.runs) view.segments s g formed.each e).places, has.0) in
        spots_from_place-drop view.segments s place g e
        ∙ ap (λ (front : List Spot). front ++ flat_map spots_in (drop (s + 1) view.segments)) (spots_past-at_spot g.offsets g.selectors place inside has.1)
        ∙ (λ i. sym at i ∷ sym (spots_from_place-drop view.segments s (place + 1) g e) i)

-- ---- what is read at a spot's place

pub record ReadThere (view : ViewState) (s place selector : ℕ) : Type 0 where
  pub run : run_in selector < view.runs
  pub segment : s < length view.segments

pub read_there : (view : ViewState) (s place selector : ℕ) → IsFormed view → IsSpotPlace view s place → SelectorAt view s place selector → ReadThere view s place selector
read_there view s place selector formed has at = by_segment (slice_get view.segments s) refl has at
  where
    not_filler_of : (x : ℕ) → (x == FILLER) ≡ false → x ≢ FILLER
    not_filler_of x e = grind (arith, nat_tests)

    by_segment : (found : Option Segment) → slice_get view.segments s ≡ found → HasSpot found place → SelectorOf found place selector → ReadThere view s place selector
    by_segment None e has at = absurd has
    by_segment (Some g) e has at =
        let formed_here = all-at (IsFormedSegment view.runs) view.segments s g formed.each e in
        let named : IsSelector view.runs (slice_index g.selectors place) = all-index (IsSelector view.runs) g.selectors place formed_here.named (omega (arith, formed_here.places, has.0)) in
        record { run = subst (λ (x : ℕ). run_in x < view.runs) (sym at) (named (not_filler_of (slice_index g.selectors place) has.1)); segment = slice_get_within view.segments s g e }

pub reach_there : (view : ViewState) (s place run offset rank : ℕ) → IsFormed view → run < view.runs → OffsetAt view s run offset → RankAt view s place run rank → offset + rank < 2 ^ 32
reach_there view s place run offset rank formed low off at = by_segment (slice_get view.segments s) refl off at
  where
    by_segment : (found : Option Segment) → slice_get view.segments s ≡ found → OffsetOf found run offset → RankOf found place run rank → offset + rank < 2 ^ 32
    by_segment None e off at = absurd off
    by_segment (Some g) e off at = omega (arith, (all-at (IsFormedSegment view.runs) view.segments s g formed.each e).reach run low, sum_by-take-le (λ (x : ℕ). cond (run_in x == run) 1 0) g.selectors place)

-- what a spot is made of
pub spot_made : (view : ViewState) (s place selector run offset rank : ℕ) (old del : Bool) (spot : Spot) → run ≡ run_in selector → old ≡ old_in selector → del ≡ del_in selector → SelectorAt view s place selector → OffsetAt view s run offset → RankAt view s place run rank → spot ≡ record { run = run; place = offset + rank; old = old; del = del } → SpotAt view s place spot
spot_made view s place selector run offset rank old del spot names o d sel off at e = by_segment (slice_get view.segments s) sel (subst (λ (r : ℕ). OffsetAt view s r offset) names off) (subst (λ (r : ℕ). RankAt view s place r rank) names at)
  where
    told : spot ≡ record { run = run_in selector; place = offset + rank; old = old_in selector; del = del_in selector }
    told = e ∙ (λ i. record { run = names i; place = offset + rank; old = o i; del = d i })

    by_segment : (found : Option Segment) → SelectorOf found place selector → OffsetOf found (run_in selector) offset → RankOf found place (run_in selector) rank → SpotOf found place spot
    by_segment None sel off at = absurd off
    by_segment (Some g) sel off at = told ∙ rw (off, at) (ap (λ (x : ℕ). spot_at g.offsets (take place g.selectors) x) sel)

-- a place that is passed is of a segment that is there
pub passed_there : (view : ViewState) (s place : ℕ) → passed_at view s place ≡ true → s < length view.segments
passed_there view s place is = in_list view.segments s is
  where
    in_list : (segments : List Segment) (i : ℕ) → passed_of (slice_get segments i) place ≡ true → i < length segments
    in_list [] i e = absurd cc
    in_list (x ∷ xs) zero e = omega arith
    in_list (x ∷ xs) (suc i) e = let h = in_list xs i e in omega arith

-- what a walk that stands ahead gives
pub next_there : (view : ViewState) (s place : ℕ) (spot : Spot) (before : List Spot) → IsFormed view → IsAhead view s place → s < length view.segments → (IsSpotPlace view s place → SpotAt view s place spot) → spots_from view s place ≡ before → before ≡ spot ∷ spots_from view s (place + 1)
next_there view s place spot before formed (inl ends) h at e = absurd (omega (arith, ends.0))
next_there view s place spot before formed (inr has) h at e = sym e ∙ spots_from-spot view s place spot formed has (at has)
