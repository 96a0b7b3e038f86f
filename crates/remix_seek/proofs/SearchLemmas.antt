-- What a search of an index meets. To know: anchors_fall, places_fall, readable, found_none, found_place, found_after.
use Rattle.std.proofs.Common.{◌≡◌, inl, inr, ℕ, zero, suc, ◌+◌, ◌<◌, ◌≤◌, Bool, true, false, cond, List, [], ◌∷◌, length, refl, sym, ap, subst, ◌∙◌, arith}
use Rattle.std.specs.Prelude.{slice_get, slice_index, Option, Some, nat_lt}
use Rattle.std.specs.Ordering.{is_lt}
use Rattle.std.proofs.lemmas.Bool.Decides.{nat_tests}
use Rattle.rdb_base.specs.Order.{key_cmp}
use Rattle.rdb_base.specs.declared.pair.Pair.{Pair}
use Rattle.remix_view.specs.declared.segment.Segment.{Segment}
use Rattle.rdb_base.specs.Halvings.{IsFalling, IsTurn}
use Rattle.remix_seek.specs.Searches.{anchor_below, key_below, below_at, place_in_run, below_in_segment, place_below, IsThere, ArePairsThere, IsReadable, filler_of, is_filler_at}
use Rattle.remix_seek.specs.Searches.{pair_below}
use Rattle.remix_view.specs.Views.{ViewState, IsFormed}
use Rattle.remix_view.specs.Selectors.{is_filler, run_in}
use Rattle.remix_seek.specs.Versions.{Version, AreSorted, run_at}
use Rattle.remix_seek.specs.Indexes.{filled, Indexes}
use Rattle.remix_seek.specs.Places.{IsStanding, IsFirstPlace}
use Rattle.std.proofs.lemmas.Option.{slice_get_within}
use Rattle.remix_seek.proofs.VersionLemmas.{SplitsAt, below_there, found_below, sorted_falls, all_below_split}
use Rattle.remix_seek.proofs.SegmentLemmas.{start_of, filled_there, filler_there, length-anchors}
use Rattle.remix_seek.proofs.KnownLemmas.{SegmentKnown, segment_known, start_grows, start_next, start_all, segment_at, few_filled}

-- ---- the tests of the search

pub place_filled : (runs : List (List Pair)) (view : ViewState) (anchors : List (List ℕ)) (vs : List Version) (s j : ℕ) (g : Segment) (key : List ℕ) → slice_get view.segments s ≡ Some g → SegmentKnown runs view anchors vs s g → j < filled g → place_below runs view s key j ≡ below_there key vs (start_of view.segments s + j)
place_filled runs view anchors vs s j g key at known lt =
    ap (λ (o : Option Segment). below_in_segment runs o key j) at
    ∙ ap (λ (b : Bool). cond b false (below_at (run_at runs (run_in (slice_index g.selectors j))) key (place_in_run g j (slice_index g.selectors j)))) (filled_there g.selectors j known.is.closed lt)
    ∙ ap (pair_below key) (known.place j lt).pair
    ∙ sym (ap (found_below key) (known.version j lt).at)

pub place_after : (runs : List (List Pair)) (view : ViewState) (anchors : List (List ℕ)) (vs : List Version) (s j : ℕ) (g : Segment) (key : List ℕ) → slice_get view.segments s ≡ Some g → SegmentKnown runs view anchors vs s g → filled g ≤ j → j < 32 → place_below runs view s key j ≡ false
place_after runs view anchors vs s j g key at known le lt =
    ap (λ (o : Option Segment). below_in_segment runs o key j) at
    ∙ ap (λ (b : Bool). cond b false (below_at (run_at runs (run_in (slice_index g.selectors j))) key (place_in_run g j (slice_index g.selectors j)))) (filler_there g.selectors j known.is.closed le (omega (arith, known.is.places)))

pub anchor_test : (runs : List (List Pair)) (view : ViewState) (anchors : List (List ℕ)) (vs : List Version) (s : ℕ) (g : Segment) (key : List ℕ) → SegmentKnown runs view anchors vs s g → anchor_below anchors key s ≡ below_there key vs (start_of view.segments s)
anchor_test runs view anchors vs s g key known =
    ap (key_below key) known.anchor.at
    ∙ ap (λ (k : List ℕ). is_lt (key_cmp k key)) (sym known.anchor.after.2)
    ∙ sym (ap (found_below key) known.anchor.after.1)

pub anchors_fall : (runs : List (List Pair)) (view : ViewState) (anchors : List (List ℕ)) (key : List ℕ) → IsFormed view → Indexes runs view anchors → IsFalling (anchor_below anchors key) (length anchors)
anchors_fall runs view anchors key formed idx i j le lt is =
    let long : length anchors ≡ length view.segments = length-anchors runs idx.versions 0 view.segments anchors idx.anchored in
    let g = segment_at view.segments i (omega arith) in
    let h = segment_at view.segments j (omega arith) in
    let gs = segment_known runs view anchors i g.0 formed idx g.1 in
    let hs = segment_known runs view anchors j h.0 formed idx h.1 in
    anchor_test runs view anchors idx.versions i g.0 key gs
    ∙ sorted_falls idx.versions key (start_of view.segments i) (start_of view.segments j) idx.view_of.sorted (start_grows view.segments i j le) (sym (anchor_test runs view anchors idx.versions j h.0 key hs) ∙ is)

-- a place with a key below is filled
below_filled : (runs : List (List Pair)) (view : ViewState) (anchors : List (List ℕ)) (vs : List Version) (s j : ℕ) (g : Segment) (key : List ℕ) → slice_get view.segments s ≡ Some g → SegmentKnown runs view anchors vs s g → j < 32 → place_below runs view s key j ≡ true → j < filled g
below_filled runs view anchors vs s j g key at known lt is = by_test (nat_lt j (filled g)) refl
  where
    by_test : (b : Bool) → nat_lt j (filled g) ≡ b → j < filled g
    by_test true e = grind (arith, nat_tests)
    by_test false e =
        let le : filled g ≤ j = grind (arith, nat_tests) in
        let not_below = place_after runs view anchors vs s j g key at known le lt in
        absurd (cc)

pub places_fall : (runs : List (List Pair)) (view : ViewState) (anchors : List (List ℕ)) (s : ℕ) (key : List ℕ) → IsFormed view → Indexes runs view anchors → s < length view.segments → IsFalling (place_below runs view s key) 32
places_fall runs view anchors s key formed idx inside i j le lt is =
    let g = segment_at view.segments s inside in
    let known = segment_known runs view anchors s g.0 formed idx g.1 in
    let low = below_filled runs view anchors idx.versions s j g.0 key g.1 known lt is in
    place_filled runs view anchors idx.versions s i g.0 key g.1 known (omega arith)
    ∙ sorted_falls idx.versions key (start_of view.segments s + i) (start_of view.segments s + j) idx.view_of.sorted (omega arith) (sym (place_filled runs view anchors idx.versions s j g.0 key g.1 known low) ∙ is)

pub first_below : (runs : List (List Pair)) (view : ViewState) (anchors : List (List ℕ)) (s : ℕ) (key : List ℕ) → IsFormed view → Indexes runs view anchors → s < length view.segments → anchor_below anchors key s ≡ true → place_below runs view s key 0 ≡ true
first_below runs view anchors s key formed idx inside is =
    let g = segment_at view.segments s inside in
    let known = segment_known runs view anchors s g.0 formed idx g.1 in
    place_filled runs view anchors idx.versions s 0 g.0 key g.1 known known.some
    ∙ ap (below_there key idx.versions) (no_more (start_of view.segments s))
    ∙ sym (anchor_test runs view anchors idx.versions s g.0 key known)
    ∙ is
  where
    no_more : (n : ℕ) → n + 0 ≡ n
    no_more n = omega arith

-- what a selector of an index names is there
pub readable : (runs : List (List Pair)) (view : ViewState) (anchors : List (List ℕ)) (s : ℕ) → IsFormed view → Indexes runs view anchors → s < length view.segments → IsReadable runs view s
readable runs view anchors s formed idx inside =
    let g = segment_at view.segments s inside in
    let known = segment_known runs view anchors s g.0 formed idx g.1 in
    subst (ArePairsThere runs) (sym g.1) (λ j lt named. there g.0 known j lt named (nat_lt j (filled g.0)) refl)
  where
    there : (g : Segment) → SegmentKnown runs view anchors idx.versions s g → (j : ℕ) → j < 32 → is_filler (slice_index g.selectors j) ≡ false → (b : Bool) → nat_lt j (filled g) ≡ b → IsThere runs g j
    there g known j lt named true e =
        let low : j < filled g = grind (arith, nat_tests) in
        record { run = subst (λ (r : ℕ). r < length runs) (sym (known.place j low).run) (known.version j low).low; pair = slice_get_within (run_at runs (run_in (slice_index g.selectors j))) (place_in_run g j (slice_index g.selectors j)) (known.version j low).version.pair (known.place j low).pair }
    there g known j lt named false e =
        let le : filled g ≤ j = grind (arith, nat_tests) in
        let f = filler_there g.selectors j known.is.closed le (omega (arith, known.is.places)) in
        absurd cc

-- ---- the answers

splits_from : (key : List ℕ) (vs : List Version) (n : ℕ) → AreSorted vs → n ≤ length vs → ((i : ℕ) → i + 1 ≡ n → below_there key vs i ≡ true) → (below_there key vs n ≡ true → ⊥) → SplitsAt key vs n
splits_from key vs n sorted inside last none = record { inside = inside; before = λ i lt. before n i lt last; after = λ i le. after i le (below_there key vs i) refl }
  where
    before : (m i : ℕ) → i < m → ((j : ℕ) → j + 1 ≡ m → below_there key vs j ≡ true) → below_there key vs i ≡ true
    before zero i lt last = absurd (omega arith)
    before (suc m) i lt last = sorted_falls vs key i m sorted (omega arith) (last m (omega arith))

    after : (i : ℕ) → n ≤ i → (b : Bool) → below_there key vs i ≡ b → b ≡ false
    after i le false e = refl
    after i le true e = absurd (none (sorted_falls vs key n i sorted le e))

past_none : (key : List ℕ) (vs : List Version) (n : ℕ) → length vs ≤ n → below_there key vs n ≡ true → ⊥
past_none key [] n le e = absurd cc
past_none key (v ∷ vs) zero le e = absurd (omega arith)
past_none key (v ∷ vs) (suc n) le e = past_none key vs n (omega arith) e

-- where a segment begins, no key is below where its anchor is not, and none is after the last
pub none_at_start : (runs : List (List Pair)) (view : ViewState) (anchors : List (List ℕ)) (s : ℕ) (key : List ℕ) → IsFormed view → (idx : Indexes runs view anchors) → (s < length anchors → anchor_below anchors key s ≡ false) → s ≤ length view.segments → below_there key idx.versions (start_of view.segments s) ≡ true → ⊥
none_at_start runs view anchors s key formed idx above le is = by_place (nat_lt s (length view.segments)) refl
  where
    by_place : (b : Bool) → nat_lt s (length view.segments) ≡ b → ⊥
    by_place true e =
        let inside : s < length view.segments = grind (arith, nat_tests) in
        let g = segment_at view.segments s inside in
        let known = segment_known runs view anchors s g.0 formed idx g.1 in
        let t = anchor_test runs view anchors idx.versions s g.0 key known in
        let f = above (omega (arith, length-anchors runs idx.versions 0 view.segments anchors idx.anchored)) in
        absurd cc
    by_place false e =
        let last : s ≡ length view.segments = grind (arith, nat_tests) in
        past_none key idx.versions (start_of view.segments s) (omega (arith, start_all runs view anchors idx, ap (start_of view.segments) last)) is

pub stands_at_start : (runs : List (List Pair)) (view : ViewState) (anchors : List (List ℕ)) (s : ℕ) → IsFormed view → Indexes runs view anchors → s ≤ length view.segments → IsStanding view s 0
stands_at_start runs view anchors s formed idx le = by_place (nat_lt s (length view.segments)) refl
  where
    by_place : (b : Bool) → nat_lt s (length view.segments) ≡ b → IsStanding view s 0
    by_place true e =
        let inside : s < length view.segments = grind (arith, nat_tests) in
        let g = segment_at view.segments s inside in
        inr (g.0, g.1, (segment_known runs view anchors s g.0 formed idx g.1).some)
    by_place false e = inl (grind (arith, nat_tests), refl)

start_inside : (runs : List (List Pair)) (view : ViewState) (anchors : List (List ℕ)) (s : ℕ) → (idx : Indexes runs view anchors) → s ≤ length view.segments → start_of view.segments s ≤ length idx.versions
start_inside runs view anchors s idx le = omega (arith, start_all runs view anchors idx, start_grows view.segments s (length view.segments) le)

-- a segment's begin is the first place where what stands before it is below
pub first_at_start : (runs : List (List Pair)) (view : ViewState) (anchors : List (List ℕ)) (s : ℕ) (key : List ℕ) → IsFormed view → (idx : Indexes runs view anchors) → (s < length anchors → anchor_below anchors key s ≡ false) → s ≤ length view.segments → ((i : ℕ) → i + 1 ≡ start_of view.segments s → below_there key idx.versions i ≡ true) → IsFirstPlace runs view key s 0
first_at_start runs view anchors s key formed idx above le last =
    let splits = splits_from key idx.versions (start_of view.segments s) idx.view_of.sorted (start_inside runs view anchors s idx le) last (none_at_start runs view anchors s key formed idx above le) in
    record { stands = stands_at_start runs view anchors s formed idx le; first = no_more (start_of view.segments s) ∙ sym (all_below_split runs idx.versions key (start_of view.segments s) idx.view_of splits) }
  where
    no_more : (n : ℕ) → n + 0 ≡ n
    no_more n = omega arith

pub found_none : (runs : List (List Pair)) (view : ViewState) (anchors : List (List ℕ)) (n : ℕ) (key : List ℕ) → IsFormed view → Indexes runs view anchors → n ≡ 0 → IsTurn (anchor_below anchors key) (length anchors) n → IsFirstPlace runs view key 0 0
found_none runs view anchors n key formed idx e turn = first_at_start runs view anchors 0 key formed idx (λ lt. turn.after 0 (omega arith) lt) (omega arith) (λ i e. absurd (omega arith))

pub found_place : (runs : List (List Pair)) (view : ViewState) (anchors : List (List ℕ)) (s j : ℕ) (key : List ℕ) → IsFormed view → Indexes runs view anchors → s < length view.segments → 0 < j → j < 32 → (is_filler_at view s j ≡ false) → IsTurn (place_below runs view s key) 32 j → IsFirstPlace runs view key s j
found_place runs view anchors s j key formed idx inside some low named turn =
    let g = segment_at view.segments s inside in
    let known = segment_known runs view anchors s g.0 formed idx g.1 in
    let lt : j < filled g.0 = filled_at g.0 known j low (sym (ap (λ (o : Option Segment). filler_of o j) g.1) ∙ named) in
    let start = start_of view.segments s in
    let none : below_there key idx.versions (start_of view.segments s + j) ≡ true → ⊥ = λ is. clash (place_below runs view s key j) (turn.after j (omega arith) low) (place_filled runs view anchors idx.versions s j g.0 key g.1 known lt ∙ is) in
    let last : (i : ℕ) → i + 1 ≡ start_of view.segments s + j → below_there key idx.versions i ≡ true = λ i e. last_of g.0 g.1 known lt i j e (omega arith) in
    let splits = splits_from key idx.versions (start_of view.segments s + j) idx.view_of.sorted (omega (arith, slice_get_within idx.versions (start_of view.segments s + j) (known.version j lt).version (known.version j lt).at)) last none in
    record { stands = inr (g.0, g.1, lt); first = sym (all_below_split runs idx.versions key (start_of view.segments s + j) idx.view_of splits) }
  where
    clash : (b : Bool) → b ≡ false → b ≡ true → ⊥
    clash b e f = absurd cc

    filled_at : (g : Segment) → SegmentKnown runs view anchors idx.versions s g → (j : ℕ) → j < 32 → is_filler (slice_index g.selectors j) ≡ false → j < filled g
    filled_at g known j lt named = by_test (nat_lt j (filled g)) refl
      where
        by_test : (b : Bool) → nat_lt j (filled g) ≡ b → j < filled g
        by_test true e = grind (arith, nat_tests)
        by_test false e =
            let le : filled g ≤ j = grind (arith, nat_tests) in
            let f = filler_there g.selectors j known.is.closed le (omega (arith, known.is.places)) in
            absurd cc

    last_of : (g : Segment) → slice_get view.segments s ≡ Some g → SegmentKnown runs view anchors idx.versions s g → j < filled g → (i m : ℕ) → i + 1 ≡ start_of view.segments s + m → (m ≡ j) → below_there key idx.versions i ≡ true
    last_of g at known lt i zero e f = absurd (omega arith)
    last_of g at known lt i (suc m) e f =
        ap (below_there key idx.versions) (one_less i (start_of view.segments s) m e)
        ∙ sym (place_filled runs view anchors idx.versions s m g key at known (omega arith))
        ∙ turn.before m (omega arith)
      where
        one_less : (a b c : ℕ) → a + 1 ≡ b + suc c → a ≡ b + c
        one_less a b c h = omega arith

pub found_after : (runs : List (List Pair)) (view : ViewState) (anchors : List (List ℕ)) (s n j : ℕ) (key : List ℕ) → IsFormed view → Indexes runs view anchors → n ≡ suc s → IsTurn (anchor_below anchors key) (length anchors) n → 0 < j → (j < 32 → is_filler_at view s j ≡ true) → IsTurn (place_below runs view s key) 32 j → IsFirstPlace runs view key n 0
found_after runs view anchors s n j key formed idx after turned some ends turn =
    let long : length anchors ≡ length view.segments = length-anchors runs idx.versions 0 view.segments anchors idx.anchored in
    let inside : s < length view.segments = omega (arith, turned.inside) in
    let g = segment_at view.segments s inside in
    let known = segment_known runs view anchors s g.0 formed idx g.1 in
    first_at_start runs view anchors n key formed idx (λ lt. turned.after n (omega arith) lt) (omega (arith, turned.inside))
    (λ i e. last_of g.0 g.1 known (full g.0 g.1 known) i (filled g.0) (e ∙ ap (start_of view.segments) after ∙ start_next view.segments s g.0 g.1) refl)
  where
    -- the places that are filled are all below
    full : (g : Segment) → slice_get view.segments s ≡ Some g → SegmentKnown runs view anchors idx.versions s g → filled g ≤ j
    full g at known = by_test (nat_lt j (filled g)) refl
      where
        by_test : (b : Bool) → nat_lt j (filled g) ≡ b → filled g ≤ j
        by_test false e = grind (arith, nat_tests)
        by_test true e =
            let lt : j < filled g = grind (arith, nat_tests) in
            let low : j < 32 = omega (arith, few_filled g known.is) in
            let f = filled_there g.selectors j known.is.closed lt in
            let h = sym (ap (λ (o : Option Segment). filler_of o j) at) ∙ ends low in
            absurd cc

    last_of : (g : Segment) → slice_get view.segments s ≡ Some g → SegmentKnown runs view anchors idx.versions s g → filled g ≤ j → (i m : ℕ) → i + 1 ≡ start_of view.segments s + m → m ≡ filled g → below_there key idx.versions i ≡ true
    last_of g at known le i zero e f = absurd (omega (arith, known.some))
    last_of g at known le i (suc m) e f =
        ap (below_there key idx.versions) (one_less i (start_of view.segments s) m e)
        ∙ sym (place_filled runs view anchors idx.versions s m g key at known (omega arith))
        ∙ turn.before m (omega arith)
      where
        one_less : (a b c : ℕ) → a + 1 ≡ b + suc c → a ≡ b + c
        one_less a b c h = omega arith
