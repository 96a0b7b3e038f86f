-- The order of a newer row and an older version, told by their places, is that of their keys. To know: row_order-keys.
use Rattle.std.proofs.Common.{◌≡◌, ℕ, zero, suc, ◌+◌, ◌<◌, ◌≤◌, Bool, true, false, List, [], ◌∷◌, map, refl, sym, ap, subst, ◌∙◌, arith}
use Rattle.std.specs.Prelude.{slice_get, Option, Some, not, ◌||◌, ◌&&◌}
use Rattle.std.specs.List.{AllByRecursion}
use Rattle.std.specs.Ordering.{is_lt, is_eq, nat_cmp}
use Rattle.std.specs.declared.cmp.Ordering.{Ordering}
use Rattle.std.specs.declared.cmp.Ordering.TheVariants.{Less, Equal, Greater}
use Rattle.std.proofs.lemmas.Option.{slice_get_within}
use Rattle.rdb_base.specs.Order.{key_cmp}
use Rattle.rdb_base.specs.Ranges.{NotBelow, IsBelow, in_range}
use Rattle.rdb_base.specs.declared.pair.Pair.{Pair}
use Rattle.rdb_base.proofs.KeyOrder.{less_from_test, turned_less, turned_equal, turned_greater}
use Rattle.rdb_base.proofs.OrderLemmas.{le_lt, lt_le, lt_not}
use Rattle.rdb_base.proofs.RangeLemmas.{range_from}
use Rattle.remix_view.proofs.Lists.{some_same, all-at}
use Rattle.remix_view.specs.declared.spot.Spot.{Spot}
use Rattle.remix_view.specs.declared.walk.Walk.{Walk}
use Rattle.remix_view.specs.Views.{IsFormed}
use Rattle.remix_view.specs.Spots.{spots_from, IsSpotPlace}
use Rattle.remix_seek.specs.Versions.{Version, run_at}
use Rattle.remix_seek.specs.Places.{IsFirstPlace, IsStanding, versions_before}
use Rattle.remix_seek.specs.Indexes.{Indexes}
use Rattle.remix_seek.proofs.VersionLemmas.{SplitsAt, found_below}
use Rattle.remix_seek.proofs.NewestLemmas.{splits_at_all_below}
use Rattle.remix_seek.proofs.KnownLemmas.{newest_splits}
use Rattle.partition_set.specs.Partitions.{PartState, IsWithin, IsPart, AreParts, IsSet}
use Rattle.partition_set.specs.Bounds.{low_at}
use Rattle.overlay_view.specs.declared.set_place.SetPlace.{SetPlace}
use Rattle.overlay_view.specs.declared.placement.Placement.{Placement}
use Rattle.overlay_view.specs.Older.{shows, pair_of, StandsAt}
use Rattle.overlay_view.specs.Placements.{IsPlacedAt, or_else, tie_by, row_order, has_this_key, first_shows}
use Rattle.overlay_view.proofs.ListLemmas.{get-there}
use Rattle.overlay_view.proofs.LevelLemmas.{part-at_bounds}
use Rattle.overlay_view.proofs.PlaceLemmas.{nat_less, nat_equal, nat_greater, before-less}
use Rattle.overlay_view.proofs.ShownLemmas.{standing, SpotKnown, spot_known}

-- ---- the marks of a version that shows

pub shown-old : (spot : Spot) → shows spot ≡ true → spot.old ≡ false
shown-old spot e = by_marks spot.old spot.del refl e
  where
    by_marks : (old del : Bool) → spot.old ≡ old → not (old || del) ≡ true → spot.old ≡ false
    by_marks false del f h = f
    by_marks true del f h = absurd cc

pub shown-del : (spot : Spot) → shows spot ≡ true → spot.del ≡ false
shown-del spot e = by_marks spot.old spot.del refl e
  where
    by_marks : (old del : Bool) → spot.del ≡ del → not (old || del) ≡ true → spot.del ≡ false
    by_marks old false f h = f
    by_marks true true f h = absurd cc
    by_marks false true f h = absurd cc

-- ---- keys of different partitions

-- a key below the bound of a partition is below that of each later one
above-later : {T : Type 0} (run : T → List Pair) (parts : List (PartState T)) (key : List ℕ) (n j : ℕ) (part : PartState T) → AreParts run parts → IsBelow (low_at parts n) key → n ≤ j → slice_get parts j ≡ Some part → key_cmp key part.low ≡ Less
above-later run [] key n j part all below le at = absurd cc
above-later run (p ∷ ps) key zero zero part all below le at = subst (λ q. key_cmp key q.low ≡ Less) (some_same p part at) below
above-later run (p ∷ []) key zero (suc j) part all below le at = absurd cc
above-later {T} run (p ∷ (q ∷ qs)) key zero (suc j) part all below le at = above-later run (q ∷ qs) key zero j part all.2 (lt_le key p.low q.low below (lt_not p.low q.low all.1)) (omega arith) at
above-later run (p ∷ ps) key (suc n) zero part all below le at = absurd (omega arith)
above-later run (p ∷ ps) key (suc n) (suc j) part all below le at = above-later run ps key n j part all.2 below (omega arith) at

within-run : (low : List ℕ) (high : Option (List ℕ)) (runs : List (List Pair)) (r : ℕ) → AllByRecursion (IsWithin low high) runs → IsWithin low high (run_at runs r)
within-run low high [] r all = tt
within-run low high (x ∷ xs) zero all = all.0
within-run low high (x ∷ xs) (suc r) all = within-run low high xs r all.1

-- the key of a partition's pair is in its range
pair-range : {T : Type 0} (run : T → List Pair) (high : Option (List ℕ)) (part : PartState T) (spot : Spot) (q : Pair) → IsPart run high part → pair_of (map run part.runs) spot ≡ Some q → NotBelow q.key part.low × IsBelow high q.key
pair-range run high part spot q is at =
    range_from part.low high q.key (all-at (λ (pair : Pair). in_range part.low high pair.key ≡ true) (run_at (map run part.runs) spot.run) spot.place q (within-run part.low high (map run part.runs) spot.run is.inside) at)

-- ---- keys of one partition

-- the version where a key's versions would begin is not below the key
not_below : (key : List ℕ) (vs : List Version) (n : ℕ) (v : Version) → SplitsAt key vs n → slice_get vs n ≡ Some v → NotBelow v.pair.key key
not_below key vs n v splits at lt =
    let here : is_lt (key_cmp v.pair.key key) ≡ false = ap (found_below key) (sym at) ∙ splits.after n (omega arith) in
    let clash : is_lt (key_cmp v.pair.key key) ≡ true = ap is_lt lt in
    let no = sym here ∙ clash in
    absurd cc

-- a version before that is below the key
is_below : (key : List ℕ) (vs : List Version) (n i : ℕ) (v : Version) → SplitsAt key vs n → i < n → slice_get vs i ≡ Some v → key_cmp v.pair.key key ≡ Less
is_below key vs n i v splits lt at = less_from_test (key_cmp v.pair.key key) (ap (found_below key) (sym at) ∙ splits.before i lt)

-- a key whose place is before a newest version is below it
key-before : (key : List ℕ) (vs : List Version) (m n : ℕ) (v : Version) → SplitsAt key vs m → SplitsAt v.pair.key vs n → slice_get vs n ≡ Some v → m < n → key_cmp key v.pair.key ≡ Less
key-before key vs m n v one two at lt =
    let inside = slice_get_within vs n v at in
    let u = get-there vs m (omega (arith, inside)) in
    le_lt key u.0.pair.key v.pair.key (not_below key vs m u.0 one u.1) (is_below v.pair.key vs n m u.0 two lt u.1)

-- at the same place the version is what is hidden, or the key is below
key-same : (key : List ℕ) (q : Pair) → NotBelow q.key key → tie_by (is_eq (key_cmp q.key key)) ≡ key_cmp key q.key
key-same key q up = by_order (key_cmp q.key key) refl
  where
    by_order : (r : Ordering) → key_cmp q.key key ≡ r → tie_by (is_eq r) ≡ key_cmp key q.key
    by_order Less e = absurd (up e)
    by_order Equal e = sym (turned_equal q.key key e)
    by_order Greater e = sym (turned_greater q.key key e)

-- ---- the order of places

-- the order within one view
pub within_part : {T : Type 0} (run : T → List Pair) (part : PartState T) (key : List ℕ) (placement : Placement) (place : SetPlace) (after : Walk) (spot : Spot) (q : Pair) (parts : List (PartState T))
    → Indexes (map run part.runs) part.view part.anchors
    → IsFirstPlace (map run part.runs) part.view key placement.place.segment placement.place.place
    → placement.hides ≡ first_shows (map run part.runs) (spots_from part.view placement.place.segment placement.place.place) key
    → (stands : StandsAt parts place after spot) → stands.part ≡ part → pair_of (map run part.runs) spot ≡ Some q
    → or_else (or_else (nat_cmp placement.place.segment place.segment) (nat_cmp placement.place.place place.place)) (tie_by placement.hides) ≡ key_cmp key q.key
within_part {T} run part key placement place after spot q parts index first hides stands same pair =
    by_segment (nat_cmp placement.place.segment place.segment) refl
  where
    formed : IsFormed part.view
    formed = subst (λ (p : PartState T). IsFormed p.view) same stands.formed

    there : IsSpotPlace part.view place.segment place.place
    there = subst (λ (p : PartState T). IsSpotPlace p.view place.segment place.place) same stands.there

    spots : spots_from part.view place.segment place.place ≡ (spot ∷ spots_from part.view after.segment after.place)
    spots = subst (λ (p : PartState T). spots_from p.view place.segment place.place ≡ (spot ∷ spots_from p.view after.segment after.place)) same stands.spots

    is_standing : IsStanding part.view place.segment place.place
    is_standing = standing (map run part.runs) part.view part.anchors place.segment place.place formed index there

    known : SpotKnown (map run part.runs) part.view index.versions place.segment place.place spot
    known = spot_known (map run part.runs) part.view part.anchors place.segment place.place spot (spots_from part.view after.segment after.place) formed index is_standing spots

    is_q : known.version.pair ≡ q
    is_q = some_same known.version.pair q (sym known.pair ∙ pair)

    one : SplitsAt key index.versions (versions_before part.view placement.place.segment placement.place.place)
    one = splits_at_all_below (map run part.runs) index.versions key (versions_before part.view placement.place.segment placement.place.place) index.view_of first.first

    two : SplitsAt known.version.pair.key index.versions (versions_before part.view place.segment place.place)
    two = newest_splits index.versions (versions_before part.view place.segment place.place) known.version index.view_of.sorted known.at (sym known.old ∙ shown-old spot stands.shown)

    less : versions_before part.view placement.place.segment placement.place.place < versions_before part.view place.segment place.place → Less ≡ key_cmp key q.key
    less lt = sym (ap (key_cmp key) (ap (λ (p : Pair). p.key) (sym is_q)) ∙ key-before key index.versions (versions_before part.view placement.place.segment placement.place.place) (versions_before part.view place.segment place.place) known.version one two known.at lt)

    greater : versions_before part.view place.segment place.place < versions_before part.view placement.place.segment placement.place.place → Greater ≡ key_cmp key q.key
    greater lt = sym (ap (key_cmp key) (ap (λ (p : Pair). p.key) (sym is_q)) ∙ turned_less known.version.pair.key key (is_below key index.versions (versions_before part.view placement.place.segment placement.place.place) (versions_before part.view place.segment place.place) known.version one lt known.at))

    equal : placement.place.segment ≡ place.segment → placement.place.place ≡ place.place → tie_by placement.hides ≡ key_cmp key q.key
    equal seg pla =
        let at : slice_get index.versions (versions_before part.view placement.place.segment placement.place.place) ≡ Some known.version = (λ i. slice_get index.versions (versions_before part.view (seg i) (pla i))) ∙ known.at in
        let up : NotBelow q.key key = subst (λ (p : Pair). NotBelow p.key key) is_q (not_below key index.versions (versions_before part.view placement.place.segment placement.place.place) known.version one at) in
        ap tie_by (hides
        ∙ (λ i. first_shows (map run part.runs) (spots_from part.view (seg i) (pla i)) key)
        ∙ ap (λ (ss : List Spot). first_shows (map run part.runs) ss key) spots
        ∙ (λ i. not (shown-del spot stands.shown i) && has_this_key (pair i) key))
        ∙ key-same key q up

    by_place : placement.place.segment ≡ place.segment → (r : Ordering) → nat_cmp placement.place.place place.place ≡ r → or_else r (tie_by placement.hides) ≡ key_cmp key q.key
    by_place seg Less e = less (let h = nat_less placement.place.place place.place e in let s = ap (λ (n : ℕ). versions_before part.view n placement.place.place) seg in omega (arith, h, s))
    by_place seg Equal e = equal seg (nat_equal placement.place.place place.place e)
    by_place seg Greater e = greater (let h = nat_greater placement.place.place place.place e in let s = ap (λ (n : ℕ). versions_before part.view n placement.place.place) seg in omega (arith, h, s))

    by_segment : (r : Ordering) → nat_cmp placement.place.segment place.segment ≡ r → or_else (or_else (nat_cmp placement.place.segment place.segment) (nat_cmp placement.place.place place.place)) (tie_by placement.hides) ≡ key_cmp key q.key
    by_segment Less e = (λ i. or_else (or_else (e i) (nat_cmp placement.place.place place.place)) (tie_by placement.hides)) ∙ less (before-less part.view placement.place.segment placement.place.place place.segment place.place first.stands is_standing (nat_less placement.place.segment place.segment e))
    by_segment Equal e = (λ i. or_else (or_else (e i) (nat_cmp placement.place.place place.place)) (tie_by placement.hides)) ∙ by_place (nat_equal placement.place.segment place.segment e) (nat_cmp placement.place.place place.place) refl
    by_segment Greater e = (λ i. or_else (or_else (e i) (nat_cmp placement.place.place place.place)) (tie_by placement.hides)) ∙ greater (before-less part.view place.segment place.place placement.place.segment placement.place.place is_standing first.stands (nat_greater placement.place.segment place.segment e))

-- the order of a newer row and a version that shows, by their places, is the order of their keys
pub row_order-keys : {T : Type 0} (run : T → List Pair) (parts : List (PartState T)) (key : List ℕ) (placement : Placement) (place : SetPlace) (after : Walk) (spot : Spot) (q : Pair) → IsSet run parts → IsPlacedAt run parts key placement → (stands : StandsAt parts place after spot) → pair_of (map run stands.part.runs) spot ≡ Some q
    → row_order placement place ≡ key_cmp key q.key
row_order-keys {T} run parts key placement place after spot q set placed stands pair = by_part (nat_cmp placement.place.part place.part) refl
  where
    is : IsPart run (low_at parts (place.part + 1)) stands.part
    is = part-at_bounds run parts place.part (place.part + 1) stands.part set.each refl stands.at

    range : NotBelow q.key stands.part.low × IsBelow (low_at parts (place.part + 1)) q.key
    range = pair-range run (low_at parts (place.part + 1)) stands.part spot q is pair

    by_part : (r : Ordering) → nat_cmp placement.place.part place.part ≡ r → row_order placement place ≡ key_cmp key q.key
    by_part Less e =
        let h = nat_less placement.place.part place.part e in
        let below = above-later run parts key (placement.place.part + 1) place.part stands.part set.each placed.part_of.below_next (omega (arith, h)) stands.at in
        (λ i. or_else (or_else (e i) (or_else (nat_cmp placement.place.segment place.segment) (nat_cmp placement.place.place place.place))) (tie_by placement.hides))
        ∙ sym (lt_le key stands.part.low q.key below range.0)
    by_part Greater e =
        let h = nat_greater placement.place.part place.part e in
        let below = above-later run parts q.key (place.part + 1) placement.place.part placed.part_of.part set.each range.1 (omega (arith, h)) placed.part_of.at in
        (λ i. or_else (or_else (e i) (or_else (nat_cmp placement.place.segment place.segment) (nat_cmp placement.place.place place.place))) (tie_by placement.hides))
        ∙ sym (turned_less q.key key (lt_le q.key placed.part_of.part.low key below placed.part_of.above_low))
    by_part Equal e =
        let number = nat_equal placement.place.part place.part e in
        let same : placed.part_of.part ≡ stands.part = some_same placed.part_of.part stands.part (sym placed.part_of.at ∙ ap (slice_get parts) number ∙ stands.at) in
        (λ i. or_else (or_else (e i) (or_else (nat_cmp placement.place.segment place.segment) (nat_cmp placement.place.place place.place))) (tie_by placement.hides))
        ∙ within_part run stands.part key placement place after spot q parts is.indexed
        (subst (λ (p : PartState T). IsFirstPlace (map run p.runs) p.view key placement.place.segment placement.place.place) same placed.first)
        (subst (λ (p : PartState T). placement.hides ≡ first_shows (map run p.runs) (spots_from p.view placement.place.segment placement.place.place) key) same placed.hides)
        stands refl pair
