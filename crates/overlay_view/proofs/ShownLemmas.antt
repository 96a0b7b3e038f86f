-- The pairs of a partition that show are the puts of its level. To know: shown_in-first, shown_in-from, SpotKnown, spot_known.
use Rattle.std.proofs.Common.{◌≡◌, inl, inr, ℕ, suc, Bool, true, false, cond, List, [], ◌∷◌, length, map, drop, refl, sym, ap, ◌∙◌, arith}
use Rattle.std.specs.Prelude.{slice_get, Option, Some, None, filter, not, ◌||◌, nat_le}
use Rattle.std.specs.List.{AllByRecursion}
use Rattle.std.proofs.lemmas.Bool.Decides.{nat_tests}
use Rattle.rdb_base.specs.Levels.{level_of}
use Rattle.rdb_base.specs.Pages.{pairs_from}
use Rattle.rdb_base.specs.declared.pair.Pair.{Pair}
use Rattle.remix_view.specs.declared.spot.Spot.{Spot}
use Rattle.remix_view.specs.declared.walk.Walk.{Walk}
use Rattle.remix_view.specs.declared.segment.Segment.{Segment}
use Rattle.remix_view.specs.Views.{ViewState, IsFormed}
use Rattle.remix_view.specs.Spots.{spots_from, IsSpotPlace, HasSpot}
use Rattle.remix_seek.specs.Versions.{Version, run_at, is_deletion, has_key, newest_of, spots_after, key_before}
use Rattle.remix_seek.specs.Indexes.{Indexes, IsSegment, filled}
use Rattle.remix_seek.specs.Places.{IsStanding, IsFirstPlace, versions_before}
use Rattle.remix_seek.proofs.CountLemmas.{drop-get}
use Rattle.remix_seek.proofs.SegmentLemmas.{filler_there}
use Rattle.remix_seek.proofs.PlaceLemmas.{is_pair}
use Rattle.remix_seek.proofs.NewestLemmas.{newest_is_level, listed}
use Rattle.remix_seek.proofs.WalkOrderLemmas.{walk_in_order}
use Rattle.remix_seek.proofs.KnownLemmas.{segment_known}
use Rattle.partition_set.specs.Partitions.{PartState}
use Rattle.overlay_view.specs.Older.{shows, pair_of, after_pair, pairs_of, from_first, shown_in}
use Rattle.overlay_view.proofs.ListLemmas.{all-drop, all-from_places, cons-first, drop-none}
use Rattle.overlay_view.proofs.PutLemmas.{is_put}

-- ---- the spots of versions

-- the pair of a version is the one of its run at its place
abbrev pub IsIn : List (List Pair) → Version → Type 0
IsIn runs v = slice_get (run_at runs v.run) v.place ≡ Some v.pair

shown_first : (runs : List (List Pair)) (spot : Spot) (spots : List Spot) (b : Bool) → shows spot ≡ b → pairs_of runs (filter shows (spot ∷ spots)) ≡ cond b (after_pair (pair_of runs spot) (pairs_of runs (filter shows spots))) (pairs_of runs (filter shows spots))
shown_first runs spot spots true e = rw e refl
shown_first runs spot spots false e = rw e refl

newest_first : (last : Option (List ℕ)) (v : Version) (vs : List Version) (old del : Bool) → has_key last v.pair.key ≡ old → is_deletion v.pair.change ≡ del → filter is_put (newest_of last (v ∷ vs)) ≡ cond (not (old || del)) (v.pair ∷ filter is_put (newest_of (Some v.pair.key) vs)) (filter is_put (newest_of (Some v.pair.key) vs))
newest_first last v vs true del e d = rw e refl
newest_first last v vs false true e d = rw (e, d) refl
newest_first last v vs false false e d = rw (e, d) refl

-- the spots of versions that show name the puts among the newest versions
shown-versions : (runs : List (List Pair)) (last : Option (List ℕ)) (vs : List Version) → AllByRecursion (IsIn runs) vs → pairs_of runs (filter shows (spots_after last vs)) ≡ filter is_put (newest_of last vs)
shown-versions runs last [] all = refl
shown-versions runs last (v ∷ vs) all =
    shown_first runs (record { run = v.run; place = v.place; old = has_key last v.pair.key; del = is_deletion v.pair.change }) (spots_after (Some v.pair.key) vs) (not (has_key last v.pair.key || is_deletion v.pair.change)) refl
    ∙ (λ i. cond (not (has_key last v.pair.key || is_deletion v.pair.change)) (after_pair (all.0 i) (shown-versions runs (Some v.pair.key) vs all.1 i)) (shown-versions runs (Some v.pair.key) vs all.1 i))
    ∙ sym (newest_first last v vs (has_key last v.pair.key) (is_deletion v.pair.change) refl refl)

-- each version of an index is in its run
versions_in_runs : (runs : List (List Pair)) (view : ViewState) (anchors : List (List ℕ)) → (index : Indexes runs view anchors) → AllByRecursion (IsIn runs) index.versions
versions_in_runs runs view anchors index = all-from_places (IsIn runs) index.versions (λ i v e. (is_pair runs index.versions i v index.view_of e).pair)

-- ---- from the first place, and from the place of a key

stands_first : (runs : List (List Pair)) (view : ViewState) (anchors : List (List ℕ)) → IsFormed view → Indexes runs view anchors → IsStanding view 0 0
stands_first runs view anchors formed index = by_segments view.segments refl
  where
    by_segments : (gs : List Segment) → view.segments ≡ gs → IsStanding view 0 0
    by_segments [] e = inl (ap length (sym e), refl)
    by_segments (g ∷ gs) e =
        let at : slice_get view.segments 0 ≡ Some g = ap (λ (ss : List Segment). slice_get ss 0) e in
        inr (g, at, (segment_known runs view anchors 0 g formed index at).some)

-- all pairs of a partition that show are the puts of its level
pub shown_in-first : {T : Type 0} (run : T → List Pair) (part : PartState T) → IsFormed part.view → Indexes (map run part.runs) part.view part.anchors → shown_in run part from_first ≡ filter is_put (level_of (map run part.runs))
shown_in-first run part formed index =
    ap (λ (spots : List Spot). pairs_of (map run part.runs) (filter shows spots)) (walk_in_order (map run part.runs) part.view part.anchors formed index 0 0 (stands_first (map run part.runs) part.view part.anchors formed index))
    ∙ shown-versions (map run part.runs) None index.versions (versions_in_runs (map run part.runs) part.view part.anchors index)
    ∙ ap (filter is_put) (newest_is_level (map run part.runs) index.versions index.view_of)

-- those from the place of a key on are the puts from the key on
pub shown_in-from : {T : Type 0} (run : T → List Pair) (part : PartState T) (key : List ℕ) (walk : Walk) → IsFormed part.view → Indexes (map run part.runs) part.view part.anchors → IsFirstPlace (map run part.runs) part.view key walk.segment walk.place
    → shown_in run part walk ≡ filter is_put (pairs_from (level_of (map run part.runs)) key)
shown_in-from run part key walk formed index first =
    ap (λ (spots : List Spot). pairs_of (map run part.runs) (filter shows spots)) (walk_in_order (map run part.runs) part.view part.anchors formed index walk.segment walk.place first.stands)
    ∙ shown-versions (map run part.runs) (key_before None index.versions (versions_before part.view walk.segment walk.place)) (drop (versions_before part.view walk.segment walk.place) index.versions)
    (all-drop (IsIn (map run part.runs)) (versions_before part.view walk.segment walk.place) index.versions (versions_in_runs (map run part.runs) part.view part.anchors index))
    ∙ ap (filter is_put) (listed (map run part.runs) index.versions key (versions_before part.view walk.segment walk.place) index.view_of first.first)

-- ---- a spot at its place

-- a place where a spot stands holds a version
pub standing : (runs : List (List Pair)) (view : ViewState) (anchors : List (List ℕ)) (segment place : ℕ) → IsFormed view → Indexes runs view anchors → IsSpotPlace view segment place → IsStanding view segment place
standing runs view anchors segment place formed index there = by_segment (slice_get view.segments segment) refl there
  where
    by_segment : (found : Option Segment) → slice_get view.segments segment ≡ found → HasSpot found place → IsStanding view segment place
    by_segment None e h = absurd h
    by_segment (Some g) e h = by_count (nat_le (filled g) place) refl
      where
        is : IsSegment g
        is = (segment_known runs view anchors segment g formed index e).is

        by_count : (b : Bool) → nat_le (filled g) place ≡ b → IsStanding view segment place
        by_count true le = absurd (let filler = filler_there g.selectors place is.closed (grind (arith, nat_tests)) (omega (arith, is.places, h.0)) in let clash = sym filler ∙ h.1 in cc)
        by_count false le = inr (g, e, grind (arith, nat_tests))

-- what is known of the spot at a place: it is the version there, in its run
pub record SpotKnown (runs : List (List Pair)) (view : ViewState) (vs : List Version) (segment place : ℕ) (spot : Spot) : Type 0 where
  pub version : Version
  pub at : slice_get vs (versions_before view segment place) ≡ Some version
  pub old : spot.old ≡ has_key (key_before None vs (versions_before view segment place)) version.pair.key
  pub del : spot.del ≡ is_deletion version.pair.change
  pub pair : pair_of runs spot ≡ Some version.pair

pub spot_known : (runs : List (List Pair)) (view : ViewState) (anchors : List (List ℕ)) (segment place : ℕ) (spot : Spot) (later : List Spot) → IsFormed view → (index : Indexes runs view anchors) → IsStanding view segment place → spots_from view segment place ≡ (spot ∷ later)
    → SpotKnown runs view index.versions segment place spot
spot_known runs view anchors segment place spot later formed index stands first = by_version (slice_get index.versions (versions_before view segment place)) refl
  where
    walked : spots_from view segment place ≡ spots_after (key_before None index.versions (versions_before view segment place)) (drop (versions_before view segment place) index.versions)
    walked = walk_in_order runs view anchors formed index segment place stands

    by_version : (found : Option Version) → slice_get index.versions (versions_before view segment place) ≡ found → SpotKnown runs view index.versions segment place spot
    by_version None e =
        let none = ap (spots_after (key_before None index.versions (versions_before view segment place))) (drop-none index.versions (versions_before view segment place) e) in
        let clash = sym first ∙ walked ∙ none in
        absurd cc
    by_version (Some v) e =
        let all = ap (spots_after (key_before None index.versions (versions_before view segment place))) (sym (drop-get index.versions (versions_before view segment place) v e)) ∙ sym walked ∙ first in
        let is : record { run = v.run; place = v.place; old = has_key (key_before None index.versions (versions_before view segment place)) v.pair.key; del = is_deletion v.pair.change } ≡ spot = cons-first _ spot (spots_after (Some v.pair.key) (drop (suc (versions_before view segment place)) index.versions)) later all in
        record {
          version = v;
          at = e;
          old = ap (λ (s : Spot). s.old) (sym is);
          del = ap (λ (s : Spot). s.del) (sym is);
          pair = ap (λ (s : Spot). pair_of runs s) (sym is) ∙ (is_pair runs index.versions (versions_before view segment place) v index.view_of e).pair;
        }
