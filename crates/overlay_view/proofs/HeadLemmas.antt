-- What a cursor stands at is the first of the pairs that are left. To know: HeadIs, head_is, older_left-shown.
use Rattle.std.proofs.Common.{◌≡◌, ℕ, zero, suc, ◌+◌, true, false, List, [], ◌∷◌, ◌++◌, map, drop, refl, sym, ap, subst, ◌∙◌}
use Rattle.std.specs.Prelude.{slice_get, Option, Some, None, filter}
use Rattle.std.specs.declared.cmp.Ordering.{Ordering}
use Rattle.std.specs.declared.cmp.Ordering.TheVariants.{Less, Equal, Greater}
use Rattle.rdb_base.specs.Order.{key_cmp}
use Rattle.rdb_base.specs.Runs.{IsRun}
use Rattle.rdb_base.specs.Levels.{over}
use Rattle.rdb_base.specs.declared.pair.Pair.{Pair}
use Rattle.remix_view.proofs.Lists.{some_same}
use Rattle.remix_view.specs.declared.spot.Spot.{Spot}
use Rattle.remix_view.specs.Spots.{spots_from}
use Rattle.remix_seek.specs.Versions.{is_deletion}
use Rattle.partition_set.specs.Partitions.{PartState, IsPart, IsSet}
use Rattle.partition_set.specs.Bounds.{low_at}
use Rattle.overlay_view.specs.declared.placement.Placement.{Placement}
use Rattle.overlay_view.specs.declared.older.Older.{Older}
use Rattle.overlay_view.specs.declared.head.Head.{Head}
use Rattle.overlay_view.specs.declared.head.Head.TheVariants as heads
use Rattle.overlay_view.specs.declared.cursor.Cursor.{Cursor}
use Rattle.overlay_view.specs.Older.{shows, shown_from, pair_of, after_pair, pairs_of, shown_of, shown_past, older_left, older_rest, StandsAt, StandsBy}
use Rattle.overlay_view.specs.Placements.{UpperState, IsPlacedAt, ArePlaced, IsPlaced, row_order}
use Rattle.overlay_view.specs.Cursors.{head_by, head_of, head_at, pairs_left, GoesOn}
use Rattle.overlay_view.proofs.ListLemmas.{drop-there, filter-first}
use Rattle.overlay_view.proofs.LevelLemmas.{part-at_bounds}
use Rattle.overlay_view.proofs.MergeStepLemmas.{step-newer, step-same, step-older, step-newer_alone, step-older_alone, step-none}
use Rattle.overlay_view.proofs.ShownLemmas.{standing, SpotKnown, spot_known}
use Rattle.overlay_view.proofs.OrderLemmas.{row_order-keys, shown-del}

-- ---- newer rows and their placements

pub placed-at : {T : Type 0} (run : T → List Pair) (parts : List (PartState T)) (rows : List Pair) (placements : List Placement) (i : ℕ) (placement : Placement) → ArePlaced run parts rows placements → slice_get placements i ≡ Some placement → (p : Pair) × (slice_get rows i ≡ Some p) × IsPlacedAt run parts p.key placement
placed-at run parts [] [] i placement all at = absurd cc
placed-at run parts [] (x ∷ xs) i placement all at = absurd all
placed-at run parts (row ∷ rows) [] i placement all at = absurd all
placed-at run parts (row ∷ rows) (x ∷ xs) zero placement all at = (row, refl, subst (IsPlacedAt run parts row.key) (some_same x placement at) all.0)
placed-at run parts (row ∷ rows) (x ∷ xs) (suc i) placement all at = placed-at run parts rows xs i placement all.1 at

pub placed-none : {T : Type 0} (run : T → List Pair) (parts : List (PartState T)) (rows : List Pair) (placements : List Placement) (i : ℕ) → ArePlaced run parts rows placements → slice_get placements i ≡ None → slice_get rows i ≡ None
placed-none run parts [] [] i all none = refl
placed-none run parts [] (x ∷ xs) i all none = absurd all
placed-none run parts (row ∷ rows) [] i all none = absurd all
placed-none run parts (row ∷ rows) (x ∷ xs) zero all none = absurd cc
placed-none run parts (row ∷ rows) (x ∷ xs) (suc i) all none = placed-none run parts rows xs i all.1 none

-- ---- the version where the older side stands

-- the pair of the version that shows there
pub record ShownPair {T : Type 0} (run : T → List Pair) (parts : List (PartState T)) (older : Older) (spot : Spot) : Type 0 where
  pub stands : StandsAt parts older.place older.after spot
  pub pair : Pair
  pub at : pair_of (map run stands.part.runs) spot ≡ Some pair
  pub put : is_deletion pair.change ≡ false
  pub left : older_left run parts older ≡ pair ∷ older_rest run parts older

pub shown-pair : {T : Type 0} (run : T → List Pair) (parts : List (PartState T)) (older : Older) (spot : Spot) → IsSet run parts → StandsAt parts older.place older.after spot → ShownPair run parts older spot
shown-pair {T} run parts older spot set stands =
    record {
      stands = stands;
      pair = known.version.pair;
      at = known.pair;
      put = sym known.del ∙ shown-del spot stands.shown;
      left = ap (λ (ps : List (PartState T)). shown_past run ps (record { segment = older.place.segment; place = older.place.place })) (drop-there parts older.place.part stands.part stands.at)
          ∙ ap (λ (ss : List Spot). pairs_of (map run stands.part.runs) ss ++ shown_of run (drop (older.place.part + 1) parts))
          (ap (filter shows) stands.spots ∙ filter-first shows spot (spots_from stands.part.view older.after.segment older.after.place) true stands.shown)
          ∙ ap (λ (o : Option Pair). after_pair o (pairs_of (map run stands.part.runs) (shown_from stands.part.view older.after)) ++ shown_of run (drop (older.place.part + 1) parts)) known.pair
          ∙ ap (λ (ps : List (PartState T)). known.version.pair ∷ shown_past run ps older.after) (sym (drop-there parts older.place.part stands.part stands.at));
    }
  where
    is : IsPart run (low_at parts (older.place.part + 1)) stands.part
    is = part-at_bounds run parts older.place.part (older.place.part + 1) stands.part set.each refl stands.at

    known : SpotKnown (map run stands.part.runs) stands.part.view is.indexed.versions older.place.segment older.place.place spot
    known =
        spot_known (map run stands.part.runs) stands.part.view stands.part.anchors older.place.segment older.place.place spot (spots_from stands.part.view older.after.segment older.after.place) stands.formed is.indexed
        (standing (map run stands.part.runs) stands.part.view stands.part.anchors older.place.segment older.place.place stands.formed is.indexed stands.there) stands.spots

-- the older side's pairs rise also after the version where it stands
pub rest-rises : {T : Type 0} (run : T → List Pair) (parts : List (PartState T)) (older : Older) (spot : Spot) → ShownPair run parts older spot → IsRun (older_left run parts older) → IsRun (older_rest run parts older)
rest-rises run parts older spot shown rises = (subst IsRun shown.left rises).1

-- ---- the head

-- what stands first, by the head: the pair, and what is left after it
abbrev pub HeadIs : {T : Type 0} → (T → List Pair) → List (PartState T) → UpperState → Cursor → Head → Type 0
HeadIs run parts upper cursor heads.Newer = (p : Pair) × (slice_get upper.rows cursor.at ≡ Some p) × (pairs_left run parts upper cursor ≡ (p ∷ over (drop (cursor.at + 1) upper.rows) (older_left run parts cursor.older)))
HeadIs run parts upper cursor heads.Both = (p : Pair) × (slice_get upper.rows cursor.at ≡ Some p) × (pairs_left run parts upper cursor ≡ (p ∷ over (drop (cursor.at + 1) upper.rows) (older_rest run parts cursor.older))) × IsRun (older_rest run parts cursor.older)
HeadIs run parts upper cursor (heads.Older spot) = (shown : ShownPair run parts cursor.older spot) × (pairs_left run parts upper cursor ≡ (shown.pair ∷ over (drop cursor.at upper.rows) (older_rest run parts cursor.older)))
HeadIs run parts upper cursor heads.End = pairs_left run parts upper cursor ≡ []

pub head_is : {T : Type 0} (run : T → List Pair) (parts : List (PartState T)) (upper : UpperState) (cursor : Cursor) → IsPlaced run parts upper → GoesOn run parts cursor → HeadIs run parts upper cursor (head_at upper cursor)
head_is {T} run parts upper cursor placed goes = by_sides (slice_get upper.placements cursor.at) cursor.older.spot refl goes.stands
  where
    both : (placement : Placement) (p : Pair) (spot : Spot) (shown : ShownPair run parts cursor.older spot) → slice_get upper.rows cursor.at ≡ Some p → (r : Ordering) → key_cmp p.key shown.pair.key ≡ r → HeadIs run parts upper cursor (head_by r spot)
    both placement p spot shown at Less e = (p, at, step-newer upper.rows (older_left run parts cursor.older) cursor.at p shown.pair (older_rest run parts cursor.older) placed.rises goes.rises at shown.left e)
    both placement p spot shown at Equal e = (p, at, step-same upper.rows (older_left run parts cursor.older) cursor.at p shown.pair (older_rest run parts cursor.older) placed.rises goes.rises at shown.left e, rest-rises run parts cursor.older spot shown goes.rises)
    both placement p spot shown at Greater e = (shown, step-older upper.rows (older_left run parts cursor.older) cursor.at p shown.pair (older_rest run parts cursor.older) placed.rises goes.rises at shown.left e)

    by_sides : (o : Option Placement) (s : Option Spot) → slice_get upper.placements cursor.at ≡ o → StandsBy run parts cursor.older s → HeadIs run parts upper cursor (head_of o cursor.older s)
    by_sides None None e stands = step-none upper.rows (older_left run parts cursor.older) cursor.at (placed-none run parts upper.rows upper.placements cursor.at placed.each e) stands
    by_sides None (Some spot) e stands =
        let shown = shown-pair run parts cursor.older spot placed.set stands in
        (shown, step-older_alone upper.rows (older_left run parts cursor.older) cursor.at shown.pair (older_rest run parts cursor.older) (placed-none run parts upper.rows upper.placements cursor.at placed.each e) shown.left)
    by_sides (Some placement) None e stands =
        let there = placed-at run parts upper.rows upper.placements cursor.at placement placed.each e in
        (there.0, there.1, step-newer_alone upper.rows (older_left run parts cursor.older) cursor.at there.0 placed.rises there.1 stands)
    by_sides (Some placement) (Some spot) e stands =
        let there = placed-at run parts upper.rows upper.placements cursor.at placement placed.each e in
        let shown = shown-pair run parts cursor.older spot placed.set stands in
        let order = row_order-keys run parts there.0.key placement cursor.older.place cursor.older.after spot shown.pair placed.set there.2 shown.stands shown.at in
        both placement there.0 spot shown there.1 (row_order placement cursor.older.place) (sym order)
