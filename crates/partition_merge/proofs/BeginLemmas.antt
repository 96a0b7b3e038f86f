-- Where a merge begins: the spots of an index that stay name the puts of the level, and the rows that are left are those of the new pairs above it. To know: merge-begins, rows-begin, live-over_puts.
use Rattle.std.proofs.Common.{◌≡◌, inl, inr, ℕ, suc, Bool, true, false, cond, List, [], ◌∷◌, length, refl, sym, ap, subst, ◌∙◌}
use Rattle.std.specs.Prelude.{slice_get, Option, Some, None, filter, not, ◌||◌}
use Rattle.std.specs.List.{AllByRecursion}
use Rattle.rdb_base.specs.Runs.{IsRun}
use Rattle.rdb_base.specs.Maps.{changed}
use Rattle.rdb_base.specs.Levels.{over, live, level_of, row_before}
use Rattle.rdb_base.specs.declared.row.Row.{Row}
use Rattle.rdb_base.specs.declared.change.Change.{Change}
use Rattle.rdb_base.specs.declared.change.Change.TheVariants.{Put, Del}
use Rattle.rdb_base.specs.declared.pair.Pair.{Pair}
use Rattle.rdb_base.proofs.LiveLemmas.{live-with_pair}
use Rattle.rdb_base.proofs.RunLemmas.{IsRun-filter, IsRun-level_of}
use Rattle.remix_view.specs.declared.spot.Spot.{Spot}
use Rattle.remix_view.specs.declared.walk.Walk.{Walk}
use Rattle.remix_view.specs.declared.segment.Segment.{Segment}
use Rattle.remix_view.specs.Views.{ViewState, IsFormed}
use Rattle.remix_view.specs.Spots.{spots_from}
use Rattle.remix_seek.specs.Versions.{Version, run_at, is_deletion, has_key, newest_of, spots_after}
use Rattle.remix_seek.specs.Indexes.{Indexes}
use Rattle.remix_seek.specs.Places.{IsStanding}
use Rattle.remix_seek.proofs.PlaceLemmas.{is_pair}
use Rattle.remix_seek.proofs.NewestLemmas.{newest_is_level}
use Rattle.remix_seek.proofs.WalkOrderLemmas.{walk_in_order}
use Rattle.remix_seek.proofs.KnownLemmas.{segment_known}
use Rattle.partition_merge.specs.Merging.{stays, kept_from, pair_of_spot, pairs_at, after_pair, IsPut, IsPutThere, IsMergeAt, rows_left}

-- ---- puts alone

abbrev pub put_pair : Pair → Bool
put_pair pair = not (is_deletion pair.change)

-- a list without its deletions has the same rows
pub live-puts : (pairs : List Pair) → live (filter put_pair pairs) ≡ live pairs
live-puts [] = refl
live-puts (p ∷ ps) = by_change p.change refl (live-puts ps)
  where
    by_change : (change : Change) → p.change ≡ change → live (filter put_pair ps) ≡ live ps → live (filter put_pair (p ∷ ps)) ≡ row_before p.key p.change (live ps)
    by_change (Put value) e rest = (rw e refl) ∙ ap (row_before p.key p.change) rest
    by_change Del e rest = (rw e rest)

-- and so has what stands above it
pub live-over_puts : (newer older : List Pair) → live (over newer (filter put_pair older)) ≡ live (over newer older)
live-over_puts [] older = live-puts older
live-over_puts (p ∷ ps) older =
    live-with_pair (over ps (filter put_pair older)) p.key p.change
    ∙ ap (λ (rows : List Row). changed rows p.key p.change) (live-over_puts ps older)
    ∙ sym (live-with_pair (over ps older) p.key p.change)

-- ---- the spots of versions

-- the pair of a version is the one of its run at its place
abbrev pub IsIn : List (List Pair) → Version → Type 0
IsIn runs v = slice_get (run_at runs v.run) v.place ≡ Some v.pair

kept_first : (runs : List (List Pair)) (spot : Spot) (spots : List Spot) (b : Bool) → stays spot ≡ b → pairs_at runs (filter stays (spot ∷ spots)) ≡ cond b (after_pair (pair_of_spot runs spot) (pairs_at runs (filter stays spots))) (pairs_at runs (filter stays spots))
kept_first runs spot spots true e = rw e refl
kept_first runs spot spots false e = rw e refl

newest_first : (last : Option (List ℕ)) (v : Version) (vs : List Version) (old del : Bool) → has_key last v.pair.key ≡ old → is_deletion v.pair.change ≡ del → filter put_pair (newest_of last (v ∷ vs)) ≡ cond (not (old || del)) (v.pair ∷ filter put_pair (newest_of (Some v.pair.key) vs)) (filter put_pair (newest_of (Some v.pair.key) vs))
newest_first last v vs true del e d = rw e refl
newest_first last v vs false true e d = rw (e, d) refl
newest_first last v vs false false e d = rw (e, d) refl

-- the spots of versions that stay name the puts among the newest versions
pub named-versions : (runs : List (List Pair)) (last : Option (List ℕ)) (vs : List Version) → AllByRecursion (IsIn runs) vs → pairs_at runs (filter stays (spots_after last vs)) ≡ filter put_pair (newest_of last vs)
named-versions runs last [] all = refl
named-versions runs last (v ∷ vs) all =
    kept_first runs (record { run = v.run; place = v.place; old = has_key last v.pair.key; del = is_deletion v.pair.change }) (spots_after (Some v.pair.key) vs) (not (has_key last v.pair.key || is_deletion v.pair.change)) refl
    ∙ (λ i. cond (not (has_key last v.pair.key || is_deletion v.pair.change)) (after_pair (all.0 i) (named-versions runs (Some v.pair.key) vs all.1 i)) (named-versions runs (Some v.pair.key) vs all.1 i))
    ∙ sym (newest_first last v vs (has_key last v.pair.key) (is_deletion v.pair.change) refl refl)

-- each of them names a put
pub puts-versions : (runs : List (List Pair)) (last : Option (List ℕ)) (vs : List Version) → AllByRecursion (IsIn runs) vs → AllByRecursion (IsPutThere runs) (filter stays (spots_after last vs))
puts-versions runs last [] all = tt
puts-versions runs last (v ∷ vs) all = by_marks (has_key last v.pair.key) (is_deletion v.pair.change) refl (puts-versions runs (Some v.pair.key) vs all.1)
  where
    by_marks : (old del : Bool) → is_deletion v.pair.change ≡ del → AllByRecursion (IsPutThere runs) (filter stays (spots_after (Some v.pair.key) vs)) → AllByRecursion (IsPutThere runs) (filter stays (record { run = v.run; place = v.place; old = old; del = del } ∷ spots_after (Some v.pair.key) vs))
    by_marks true del e rest = rest
    by_marks false true e rest = rest
    by_marks false false e rest = (subst IsPut (sym all.0) e, rest)

-- ---- the begin

pub all-from_places : {X : Type 0} (P : X → Type 0) (xs : List X) → ((i : ℕ) (x : X) → slice_get xs i ≡ Some x → P x) → AllByRecursion P xs
all-from_places P [] f = tt
all-from_places P (x ∷ xs) f = (f 0 x refl, all-from_places P xs (λ i y e. f (suc i) y e))

-- each version of an index is in its run
versions_in_runs : (runs : List (List Pair)) (view : ViewState) (anchors : List (List ℕ)) → (index : Indexes runs view anchors) → AllByRecursion (IsIn runs) index.versions
versions_in_runs runs view anchors index = all-from_places (IsIn runs) index.versions (λ i v e. (is_pair runs index.versions i v index.view_of e).pair)

-- an index stands at its first place
stands_first : (runs : List (List Pair)) (view : ViewState) (anchors : List (List ℕ)) → IsFormed view → Indexes runs view anchors → IsStanding view 0 0
stands_first runs view anchors formed index = by_segments view.segments refl
  where
    by_segments : (gs : List Segment) → view.segments ≡ gs → IsStanding view 0 0
    by_segments [] e = inl (ap length (sym e), refl)
    by_segments (g ∷ gs) e =
        let at : slice_get view.segments 0 ≡ Some g = ap (λ (ss : List Segment). slice_get ss 0) e in
        inr (g, at, (segment_known runs view anchors 0 g formed index at).some)

-- the first place of an index
abbrev pub first_walk : Walk
first_walk = record { segment = 0; place = 0 }

-- all spots of an index are those of its versions
spots_first : (runs : List (List Pair)) (view : ViewState) (anchors : List (List ℕ)) → IsFormed view → (index : Indexes runs view anchors) → spots_from view 0 0 ≡ spots_after None index.versions
spots_first runs view anchors formed index = walk_in_order runs view anchors formed index 0 0 (stands_first runs view anchors formed index)

pub pairs-begin : (runs : List (List Pair)) (view : ViewState) (anchors : List (List ℕ)) → IsFormed view → Indexes runs view anchors → pairs_at runs (kept_from view first_walk) ≡ filter put_pair (level_of runs)
pairs-begin runs view anchors formed index =
    ap (λ (spots : List Spot). pairs_at runs (filter stays spots)) (spots_first runs view anchors formed index)
    ∙ named-versions runs None index.versions (versions_in_runs runs view anchors index)
    ∙ ap (filter put_pair) (newest_is_level runs index.versions index.view_of)

-- a merge may begin
pub merge-begins : (runs : List (List Pair)) (view : ViewState) (anchors : List (List ℕ)) (newer : List Pair) → IsFormed view → Indexes runs view anchors → IsRun newer → IsMergeAt runs view newer (record { walk = first_walk; at = 0 })
merge-begins runs view anchors newer formed index run = record {
  puts = subst (λ (spots : List Spot). AllByRecursion (IsPutThere runs) (filter stays spots)) (sym (spots_first runs view anchors formed index)) (puts-versions runs None index.versions (versions_in_runs runs view anchors index));
  old_rises = subst IsRun (sym (pairs-begin runs view anchors formed index)) (IsRun-filter put_pair (level_of runs) (IsRun-level_of runs));
  new_rises = run;
}

-- and these rows are left
pub rows-begin : (runs : List (List Pair)) (view : ViewState) (anchors : List (List ℕ)) (newer : List Pair) → IsFormed view → Indexes runs view anchors → rows_left runs view newer (record { walk = first_walk; at = 0 }) ≡ live (over newer (level_of runs))
rows-begin runs view anchors newer formed index = ap (λ (older : List Pair). live (over newer older)) (pairs-begin runs view anchors formed index) ∙ live-over_puts newer (level_of runs)
