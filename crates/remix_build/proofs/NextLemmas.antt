-- The next segment of an index that is being packed: what its calls ask, and what it leaves. To know: next_read, next_named, next_room, next_some, segment_added.
use Rattle.std.proofs.Common.{◌≡◌, ℕ, zero, suc, ◌+◌, ◌-◌, ◌<◌, ◌≤◌, ◌^◌, List, [], ◌∷◌, ◌++◌, length, take, drop, refl, sym, ap, subst, ◌∙◌, arith}
use Rattle.std.specs.Prelude.{◌==◌, slice_get, slice_index, Some, None, replicate}
use Rattle.std.specs.List.{AllByRecursion}
use Rattle.std.proofs.lemmas.List.{take-append-drop}
use Rattle.std.proofs.lemmas.Option.{slice_get-get_or, slice_get_within}
use Rattle.rdb_base.specs.declared.pair.Pair.{Pair}
use Rattle.rdb_base.proofs.Lists.{all-weaker, all-append, all-front, all-back}
use Rattle.remix_view.specs.declared.segment.Segment.{Segment}
use Rattle.remix_view.specs.declared.selector.TheConstants.{FILLER}
use Rattle.remix_view.specs.Selectors.{IsSelector, run_in, rank_in}
use Rattle.remix_view.specs.Views.{segment_with}
use Rattle.remix_view.proofs.Lists.{all-at}
use Rattle.remix_seek.specs.Versions.{Version, run_at, selectors_after, key_before}
use Rattle.remix_seek.specs.Reads.{KeyAt}
use Rattle.remix_seek.specs.Indexes.{IsKeyAt}
use Rattle.remix_seek.proofs.CountLemmas.{count-append, length-front}
use Rattle.remix_seek.proofs.VersionLemmas.{all_runs}
use Rattle.remix_seek.proofs.SegmentLemmas.{selector_there, run_of_selector, length-selectors, SelectorThere}
use Rattle.remix_seek.proofs.PlaceLemmas.{place_there, before_of}
use Rattle.remix_build.specs.Merging.{IsOrder}
use Rattle.remix_build.specs.Packing.{Packed, GroupCut, IsSegmentOf, CountedOn, eight_counts, AreRuns}
use Rattle.remix_build.proofs.CostLemmas.{short_run}
use Rattle.remix_build.proofs.GroupLemmas.{some_cut, drop_selectors}
use Rattle.remix_build.proofs.BuildLemmas.{drop_all_of, drop_sorted, packed_step, anchor_read, room_told, selectors_named, fillers_named, rank_fillers}

-- ---- the version that stands next

there_next : (runs : List (List Pair)) (order : List ℕ) (segments : List Segment) (anchors : List (List ℕ)) (counts : List ℕ) (at : ℕ) → (m : Packed runs order segments anchors counts at) → at < length order → slice_get (selectors_after None m.order_is.versions) at ≡ Some (slice_index order at)
there_next runs order segments anchors counts at m lt = ap (λ (xs : List ℕ). slice_get xs at) (sym m.order_is.told) ∙ slice_get-get_or order at 0 lt

-- its run, and its place there
pub record NextRead (runs : List (List Pair)) (counts : List ℕ) (number : ℕ) : Type 0 where
  pub run : number < length runs
  pub place : slice_index counts number < length (run_at runs number)

pub next_read : (runs : List (List Pair)) (order : List ℕ) (segments : List Segment) (anchors : List (List ℕ)) (counts : List ℕ) (at : ℕ) → length runs ≤ 8 → Packed runs order segments anchors counts at → at < length order → NextRead runs counts (run_in (slice_index order at))
next_read runs order segments anchors counts at few m lt =
    let s : SelectorThere None m.order_is.versions at (slice_index order at) = selector_there None m.order_is.versions at (slice_index order at) (there_next runs order segments anchors counts at m lt) in
    let low : s.version.run < length runs = all-at (λ (v : Version). v.run < length runs) m.order_is.versions at s.version (all_runs runs m.order_is.versions m.order_is.view_of) s.at in
    let named : run_in (slice_index order at) ≡ s.version.run = ap run_in s.is ∙ run_of_selector (key_before None m.order_is.versions at) s.version (omega arith) in
    let stands = place_there runs m.order_is.versions at s.version m.order_is.view_of s.at in
    let inside = slice_get_within (run_at runs s.version.run) (before_of s.version.run at m.order_is.versions) s.version.pair stands.pair in
    subst (NextRead runs counts) (sym named) (record { run = low; place = subst (λ (n : ℕ). n < length (run_at runs s.version.run)) (sym (m.counted s.version.run low)) inside })

-- the key that is read there is that of the next version
pub next_anchor : (runs : List (List Pair)) (order : List ℕ) (segments : List Segment) (anchors : List (List ℕ)) (counts : List ℕ) (at : ℕ) (key : List ℕ) → length runs ≤ 8 → (m : Packed runs order segments anchors counts at) → at < length order → KeyAt (run_at runs (run_in (slice_index order at))) (slice_index counts (run_in (slice_index order at))) key → IsKeyAt at m.order_is.versions key
next_anchor runs order segments anchors counts at key few m lt read =
    anchor_read runs m.order_is.versions at (slice_index order at) (slice_index counts (run_in (slice_index order at))) key few m.order_is.view_of (there_next runs order segments anchors counts at m lt)
    (m.counted (run_in (slice_index order at)) (next_read runs order segments anchors counts at few m lt).run) read

-- ---- what a push asks

all_named : (runs : List (List Pair)) (order : List ℕ) → length runs ≤ 8 → IsOrder runs order → AllByRecursion (IsSelector (length runs)) order
all_named runs order few is = subst (AllByRecursion (IsSelector (length runs))) (sym is.told) (selectors_named (length runs) None is.versions few (all_runs runs is.versions is.view_of))

part_named : (runs at n : ℕ) (order : List ℕ) → AllByRecursion (IsSelector runs) order → AllByRecursion (IsSelector runs) (take n (drop at order))
part_named runs at n order all =
    let rest = all-back (IsSelector runs) (take at order) (drop at order) (subst (AllByRecursion (IsSelector runs)) (sym (take-append-drop at order)) all) in
    all-front (IsSelector runs) (take n (drop at order)) (drop n (drop at order)) (subst (AllByRecursion (IsSelector runs)) (sym (take-append-drop n (drop at order))) rest)

pub next_named : (runs : List (List Pair)) (order front selectors : List ℕ) (at n k : ℕ) → length runs ≤ 8 → IsOrder runs order → front ≡ take n (drop at order) → selectors ≡ front ++ replicate k FILLER → AllByRecursion (IsSelector (length runs)) selectors
next_named runs order front selectors at n k few is e f =
    subst (AllByRecursion (IsSelector (length runs))) (sym f)
    (all-append (IsSelector (length runs)) front (replicate k FILLER) (subst (AllByRecursion (IsSelector (length runs))) (sym e) (part_named (length runs) at n order (all_named runs order few is))) (fillers_named (length runs) k))

pub next_room : (runs : List (List Pair)) (order front : List ℕ) (segments : List Segment) (anchors : List (List ℕ)) (counts : List ℕ) (at n run : ℕ) → length runs ≤ 8 → AreRuns runs → Packed runs order segments anchors counts at → front ≡ take n (drop at order) → run < length runs → slice_index counts run + rank_in run front < 2 ^ 32
next_room runs order front segments anchors counts at n run few all m e low =
    let small : AllByRecursion (λ (v : Version). v.run < 63) m.order_is.versions = all-weaker (λ (v : Version). v.run < length runs) (λ (v : Version). v.run < 63) (λ v h. omega arith) m.order_is.versions (all_runs runs m.order_is.versions m.order_is.view_of) in
    let room = room_told runs m.order_is.versions counts at n run m.order_is.view_of small (short_run runs run all low) (m.counted run low) in
    subst (λ (xs : List ℕ). slice_index counts run + rank_in run xs < 2 ^ 32) (ap (λ (xs : List ℕ). take n (drop at xs)) (sym m.order_is.told) ∙ sym e) room

pub next_reach : (runs : List (List Pair)) (order front selectors : List ℕ) (segments : List Segment) (anchors : List (List ℕ)) (counts : List ℕ) (at n k run : ℕ) → length runs ≤ 8 → AreRuns runs → Packed runs order segments anchors counts at → front ≡ take n (drop at order) → selectors ≡ front ++ replicate k FILLER → run < length runs → slice_index counts run + rank_in run selectors < 2 ^ 32
next_reach runs order front selectors segments anchors counts at n k run few all m e f low =
    let room = next_room runs order front segments anchors counts at n run few all m e low in
    let ranks : rank_in run selectors ≡ rank_in run front = ap (rank_in run) f ∙ count-append (λ x. run_in x == run) front (replicate k FILLER) ∙ ap (λ (c : ℕ). rank_in run front + c) (rank_fillers run k (omega arith)) ∙ omega arith in
    omega arith

-- ---- what the segment leaves

-- a segment takes something
pub next_some : (runs : List (List Pair)) (order : List ℕ) (segments : List Segment) (anchors : List (List ℕ)) (counts : List ℕ) (at n : ℕ) → length runs ≤ 8 → Packed runs order segments anchors counts at → at < length order → GroupCut (drop at order) n → 0 < n
next_some runs order segments anchors counts at n few m lt cut =
    some_cut (key_before None m.order_is.versions at) (drop at m.order_is.versions) n (left_over m.order_is.versions at (omega (arith, ap length m.order_is.told, length-selectors None m.order_is.versions)))
    (drop_sorted at m.order_is.versions m.order_is.view_of.sorted)
    (drop_all_of (λ (v : Version). v.run < 8) at m.order_is.versions (all-weaker (λ (v : Version). v.run < length runs) (λ (v : Version). v.run < 8) (λ v h. omega arith) m.order_is.versions (all_runs runs m.order_is.versions m.order_is.view_of)))
    (subst (λ (xs : List ℕ). GroupCut xs n) (ap (drop at) m.order_is.told ∙ drop_selectors None m.order_is.versions at) cut)
  where
    left_over : (vs : List Version) (i : ℕ) → i < length vs → 0 < length (drop i vs)
    left_over [] i h = absurd (omega arith)
    left_over (v ∷ vs) zero h = omega arith
    left_over (v ∷ vs) (suc i) h = left_over vs i (omega arith)

pub front_length : (order front : List ℕ) (at n : ℕ) → GroupCut (drop at order) n → front ≡ take n (drop at order) → length front ≡ n
front_length order front at n cut e = ap length e ∙ length-front n (drop at order) cut.inside

pub segment_added : (runs : List (List Pair)) (order front selectors : List ℕ) (segments grown : List Segment) (anchors keys : List (List ℕ)) (counts later : List ℕ) (at n : ℕ) (a : List ℕ) → length runs ≤ 8 → (m : Packed runs order segments anchors counts at) → at < length order → GroupCut (drop at order) n → front ≡ take n (drop at order) → selectors ≡ front ++ replicate (32 - length front) FILLER → grown ≡ segments ++ segment_with counts selectors ∷ [] → keys ≡ anchors ++ a ∷ [] → KeyAt (run_at runs (run_in (slice_index order at))) (slice_index counts (run_in (slice_index order at))) a → CountedOn counts front later → Packed runs order grown keys later (at + n)
segment_added runs order front selectors segments grown anchors keys counts later at n a few m lt cut e f g k read on =
    let of : IsSegmentOf (drop at order) n (eight_counts counts) (segment_with counts selectors) = record { offsets = refl; selectors_are = f ∙ (λ i. e i ++ replicate (32 - front_length order front at n cut e i) FILLER) } in
    let go = packed_step runs order segments anchors counts later at n (segment_with counts selectors) a few m lt cut of (next_anchor runs order segments anchors counts at a few m lt read) (subst (λ (xs : List ℕ). CountedOn counts xs later) e on) in
    subst (λ (gs : List Segment). Packed runs order gs keys later (at + n)) (sym g) (subst (λ (ks : List (List ℕ)). Packed runs order (segments ++ segment_with counts selectors ∷ []) ks later (at + n)) (sym k) go)
