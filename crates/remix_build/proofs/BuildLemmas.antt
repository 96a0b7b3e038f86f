-- An index of selectors grows by a segment and is at last that of the runs. To know: packed_step, packed_ended.
use Rattle.std.proofs.Common.{◌≡◌, ℕ, zero, suc, ◌+◌, ◌<◌, ◌≤◌, Bool, true, false, List, [], ◌∷◌, ◌++◌, length, take, drop, refl, sym, ap, subst, ◌∙◌, arith}
use Rattle.std.specs.Prelude.{◌==◌, slice_get, slice_index, Some, None, filter}
use Rattle.std.specs.Prelude.{replicate, Option}
use Rattle.std.proofs.lemmas.Bool.Decides.{nat_tests}
use Rattle.remix_view.specs.declared.selector.TheConstants.{FILLER}
use Rattle.std.proofs.lemmas.List.Sums.{length-filter, sum_by-take-le}
use Rattle.std.proofs.Common.{◌^◌, cond}
use Rattle.std.specs.List.{AllByRecursion, count_by, sum_by}
use Rattle.std.proofs.Math.Seq.{take-add}
use Rattle.std.proofs.lemmas.List.{drop-drop, take_all}
use Rattle.std.proofs.lemmas.Option.{slice_get-get_or}
use Rattle.std.proofs.lemmas.List.Sums.{sum_by-append, sum_by-cons}
use Rattle.rdb_base.proofs.Lists.{all-weaker, all-append}
use Rattle.rdb_base.specs.declared.pair.Pair.{Pair}
use Rattle.remix_view.specs.declared.segment.Segment.{Segment}
use Rattle.remix_seek.specs.Reads.{KeyAt, KeyOf}
use Rattle.remix_view.specs.Selectors.{IsSelector, old_in, is_filler, run_in}
use Rattle.remix_seek.specs.Versions.{run_at, IsSortedView, versions_in, Version, AreSorted, selectors_after, key_before, has_key}
use Rattle.remix_seek.proofs.CountLemmas.{count-no, count-append}
use Rattle.remix_seek.proofs.SegmentLemmas.{run_of_selector, selector_there, old_of_selector, length-selectors, ranks_there}
use Rattle.remix_seek.proofs.PlaceLemmas.{place_there}
use Rattle.remix_view.specs.Views.{ViewState}
use Rattle.remix_seek.specs.Indexes.{IsSegment, filled, IsKeyAt, Indexes, not_filler, counts_below}
use Rattle.remix_build.specs.Merging.{IsOrder}
use Rattle.remix_build.specs.Packing.{Packed, GroupCut, IsSegmentOf, CountedOn, eight_counts, group_size}
use Rattle.remix_seek.proofs.VersionLemmas.{SplitsAt, all_runs}
use Rattle.remix_seek.proofs.KnownLemmas.{newest_splits}
use Rattle.remix_view.proofs.Lists.{all-at, some_same}
use Rattle.remix_build.proofs.PackLemmas.{flat_snoc, anchored_snoc, packed_snoc, offsets_told}
use Rattle.remix_build.proofs.GroupLemmas.{Made, segment_made, some_cut, none_fillers, drop_selectors, drop_at, next_full, closed_full, closed_snoc}

pub drop_sorted : (n : ℕ) (vs : List Version) → AreSorted vs → AreSorted (drop n vs)
drop_sorted zero vs h = h
drop_sorted (suc n) [] h = h
drop_sorted (suc n) (v ∷ vs) h = drop_sorted n vs h.1

pub drop_all_of : (P : Version → Type 0) (n : ℕ) (vs : List Version) → AllByRecursion P vs → AllByRecursion P (drop n vs)
drop_all_of P zero vs h = h
drop_all_of P (suc n) [] h = h
drop_all_of P (suc n) (v ∷ vs) h = drop_all_of P n vs h.1

length_rest : {X : Type 0} (xs : List X) (n : ℕ) → n ≤ length xs → n + length (drop n xs) ≡ length xs
length_rest xs zero le = omega arith
length_rest [] (suc n) le = absurd (omega arith)
length_rest (x ∷ xs) (suc n) le = let e = length_rest xs n (omega arith) in omega arith

pub packed_step : (runs : List (List Pair)) (order : List ℕ) (segments : List Segment) (anchors : List (List ℕ)) (counts later : List ℕ) (at n : ℕ) (g : Segment) (a : List ℕ) → length runs ≤ 8 → (m : Packed runs order segments anchors counts at) → at < length order → GroupCut (drop at order) n → IsSegmentOf (drop at order) n (eight_counts counts) g → IsKeyAt at m.order_is.versions a → CountedOn counts (take n (drop at order)) later → Packed runs order (segments ++ g ∷ []) (anchors ++ a ∷ []) later (at + n)
packed_step runs order segments anchors counts later at n g a few m lt cut of after on =
    record {
      order_is = m.order_is;
      inside = omega (arith, cut.inside, length_rest order at m.inside);
      named = flat_snoc (λ s. filter not_filler s.selectors) segments g ∙ (λ i. m.named i ++ made.named i) ∙ sym (take-add at n order);
      each = all-append IsSegment segments (g ∷ []) m.each (made.is, tt);
      packed = packed_snoc segments g m.packed (closed_full segments (drop at order) g (m.closed lt) made.group);
      closed = λ more. closed_snoc segments (drop (at + n) order) g (full more);
      anchored = anchored_snoc runs m.order_is.versions 0 segments anchors g a m.anchored (subst (λ (k : ℕ). IsKeyAt k m.order_is.versions a) (begins (sum_by filled segments) m.start) after) offsets;
      start = sum_by-append filled segments (g ∷ []) ∙ (λ i. m.start i + single i);
      newest = λ more. newest more;
      long = on.0 ∙ m.long;
      counted = λ run low. on.1 run (omega (arith, m.long)) ∙ (λ i. m.counted run low i + ranks run i) ∙ sym (ap (count_by (λ (v : Version). v.run == run)) (take-add at n m.order_is.versions) ∙ count-append (λ (v : Version). v.run == run) (take at m.order_is.versions) (take n (drop at m.order_is.versions)));
    }
  where
    begins : (k : ℕ) → k ≡ at → at ≡ 0 + k
    begins k e = omega arith

    is_rest : drop at order ≡ selectors_after (key_before None m.order_is.versions at) (drop at m.order_is.versions)
    is_rest = ap (drop at) m.order_is.told ∙ drop_selectors None m.order_is.versions at

    long_order : length order ≡ length m.order_is.versions
    long_order = ap length m.order_is.told ∙ length-selectors None m.order_is.versions

    low : AllByRecursion (λ (v : Version). v.run < 8) m.order_is.versions
    low = all-weaker (λ (v : Version). v.run < length runs) (λ (v : Version). v.run < 8) (λ v h. omega arith) m.order_is.versions (all_runs runs m.order_is.versions m.order_is.view_of)

    small : AllByRecursion (λ (v : Version). v.run < 63) m.order_is.versions
    small = all-weaker (λ (v : Version). v.run < 8) (λ (v : Version). v.run < 63) (λ v h. omega arith) m.order_is.versions low

    some : 0 < n
    some = some_cut (key_before None m.order_is.versions at) (drop at m.order_is.versions) n (omega (arith, length_rest m.order_is.versions at (omega (arith, long_order, m.inside)), long_order)) (drop_sorted at m.order_is.versions m.order_is.view_of.sorted) (drop_all_of (λ (v : Version). v.run < 8) at m.order_is.versions low) (subst (λ (xs : List ℕ). GroupCut xs n) is_rest cut)

    named : AllByRecursion (λ y. is_filler y ≡ false) (drop at order)
    named = subst (AllByRecursion (λ y. is_filler y ≡ false)) (sym is_rest) (none_fillers (key_before None m.order_is.versions at) (drop at m.order_is.versions) (drop_all_of (λ (v : Version). v.run < 63) at m.order_is.versions small))

    no_more : (k : ℕ) → k + 0 ≡ k
    no_more k = omega arith

    first : old_in (slice_index (drop at order) 0) ≡ false
    first = ap old_in (drop_at order at 0 ∙ ap (λ (k : ℕ). slice_index order k) (no_more at)) ∙ m.newest lt

    made : Made (drop at order) n g
    made = segment_made (drop at order) n (eight_counts counts) g some named first cut of

    full : at + n < length order → 32 < filled g + group_size (drop (at + n) order)
    full more =
        let h = next_full (drop at order) n cut (omega (arith, length_rest order at m.inside)) in
        let e : group_size (drop n (drop at order)) ≡ group_size (drop (at + n) order) = ap group_size (drop-drop n at order) in
        omega (arith, made.many)

    newest : at + n < length order → old_in (slice_index order (at + n)) ≡ false
    newest more = ap old_in (sym (drop_at order at n)) ∙ by_test (old_in (slice_index (drop at order) n)) (cut.ends (omega (arith, length_rest order at m.inside)))
      where
        by_test : (b : Bool) → (b ≡ true → n ≡ 0) → b ≡ false
        by_test false h = refl
        by_test true h = absurd (let e = h refl in let k = some in omega arith)

    single : sum_by filled (g ∷ []) ≡ n
    single = sum_by-cons filled g [] ∙ no_more (filled g) ∙ made.many

    ranks : (run : ℕ) → count_by (λ y. run_in y == run) (take n (drop at order)) ≡ count_by (λ (v : Version). v.run == run) (take n (drop at m.order_is.versions))
    ranks run = ap (λ (xs : List ℕ). count_by (λ y. run_in y == run) (take n (drop at xs))) m.order_is.told ∙ ranks_there run at n None m.order_is.versions small

    splits : SplitsAt a m.order_is.versions at
    splits =
        let there = selector_there None m.order_is.versions at (slice_index order at) (ap (λ (xs : List ℕ). slice_get xs at) (sym m.order_is.told) ∙ slice_get-get_or order at 0 lt) in
        let small_here : there.version.run < 63 = all-at (λ (v : Version). v.run < 63) m.order_is.versions at there.version small there.at in
        let key : there.version.pair.key ≡ a = ap (λ (v : Version). v.pair.key) (some_same there.version after.0 (sym there.at ∙ after.1)) ∙ after.2 in
        let fresh : has_key (key_before None m.order_is.versions at) there.version.pair.key ≡ false = sym (old_of_selector (key_before None m.order_is.versions at) there.version small_here) ∙ ap old_in (sym there.is) ∙ m.newest lt in
        subst (λ (k : List ℕ). SplitsAt k m.order_is.versions at) key (newest_splits m.order_is.versions at there.version m.order_is.view_of.sorted there.at fresh)

    offsets : g.offsets ≡ counts_below a runs
    offsets = of.offsets ∙ offsets_told runs m.order_is.versions a at counts few m.order_is.view_of splits m.long m.counted

-- all selectors are packed: the index stands for the runs
pub packed_ended : (runs : List (List Pair)) (order : List ℕ) (view : ViewState) (anchors : List (List ℕ)) (counts : List ℕ) (at : ℕ) → Packed runs order view.segments anchors counts at → at ≡ length order → view.runs ≡ length runs → Indexes runs view anchors
packed_ended runs order view anchors counts at m ends told = record {
  versions = m.order_is.versions;
  view_of = m.order_is.view_of;
  runs_told = told;
  named = m.named ∙ take_all at order (omega arith) ∙ m.order_is.told;
  segments = m.each;
  packed = m.packed;
  anchored = m.anchored;
}

-- no segment yet
pub packed_begun : (runs : List (List Pair)) (order counts : List ℕ) → length runs ≤ 8 → IsOrder runs order → length counts ≡ length runs → ((run : ℕ) → run < length runs → slice_index counts run ≡ 0) → Packed runs order [] [] counts 0
packed_begun runs order counts few is long zeros = record {
  order_is = is;
  inside = omega arith;
  named = refl;
  each = tt;
  packed = tt;
  closed = λ lt. tt;
  anchored = tt;
  start = refl;
  newest = λ lt. first is.versions (all-weaker (λ (v : Version). v.run < length runs) (λ (v : Version). v.run < 63) (λ v h. omega arith) is.versions (all_runs runs is.versions is.view_of)) (ap (λ (xs : List ℕ). slice_index xs 0) is.told) (omega (arith, ap length is.told));
  long = long;
  counted = zeros;
}
  where
    first : (vs : List Version) → AllByRecursion (λ (u : Version). u.run < 63) vs → slice_index order 0 ≡ slice_index (selectors_after None vs) 0 → 0 < length (selectors_after None vs) → old_in (slice_index order 0) ≡ false
    first [] all e lt = absurd (omega arith)
    first (v ∷ vs) all e lt = ap old_in e ∙ old_of_selector None v all.0

-- ---- what `View::push` asks, and the anchor

pub rank_fillers : (run k : ℕ) → run < 8 → count_by (λ y. run_in y == run) (replicate k FILLER) ≡ 0
rank_fillers run zero low = refl
rank_fillers run (suc k) low = count-no (λ y. run_in y == run) FILLER (replicate k FILLER) (other run low) ∙ rank_fillers run k low
  where
    other : (run : ℕ) → run < 8 → (63 == run) ≡ false
    other run low = grind (arith, nat_tests)

pub selectors_named : (runs : ℕ) (last : Option (List ℕ)) (vs : List Version) → runs ≤ 8 → AllByRecursion (λ (v : Version). v.run < runs) vs → AllByRecursion (IsSelector runs) (selectors_after last vs)
selectors_named runs last [] few all = tt
selectors_named runs last (v ∷ vs) few all = (λ other. subst (λ (r : ℕ). r < runs) (sym (run_of_selector last v (omega (arith, all.0)))) all.0, selectors_named runs (Some v.pair.key) vs few all.1)

pub fillers_named : (runs k : ℕ) → AllByRecursion (IsSelector runs) (replicate k FILLER)
fillers_named runs zero = tt
fillers_named runs (suc k) = (λ other. absurd (other refl), fillers_named runs k)

-- the pair of the version at a place, read by the counts
pub anchor_read : (runs : List (List Pair)) (vs : List Version) (at selector count : ℕ) (key : List ℕ) → length runs ≤ 8 → IsSortedView runs vs → slice_get (selectors_after None vs) at ≡ Some selector → count ≡ count_by (λ (v : Version). v.run == run_in selector) (take at vs) → KeyAt (run_at runs (run_in selector)) count key → IsKeyAt at vs key
anchor_read runs vs at selector count key few view there is read =
    let s = selector_there None vs at selector there in
    let low : s.version.run < length runs = all-at (λ (v : Version). v.run < length runs) vs at s.version (all_runs runs vs view) s.at in
    let run : run_in selector ≡ s.version.run = ap run_in s.is ∙ run_of_selector (key_before None vs at) s.version (omega arith) in
    let stands = place_there runs vs at s.version view s.at in
    let pair : slice_get (run_at runs (run_in selector)) count ≡ Some s.version.pair = (λ i. slice_get (run_at runs (run i)) ((is ∙ ap (λ (r : ℕ). count_by (λ (v : Version). v.run == r) (take at vs)) run) i)) ∙ stands.pair in
    (s.version, s.at, sym (subst (λ (o : Option Pair). KeyOf o key) pair read))

pub room_told : (runs : List (List Pair)) (vs : List Version) (counts : List ℕ) (at n run : ℕ) → IsSortedView runs vs → AllByRecursion (λ (v : Version). v.run < 63) vs → length (run_at runs run) < 2 ^ 32 → slice_index counts run ≡ count_by (λ (v : Version). v.run == run) (take at vs) → slice_index counts run + count_by (λ y. run_in y == run) (take n (drop at (selectors_after None vs))) < 2 ^ 32
room_told runs vs counts at n run view small short is =
    let a : count_by (λ y. run_in y == run) (take n (drop at (selectors_after None vs))) ≡ count_by (λ (v : Version). v.run == run) (take n (drop at vs)) = ranks_there run at n None vs small in
    let b : count_by (λ (v : Version). v.run == run) (take (at + n) vs) ≡ count_by (λ (v : Version). v.run == run) (take at vs) + count_by (λ (v : Version). v.run == run) (take n (drop at vs)) = ap (count_by (λ (v : Version). v.run == run)) (take-add at n vs) ∙ count-append (λ (v : Version). v.run == run) (take at vs) (take n (drop at vs)) in
    let c : count_by (λ (v : Version). v.run == run) (take (at + n) vs) ≤ count_by (λ (v : Version). v.run == run) vs = sum_by-take-le (λ (v : Version). cond (v.run == run) 1 0) vs (at + n) in
    let d : count_by (λ (v : Version). v.run == run) vs ≡ length (run_at runs run) = sym (length-filter (λ (v : Version). v.run == run) vs) ∙ ap length (view.all run) ∙ length_in run 0 (run_at runs run) in
    omega arith
  where
    length_in : (run start : ℕ) (pairs : List Pair) → length (versions_in run start pairs) ≡ length pairs
    length_in run start [] = refl
    length_in run start (x ∷ xs) = let e = length_in run (start + 1) xs in omega arith
