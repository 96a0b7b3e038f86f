-- What is known of a segment of an index: its versions, its anchor, and where it begins. To know: SegmentKnown, segment_known.
use Rattle.std.proofs.Common.{◌≡◌, ℕ, zero, suc, ◌+◌, ◌<◌, ◌≤◌, Bool, true, false, List, [], ◌∷◌, length, take, drop, refl, sym, ap, subst, ◌∙◌, arith}
use Rattle.std.specs.Prelude.{◌==◌, slice_get, slice_index, Option, Some, None}
use Rattle.std.specs.List.{AllByRecursion, count_by, sum_by}
use Rattle.std.specs.Ordering.{is_lt, is_eq}
use Rattle.std.specs.declared.cmp.Ordering.{Ordering}
use Rattle.std.specs.declared.cmp.Ordering.TheVariants.{Less, Equal, Greater}
use Rattle.std.proofs.Math.Seq.{take-add}
use Rattle.std.proofs.lemmas.List.{take-take, take_all}
use Rattle.std.proofs.lemmas.Option.{slice_get-get_or}
use Rattle.std.proofs.lemmas.List.Sums.{sum_by-cons, length-filter, count_by-le-length}
use Rattle.std.proofs.lemmas.List.Concat.{length-flat_map}
use Rattle.rdb_base.specs.Order.{key_cmp}
use Rattle.rdb_base.proofs.KeyOrder.{key_cmp-same}
use Rattle.rdb_base.proofs.Lists.{all-weaker}
use Rattle.rdb_base.specs.declared.pair.Pair.{Pair}
use Rattle.remix_view.specs.declared.segment.Segment.{Segment}
use Rattle.remix_seek.specs.Searches.{place_in_run}
use Rattle.remix_view.specs.Views.{ViewState, IsFormed}
use Rattle.remix_view.specs.Selectors.{is_filler, run_in, old_in, rank_in}
use Rattle.remix_seek.specs.Versions.{Version, IsSortedView, AreSorted, is_before, before_by, run_at, selector_of, selectors_after, has_key, key_before}
use Rattle.remix_seek.specs.Indexes.{below_in, counts_below, not_filler, named_in, filled, IsSegment, Indexes}
use Rattle.remix_seek.proofs.CountLemmas.{count-append, part-of, get-part, get-front}
use Rattle.remix_view.proofs.Lists.{all-at, some_same}
use Rattle.std.proofs.lemmas.Option.{slice_get_within}
use Rattle.remix_seek.proofs.VersionLemmas.{SplitsAt, below_there, found_below, sorted_falls, below_of_run, all_runs}
use Rattle.remix_seek.proofs.PlaceLemmas.{place_there, before_of}
use Rattle.remix_seek.proofs.SegmentLemmas.{start_of, named_of, run_of_selector, old_of_selector, selector_there, length-selectors, ranks_there, closed_front, filler_there, AnchorThere, anchor_there}

-- ---- the part of the selectors that a segment has

start_is : (segments : List Segment) → sum_by (λ y. length (named_of y)) segments ≡ sum_by filled segments
start_is [] = refl
start_is (x ∷ xs) =
    sum_by-cons (λ y. length (named_of y)) x xs
    ∙ (λ i. length-filter not_filler x.selectors i + start_is xs i)
    ∙ sym (sum_by-cons filled x xs)

pub part_is : (view : ViewState) (sels : List ℕ) (s m : ℕ) (g : Segment) → named_in view ≡ sels → IsSegment g → slice_get view.segments s ≡ Some g → m ≤ filled g → take m (drop (start_of view.segments s) sels) ≡ take m g.selectors
part_is view sels s m g named is at le =
    (λ i. take m (drop (sym (start_is (take s view.segments)) i) (sym named i)))
    ∙ part-of named_of view.segments s m g at (omega (arith, length-filter not_filler g.selectors))
    ∙ ap (λ (xs : List ℕ). take m xs) (closed_front g.selectors is.closed)
    ∙ take-take m (filled g) g.selectors le

-- ---- the keys before

pub key_before_there : (last : Option (List ℕ)) (vs : List Version) (n : ℕ) (u : Version) → slice_get vs n ≡ Some u → key_before last vs (suc n) ≡ Some u.pair.key
key_before_there last [] n u e = absurd cc
key_before_there last (v ∷ vs) zero u e = ap (λ (w : Version). Some w.pair.key) (some_same v u e)
key_before_there last (v ∷ vs) (suc n) u e = key_before_there (Some v.pair.key) vs n u e

next_sorted : (vs : List Version) (n : ℕ) (u w : Version) → AreSorted vs → slice_get vs n ≡ Some u → slice_get vs (suc n) ≡ Some w → is_before u w ≡ true
next_sorted [] n u w sorted e f = absurd cc
next_sorted (v ∷ []) zero u w sorted e f = absurd cc
next_sorted (v ∷ (x ∷ vs)) zero u w sorted e f = (λ i. is_before (sym (some_same v u e) i) (sym (some_same x w f) i)) ∙ sorted.0.0
next_sorted (v ∷ vs) (suc n) u w sorted e f = next_sorted vs n u w sorted.1 e f

member : (vs : List Version) (i : ℕ) → i < length vs → (v : Version) × (slice_get vs i ≡ Some v)
member [] i h = absurd (omega arith)
member (v ∷ vs) zero h = (v, refl)
member (v ∷ vs) (suc i) h = member vs i (omega arith)

below_itself : (key : List ℕ) → is_lt (key_cmp key key) ≡ false
below_itself key = ap is_lt (key_cmp-same key)

-- the version before is below, where it has another key
newest_after : (u w : Version) → is_before u w ≡ true → is_eq (key_cmp u.pair.key w.pair.key) ≡ false → is_lt (key_cmp u.pair.key w.pair.key) ≡ true
newest_after u w before other = by_order (key_cmp u.pair.key w.pair.key) before other
  where
    by_order : (r : Ordering) → before_by r u.run w.run ≡ true → is_eq r ≡ false → is_lt r ≡ true
    by_order Less h o = refl
    by_order Equal h o = absurd cc
    by_order Greater h o = absurd cc

-- a newest version splits the versions at its key
pub newest_splits : (vs : List Version) (n : ℕ) (v : Version) → AreSorted vs → slice_get vs n ≡ Some v → has_key (key_before None vs n) v.pair.key ≡ false → SplitsAt v.pair.key vs n
newest_splits vs n v sorted at newest = record { inside = (let h = slice_get_within vs n v at in omega arith); before = before n at newest; after = λ i le. after i le (below_there v.pair.key vs i) refl }
  where
    after : (i : ℕ) → n ≤ i → (b : Bool) → below_there v.pair.key vs i ≡ b → b ≡ false
    after i le false e = refl
    after i le true e = sym (sorted_falls vs v.pair.key n i sorted le e) ∙ ap (found_below v.pair.key) at ∙ below_itself v.pair.key

    before : (m : ℕ) → slice_get vs m ≡ Some v → has_key (key_before None vs m) v.pair.key ≡ false → (i : ℕ) → i < m → below_there v.pair.key vs i ≡ true
    before zero at newest i lt = absurd (omega arith)
    before (suc m) at newest i lt =
        let u = member vs m (let h = slice_get_within vs (suc m) v at in omega arith) in
        let other : is_eq (key_cmp u.0.pair.key v.pair.key) ≡ false = ap (λ (o : Option (List ℕ)). has_key o v.pair.key) (sym (key_before_there None vs m u.0 u.1)) ∙ newest in
        let here : below_there v.pair.key vs m ≡ true = ap (found_below v.pair.key) u.1 ∙ newest_after u.0 v (next_sorted vs m u.0 v sorted u.1 at) other in
        sorted_falls vs v.pair.key i m sorted (omega arith) here

-- ---- the version at a place

pub record VersionThere (runs : List (List Pair)) (vs : List Version) (start : ℕ) (g : Segment) (j : ℕ) : Type 0 where
  pub version : Version
  pub at : slice_get vs (start + j) ≡ Some version
  pub is : slice_index g.selectors j ≡ selector_of (key_before None vs (start + j)) version
  pub low : version.run < length runs
  pub small : version.run < 63

pub version_there : (runs : List (List Pair)) (view : ViewState) (vs : List Version) (s j : ℕ) (g : Segment) → length runs ≤ 8 → IsSortedView runs vs → named_in view ≡ selectors_after None vs → IsSegment g → slice_get view.segments s ≡ Some g → j < filled g → j < length g.selectors → VersionThere runs vs (start_of view.segments s) g j
version_there runs view vs s j g few sorted named is at lt inside =
    let here : slice_get (selectors_after None vs) (start_of view.segments s + j) ≡ Some (slice_index g.selectors j) =
    sym (get-part (filled g) (start_of view.segments s) j (selectors_after None vs) lt)
    ∙ ap (λ (xs : List ℕ). slice_get xs j) (part_is view (selectors_after None vs) s (filled g) g named is at (omega arith))
    ∙ get-front (filled g) j g.selectors lt
    ∙ slice_get-get_or g.selectors j 0 inside in
    let r = selector_there None vs (start_of view.segments s + j) (slice_index g.selectors j) here in
    let low : r.version.run < length runs = all-at (λ (v : Version). v.run < length runs) vs (start_of view.segments s + j) r.version (all_runs runs vs sorted) r.at in
    record { version = r.version; at = r.at; is = r.is; low = low; small = omega arith }

offset_at : (key : List ℕ) (runs : List (List Pair)) (r : ℕ) → r < 8 → slice_index (counts_below key runs) r ≡ below_in key (run_at runs r)
offset_at key runs zero h = refl
offset_at key runs (suc zero) h = refl
offset_at key runs (suc (suc zero)) h = refl
offset_at key runs (suc (suc (suc zero))) h = refl
offset_at key runs (suc (suc (suc (suc zero)))) h = refl
offset_at key runs (suc (suc (suc (suc (suc zero))))) h = refl
offset_at key runs (suc (suc (suc (suc (suc (suc zero)))))) h = refl
offset_at key runs (suc (suc (suc (suc (suc (suc (suc zero))))))) h = refl
offset_at key runs (suc (suc (suc (suc (suc (suc (suc (suc n)))))))) h = absurd (omega arith)

-- the first version of a segment splits the versions at the anchor
pub start_splits : (runs : List (List Pair)) (vs : List Version) (start : ℕ) (g : Segment) (anchors : List (List ℕ)) (s : ℕ) → AreSorted vs → IsSegment g → VersionThere runs vs start g 0 → (a : AnchorThere runs vs start anchors s g) → SplitsAt a.anchor vs start
start_splits runs vs start g anchors s sorted is v a =
    let at : slice_get vs start ≡ Some v.version = ap (λ (n : ℕ). slice_get vs n) (more start) ∙ v.at in
    let key : v.version.pair.key ≡ a.anchor = ap (λ (u : Version). u.pair.key) (some_same v.version a.after.0 (sym at ∙ a.after.1)) ∙ a.after.2 in
    let newest : has_key (key_before None vs start) v.version.pair.key ≡ false =
    ap (λ (n : ℕ). has_key (key_before None vs n) v.version.pair.key) (more start) ∙ sym (old_of_selector (key_before None vs (start + 0)) v.version v.small) ∙ ap old_in (sym v.is) ∙ is.newest in
    subst (λ (k : List ℕ). SplitsAt k vs start) key (newest_splits vs start v.version sorted at newest)
  where
    more : (n : ℕ) → n ≡ n + 0
    more n = omega arith

pub record PlaceOf (runs : List (List Pair)) (v : Version) (g : Segment) (j : ℕ) : Type 0 where
  pub run : run_in (slice_index g.selectors j) ≡ v.run
  pub place : place_in_run g j (slice_index g.selectors j) ≡ v.place
  pub pair : slice_get (run_at runs (run_in (slice_index g.selectors j))) (place_in_run g j (slice_index g.selectors j)) ≡ Some v.pair

pub place_of : (runs : List (List Pair)) (view : ViewState) (vs : List Version) (anchor : List ℕ) (s j : ℕ) (g : Segment) → length runs ≤ 8 → IsSortedView runs vs → named_in view ≡ selectors_after None vs → IsSegment g → slice_get view.segments s ≡ Some g → j < filled g → g.offsets ≡ counts_below anchor runs → SplitsAt anchor vs (start_of view.segments s) → (v : VersionThere runs vs (start_of view.segments s) g j) → PlaceOf runs v.version g j
place_of runs view vs anchor s j g few sorted named is at lt offsets splits v =
    let run : run_in (slice_index g.selectors j) ≡ v.version.run = ap run_in v.is ∙ run_of_selector (key_before None vs (start_of view.segments s + j)) v.version v.small in
    let small : AllByRecursion (λ (u : Version). u.run < 63) vs = all-weaker (λ (u : Version). u.run < length runs) (λ (u : Version). u.run < 63) (λ u h. omega arith) vs (all_runs runs vs sorted) in
    let offset : slice_index g.offsets v.version.run ≡ before_of v.version.run (start_of view.segments s) vs =
    ap (λ (xs : List ℕ). slice_index xs v.version.run) offsets ∙ offset_at anchor runs v.version.run (omega (arith, v.low)) ∙ below_of_run runs vs anchor (start_of view.segments s) v.version.run sorted splits in
    let rank : rank_in v.version.run (take j g.selectors) ≡ count_by (λ (u : Version). u.run == v.version.run) (take j (drop (start_of view.segments s) vs)) =
    ap (rank_in v.version.run) (sym (part_is view (selectors_after None vs) s j g named is at (omega arith))) ∙ ranks_there v.version.run (start_of view.segments s) j None vs small in
    let here : place_in_run g j (slice_index g.selectors j) ≡ before_of v.version.run (start_of view.segments s + j) vs =
    (λ i. slice_index g.offsets (run i) + rank_in (run i) (take j g.selectors))
    ∙ (λ i. offset i + rank i)
    ∙ sym (ap (count_by (λ (u : Version). u.run == v.version.run)) (take-add (start_of view.segments s) j vs) ∙ count-append (λ (u : Version). u.run == v.version.run) (take (start_of view.segments s) vs) (take j (drop (start_of view.segments s) vs))) in
    let stands = place_there runs vs (start_of view.segments s + j) v.version sorted v.at in
    record { run = run; place = here ∙ sym (stands.place ∙ none_more (before_of v.version.run (start_of view.segments s + j) vs)); pair = (λ i. slice_get (run_at runs (run i)) (here i)) ∙ stands.pair }
  where
    none_more : (n : ℕ) → 0 + n ≡ n
    none_more n = omega arith

-- ---- what is known of a segment

pub record SegmentKnown (runs : List (List Pair)) (view : ViewState) (anchors : List (List ℕ)) (vs : List Version) (s : ℕ) (g : Segment) : Type 0 where
  pub is : IsSegment g
  pub some : 0 < filled g
  pub anchor : AnchorThere runs vs (start_of view.segments s) anchors s g
  pub splits : SplitsAt anchor.anchor vs (start_of view.segments s)
  pub version : (j : ℕ) → j < filled g → VersionThere runs vs (start_of view.segments s) g j
  pub place : (j : ℕ) (lt : j < filled g) → PlaceOf runs (version j lt).version g j

pub few_filled : (g : Segment) → IsSegment g → filled g ≤ 32
few_filled g is = omega (arith, count_by-le-length not_filler g.selectors, is.places)

some_filled : (g : Segment) → IsSegment g → 0 < filled g
some_filled g is = by_count (filled g) refl
  where
    by_count : (n : ℕ) → filled g ≡ n → 0 < n
    by_count (suc n) e = omega arith
    by_count zero e = absurd (let f : is_filler (slice_index g.selectors 0) ≡ true = filler_there g.selectors 0 is.closed (omega arith) (omega (arith, is.places)) in let k = is.some in cc)

pub segment_known : (runs : List (List Pair)) (view : ViewState) (anchors : List (List ℕ)) (s : ℕ) (g : Segment) → IsFormed view → (idx : Indexes runs view anchors) → slice_get view.segments s ≡ Some g → SegmentKnown runs view anchors idx.versions s g
segment_known runs view anchors s g formed idx at =
    let few : length runs ≤ 8 = omega (arith, idx.runs_told, formed.runs) in
    let is : IsSegment g = all-at IsSegment view.segments s g idx.segments at in
    let some = some_filled g is in
    let a : AnchorThere runs idx.versions (start_of view.segments s) anchors s g = subst (λ (m : ℕ). AnchorThere runs idx.versions m anchors s g) (no_more (start_of view.segments s)) (anchor_there runs idx.versions 0 view.segments anchors s g idx.anchored at) in
    let version : (j : ℕ) → j < filled g → VersionThere runs idx.versions (start_of view.segments s) g j = λ j lt. version_there runs view idx.versions s j g few idx.view_of idx.named is at lt (omega (arith, few_filled g is, is.places)) in
    let splits = start_splits runs idx.versions (start_of view.segments s) g anchors s idx.view_of.sorted is (version 0 some) a in
    record {
      is = is;
      some = some;
      anchor = a;
      splits = splits;
      version = version;
      place = λ j lt. place_of runs view idx.versions a.anchor s j g few idx.view_of idx.named is at lt a.offsets splits (version j lt);
    }
  where
    no_more : (n : ℕ) → 0 + n ≡ n
    no_more n = omega arith

-- ---- where segments begin

pub start_grows : (segments : List Segment) (i j : ℕ) → i ≤ j → start_of segments i ≤ start_of segments j
start_grows segments zero j le = omega arith
start_grows [] (suc i) zero le = absurd (omega arith)
start_grows [] (suc i) (suc j) le = omega arith
start_grows (x ∷ xs) (suc i) zero le = absurd (omega arith)
start_grows (x ∷ xs) (suc i) (suc j) le =
    let a = sum_by-cons filled x (take i xs) in
    let b = sum_by-cons filled x (take j xs) in
    let h = start_grows xs i j (omega arith) in
    omega arith

pub start_next : (segments : List Segment) (s : ℕ) (g : Segment) → slice_get segments s ≡ Some g → start_of segments (suc s) ≡ start_of segments s + filled g
start_next [] s g at = absurd cc
start_next (x ∷ xs) zero g at = sum_by-cons filled x [] ∙ ap (λ (y : Segment). filled y + 0) (some_same x g at) ∙ omega arith
start_next (x ∷ xs) (suc s) g at =
    let a = sum_by-cons filled x (take (suc s) xs) in
    let b = sum_by-cons filled x (take s xs) in
    let h = start_next xs s g at in
    omega arith

pub start_all : (runs : List (List Pair)) (view : ViewState) (anchors : List (List ℕ)) (idx : Indexes runs view anchors) → start_of view.segments (length view.segments) ≡ length idx.versions
start_all runs view anchors idx =
    ap (sum_by filled) (take_all (length view.segments) view.segments (omega arith))
    ∙ sym (start_is view.segments)
    ∙ sym (length-flat_map named_of view.segments)
    ∙ ap length idx.named
    ∙ length-selectors None idx.versions

pub segment_at : (segments : List Segment) (s : ℕ) → s < length segments → (g : Segment) × (slice_get segments s ≡ Some g)
segment_at [] s h = absurd (omega arith)
segment_at (x ∷ xs) zero h = (x, refl)
segment_at (x ∷ xs) (suc s) h = segment_at xs s (omega arith)
