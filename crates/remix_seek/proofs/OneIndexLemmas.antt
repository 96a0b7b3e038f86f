-- Over the same runs there is only one index. To know: one_index.
use Rattle.std.proofs.Common.{◌≡◌, ℕ, zero, suc, ◌+◌, ◌-◌, ◌<◌, ◌≤◌, Bool, true, false, cond, List, [], ◌∷◌, ◌++◌, length, drop, refl, sym, ap, subst, ◌∙◌, arith}
use Rattle.std.specs.Prelude.{slice_get, slice_index, Some, None, filter, replicate, not, nat_lt}
use Rattle.std.specs.List.{AllByRecursion, flat_map, take_while}
use Rattle.std.proofs.Math.Seq.{drop-append_seam}
use Rattle.std.proofs.lemmas.List.{append-nil}
use Rattle.std.proofs.lemmas.Option.{slice_get_within, slice_get-get_or}
use Rattle.std.proofs.lemmas.List.Sums.{length-filter, count_by-le-length}
use Rattle.std.proofs.lemmas.Bool.Decides.{nat_tests}
use Rattle.rdb_base.specs.declared.pair.Pair.{Pair}
use Rattle.remix_view.specs.declared.segment.Segment.{Segment}
use Rattle.remix_view.specs.declared.selector.TheConstants.{FILLER}
use Rattle.remix_view.specs.Selectors.{is_filler, old_in}
use Rattle.remix_view.specs.Views.{ViewState}
use Rattle.remix_view.proofs.Lists.{some_same}
use Rattle.remix_seek.specs.Versions.{Version, selectors_after}
use Rattle.remix_seek.specs.Indexes.{not_filler, filled, IsClosed, IsSegment, ArePacked, AreAnchored, IsKeyAt, counts_below, Indexes}
use Rattle.remix_seek.proofs.CountLemmas.{get-front}
use Rattle.remix_seek.proofs.UniqueLemmas.{one_view}
use Rattle.remix_seek.proofs.SegmentLemmas.{named_of, all_fillers, closed_front, filler_there, step_while}

-- ---- the selectors of a segment, by what they name

-- named selectors, and then fillers
record Filled (xs : List ℕ) : Type 0 where
  fillers : ℕ
  is : xs ≡ filter not_filler xs ++ replicate fillers FILLER
  long : length (filter not_filler xs) + fillers ≡ length xs

fillers_are : (xs : List ℕ) → AllByRecursion (λ x. is_filler x ≡ true) xs → xs ≡ replicate (length xs) FILLER
fillers_are [] all = refl
fillers_are (x ∷ xs) all = λ i. one x all.0 i ∷ fillers_are xs all.1 i
  where
    one : (y : ℕ) → is_filler y ≡ true → y ≡ FILLER
    one y e = grind (arith, nat_tests)

filled_of : (xs : List ℕ) → IsClosed xs → Filled xs
filled_of [] closed = record { fillers = 0; is = refl; long = refl }
filled_of (x ∷ xs) closed = by_test (is_filler x) refl (filled_of xs closed.1)
  where
    by_test : (b : Bool) → is_filler x ≡ b → Filled xs → Filled (x ∷ xs)
    by_test false e w =
        let kept : filter not_filler (x ∷ xs) ≡ x ∷ filter not_filler xs = (λ i. cond (not (e i)) (x ∷ filter not_filler xs) (filter not_filler xs)) in
        record { fillers = w.fillers; is = ap (λ (ys : List ℕ). x ∷ ys) w.is ∙ ap (λ (ys : List ℕ). ys ++ replicate w.fillers FILLER) (sym kept); long = omega (arith, ap length kept, w.long) }
    by_test true e w =
        let none : filter not_filler (x ∷ xs) ≡ [] = all_fillers (x ∷ xs) (e, closed.0 e) in
        record { fillers = length (x ∷ xs); is = fillers_are (x ∷ xs) (e, closed.0 e) ∙ ap (λ (ys : List ℕ). ys ++ replicate (length (x ∷ xs)) FILLER) (sym none); long = omega (arith, ap length none) }

same_selectors : (xs ys : List ℕ) → IsClosed xs → IsClosed ys → length xs ≡ length ys → filter not_filler xs ≡ filter not_filler ys → xs ≡ ys
same_selectors xs ys cx cy long same =
    let x = filled_of xs cx in
    let y = filled_of ys cy in
    let rest : x.fillers ≡ y.fillers = omega (arith, x.long, y.long, ap length same, long) in
    x.is ∙ (λ i. same i ++ replicate (rest i) FILLER) ∙ sym y.is

-- ---- what stands at a place of the named selectors

get-past : (xs ys : List ℕ) (i n : ℕ) → n ≡ length xs + i → slice_get (xs ++ ys) n ≡ slice_get ys i
get-past [] ys i n e = ap (slice_get ys) (omega (arith, e))
get-past (x ∷ xs) ys i zero e = absurd (omega arith)
get-past (x ∷ xs) ys i (suc n) e = get-past xs ys i n (omega arith)

get-append : (xs ys : List ℕ) (i : ℕ) → i < length xs → slice_get (xs ++ ys) i ≡ slice_get xs i
get-append [] ys i h = absurd (omega arith)
get-append (x ∷ xs) ys zero h = refl
get-append (x ∷ xs) ys (suc i) h = get-append xs ys i (omega arith)

length_named : (g : Segment) → length (named_of g) ≡ filled g
length_named g = length-filter not_filler g.selectors

named_there : (g : Segment) (i : ℕ) → IsSegment g → i < filled g → slice_get (named_of g) i ≡ slice_get g.selectors i
named_there g i is lt = ap (λ (xs : List ℕ). slice_get xs i) (closed_front g.selectors is.closed) ∙ get-front (filled g) i g.selectors lt

-- a place of the group of the first is old
old_group : (xs : List ℕ) (j : ℕ) → j < length (take_while (λ other. old_in other) xs) → (x : ℕ) × (slice_get xs j ≡ Some x) × (old_in x ≡ true)
old_group [] j h = absurd (omega arith)
old_group (y ∷ ys) j h = by_test (λ i lt. old_group ys i lt) (old_in y) refl j h
  where
    by_test : ((i : ℕ) → i < length (take_while (λ other. old_in other) ys) → (x : ℕ) × (slice_get ys i ≡ Some x) × (old_in x ≡ true)) → (b : Bool) → old_in y ≡ b → (i : ℕ) → i < length (take_while (λ other. old_in other) (y ∷ ys)) → (x : ℕ) × (slice_get (y ∷ ys) i ≡ Some x) × (old_in x ≡ true)
    by_test rest false e i lt = absurd (omega (arith, ap length (step_while y ys false e)))
    by_test rest true e zero lt = (y, refl, e)
    by_test rest true e (suc i) lt = rest i (omega (arith, ap length (step_while y ys true e)))

old_there : (xs : List ℕ) (j : ℕ) → 0 < j → j < 1 + length (take_while (λ other. old_in other) (drop 1 xs)) → (x : ℕ) × (slice_get xs j ≡ Some x) × (old_in x ≡ true)
old_there xs zero some h = absurd (omega arith)
old_there [] (suc j) some h = absurd (omega arith)
old_there (x ∷ xs) (suc j) some h = old_group xs j (omega arith)

old_named : (x : ℕ) → old_in x ≡ true → is_filler x ≡ false
old_named x e = by_test (is_filler x) refl
  where
    by_test : (b : Bool) → is_filler x ≡ b → b ≡ false
    by_test false f = refl
    by_test true f = absurd (let k : x ≡ FILLER = grind (arith, nat_tests) in let l : 128 ≤ x = grind (arith, nat_tests) in omega arith)

-- a place that has no filler is filled
taken_there : (g : Segment) (j x : ℕ) → IsSegment g → slice_get g.selectors j ≡ Some x → is_filler x ≡ false → j < filled g
taken_there g j x is at taken = by_test (nat_lt j (filled g)) refl
  where
    by_test : (b : Bool) → nat_lt j (filled g) ≡ b → j < filled g
    by_test true e = grind (arith, nat_tests)
    by_test false e =
        let inside = slice_get_within g.selectors j x at in
        let filler : is_filler (slice_index g.selectors j) ≡ true = filler_there g.selectors j is.closed (grind (arith, nat_tests)) inside in
        let same : x ≡ slice_index g.selectors j = some_same x (slice_index g.selectors j) (sym at ∙ slice_get-get_or g.selectors j 0 inside) in
        let clash = sym (ap is_filler same ∙ filler) ∙ taken in
        absurd cc

-- ---- two lists of segments that name the same

abbrev names : List Segment → List ℕ
names segments = flat_map named_of segments

first_taken : (g : Segment) → IsSegment g → 0 < filled g
first_taken g is = taken_there g 0 (slice_index g.selectors 0) is (slice_get-get_or g.selectors 0 0 (omega (arith, is.places))) is.some

-- the first of one is not shorter than that of the other
not_shorter : (a b : Segment) (gs hs : List Segment) → IsSegment a → IsSegment b → AllByRecursion IsSegment gs → AllByRecursion IsSegment hs → ArePacked (a ∷ gs) → filled b ≤ 32 → names (a ∷ gs) ≡ names (b ∷ hs) → filled a < filled b → ⊥
not_shorter a b [] hs ia ib igs ihs packed few same lt =
    let one : length (names (a ∷ [])) ≡ filled a = ap length (append-nil (named_of a)) ∙ length_named a in
    let at = slice_get-get_or (named_of b) (filled a) 0 (omega (arith, length_named b)) in
    let there = slice_get_within (names (a ∷ [])) (filled a) (slice_index (named_of b) (filled a)) (ap (λ (xs : List ℕ). slice_get xs (filled a)) same ∙ get-append (named_of b) (names hs) (filled a) (omega (arith, length_named b)) ∙ at) in
    omega arith
not_shorter a b (c ∷ gs) hs ia ib igs ihs packed few same lt = by_place (filled b) refl
  where
    later : (j : ℕ) → filled a + j ≡ filled b → (x : ℕ) → slice_get c.selectors j ≡ Some x → old_in x ≡ true → slice_get (names (b ∷ hs)) (filled b) ≡ Some x
    later j e x at old =
        let inside : j < filled c = taken_there c j x igs.0 at (old_named x old) in
        ap (λ (xs : List ℕ). slice_get xs (filled b)) (sym same)
        ∙ get-past (named_of a) (names (c ∷ gs)) j (filled b) (omega (arith, length_named a, e))
        ∙ get-append (named_of c) (names gs) j (omega (arith, length_named c))
        ∙ named_there c j igs.0 inside
        ∙ at

    clash : (rest : List Segment) → AllByRecursion IsSegment rest → (x : ℕ) → slice_get (names (b ∷ rest)) (filled b) ≡ Some x → old_in x ≡ true → ⊥
    clash [] all x at old = omega (arith, slice_get_within (names (b ∷ [])) (filled b) x at, ap length (append-nil (named_of b)), length_named b)
    clash (d ∷ rest) all x at old =
        let some = first_taken d all.0 in
        let first : slice_get (names (b ∷ d ∷ rest)) (filled b) ≡ Some (slice_index d.selectors 0) =
        get-past (named_of b) (names (d ∷ rest)) 0 (filled b) (omega (arith, length_named b))
        ∙ get-append (named_of d) (names rest) 0 (omega (arith, length_named d))
        ∙ named_there d 0 all.0 some
        ∙ slice_get-get_or d.selectors 0 0 (omega (arith, all.0.places)) in
        let one : x ≡ slice_index d.selectors 0 = some_same x (slice_index d.selectors 0) (sym at ∙ first) in
        let newest = ap old_in one ∙ all.0.newest in
        absurd cc

    by_place : (m : ℕ) → filled b ≡ m → ⊥
    by_place m e =
        let there = old_there c.selectors (m - filled a) (omega (arith, lt)) (omega (arith, packed.0, few, lt)) in
        clash hs ihs there.0 (later (m - filled a) (omega (arith, lt)) there.0 there.1 there.2) there.2

same_first : (a b : Segment) (gs hs : List Segment) → IsSegment a → IsSegment b → AllByRecursion IsSegment gs → AllByRecursion IsSegment hs → ArePacked (a ∷ gs) → ArePacked (b ∷ hs) → filled a ≤ 32 → filled b ≤ 32 → names (a ∷ gs) ≡ names (b ∷ hs) → filled a ≡ filled b
same_first a b gs hs ia ib igs ihs pa pb fa fb same = by_tests (nat_lt (filled a) (filled b)) (nat_lt (filled b) (filled a)) refl refl
  where
    by_tests : (x y : Bool) → nat_lt (filled a) (filled b) ≡ x → nat_lt (filled b) (filled a) ≡ y → filled a ≡ filled b
    by_tests true y e f = absurd (not_shorter a b gs hs ia ib igs ihs pa fb same (grind (arith, nat_tests)))
    by_tests false true e f = absurd (not_shorter b a hs gs ib ia ihs igs pb fa (sym same) (grind (arith, nat_tests)))
    by_tests false false e f = grind (arith, nat_tests)

-- ---- the segments and their anchors

few_filled : (g : Segment) → IsSegment g → filled g ≤ 32
few_filled g is = omega (arith, count_by-le-length not_filler g.selectors, is.places)

one_segment : (a b : Segment) → a.offsets ≡ b.offsets → a.selectors ≡ b.selectors → a ≡ b
one_segment a b o s = λ i. record { offsets = o i; selectors = s i }

take_same : (xs ys rest other : List ℕ) → length xs ≡ length ys → xs ++ rest ≡ ys ++ other → xs ≡ ys
take_same [] [] rest other e same = refl
take_same [] (y ∷ ys) rest other e same = absurd (omega arith)
take_same (x ∷ xs) [] rest other e same = absurd (omega arith)
take_same (x ∷ xs) (y ∷ ys) rest other e same = λ i. first x y (xs ++ rest) (ys ++ other) same i ∷ take_same xs ys rest other (omega arith) (tail x y (xs ++ rest) (ys ++ other) same) i
  where
    first : (a b : ℕ) (us vs : List ℕ) → (a ∷ us) ≡ (b ∷ vs) → a ≡ b
    first a b us vs e = cc

    tail : (a b : ℕ) (us vs : List ℕ) → (a ∷ us) ≡ (b ∷ vs) → us ≡ vs
    tail a b us vs e = cc

rest_same : (xs ys rest other : List ℕ) → xs ≡ ys → xs ++ rest ≡ ys ++ other → rest ≡ other
rest_same xs ys rest other e same = sym (drop-append_seam xs rest) ∙ (λ i. drop (length (e i)) (same i)) ∙ drop-append_seam ys other

packed_rest : (g : Segment) (gs : List Segment) → ArePacked (g ∷ gs) → ArePacked gs
packed_rest g [] packed = tt
packed_rest g (h ∷ gs) packed = packed.1

pub record AreOne (segments others : List Segment) (anchors keys : List (List ℕ)) : Type 0 where
  pub segments_same : segments ≡ others
  pub anchors_same : anchors ≡ keys

one_key : (vs : List Version) (n : ℕ) (x y : List ℕ) → IsKeyAt n vs x → IsKeyAt n vs y → x ≡ y
one_key vs n x y a b = sym a.2 ∙ ap (λ (v : Version). v.pair.key) (some_same a.0 b.0 (sym a.1 ∙ b.1)) ∙ b.2

empty_names : (g : Segment) (gs : List Segment) → IsSegment g → [] ≡ names (g ∷ gs) → ⊥
empty_names g gs is e =
    let some = first_taken g is in
    let at = get-append (named_of g) (names gs) 0 (omega (arith, length_named g)) ∙ slice_get-get_or (named_of g) 0 0 (omega (arith, length_named g)) in
    let none : None ≡ Some (slice_index (named_of g) 0) = ap (λ (xs : List ℕ). slice_get xs 0) e ∙ at in
    absurd cc

all_same : (runs : List (List Pair)) (vs : List Version) (n : ℕ) (gs hs : List Segment) (xs ys : List (List ℕ)) → AllByRecursion IsSegment gs → AllByRecursion IsSegment hs → ArePacked gs → ArePacked hs → names gs ≡ names hs → AreAnchored runs vs n gs xs → AreAnchored runs vs n hs ys → AreOne gs hs xs ys
all_same runs vs n [] [] [] [] ig ih pg ph same ag ah = record { segments_same = refl; anchors_same = refl }
all_same runs vs n [] [] (x ∷ xs) ys ig ih pg ph same ag ah = absurd ag
all_same runs vs n [] [] [] (y ∷ ys) ig ih pg ph same ag ah = absurd ah
all_same runs vs n [] (h ∷ hs) xs ys ig ih pg ph same ag ah = absurd (empty_names h hs ih.0 same)
all_same runs vs n (g ∷ gs) [] xs ys ig ih pg ph same ag ah = absurd (empty_names g gs ig.0 (sym same))
all_same runs vs n (g ∷ gs) (h ∷ hs) [] ys ig ih pg ph same ag ah = absurd ag
all_same runs vs n (g ∷ gs) (h ∷ hs) (x ∷ xs) [] ig ih pg ph same ag ah = absurd ah
all_same runs vs n (g ∷ gs) (h ∷ hs) (x ∷ xs) (y ∷ ys) ig ih pg ph same ag ah =
    let count : filled g ≡ filled h = same_first g h gs hs ig.0 ih.0 ig.1 ih.1 pg ph (few_filled g ig.0) (few_filled h ih.0) same in
    let named : named_of g ≡ named_of h = take_same (named_of g) (named_of h) (names gs) (names hs) (omega (arith, length_named g, length_named h, count)) same in
    let key : x ≡ y = one_key vs n x y ag.0 ah.0 in
    let offsets : g.offsets ≡ h.offsets = ag.1 ∙ ap (λ (k : List ℕ). counts_below k runs) key ∙ sym ah.1 in
    let selectors : g.selectors ≡ h.selectors = same_selectors g.selectors h.selectors ig.0.closed ih.0.closed (ig.0.places ∙ sym ih.0.places) named in
    let rest = all_same runs vs (n + filled g) gs hs xs ys ig.1 ih.1 (packed_rest g gs pg) (packed_rest h hs ph) (rest_same (named_of g) (named_of h) (names gs) (names hs) named same) ag.2 (subst (λ (m : ℕ). AreAnchored runs vs (n + m) hs ys) (sym count) ah.2) in
    record { segments_same = (λ i. one_segment g h offsets selectors i ∷ rest.segments_same i); anchors_same = (λ i. key i ∷ rest.anchors_same i) }

pub one_index : (runs : List (List Pair)) (view other : ViewState) (anchors others : List (List ℕ)) → Indexes runs view anchors → Indexes runs other others → (view ≡ other) × (anchors ≡ others)
one_index runs view other anchors others a b =
    let versions : a.versions ≡ b.versions = one_view runs a.versions b.versions a.view_of b.view_of in
    let all = all_same runs a.versions 0 view.segments other.segments anchors others a.segments b.segments a.packed b.packed (a.named ∙ ap (selectors_after None) versions ∙ sym b.named) a.anchored (subst (λ (vs : List Version). AreAnchored runs vs 0 other.segments others) (sym versions) b.anchored) in
    let runs_same : view.runs ≡ other.runs = a.runs_told ∙ sym b.runs_told in
    ((λ i. record { runs = runs_same i; segments = all.segments_same i }), all.anchors_same)
