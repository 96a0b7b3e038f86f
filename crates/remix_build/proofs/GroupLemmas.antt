-- A segment that was cut from selectors. To know: group_grows, group_same, segment_made, some_cut.
use Rattle.std.proofs.Common.{◌≡◌, ◌⊎◌, inl, inr, ℕ, zero, suc, ◌+◌, ◌-◌, ◌<◌, ◌≤◌, Bool, true, false, cond, List, [], ◌∷◌, ◌++◌, length, take, drop, refl, sym, ap, subst, ◌∙◌, arith}
use Rattle.std.specs.Prelude.{slice_index, Option, Some, not, replicate, filter, nat_lt}
use Rattle.std.specs.List.{AllByRecursion, take_while}
use Rattle.std.specs.declared.cmp.Ordering.{Ordering}
use Rattle.std.specs.declared.cmp.Ordering.TheVariants.{Equal}
use Rattle.std.proofs.lemmas.List.Sums.{length-filter}
use Rattle.std.proofs.lemmas.Bool.Decides.{nat_tests}
use Rattle.rdb_base.specs.Order.{key_cmp}
use Rattle.remix_view.specs.declared.segment.Segment.{Segment}
use Rattle.remix_view.specs.declared.selector.TheConstants.{FILLER}
use Rattle.remix_view.specs.Selectors.{old_in, is_filler}
use Rattle.remix_seek.specs.Versions.{Version, AreSorted, before_by, selectors_after, key_before}
use Rattle.remix_seek.specs.Indexes.{filled, not_filler, IsClosed, IsSegment, first_group}
use Rattle.remix_build.specs.Packing.{LastFull, LastClosed, group_size, GroupCut, IsSegmentOf}
use Rattle.remix_seek.proofs.SegmentLemmas.{selector_not_filler, old_of_selector, all_fillers, named_of, length-selectors, step_while}
use Rattle.remix_seek.proofs.CountLemmas.{all-take, length-front}
use Rattle.rdb_base.proofs.KeyOrder.{equal_from_test}

-- ---- groups

-- as many as are old after the first are of its group
pub group_grows : (xs : List ℕ) (k : ℕ) → k < length xs → ((i : ℕ) → 0 < i → i ≤ k → old_in (slice_index xs i) ≡ true) → 1 + k ≤ group_size xs
group_grows [] k lt all = absurd (omega arith)
group_grows (x ∷ xs) k lt all = let h = olds xs k (omega arith) (λ i lt. all (suc i) (omega arith) (omega arith)) in omega arith
  where
    olds : (ys : List ℕ) (k : ℕ) → k ≤ length ys → ((i : ℕ) → i < k → old_in (slice_index ys i) ≡ true) → k ≤ length (take_while (λ other. old_in other) ys)
    olds ys zero le all = omega arith
    olds [] (suc k) le all = absurd (omega arith)
    olds (y ∷ ys) (suc k) le all = let h = olds ys k (omega arith) (λ i lt. all (suc i) (omega arith)) in let e = ap length (step_while y ys true (all 0 (omega arith))) in omega arith

-- a group that ends length-get a front is the front's, whatever stands after that is not old
pub group_same : (xs : List ℕ) (n k : ℕ) → 0 < n → n ≤ length xs → (n < length xs → old_in (slice_index xs n) ≡ false) → group_size (take n xs ++ replicate k FILLER) ≡ group_size xs
group_same xs zero k some le ends = absurd (omega arith)
group_same [] (suc n) k some le ends = absurd (omega arith)
group_same (x ∷ xs) (suc n) k some le ends = ap (λ (ys : List ℕ). 1 + length ys) (olds xs n (omega arith) (λ lt. ends (omega arith)))
  where
    none_old : (m : ℕ) → take_while (λ other. old_in other) (replicate m FILLER) ≡ []
    none_old zero = refl
    none_old (suc m) = refl

    olds : (ys : List ℕ) (n : ℕ) → n ≤ length ys → (n < length ys → old_in (slice_index ys n) ≡ false) → take_while (λ other. old_in other) (take n ys ++ replicate k FILLER) ≡ take_while (λ other. old_in other) ys
    olds [] zero le ends = none_old k
    olds [] (suc n) le ends = absurd (omega arith)
    olds (y ∷ ys) zero le ends = none_old k ∙ sym (step_while y ys false (ends (omega arith)))
    olds (y ∷ ys) (suc n) le ends = step_while y (take n ys ++ replicate k FILLER) (old_in y) refl ∙ ap (λ (zs : List ℕ). cond (old_in y) (y ∷ zs) []) (olds ys n (omega arith) (λ lt. ends (omega arith))) ∙ sym (step_while y ys (old_in y) refl)

-- ---- a segment of selectors

pub fillers_all : (k : ℕ) → AllByRecursion (λ x. is_filler x ≡ true) (replicate k FILLER)
fillers_all zero = tt
fillers_all (suc k) = (refl, fillers_all k)

fillers_closed : (k : ℕ) → IsClosed (replicate k FILLER)
fillers_closed zero = tt
fillers_closed (suc k) = (λ e. fillers_all k, fillers_closed k)

closed_made : (xs : List ℕ) (k : ℕ) → AllByRecursion (λ x. is_filler x ≡ false) xs → IsClosed (xs ++ replicate k FILLER)
closed_made [] k all = fillers_closed k
closed_made (x ∷ xs) k all = (λ e. absurd (clash (is_filler x) e all.0), closed_made xs k all.1)
  where
    clash : (b : Bool) → b ≡ true → b ≡ false → ⊥
    clash b e f = absurd cc

named_made : (xs : List ℕ) (k : ℕ) → AllByRecursion (λ x. is_filler x ≡ false) xs → filter not_filler (xs ++ replicate k FILLER) ≡ xs
named_made [] k all = all_fillers (replicate k FILLER) (fillers_all k)
named_made (x ∷ xs) k all = (λ i. cond (not (all.0 i)) (x ∷ filter not_filler (xs ++ replicate k FILLER)) (filter not_filler (xs ++ replicate k FILLER))) ∙ ap (λ (ys : List ℕ). x ∷ ys) (named_made xs k all.1)

length_made : (n k : ℕ) (xs : List ℕ) → n ≤ length xs → length (take n xs ++ replicate k FILLER) ≡ n + k
length_made zero k xs le = long k
  where
    long : (k : ℕ) → length (replicate k FILLER) ≡ 0 + k
    long zero = refl
    long (suc k) = let e = long k in omega arith
length_made (suc n) k [] le = absurd (omega arith)
length_made (suc n) k (x ∷ xs) le = let e = length_made n k xs (omega arith) in omega arith

first_made : (n k : ℕ) (xs : List ℕ) → 0 < n → n ≤ length xs → slice_index (take n xs ++ replicate k FILLER) 0 ≡ slice_index xs 0
first_made zero k xs some le = absurd (omega arith)
first_made (suc n) k [] some le = absurd (omega arith)
first_made (suc n) k (x ∷ xs) some le = refl

first_of : (P : ℕ → Type 0) (xs : List ℕ) → 0 < length xs → AllByRecursion P xs → P (slice_index xs 0)
first_of P [] some all = absurd (omega arith)
first_of P (x ∷ xs) some all = all.0

pub record Made (rest : List ℕ) (n : ℕ) (g : Segment) : Type 0 where
  pub is : IsSegment g
  pub named : named_of g ≡ take n rest
  pub many : filled g ≡ n
  pub group : first_group g ≡ group_size rest

pub segment_made : (rest : List ℕ) (n : ℕ) (counts : List ℕ) (g : Segment) → 0 < n → AllByRecursion (λ x. is_filler x ≡ false) rest → old_in (slice_index rest 0) ≡ false → GroupCut rest n → IsSegmentOf rest n counts g → Made rest n g
segment_made rest n counts g some named newest cut of =
    let front = all-take (λ x. is_filler x ≡ false) n rest named in
    let first : slice_index g.selectors 0 ≡ slice_index rest 0 = ap (λ (xs : List ℕ). slice_index xs 0) of.selectors_are ∙ first_made n (32 - n) rest some cut.inside in
    let names : named_of g ≡ take n rest = ap (filter not_filler) of.selectors_are ∙ named_made (take n rest) (32 - n) front in
    record {
      is = record {
        places = ap length of.selectors_are ∙ length_made n (32 - n) rest cut.inside ∙ whole cut.most;
        some = ap is_filler first ∙ first_of (λ x. is_filler x ≡ false) rest (omega (arith, cut.inside)) named;
        newest = ap old_in first ∙ newest;
        closed = subst IsClosed (sym of.selectors_are) (closed_made (take n rest) (32 - n) front);
      };
      named = names;
      many = sym (length-filter not_filler g.selectors) ∙ ap length names ∙ length-front n rest cut.inside;
      group = as_group g.selectors (omega (arith, ap length of.selectors_are, length_made n (32 - n) rest cut.inside)) ∙ ap group_size of.selectors_are ∙ group_same rest n (32 - n) some cut.inside (λ lt. by_test (old_in (slice_index rest n)) (cut.ends lt));
    }
  where
    whole : n ≤ 32 → n + (32 - n) ≡ 32
    whole le = omega arith

    as_group : (xs : List ℕ) → 0 < length xs → 1 + length (take_while (λ other. old_in other) (drop 1 xs)) ≡ group_size xs
    as_group [] h = absurd (omega arith)
    as_group (x ∷ xs) h = refl

    by_test : (b : Bool) → (b ≡ true → n ≡ 0) → b ≡ false
    by_test false h = refl
    by_test true h = absurd (let e = h refl in omega arith)

pub drop_at : (xs : List ℕ) (n i : ℕ) → slice_index (drop n xs) i ≡ slice_index xs (n + i)
drop_at xs zero i = ap (λ (j : ℕ). slice_index xs j) (zero_more i)
  where
    zero_more : (i : ℕ) → i ≡ 0 + i
    zero_more i = omega arith
drop_at [] (suc n) i = refl
drop_at (x ∷ xs) (suc n) i = drop_at xs n i ∙ ap (λ (j : ℕ). slice_index (x ∷ xs) j) (more n i)
  where
    more : (a b : ℕ) → suc (a + b) ≡ suc a + b
    more a b = omega arith

-- the versions after a cut do not fit before it
pub next_full : (rest : List ℕ) (n : ℕ) → GroupCut rest n → n < length rest → 32 < n + group_size (drop n rest)
next_full rest n cut lt = by_room (nat_lt n 32) refl
  where
    length_rest : (xs : List ℕ) (n : ℕ) → n ≤ length xs → n + length (drop n xs) ≡ length xs
    length_rest xs zero le = omega arith
    length_rest [] (suc n) le = absurd (omega arith)
    length_rest (x ∷ xs) (suc n) le = let e = length_rest xs n (omega arith) in omega arith

    long : n < 32 → 32 < length rest
    long low = by_case (cut.whole low)
      where
        by_case : 32 < length rest ⊎ (n ≡ length rest) → 32 < length rest
        by_case (inl h) = h
        by_case (inr e) = absurd (omega arith)

    by_room : (b : Bool) → nat_lt n 32 ≡ b → 32 < n + group_size (drop n rest)
    by_room true e =
        let low : n < 32 = grind (arith, nat_tests) in
        let h = group_grows (drop n rest) (32 - n) (omega (arith, long low, length_rest rest n cut.inside)) (λ i some le. ap old_in (drop_at rest n i) ∙ cut.full (n + i) (omega arith) (omega arith) (omega (arith, long low))) in
        omega arith
    by_room false e =
        let high : 32 ≤ n = grind (arith, nat_tests) in
        let h = group_grows (drop n rest) 0 (omega (arith, length_rest rest n cut.inside)) (λ i some le. absurd (omega arith)) in
        omega arith

pub closed_full : (segments : List Segment) (rest : List ℕ) (g : Segment) → LastClosed segments rest → first_group g ≡ group_size rest → LastFull segments g
closed_full [] rest g h e = tt
closed_full (x ∷ []) rest g h e = omega (arith, h, e)
closed_full (x ∷ (y ∷ ys)) rest g h e = closed_full (y ∷ ys) rest g h e

pub closed_snoc : (segments : List Segment) (rest : List ℕ) (g : Segment) → 32 < filled g + group_size rest → LastClosed (segments ++ g ∷ []) rest
closed_snoc [] rest g h = h
closed_snoc (x ∷ []) rest g h = h
closed_snoc (x ∷ (y ∷ ys)) rest g h = closed_snoc (y ∷ ys) rest g h

-- ---- a cut takes something

-- runs rise along the versions of one key
climb : (bound k : ℕ) (v : Version) (vs : List Version) → bound ≤ 63 → AreSorted (v ∷ vs) → AllByRecursion (λ (w : Version). w.run < bound) (v ∷ vs) → k ≤ length vs → ((i : ℕ) → i < k → old_in (slice_index (selectors_after (Some v.pair.key) vs) i) ≡ true) → v.run + k < bound
climb bound zero v vs few sorted all le olds = omega (arith, all.0)
climb bound (suc k) v [] few sorted all le olds = absurd (omega arith)
climb bound (suc k) v (w ∷ ws) few sorted all le olds =
    let same : key_cmp v.pair.key w.pair.key ≡ Equal = equal_from_test (key_cmp v.pair.key w.pair.key) (sym (old_of_selector (Some v.pair.key) w (omega (arith, all.1.0))) ∙ olds 0 (omega arith)) in
    let later : v.run < w.run = lower v.run w.run (sym (ap (λ (r : Ordering). before_by r v.run w.run) same) ∙ sorted.0.0) in
    let h = climb bound k w ws few sorted.1 all.1 (omega arith) (λ i lt. olds (suc i) (omega arith)) in
    omega arith
  where
    lower : (m n : ℕ) → nat_lt m n ≡ true → m < n
    lower m n h = grind (arith, nat_tests)

pub some_cut : (last : Option (List ℕ)) (vs : List Version) (n : ℕ) → 0 < length vs → AreSorted vs → AllByRecursion (λ (w : Version). w.run < 8) vs → GroupCut (selectors_after last vs) n → 0 < n
some_cut last [] n some sorted all cut = absurd (omega arith)
some_cut last (v ∷ vs) (suc n) some sorted all cut = omega arith
some_cut last (v ∷ vs) zero some sorted all cut = absurd (by_length (cut.whole (omega arith)))
  where
    by_length : 32 < length (selectors_after last (v ∷ vs)) ⊎ (0 ≡ length (selectors_after last (v ∷ vs))) → ⊥
    by_length (inr e) = absurd (omega arith)
    by_length (inl long) =
        let count = length-selectors (Some v.pair.key) vs in
        let h = climb 8 8 v vs (omega arith) sorted all (omega arith) (λ i lt. cut.full (suc i) (omega arith) (omega arith) (omega arith)) in
        absurd (omega arith)

pub none_fillers : (last : Option (List ℕ)) (vs : List Version) → AllByRecursion (λ (w : Version). w.run < 63) vs → AllByRecursion (λ x. is_filler x ≡ false) (selectors_after last vs)
none_fillers last [] all = tt
none_fillers last (v ∷ vs) all = (selector_not_filler last v all.0, none_fillers (Some v.pair.key) vs all.1)

pub drop_selectors : (last : Option (List ℕ)) (vs : List Version) (n : ℕ) → drop n (selectors_after last vs) ≡ selectors_after (key_before last vs n) (drop n vs)
drop_selectors last vs zero = refl
drop_selectors last [] (suc n) = refl
drop_selectors last (v ∷ vs) (suc n) = drop_selectors (Some v.pair.key) vs n
