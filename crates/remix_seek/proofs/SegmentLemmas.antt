-- What an index has at the places of its segments. To know: selector_there, closed_front, anchor_there.
use Rattle.std.proofs.Common.{◌≡◌, ◌⊎◌, inl, inr, ℕ, zero, suc, ◌+◌, ◌%◌, ◌<◌, ◌≤◌, Bool, true, false, cond, List, [], ◌∷◌, length, take, drop, refl, sym, ap, subst, ◌∙◌, arith}
use Rattle.std.specs.Prelude.{◌==◌, slice_get, slice_index, Option, Some, filter, nat_le, not}
use Rattle.std.specs.List.{AllByRecursion, count_by, sum_by, take_while, prefix_len}
use Rattle.std.proofs.lemmas.List.Sums.{sum_by-cons, length-filter}
use Rattle.std.proofs.lemmas.Bool.Decides.{nat_tests}
use Rattle.rdb_base.specs.declared.pair.Pair.{Pair}
use Rattle.remix_view.specs.declared.segment.Segment.{Segment}
use Rattle.remix_view.specs.Selectors.{is_filler, run_in, old_in}
use Rattle.remix_seek.specs.Versions.{Version, selector_of, selectors_after, has_key, is_deletion, key_before}
use Rattle.remix_seek.specs.Indexes.{counts_below, not_filler, filled, IsClosed, IsKeyAt, AreAnchored}
use Rattle.remix_seek.proofs.CountLemmas.{count-cons, count-yes, count-no}
use Rattle.remix_view.proofs.Lists.{some_same}

-- how many versions stand before a segment
abbrev pub start_of : List Segment → ℕ → ℕ
start_of segments s = sum_by filled (take s segments)

abbrev pub named_of : Segment → List ℕ
named_of segment = filter not_filler segment.selectors

-- ---- selectors of versions

small_run : (n a b : ℕ) → n < 63 → (a ≡ 0) ⊎ (a ≡ 64) → (b ≡ 0) ⊎ (b ≡ 128) → (n + a + b) % 64 ≡ n
small_run n a b h (inl e) (inl f) = omega arith
small_run n a b h (inl e) (inr f) = omega arith
small_run n a b h (inr e) (inl f) = omega arith
small_run n a b h (inr e) (inr f) = omega arith

either : (b : Bool) (n : ℕ) → (cond b n 0 ≡ 0) ⊎ (cond b n 0 ≡ n)
either true n = inr refl
either false n = inl refl

pub run_of_selector : (last : Option (List ℕ)) (v : Version) → v.run < 63 → run_in (selector_of last v) ≡ v.run
run_of_selector last v h = small_run v.run (cond (is_deletion v.pair.change) 64 0) (cond (has_key last v.pair.key) 128 0) h (either (is_deletion v.pair.change) 64) (either (has_key last v.pair.key) 128)

pub selector_not_filler : (last : Option (List ℕ)) (v : Version) → v.run < 63 → is_filler (selector_of last v) ≡ false
selector_not_filler last v h = by_number (selector_of last v) (run_of_selector last v h)
  where
    by_number : (x : ℕ) → x % 64 ≡ v.run → (x == 63) ≡ false
    by_number x e = by_test (x == 63) refl
      where
        by_test : (b : Bool) → (x == 63) ≡ b → b ≡ false
        by_test false t = refl
        by_test true t = let k : x ≡ 63 = grind (arith, nat_tests) in absurd (omega arith)

pub old_of_selector : (last : Option (List ℕ)) (v : Version) → v.run < 63 → old_in (selector_of last v) ≡ has_key last v.pair.key
old_of_selector last v h = by_bits (has_key last v.pair.key) (cond (is_deletion v.pair.change) 64 0) (either (is_deletion v.pair.change) 64)
  where
    by_bits : (b : Bool) (a : ℕ) → (a ≡ 0) ⊎ (a ≡ 64) → nat_le 128 (v.run + a + cond b 128 0) ≡ b
    by_bits true a e = grind (arith, nat_tests)
    by_bits false a (inl e) = grind (arith, nat_tests)
    by_bits false a (inr e) = grind (arith, nat_tests)

-- ---- the version of a selector

pub record SelectorThere (last : Option (List ℕ)) (vs : List Version) (i selector : ℕ) : Type 0 where
  pub version : Version
  pub at : slice_get vs i ≡ Some version
  pub is : selector ≡ selector_of (key_before last vs i) version

pub selector_there : (last : Option (List ℕ)) (vs : List Version) (i selector : ℕ) → slice_get (selectors_after last vs) i ≡ Some selector → SelectorThere last vs i selector
selector_there last [] i x e = absurd cc
selector_there last (v ∷ vs) zero x e = record { version = v; at = refl; is = some_same x (selector_of last v) (sym e) }
selector_there last (v ∷ vs) (suc i) x e =
    let r = selector_there (Some v.pair.key) vs i x e in
    record { version = r.version; at = r.at; is = r.is }

pub length-selectors : (last : Option (List ℕ)) (vs : List Version) → length (selectors_after last vs) ≡ length vs
length-selectors last [] = refl
length-selectors last (v ∷ vs) = let e = length-selectors (Some v.pair.key) vs in omega arith

-- the selectors of a run in a part are its versions there
pub ranks_there : (run n m : ℕ) (last : Option (List ℕ)) (vs : List Version) → AllByRecursion (λ (v : Version). v.run < 63) vs → count_by (λ selector. run_in selector == run) (take m (drop n (selectors_after last vs))) ≡ count_by (λ (v : Version). v.run == run) (take m (drop n vs))
ranks_there run zero m last vs all = front m last vs all
  where
    front : (m : ℕ) (last : Option (List ℕ)) (vs : List Version) → AllByRecursion (λ (v : Version). v.run < 63) vs → count_by (λ selector. run_in selector == run) (take m (selectors_after last vs)) ≡ count_by (λ (v : Version). v.run == run) (take m vs)
    front zero last vs all = refl
    front (suc m) last [] all = refl
    front (suc m) last (v ∷ vs) all =
        count-cons (λ selector. run_in selector == run) (selector_of last v) (take m (selectors_after (Some v.pair.key) vs))
        ∙ (λ i. cond (run_of_selector last v all.0 i == run) 1 0 + front m (Some v.pair.key) vs all.1 i)
        ∙ sym (count-cons (λ (u : Version). u.run == run) v (take m vs))
ranks_there run (suc n) zero last [] all = refl
ranks_there run (suc n) (suc m) last [] all = refl
ranks_there run (suc n) m last (v ∷ vs) all = ranks_there run n m (Some v.pair.key) vs all.1

-- ---- closed segments

pub all_fillers : (selectors : List ℕ) → AllByRecursion (λ x. is_filler x ≡ true) selectors → filter not_filler selectors ≡ []
all_fillers [] all = refl
all_fillers (x ∷ xs) all = rw all.0 (all_fillers xs all.1)

-- what is named stands in front
pub closed_front : (selectors : List ℕ) → IsClosed selectors → filter not_filler selectors ≡ take (count_by not_filler selectors) selectors
closed_front [] closed = refl
closed_front (x ∷ xs) closed = by_test (is_filler x) refl (closed_front xs closed.1)
  where
    one_more : (n m : ℕ) → n ≡ 1 + m → n ≡ suc m
    one_more n m e = omega arith

    by_test : (b : Bool) → is_filler x ≡ b → filter not_filler xs ≡ take (count_by not_filler xs) xs → cond (not b) (x ∷ filter not_filler xs) (filter not_filler xs) ≡ take (count_by not_filler (x ∷ xs)) (x ∷ xs)
    by_test true e rest =
        let none = all_fillers xs (closed.0 e) in
        none ∙ sym (ap (λ (n : ℕ). take n (x ∷ xs)) (count-no not_filler x xs (ap not e) ∙ sym (length-filter not_filler xs) ∙ ap length none))
    by_test false e rest = ap (λ (ys : List ℕ). x ∷ ys) rest ∙ sym (ap (λ (n : ℕ). take n (x ∷ xs)) (one_more (count_by not_filler (x ∷ xs)) (count_by not_filler xs) (count-yes not_filler x xs (ap not e))))

-- a place is filled exactly where it has no filler
pub filled_there : (selectors : List ℕ) (j : ℕ) → IsClosed selectors → j < count_by not_filler selectors → is_filler (slice_index selectors j) ≡ false
filled_there [] j closed h = absurd (omega arith)
filled_there (x ∷ xs) j closed h = by_test (λ i lt. filled_there xs i closed.1 lt) (is_filler x) refl j h
  where
    by_test : ((i : ℕ) → i < count_by not_filler xs → is_filler (slice_index xs i) ≡ false) → (b : Bool) → is_filler x ≡ b → (j : ℕ) → j < count_by not_filler (x ∷ xs) → is_filler (slice_index (x ∷ xs) j) ≡ false
    by_test rest true e j h = absurd (let n : count_by not_filler (x ∷ xs) ≡ 0 = count-no not_filler x xs (ap not e) ∙ sym (length-filter not_filler xs) ∙ ap length (all_fillers xs (closed.0 e)) in omega arith)
    by_test rest false e zero h = e
    by_test rest false e (suc j) h = rest j (let n = count-yes not_filler x xs (ap not e) in omega arith)

pub filler_there : (selectors : List ℕ) (j : ℕ) → IsClosed selectors → count_by not_filler selectors ≤ j → j < length selectors → is_filler (slice_index selectors j) ≡ true
filler_there [] j closed h lt = absurd (omega arith)
filler_there (x ∷ xs) zero closed h lt = by_test (is_filler x) refl
  where
    by_test : (b : Bool) → is_filler x ≡ b → b ≡ true
    by_test true e = refl
    by_test false e = absurd (let n = count-yes not_filler x xs (ap not e) in omega arith)
filler_there (x ∷ xs) (suc j) closed h lt = filler_there xs j closed.1 (let n = count-cons not_filler x xs in by_bool (not_filler x) n) (omega arith)
  where
    by_bool : (b : Bool) → count_by not_filler (x ∷ xs) ≡ cond b 1 0 + count_by not_filler xs → count_by not_filler xs ≤ j
    by_bool true e = omega arith
    by_bool false e = more (is_filler x) refl e
      where
        more : (c : Bool) → is_filler x ≡ c → count_by not_filler (x ∷ xs) ≡ 0 + count_by not_filler xs → count_by not_filler xs ≤ j
        more true f e = let n : count_by not_filler xs ≡ 0 = sym (length-filter not_filler xs) ∙ ap length (all_fillers xs (closed.0 f)) in omega arith
        more false f e = absurd (let n = count-yes not_filler x xs (ap not f) in omega arith)

-- ---- anchors

pub record AnchorThere (runs : List (List Pair)) (vs : List Version) (n : ℕ) (anchors : List (List ℕ)) (s : ℕ) (g : Segment) : Type 0 where
  pub anchor : List ℕ
  pub at : slice_get anchors s ≡ Some anchor
  pub after : IsKeyAt n vs anchor
  pub offsets : g.offsets ≡ counts_below anchor runs

pub anchor_there : (runs : List (List Pair)) (vs : List Version) (n : ℕ) (segments : List Segment) (anchors : List (List ℕ)) (s : ℕ) (g : Segment) → AreAnchored runs vs n segments anchors → slice_get segments s ≡ Some g → AnchorThere runs vs (n + start_of segments s) anchors s g
anchor_there runs vs n [] anchors s g all at = absurd cc
anchor_there runs vs n (x ∷ xs) [] s g all at = absurd all
anchor_there runs vs n (x ∷ xs) (a ∷ bs) zero g all at =
    let e : x ≡ g = some_same x g at in
    record { anchor = a; at = refl; after = subst (λ (m : ℕ). IsKeyAt m vs a) (omega arith) all.0; offsets = ap (λ (y : Segment). y.offsets) (sym e) ∙ all.1 }
anchor_there runs vs n (x ∷ xs) (a ∷ bs) (suc s) g all at =
    let r = anchor_there runs vs (n + filled x) xs bs s g all.2 at in
    record { anchor = r.anchor; at = r.at; after = subst (λ (m : ℕ). IsKeyAt m vs r.anchor) ((let e = sum_by-cons filled x (take s xs) in omega arith)) r.after; offsets = r.offsets }

pub length-anchors : (runs : List (List Pair)) (vs : List Version) (n : ℕ) (segments : List Segment) (anchors : List (List ℕ)) → AreAnchored runs vs n segments anchors → length anchors ≡ length segments
length-anchors runs vs n [] [] all = refl
length-anchors runs vs n [] (a ∷ bs) all = absurd all
length-anchors runs vs n (x ∷ xs) [] all = absurd all
length-anchors runs vs n (x ∷ xs) (a ∷ bs) all = let e = length-anchors runs vs (n + filled x) xs bs all.2 in omega arith

-- ---- the versions of one key

-- the old ones at the front, one by one
pub step_while : (y : ℕ) (ys : List ℕ) (b : Bool) → old_in y ≡ b → take_while (λ other. old_in other) (y ∷ ys) ≡ cond b (y ∷ take_while (λ other. old_in other) ys) []
step_while y ys true e = rw e (ap (λ (n : ℕ). take n (y ∷ ys)) (one_more (prefix_len (λ other. old_in other) ys)))
  where
    one_more : (n : ℕ) → 1 + n ≡ suc n
    one_more n = omega arith
step_while y ys false e = rw e refl
