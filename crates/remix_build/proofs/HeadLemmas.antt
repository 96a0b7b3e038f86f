-- The heads of runs, and the least of them. To know: head_read, heads_begun, heads_moved; least_*, least_there, none_there.
use Rattle.std.proofs.Common.{◌≡◌, ◌≢◌, ℕ, ◌+◌, ◌<◌, Bool, true, false, List, [], ◌∷◌, ◌++◌, length, get_or, map, refl, sym, ap, subst, ◌∙◌, arith}
use Rattle.std.specs.Prelude.{◌==◌, slice_get, slice_index, Option, Some, None, nat_lt}
use Rattle.std.specs.Ordering.{is_lt}
use Rattle.std.specs.declared.cmp.Ordering.{Ordering}
use Rattle.std.specs.declared.cmp.Ordering.TheVariants.{Less, Equal, Greater}
use Rattle.std.proofs.Math.ListN.{set, length-set}
use Rattle.std.proofs.lemmas.Bool.Decides.{nat_tests}
use Rattle.std.proofs.lemmas.List.{length-append, get_or_append_left, get_or_push, get_or_default, get_or-set_same, get_or-set_other}
use denote.Ref.{Bor}
use Rattle.rdb_base.specs.Order.{key_cmp}
use Rattle.rdb_base.specs.declared.pair.Pair.{Pair}
use Rattle.rdb_base.proofs.KeyOrder.{total, same_key, turned_greater, less_from_test}
use Rattle.remix_seek.specs.Versions.{run_at, is_before, before_by}
use Rattle.remix_seek.proofs.ReadLemmas.{run_at-map}
use Rattle.remix_view.proofs.Lists.{some_same}
use Rattle.remix_build.specs.Heads.{lent_key, head_of_run, key_of, AreHeads, AreFirst, IsLeastHead, LeastHead}
use Rattle.remix_build.specs.Merging.{head_at, head_of, IsNext, AreUsedUp}

some_none : {X : Type 0} (a : X) → Some a ≡ None → ⊥
some_none a e = absurd cc

-- a head that is read, whatever stands for one past the end
pub head_read : (heads : List (Option (Bor (List ℕ)))) (run : ℕ) (d : Option (Bor (List ℕ))) → run < length heads → lent_key (get_or heads run d) ≡ head_of_run heads run
head_read heads run d lt = ap lent_key (get_or_default heads run d None lt)

-- ---- the least head

pub least_none : (heads : List (Option (Bor (List ℕ)))) → LeastHead heads 0 None
least_none heads run h = absurd (omega arith)

-- a run that is used up changes nothing
pub least_passed : (heads : List (Option (Bor (List ℕ)))) (n : ℕ) (best : Option (ℕ × Bor (List ℕ))) → head_of_run heads n ≡ None → LeastHead heads n best → LeastHead heads (n + 1) best
least_passed heads n None gone h = λ run lt. by_place run lt (nat_lt run n) refl
  where
    by_place : (run : ℕ) → run < n + 1 → (b : Bool) → nat_lt run n ≡ b → head_of_run heads run ≡ None
    by_place run lt true e = h run (grind (arith, nat_tests))
    by_place run lt false e =
        let same : n ≡ run = grind (arith, nat_tests) in
        subst (λ (r : ℕ). head_of_run heads r ≡ None) same gone
least_passed heads n (Some (best, lent)) gone h = record { low = omega (arith, h.low); head = h.head; least = λ q o lt other at. by_place q o lt other at (nat_lt q n) refl }
  where
    by_place : (q : ℕ) (o : List ℕ) → q < n + 1 → q ≢ best → head_of_run heads q ≡ Some o → (b : Bool) → nat_lt q n ≡ b → before_by (key_cmp lent.now o) best q ≡ true
    by_place q o lt other at true e = h.least q o (grind (arith, nat_tests)) other at
    by_place q o lt other at false e =
        let same : n ≡ q = grind (arith, nat_tests) in
        absurd (some_none o (sym at ∙ subst (λ (r : ℕ). head_of_run heads r ≡ None) same gone))

pub least_first : (heads : List (Option (Bor (List ℕ)))) (n : ℕ) (key : List ℕ) → head_of_run heads n ≡ Some key → LeastHead heads n None → IsLeastHead heads (n + 1) n key
least_first heads n key here h = record { low = omega arith; head = here; least = λ q o lt other at. absurd (some_none o (sym at ∙ h q (omega (arith, other)))) }

head_before : (r : Ordering) (m n : ℕ) → is_lt r ≡ true → before_by r m n ≡ true
head_before Less m n h = refl
head_before Equal m n h = absurd cc
head_before Greater m n h = absurd cc

-- a key below one that is not above another is below that
below_next : (p q o : List ℕ) (m n : ℕ) → is_lt (key_cmp p q) ≡ true → before_by (key_cmp q o) m n ≡ true → is_lt (key_cmp p o) ≡ true
below_next p q o m n low before = by_order (key_cmp q o) refl before
  where
    by_order : (r : Ordering) → key_cmp q o ≡ r → before_by r m n ≡ true → is_lt (key_cmp p o) ≡ true
    by_order Less e h = ap is_lt (total.trans p q o (less_from_test (key_cmp p q) low) e)
    by_order Equal e h = ap (λ (k : List ℕ). is_lt (key_cmp p k)) (sym (same_key q o e)) ∙ low
    by_order Greater e h = absurd cc

pub least_more : (heads : List (Option (Bor (List ℕ)))) (n best : ℕ) (key least : List ℕ) → head_of_run heads n ≡ Some key → IsLeastHead heads n best least → is_lt (key_cmp key least) ≡ true → IsLeastHead heads (n + 1) n key
least_more heads n best key least here h low = record { low = omega arith; head = here; least = λ q o lt other at. by_run q o lt other at (q == best) refl }
  where
    by_run : (q : ℕ) (o : List ℕ) → q < n + 1 → q ≢ n → head_of_run heads q ≡ Some o → (b : Bool) → (q == best) ≡ b → before_by (key_cmp key o) n q ≡ true
    by_run q o lt other at true e =
        let same : best ≡ q = grind (arith, nat_tests) in
        let keys : least ≡ o = some_same least o (sym h.head ∙ ap (head_of_run heads) same ∙ at) in
        head_before (key_cmp key o) n q (subst (λ (x : List ℕ). is_lt (key_cmp key x) ≡ true) keys low)
    by_run q o lt other at false e =
        let apart : q ≢ best = grind (arith, nat_tests) in
        head_before (key_cmp key o) n q (below_next key least o best q low (h.least q o (omega (arith, other)) apart at))

pub least_stays : (heads : List (Option (Bor (List ℕ)))) (n best : ℕ) (key least : List ℕ) → head_of_run heads n ≡ Some key → IsLeastHead heads n best least → is_lt (key_cmp key least) ≡ false → IsLeastHead heads (n + 1) best least
least_stays heads n best key least here h high = record { low = omega (arith, h.low); head = h.head; least = λ q o lt other at. by_run q o lt other at (nat_lt q n) refl }
  where
    turned : (r : Ordering) → key_cmp least key ≡ r → before_by r best n ≡ true
    turned Less e = refl
    turned Equal e = let low = h.low in grind (arith, nat_tests)
    turned Greater e = absurd (let k : is_lt (key_cmp key least) ≡ true = ap is_lt (turned_greater least key e) in cc)

    by_run : (q : ℕ) (o : List ℕ) → q < n + 1 → q ≢ best → head_of_run heads q ≡ Some o → (b : Bool) → nat_lt q n ≡ b → before_by (key_cmp least o) best q ≡ true
    by_run q o lt other at true e = h.least q o (grind (arith, nat_tests)) other at
    by_run q o lt other at false e =
        let same : n ≡ q = grind (arith, nat_tests) in
        let keys : key ≡ o = some_same key o (sym here ∙ ap (head_of_run heads) same ∙ at) in
        subst (λ (m : ℕ). before_by (key_cmp least o) best m ≡ true) same
        (subst (λ (x : List ℕ). before_by (key_cmp least x) best n ≡ true) keys (turned (key_cmp least key) refl))

-- ---- the heads of the first so many runs, at their first places

pub record Heading (runs : List (List Pair)) (heads : List (Option (Bor (List ℕ)))) (n : ℕ) : Type 0 where
  pub long : length heads ≡ n
  pub told : (run : ℕ) → run < n → head_of_run heads run ≡ key_of (slice_get (run_at runs run) 0)

pub heading_next : {A : Type 0} (f : A → List Pair) (xs : List A) (heads grown : List (Option (Bor (List ℕ)))) (n : ℕ) (x : A) (head : Option (Bor (List ℕ))) → n < length xs → x ≡ get_or xs n x → lent_key head ≡ key_of (slice_get (f x) 0) → grown ≡ heads ++ head ∷ [] → Heading (map f xs) heads n → Heading (map f xs) grown (n + 1)
heading_next f xs heads grown n x head lt is told e h = record { long = ap length e ∙ length-append heads (head ∷ []) ∙ omega (arith, h.long); told = λ q low. by_place q low (nat_lt q n) refl }
  where
    by_place : (q : ℕ) → q < n + 1 → (b : Bool) → nat_lt q n ≡ b → head_of_run grown q ≡ key_of (slice_get (run_at (map f xs) q) 0)
    by_place q low true t =
        let under : q < n = grind (arith, nat_tests) in
        ap (λ (hs : List (Option (Bor (List ℕ)))). head_of_run hs q) e ∙ ap lent_key (get_or_append_left heads (head ∷ []) None q (omega (arith, h.long))) ∙ h.told q under
    by_place q low false t =
        let same : n ≡ q = grind (arith, nat_tests) in
        subst (λ (r : ℕ). head_of_run grown r ≡ key_of (slice_get (run_at (map f xs) r) 0)) same
        (ap (λ (hs : List (Option (Bor (List ℕ)))). head_of_run hs n) e ∙ ap lent_key (get_or_push heads head None n h.long) ∙ told ∙ ap (λ (run : List Pair). key_of (slice_get run 0)) (sym (run_at-map f xs n x lt is)))

pub heads_begun : (runs : List (List Pair)) (places : List ℕ) (heads : List (Option (Bor (List ℕ)))) → ((run : ℕ) → slice_index places run ≡ 0) → AreFirst runs heads → AreHeads runs places heads
heads_begun runs places heads first h = record { long = h.long; told = λ run lt. h.told run lt ∙ ap (λ (n : ℕ). key_of (slice_get (run_at runs run) n)) (sym (first run)) }

-- one head further
pub heads_moved : (runs : List (List Pair)) (places : List ℕ) (heads : List (Option (Bor (List ℕ)))) (run after : ℕ) (head : Option (Bor (List ℕ))) → run < length runs → length places ≡ length runs → lent_key head ≡ key_of (slice_get (run_at runs run) after) → AreHeads runs places heads → AreHeads runs (set places run after) (set heads run head)
heads_moved runs places heads run after head lt long told h = record { long = length-set heads run head ∙ h.long; told = λ q low. by_place q low (q == run) refl }
  where
    by_place : (q : ℕ) → q < length runs → (b : Bool) → (q == run) ≡ b → head_of_run (set heads run head) q ≡ key_of (slice_get (run_at runs q) (slice_index (set places run after) q))
    by_place q low true t =
        let same : run ≡ q = grind (arith, nat_tests) in
        subst (λ (r : ℕ). head_of_run (set heads run head) r ≡ key_of (slice_get (run_at runs r) (slice_index (set places run after) r))) same
        (ap lent_key (get_or-set_same heads run head None (omega (arith, h.long))) ∙ told ∙ ap (λ (n : ℕ). key_of (slice_get (run_at runs run) n)) (sym (get_or-set_same places run after 0 (omega arith))))
    by_place q low false t =
        let apart : q ≢ run = grind (arith, nat_tests) in
        ap lent_key (get_or-set_other heads run q head None apart) ∙ h.told q low ∙ ap (λ (n : ℕ). key_of (slice_get (run_at runs q) n)) (sym (get_or-set_other places run q after 0 apart))

-- ---- from heads to the pairs of runs

no_pair : (p : Option Pair) → key_of p ≡ None → p ≡ None
no_pair None e = refl
no_pair (Some p) e = absurd cc

pub none_there : (runs : List (List Pair)) (places : List ℕ) (heads : List (Option (Bor (List ℕ)))) (n : ℕ) → n ≡ length runs → AreHeads runs places heads → LeastHead heads n None → AreUsedUp runs places
none_there runs places heads n e h none run lt = no_pair (head_at runs places run) (sym (h.told run lt) ∙ none run (omega arith))

-- the pair of the least head
pub record PairThere (runs : List (List Pair)) (places : List ℕ) (run : ℕ) (key : List ℕ) : Type 0 where
  pub pair : Pair
  pub next : IsNext runs places run pair
  pub same : pair.key ≡ key

key_is : (p : Option Pair) (key : List ℕ) → key_of p ≡ Some key → (q : Pair) × (p ≡ Some q) × (q.key ≡ key)
key_is None key e = absurd cc
key_is (Some p) key e = (p, refl, some_same p.key key e)

pub least_there : (runs : List (List Pair)) (places : List ℕ) (heads : List (Option (Bor (List ℕ)))) (n run : ℕ) (key : List ℕ) → n ≡ length runs → AreHeads runs places heads → IsLeastHead heads n run key → PairThere runs places run key
least_there runs places heads n run key e h least =
    let found = key_is (head_at runs places run) key (sym (h.told run (omega (arith, least.low))) ∙ least.head) in
    record {
      pair = found.0;
      next = record { low = omega (arith, least.low); head = found.1; first = λ q o lt other at. before q o lt other at found.0 found.2 };
      same = found.2;
    }
  where
    before : (q : ℕ) (o : Pair) → q < length runs → q ≢ run → head_at runs places q ≡ Some o → (p : Pair) → p.key ≡ key → is_before (head_of places run p) (head_of places q o) ≡ true
    before q o lt other at p same = subst (λ (k : List ℕ). before_by (key_cmp k o.key) run q ≡ true) (sym same) (least.least q o.key (omega arith) other (h.told q lt ∙ ap key_of at))

-- ---- what the search for the least head answered

pub none_found : (runs : List (List Pair)) (places : List ℕ) (heads lent : List (Option (Bor (List ℕ)))) (best : Option (ℕ × Bor (List ℕ))) → lent ≡ heads → LeastHead lent (length lent) best → best ≡ None → AreHeads runs places heads → AreUsedUp runs places
none_found runs places heads lent best same least is h =
    none_there runs places heads (length heads) h.long h (subst (λ (b : Option (ℕ × Bor (List ℕ))). LeastHead heads (length heads) b) is (subst (λ (hs : List (Option (Bor (List ℕ)))). LeastHead hs (length hs) best) same least))

pub least_found : (runs : List (List Pair)) (places : List ℕ) (heads lent : List (Option (Bor (List ℕ)))) (best : Option (ℕ × Bor (List ℕ))) (run : ℕ) (key : Bor (List ℕ)) → lent ≡ heads → LeastHead lent (length lent) best → best ≡ Some (run, key) → AreHeads runs places heads → PairThere runs places run key.now
least_found runs places heads lent best run key same least is h =
    least_there runs places heads (length heads) run key.now h.long h (subst (λ (b : Option (ℕ × Bor (List ℕ))). LeastHead heads (length heads) b) is (subst (λ (hs : List (Option (Bor (List ℕ)))). LeastHead hs (length hs) best) same least))
