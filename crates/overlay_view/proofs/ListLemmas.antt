-- Lists from a place on, and what a filter keeps. To know: drop-there, drop-none, get-there, filter-append, filter-all, filter-none, filter-swap.
use Rattle.std.proofs.Common.{◌≡◌, ℕ, zero, suc, ◌+◌, ◌<◌, ◌≤◌, Bool, true, false, cond, List, [], ◌∷◌, ◌++◌, length, drop, refl, sym, ap, ◌∙◌, arith}
use Rattle.std.specs.Prelude.{slice_get, Some, None, filter}
use Rattle.std.specs.List.{AllByRecursion}
use Rattle.remix_view.proofs.Lists.{some_same}

-- ---- places

pub drop-there : {X : Type 0} (xs : List X) (i : ℕ) (x : X) → slice_get xs i ≡ Some x → drop i xs ≡ x ∷ drop (i + 1) xs
drop-there [] i x e = absurd cc
drop-there (y ∷ ys) zero x e = ap (λ z. z ∷ ys) (some_same y x e)
drop-there (y ∷ ys) (suc i) x e = drop-there ys i x e ∙ ap (λ n. x ∷ drop n (y ∷ ys)) (more i)
  where
    more : (n : ℕ) → suc (n + 1) ≡ suc n + 1
    more n = omega arith

pub drop-none : {X : Type 0} (xs : List X) (i : ℕ) → slice_get xs i ≡ None → drop i xs ≡ []
drop-none [] zero e = refl
drop-none [] (suc i) e = refl
drop-none (x ∷ xs) zero e = absurd cc
drop-none (x ∷ xs) (suc i) e = drop-none xs i e

pub get-there : {X : Type 0} (xs : List X) (i : ℕ) → i < length xs → (x : X) × (slice_get xs i ≡ Some x)
get-there [] i h = absurd (omega arith)
get-there (y ∷ ys) zero h = (y, refl)
get-there (y ∷ ys) (suc i) h = get-there ys i (omega arith)

pub get-none : {X : Type 0} (xs : List X) (i : ℕ) → length xs ≤ i → slice_get xs i ≡ None
get-none [] i h = refl
get-none (x ∷ xs) zero h = absurd (omega arith)
get-none (x ∷ xs) (suc i) h = get-none xs i (omega arith)

pub all-drop : {X : Type 0} (P : X → Type 0) (n : ℕ) (xs : List X) → AllByRecursion P xs → AllByRecursion P (drop n xs)
all-drop P zero xs all = all
all-drop P (suc n) [] all = tt
all-drop P (suc n) (x ∷ xs) all = all-drop P n xs all.1

pub all-from_places : {X : Type 0} (P : X → Type 0) (xs : List X) → ((i : ℕ) (x : X) → slice_get xs i ≡ Some x → P x) → AllByRecursion P xs
all-from_places P [] f = tt
all-from_places P (x ∷ xs) f = (f 0 x refl, all-from_places P xs (λ i y e. f (suc i) y e))

pub cons-first : {X : Type 0} (x y : X) (xs ys : List X) → (x ∷ xs) ≡ (y ∷ ys) → x ≡ y
cons-first x y xs ys e = cc

pub cons-rest : {X : Type 0} (x y : X) (xs ys : List X) → (x ∷ xs) ≡ (y ∷ ys) → xs ≡ ys
cons-rest x y xs ys e = cc

-- ---- what a filter keeps

pub filter-first : {X : Type 0} (test : X → Bool) (x : X) (xs : List X) (b : Bool) → test x ≡ b → filter test (x ∷ xs) ≡ cond b (x ∷ filter test xs) (filter test xs)
filter-first test x xs b e = ap (λ (c : Bool). cond c (x ∷ filter test xs) (filter test xs)) e

pub filter-append : {X : Type 0} (test : X → Bool) (xs ys : List X) → filter test (xs ++ ys) ≡ filter test xs ++ filter test ys
filter-append test [] ys = refl
filter-append {X} test (x ∷ xs) ys = by_test (test x) (filter-append test xs ys)
  where
    by_test : (b : Bool) → filter test (xs ++ ys) ≡ filter test xs ++ filter test ys → cond b (x ∷ filter test (xs ++ ys)) (filter test (xs ++ ys)) ≡ cond b (x ∷ filter test xs) (filter test xs) ++ filter test ys
    by_test true rest = ap (λ (zs : List X). x ∷ zs) rest
    by_test false rest = rest

pub filter-all : {X : Type 0} (test : X → Bool) (xs : List X) → AllByRecursion (λ x. test x ≡ true) xs → filter test xs ≡ xs
filter-all test [] all = refl
filter-all {X} test (x ∷ xs) all = filter-first test x xs true all.0 ∙ ap (λ (zs : List X). x ∷ zs) (filter-all test xs all.1)

pub filter-none : {X : Type 0} (test : X → Bool) (xs : List X) → AllByRecursion (λ x. test x ≡ false) xs → filter test xs ≡ []
filter-none test [] all = refl
filter-none test (x ∷ xs) all = filter-first test x xs false all.0 ∙ filter-none test xs all.1

pub filter-swap : {X : Type 0} (one two : X → Bool) (xs : List X) → filter one (filter two xs) ≡ filter two (filter one xs)
filter-swap one two [] = refl
filter-swap {X} one two (x ∷ xs) = by_tests (one x) (two x) refl refl (filter-swap one two xs)
  where
    by_tests : (a b : Bool) → one x ≡ a → two x ≡ b → filter one (filter two xs) ≡ filter two (filter one xs) → filter one (filter two (x ∷ xs)) ≡ filter two (filter one (x ∷ xs))
    by_tests true true e f rest =
        ap (filter one) (filter-first two x xs true f) ∙ filter-first one x (filter two xs) true e ∙ ap (λ (zs : List X). x ∷ zs) rest
        ∙ sym (ap (filter two) (filter-first one x xs true e) ∙ filter-first two x (filter one xs) true f)
    by_tests true false e f rest =
        ap (filter one) (filter-first two x xs false f) ∙ rest
        ∙ sym (ap (filter two) (filter-first one x xs true e) ∙ filter-first two x (filter one xs) false f)
    by_tests false true e f rest =
        ap (filter one) (filter-first two x xs true f) ∙ filter-first one x (filter two xs) false e ∙ rest
        ∙ sym (ap (filter two) (filter-first one x xs false e))
    by_tests false false e f rest =
        ap (filter one) (filter-first two x xs false f) ∙ rest ∙ sym (ap (filter two) (filter-first one x xs false e))
