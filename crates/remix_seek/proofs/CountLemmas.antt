-- Counts of lists from the front, and members at places. To know: count-cons, count-append, part-of, get-part.
use Rattle.std.proofs.Common.{◌≡◌, ℕ, zero, suc, ◌+◌, ◌<◌, ◌≤◌, Bool, true, false, cond, List, [], ◌∷◌, ◌++◌, length, take, drop, refl, ap, ◌∙◌, arith}
use Rattle.std.specs.Prelude.{slice_get, Some}
use Rattle.std.specs.List.{AllByRecursion, count_by, sum_by, flat_map}
use Rattle.std.proofs.lemmas.List.Sums.{sum_by-cons, sum_by-append}
use Rattle.std.proofs.Math.Seq.{drop-append-add}
use Rattle.remix_view.proofs.Lists.{some_same}

pub count-cons : {X : Type 0} (test : X → Bool) (x : X) (xs : List X) → count_by test (x ∷ xs) ≡ cond (test x) 1 0 + count_by test xs
count-cons test x xs = sum_by-cons (λ y. cond (test y) 1 0) x xs

pub count-append : {X : Type 0} (test : X → Bool) (xs ys : List X) → count_by test (xs ++ ys) ≡ count_by test xs + count_by test ys
count-append test xs ys = sum_by-append (λ y. cond (test y) 1 0) xs ys

pub count-yes : {X : Type 0} (test : X → Bool) (x : X) (xs : List X) → test x ≡ true → count_by test (x ∷ xs) ≡ 1 + count_by test xs
count-yes test x xs e = count-cons test x xs ∙ ap (λ (b : Bool). cond b 1 0 + count_by test xs) e

pub count-no : {X : Type 0} (test : X → Bool) (x : X) (xs : List X) → test x ≡ false → count_by test (x ∷ xs) ≡ count_by test xs
count-no test x xs e = count-cons test x xs ∙ ap (λ (b : Bool). cond b 1 0 + count_by test xs) e ∙ omega arith

pub count-none : {X : Type 0} (test : X → Bool) (xs : List X) → AllByRecursion (λ x. test x ≡ false) xs → count_by test xs ≡ 0
count-none test [] all = refl
count-none test (x ∷ xs) all = count-no test x xs all.0 ∙ count-none test xs all.1

pub count-every : {X : Type 0} (test : X → Bool) (xs : List X) → AllByRecursion (λ x. test x ≡ true) xs → count_by test xs ≡ length xs
count-every test [] all = refl
count-every test (x ∷ xs) all = count-yes test x xs all.0 ∙ (let h = count-every test xs all.1 in omega arith)

pub take-front : {X : Type 0} (n : ℕ) (xs ys : List X) → n ≤ length xs → take n (xs ++ ys) ≡ take n xs
take-front zero xs ys h = refl
take-front (suc n) [] ys h = absurd (omega arith)
take-front (suc n) (x ∷ xs) ys h = ap (λ (zs : List _). x ∷ zs) (take-front n xs ys (omega arith))

pub get-front : {X : Type 0} (n j : ℕ) (xs : List X) → j < n → slice_get (take n xs) j ≡ slice_get xs j
get-front zero j xs h = absurd (omega arith)
get-front (suc n) j [] h = refl
get-front (suc n) zero (x ∷ xs) h = refl
get-front (suc n) (suc j) (x ∷ xs) h = get-front n j xs (omega arith)

-- a member of a part
pub get-part : {X : Type 0} (n s j : ℕ) (xs : List X) → j < n → slice_get (take n (drop s xs)) j ≡ slice_get xs (s + j)
get-part n zero j xs h = get-front n j xs h ∙ ap (λ (i : ℕ). slice_get xs i) (same_place j)
  where
    same_place : (i : ℕ) → i ≡ 0 + i
    same_place i = omega arith
get-part zero (suc s) j [] h = absurd (omega arith)
get-part (suc n) (suc s) j [] h = refl
get-part n (suc s) j (x ∷ xs) h = get-part n s j xs h ∙ ap (λ (i : ℕ). slice_get (x ∷ xs) i) (more s j)
  where
    more : (a b : ℕ) → suc (a + b) ≡ suc a + b
    more a b = omega arith

-- the part of a list of parts
pub part-of : {X Y : Type 0} (f : X → List Y) (xs : List X) (s j : ℕ) (x : X) → slice_get xs s ≡ Some x → j ≤ length (f x) → take j (drop (sum_by (λ y. length (f y)) (take s xs)) (flat_map f xs)) ≡ take j (f x)
part-of f [] s j x e h = absurd cc
part-of {X} f (y ∷ ys) zero j x e h = ap (λ (zs : List _). take j zs) refl ∙ take-front j (f y) (flat_map f ys) (short (some_same y x e)) ∙ ap (λ (z : X). take j (f z)) (some_same y x e)
  where
    short : y ≡ x → j ≤ length (f y)
    short e = let k : length (f y) ≡ length (f x) = ap (λ (z : X). length (f z)) e in omega arith
part-of {X} f (y ∷ ys) (suc s) j x e h =
    ap (λ (n : ℕ). take j (drop n (f y ++ flat_map f ys))) (sum_by-cons (λ z. length (f z)) y (take s ys))
    ∙ ap (λ (zs : List _). take j zs) (drop-append-add (f y) (flat_map f ys) (sum_by (λ z. length (f z)) (take s ys)))
    ∙ part-of f ys s j x e h

-- the front of a list is as long as was asked
pub length-front : {X : Type 0} (n : ℕ) (xs : List X) → n ≤ length xs → length (take n xs) ≡ n
length-front zero xs h = refl
length-front (suc n) [] h = absurd (omega arith)
length-front (suc n) (x ∷ xs) h = let e = length-front n xs (omega arith) in omega arith

-- what holds of all holds of the front
pub all-take : {X : Type 0} (P : X → Type 0) (n : ℕ) (xs : List X) → AllByRecursion P xs → AllByRecursion P (take n xs)
all-take P zero xs all = tt
all-take P (suc n) [] all = tt
all-take P (suc n) (x ∷ xs) all = (all.0, all-take P n xs all.1)

-- the list from a member on
pub drop-get : {X : Type 0} (xs : List X) (i : ℕ) (x : X) → slice_get xs i ≡ Some x → drop i xs ≡ x ∷ drop (suc i) xs
drop-get [] i x e = absurd cc
drop-get {X} (y ∷ ys) zero x e = ap (λ (z : X). z ∷ ys) (some_same y x e)
drop-get (y ∷ ys) (suc i) x e = drop-get ys i x e
