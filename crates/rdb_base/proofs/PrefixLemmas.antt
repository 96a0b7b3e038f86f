-- Beginnings of lists, and what a filter keeps of a list between two of them. To know: `prefix_shorter`, `prefix_whole`, `squeeze`.
use Rattle.std.proofs.Common.{◌≡◌, ℕ, ◌≤◌, Bool, true, false, cond, List, [], ◌∷◌, ◌++◌, length, take, drop, refl, ap, sym, ◌∙◌, arith, append_assoc, length-append}
use Rattle.std.specs.List.{filter}
use Rattle.std.proofs.lemmas.List.Elements.{filter-append}
use Rattle.std.proofs.lemmas.List.{append-nil, drop-append-le, take-append-drop}
use mathlib.Core.List.{IsPrefix}

-- a list begins itself, and each list that it is the front of
pub prefix_self : {A : Type 0} (xs : List A) → IsPrefix xs xs
prefix_self [] = ([], refl)
prefix_self (x ∷ xs) = let r = prefix_self xs in (r.0, ap (λ ys. x ∷ ys) r.1)

pub prefix_more : {A : Type 0} (xs ys zs : List A) → IsPrefix xs ys → IsPrefix xs (ys ++ zs)
prefix_more xs ys zs p = (p.0 ++ zs, sym (append_assoc xs p.0 zs) ∙ ap (λ w. w ++ zs) p.1)

-- a beginning of a beginning
pub prefix_trans : {A : Type 0} (xs ys zs : List A) → IsPrefix xs ys → IsPrefix ys zs → IsPrefix xs zs
prefix_trans xs ys zs p q = (p.0 ++ q.0, sym (append_assoc xs p.0 q.0) ∙ (ap (λ w. w ++ q.0) p.1 ∙ q.1))

-- of two beginnings of one list the shorter begins the longer
pub prefix_shorter : {A : Type 0} (xs ys zs : List A) → IsPrefix xs zs → IsPrefix ys zs → length xs ≤ length ys → IsPrefix xs ys
prefix_shorter [] ys zs p q le = (ys, refl)
prefix_shorter (x ∷ xs) [] zs p q le = absurd (omega arith)
prefix_shorter (x ∷ xs) (y ∷ ys) [] p q le = absurd (cc (p.1))
prefix_shorter (x ∷ xs) (y ∷ ys) (z ∷ zs) p q le =
    let heads : x ≡ y = cc (p.1, q.1) in
    let rest = prefix_shorter xs ys zs (p.0, cc (p.1)) (q.0, cc (q.1)) (omega arith) in
    (rest.0, cc (heads, rest.1))

-- a beginning as long as the whole is the whole
pub prefix_whole : {A : Type 0} (xs ys : List A) → IsPrefix xs ys → length ys ≤ length xs → xs ≡ ys
prefix_whole [] [] p le = refl
prefix_whole [] (y ∷ ys) p le = absurd (omega arith)
prefix_whole (x ∷ xs) [] p le = absurd (cc (p.1))
prefix_whole (x ∷ xs) (y ∷ ys) p le =
    let rest = prefix_whole xs ys (p.0, cc (p.1)) (omega arith) in cc (p.1, rest)

-- a beginning is no longer
pub prefix_length : {A : Type 0} (xs ys : List A) → IsPrefix xs ys → length xs ≤ length ys
prefix_length xs ys p = omega (arith, sym (ap length p.1) ∙ length-append xs p.0)

-- the first so many begin a list
pub prefix_take : {A : Type 0} (n : ℕ) (xs : List A) → IsPrefix (take n xs) xs
prefix_take n xs = (drop n xs, take-append-drop n xs)

-- ---- what a filter keeps

-- of a list with one more at its end
pub filter-push : {A : Type 0} (test : A → Bool) (xs : List A) (x : A) (b : Bool) → test x ≡ b → filter test (xs ++ x ∷ []) ≡ filter test xs ++ cond b (x ∷ []) []
filter-push test xs x b is = filter-append test xs (x ∷ []) ∙ ap (λ l. filter test xs ++ l) (ap (λ (t : Bool). cond t (x ∷ []) []) is)

-- of what comes from a place on, with one more that does not pass, or that does
pub filter-push_other : {A : Type 0} (test : A → Bool) (base : ℕ) (xs : List A) (x : A) → base ≤ length xs → test x ≡ false → filter test (drop base (xs ++ x ∷ [])) ≡ filter test (drop base xs)
filter-push_other test base xs x le out = ap (filter test) (drop-append-le base xs (x ∷ []) le) ∙ filter-push test (drop base xs) x false out ∙ append-nil (filter test (drop base xs))

pub filter-push_own : {A : Type 0} (test : A → Bool) (base : ℕ) (xs : List A) (x : A) → base ≤ length xs → test x ≡ true → filter test (drop base (xs ++ x ∷ [])) ≡ filter test (drop base xs) ++ x ∷ []
filter-push_own test base xs x le inside = ap (filter test) (drop-append-le base xs (x ∷ []) le) ∙ filter-push test (drop base xs) x true inside

-- what passes the narrower of two tests passes the wider one first
pub filter-narrower : {A : Type 0} (wide narrow : A → Bool) → ((x : A) → narrow x ≡ true → wide x ≡ true) → (xs : List A) → filter narrow (filter wide xs) ≡ filter narrow xs
filter-narrower wide narrow f [] = refl
filter-narrower wide narrow f (x ∷ xs) = by_tests (filter-narrower wide narrow f xs) (wide x) (narrow x) refl refl
  where
    by_tests : filter narrow (filter wide xs) ≡ filter narrow xs → (b c : Bool) → wide x ≡ b → narrow x ≡ c → filter narrow (cond b (x ∷ filter wide xs) (filter wide xs)) ≡ cond c (x ∷ filter narrow xs) (filter narrow xs)
    by_tests rest true true e d = ap (λ (t : Bool). cond t (x ∷ filter narrow (filter wide xs)) (filter narrow (filter wide xs))) d ∙ ap (λ l. x ∷ l) rest
    by_tests rest true false e d = ap (λ (t : Bool). cond t (x ∷ filter narrow (filter wide xs)) (filter narrow (filter wide xs))) d ∙ rest
    by_tests rest false true e d = absurd (cc (f x d, e))
    by_tests rest false false e d = rest

-- where a list and a longer one have the same kept from a place on, so has each list between them
pub squeeze : {A : Type 0} (test : A → Bool) (k : ℕ) (xs ys zs : List A) → k ≤ length xs → IsPrefix xs ys → IsPrefix ys zs → filter test (drop k zs) ≡ filter test (drop k xs) → filter test (drop k ys) ≡ filter test (drop k xs)
squeeze {A} test k xs ys zs le f g same =
    let kept = λ (l : List A). filter test (drop k l) in
    let first : kept ys ≡ kept xs ++ filter test f.0 = ap kept (sym f.1) ∙ ap (filter test) (drop-append-le k xs f.0 le) ∙ filter-append test (drop k xs) f.0 in
    let further : k ≤ length ys = let h = prefix_length xs ys f in omega arith in
    let second : kept zs ≡ kept ys ++ filter test g.0 = ap kept (sym g.1) ∙ ap (filter test) (drop-append-le k ys g.0 further) ∙ filter-append test (drop k ys) g.0 in
    let sizes : length (filter test f.0) ≡ 0 = omega (arith, ap length first, ap length second, ap length same, length-append (kept xs) (filter test f.0), length-append (kept ys) (filter test g.0)) in
    first ∙ ap (λ l. kept xs ++ l) (nothing (filter test f.0) sizes) ∙ append-nil (kept xs)
  where
    nothing : (l : List A) → length l ≡ 0 → l ≡ []
    nothing [] h = refl
    nothing (x ∷ l) h = absurd (omega arith)
