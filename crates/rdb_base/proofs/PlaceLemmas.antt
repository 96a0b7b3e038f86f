-- Lists by places, with one member replaced or one more. To know: `get_set`, `get_snoc`, `get_within`.
use Rattle.std.proofs.Common.{◌≡◌, ◌≢◌, ◌⊎◌, ℕ, zero, suc, ◌<◌, ◌≤◌, List, [], ◌∷◌, ◌++◌, length, take, drop, refl, ap, inl, inr, ⊎_elim, arith}
use Rattle.std.specs.Prelude.{slice_get, Option, Some, None}
use lib.ListN.{set}

abbrev some_or : {A : Type 0} → A → Option A → A
some_or d None = d
some_or d (Some x) = x

pub some_injective : {A : Type 0} (a b : A) → Some a ≡ Some b → a ≡ b
some_injective a b e = ap (some_or a) e

module _ {A : Type 0} where
  pub get_set : (xs : List A) (i j : ℕ) (y b : A) → slice_get (set xs i y) j ≡ Some b → ((j ≡ i) × (y ≡ b)) ⊎ ((j ≢ i) × (slice_get xs j ≡ Some b))
  get_set [] i j y b e = absurd cc
  get_set (x ∷ xs) zero zero y b e = inl (refl, some_injective y b e)
  get_set (x ∷ xs) zero (suc j) y b e = inr ((λ h. omega arith), e)
  get_set (x ∷ xs) (suc i) zero y b e = inr ((λ h. omega arith), e)
  get_set (x ∷ xs) (suc i) (suc j) y b e = ⊎_elim (λ t. inl (ap suc t.0, t.1)) (λ t. let n = t.0 in inr ((λ h. n (omega arith)), t.1)) (get_set xs i j y b e)

  pub set_here : (xs : List A) (i : ℕ) (x y : A) → slice_get xs i ≡ Some x → slice_get (set xs i y) i ≡ Some y
  set_here [] i x y h = absurd cc
  set_here (z ∷ xs) zero x y h = refl
  set_here (z ∷ xs) (suc i) x y h = set_here xs i x y h

  pub set_else : (xs : List A) (i j : ℕ) (y : A) → j ≢ i → slice_get (set xs i y) j ≡ slice_get xs j
  set_else [] i j y n = refl
  set_else (x ∷ xs) zero zero y n = absurd (n refl)
  set_else (x ∷ xs) zero (suc j) y n = refl
  set_else (x ∷ xs) (suc i) zero y n = refl
  set_else (x ∷ xs) (suc i) (suc j) y n = set_else xs i j y (λ e. n (ap suc e))

  pub length_set : (xs : List A) (i : ℕ) (y : A) → length (set xs i y) ≡ length xs
  length_set [] i y = refl
  length_set (x ∷ xs) zero y = refl
  length_set (x ∷ xs) (suc i) y = ap suc (length_set xs i y)

  pub get_within : (xs : List A) (i : ℕ) (x : A) → slice_get xs i ≡ Some x → i < length xs
  get_within [] i x h = absurd cc
  get_within (y ∷ xs) zero x h = omega arith
  get_within (y ∷ xs) (suc i) x h = let g = get_within xs i x h in omega arith

  pub get_more : (xs ys : List A) (i : ℕ) (x : A) → slice_get xs i ≡ Some x → slice_get (xs ++ ys) i ≡ Some x
  get_more [] ys i x h = absurd cc
  get_more (y ∷ xs) ys zero x h = h
  get_more (y ∷ xs) ys (suc i) x h = get_more xs ys i x h

  pub get_last : (xs : List A) (y : A) → slice_get (xs ++ y ∷ []) (length xs) ≡ Some y
  get_last [] y = refl
  get_last (x ∷ xs) y = get_last xs y

  pub get_snoc : (xs : List A) (y b : A) (j : ℕ) → slice_get (xs ++ y ∷ []) j ≡ Some b → (slice_get xs j ≡ Some b) ⊎ ((j ≡ length xs) × (y ≡ b))
  get_snoc [] y b zero e = inr (refl, some_injective y b e)
  get_snoc [] y b (suc j) e = absurd cc
  get_snoc (x ∷ xs) y b zero e = inl e
  get_snoc (x ∷ xs) y b (suc j) e = ⊎_elim (λ t. inl t) (λ t. inr (ap suc t.0, t.1)) (get_snoc xs y b j e)

  pub get_take_from : (xs : List A) (n j : ℕ) (x : A) → slice_get (take n xs) j ≡ Some x → slice_get xs j ≡ Some x
  get_take_from [] zero j x h = absurd cc
  get_take_from [] (suc n) j x h = absurd cc
  get_take_from (y ∷ xs) zero j x h = absurd cc
  get_take_from (y ∷ xs) (suc n) zero x h = h
  get_take_from (y ∷ xs) (suc n) (suc j) x h = get_take_from xs n j x h

  pub get_take_to : (xs : List A) (n j : ℕ) (x : A) → j < n → slice_get xs j ≡ Some x → slice_get (take n xs) j ≡ Some x
  get_take_to [] n j x lt h = absurd cc
  get_take_to (y ∷ xs) zero j x lt h = absurd (omega arith)
  get_take_to (y ∷ xs) (suc n) zero x lt h = h
  get_take_to (y ∷ xs) (suc n) (suc j) x lt h = get_take_to xs n j x (omega arith) h

  pub get_drop : (xs : List A) (n j : ℕ) (x : A) → n ≤ j → slice_get xs j ≡ Some x → (k : ℕ) × (slice_get (drop n xs) k ≡ Some x)
  get_drop xs zero j x le h = (j, h)
  get_drop [] (suc n) j x le h = absurd cc
  get_drop (y ∷ xs) (suc n) zero x le h = absurd (omega arith)
  get_drop (y ∷ xs) (suc n) (suc j) x le h = get_drop xs n j x (omega arith) h

  pub drop_more : (xs ys : List A) (n : ℕ) → n ≤ length xs → drop n (xs ++ ys) ≡ drop n xs ++ ys
  drop_more xs ys zero le = refl
  drop_more [] ys (suc n) le = absurd (omega arith)
  drop_more (x ∷ xs) ys (suc n) le = drop_more xs ys n (omega arith)

  pub take_then_drop : (n : ℕ) (xs : List A) → take n xs ++ drop n xs ≡ xs
  take_then_drop zero xs = refl
  take_then_drop (suc n) [] = refl
  take_then_drop (suc n) (x ∷ xs) = ap (λ (r : List A). x ∷ r) (take_then_drop n xs)

  pub some_take : (n : ℕ) (xs : List A) → 0 < n → n < length xs → (0 < length (take n xs)) × (0 < length (drop n xs))
  some_take zero xs some lt = absurd (omega arith)
  some_take (suc n) [] some lt = absurd (omega arith)
  some_take (suc n) (x ∷ xs) some lt = (omega arith, more_drop n xs (omega arith))
    where
      more_drop : (k : ℕ) (zs : List A) → k < length zs → 0 < length (drop k zs)
      more_drop zero zs l = l
      more_drop (suc k) [] l = absurd (omega arith)
      more_drop (suc k) (z ∷ zs) l = more_drop k zs (omega arith)
