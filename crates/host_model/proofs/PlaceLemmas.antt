-- What holds of each item of a list at its place. The lemma to know is `at_each-push`.
use Rattle.std.proofs.Common.{◌≡◌, ℕ, zero, suc, List, [], ◌∷◌, ◌++◌, length, Some, subst}
use Rattle.std.specs.Prelude.{slice_get}

some_is : {S : Type 0} (a b : S) → Some a ≡ Some b → a ≡ b
some_is a b e = cc

-- it holds with one more item at the end
pub at_each-push : {S : Type 0} (P : ℕ → S → Type 0) (xs : List S) (x : S) → ((i : ℕ) (s : S) → slice_get xs i ≡ Some s → P i s) → P (length xs) x → (i : ℕ) (s : S) → slice_get (xs ++ x ∷ []) i ≡ Some s → P i s
at_each-push P [] x each last zero s is = subst (λ (y : _). P 0 y) (some_is x s is) last
at_each-push P [] x each last (suc i) s is = absurd cc
at_each-push P (y ∷ xs) x each last zero s is = each 0 s is
at_each-push P (y ∷ xs) x each last (suc i) s is = at_each-push (λ j. P (suc j)) xs x (λ j. each (suc j)) last i s is

-- an item stays where it is when more come after it
pub slice_get-front : {S : Type 0} (xs ys : List S) (i : ℕ) (x : S) → slice_get xs i ≡ Some x → slice_get (xs ++ ys) i ≡ Some x
slice_get-front [] ys i x is = absurd cc
slice_get-front (y ∷ xs) ys zero x is = is
slice_get-front (y ∷ xs) ys (suc i) x is = slice_get-front xs ys i x is
