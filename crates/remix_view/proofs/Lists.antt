-- Members of a list, at places. To know: all-at, all-index.
use Rattle.std.proofs.Common.{◌≡◌, ℕ, zero, suc, ◌<◌, List, [], ◌∷◌, length, subst, arith}
use Rattle.std.specs.Prelude.{slice_get, slice_index, Some}
use Rattle.std.specs.List.{AllByRecursion}

pub some_same : {X : Type 0} (a b : X) → Some a ≡ Some b → a ≡ b
some_same a b e = cc

-- what holds of all holds of the member at a place
pub all-at : {X : Type 0} (P : X → Type 0) (xs : List X) (i : ℕ) (x : X) → AllByRecursion P xs → slice_get xs i ≡ Some x → P x
all-at P [] i x all at = absurd cc
all-at P (y ∷ ys) zero x all at = subst P (some_same y x at) all.0
all-at P (y ∷ ys) (suc i) x all at = all-at P ys i x all.1 at

pub all-index : (P : ℕ → Type 0) (xs : List ℕ) (i : ℕ) → AllByRecursion P xs → i < length xs → P (slice_index xs i)
all-index P [] i all h = absurd (omega arith)
all-index P (y ∷ ys) zero all h = all.0
all-index P (y ∷ ys) (suc i) all h = all-index P ys i all.1 (omega arith)
