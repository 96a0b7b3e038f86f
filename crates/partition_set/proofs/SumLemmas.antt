-- Sums that stand still at the greatest number. To know: sum-next, most-next.
use Rattle.std.proofs.Common.{◌≡◌, ℕ, zero, suc, ◌+◌, ◌-◌, ◌<◌, ◌^◌, List, [], ◌∷◌, length, take, get_or, sym, ap, ◌∙◌, arith}
use Rattle.std.specs.Prelude.{min}
use Rattle.std.specs.List.{sum_by}
use Rattle.std.proofs.lemmas.List.Sums.{sum_by-cons}
use Rattle.partition_set.specs.Partitions.{most_of}

-- one member more
pub sum-next : {X : Type 0} (f : X → ℕ) (xs : List X) (i n : ℕ) (x : X) → n ≡ i + 1 → i < length xs → x ≡ get_or xs i x → sum_by f (take n xs) ≡ sum_by f (take i xs) + f x
sum-next f [] i n x e lt is = absurd (omega arith)
sum-next f (y ∷ ys) i zero x e lt is = absurd (omega arith)
sum-next f (y ∷ ys) zero (suc zero) x e lt is = sum_by-cons f y [] ∙ ap (λ z. f z + 0) (sym is) ∙ omega arith
sum-next f (y ∷ ys) zero (suc (suc n)) x e lt is = absurd (omega arith)
sum-next f (y ∷ ys) (suc i) (suc n) x e lt is =
    let a = sum_by-cons f y (take n ys) in
    let b = sum_by-cons f y (take i ys) in
    let rest = sum-next f ys i n x (omega arith) (omega arith) is in
    omega arith

-- the sum that stands still, with one number more
pub most-next : (sum more next : ℕ) → next ≡ sum + more → min (most_of sum + more) (2 ^ 128 - 1) ≡ most_of next
most-next sum more next e = omega arith

-- also where what is added stood still
pub most-both : (sum more next : ℕ) → next ≡ sum + more → min (most_of sum + most_of more) (2 ^ 128 - 1) ≡ most_of next
most-both sum more next e = omega arith
