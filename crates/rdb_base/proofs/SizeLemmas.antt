-- Sizes of runs, and what a run keeps beside its pairs. To know: `sizes-append`, `sizes-take_next`.
use Rattle.std.proofs.Common.{◌≡◌, ℕ, zero, suc, ◌+◌, ◌*◌, ◌<◌, ◌≤◌, List, [], ◌∷◌, ◌++◌, length, take, get_or, ap, ◌∙◌, arith, length-append}
use Rattle.rdb_base.specs.Runs.{IsRun, AreBelow, pair_size, sizes}
use Rattle.rdb_base.specs.declared.limits.TheConstants.{PAIR_MAX}
use Rattle.rdb_base.specs.declared.pair.Pair.{Pair}
use Rattle.rdb_base.proofs.RunLemmas.{IsRun-push}

-- the sizes of two lists after each other
pub sizes-append : (xs ys : List Pair) → sizes (xs ++ ys) ≡ sizes xs + sizes ys
sizes-append [] ys = omega arith
sizes-append (x ∷ xs) ys = let rest = sizes-append xs ys in omega (arith, rest)

-- a run with one pair more at its end, and its sum of sizes
pub run-pushed : (pairs new : List Pair) (p : Pair) (size more : ℕ) → new ≡ pairs ++ p ∷ [] → IsRun pairs → size ≡ sizes pairs → size ≤ PAIR_MAX * length pairs
    → AreBelow pairs p.key → more ≡ pair_size p → more ≤ PAIR_MAX → IsRun new × (size + more ≡ sizes new) × (size + more ≤ PAIR_MAX * length new)
run-pushed pairs new p size more is run sum most below more_is more_most =
    (rw is (IsRun-push pairs p run below), omega (arith, ap sizes is, sizes-append pairs (p ∷ []), sum, more_is), omega (arith, ap length is, length-append pairs (p ∷ []), most, more_most))

-- the sizes of the first so many pairs and the next one
pub sizes-take_next : (xs : List Pair) (n : ℕ) (x : Pair) → n < length xs → x ≡ get_or xs n x → sizes (take (n + 1) xs) ≡ sizes (take n xs) + pair_size x
sizes-take_next xs n x lt e = ap (λ m. sizes (take m xs)) (one_more n) ∙ by_suc xs n x lt e
  where
    one_more : (m : ℕ) → m + 1 ≡ suc m
    one_more m = omega arith

    by_suc : (ys : List Pair) (m : ℕ) (y : Pair) → m < length ys → y ≡ get_or ys m y → sizes (take (suc m) ys) ≡ sizes (take m ys) + pair_size y
    by_suc [] m y l h = absurd (omega arith)
    by_suc (z ∷ ys) zero y l h = omega (arith, ap pair_size h)
    by_suc (z ∷ ys) (suc m) y l h = let rest = by_suc ys m y (omega arith) h in omega (arith, rest)
