-- Pairs that are there. To know: there-run, there-place, there-some.
use Rattle.std.proofs.Common.{◌≡◌, ℕ, zero, suc, ◌<◌, List, [], ◌∷◌, length, get_or, sym, ap, subst, arith}
use Rattle.std.specs.Prelude.{slice_get, Option, Some, None}
use Rattle.rdb_base.specs.declared.pair.Pair.{Pair}
use Rattle.remix_seek.specs.Versions.{run_at}
use Rattle.partition_merge.specs.Merging.{IsThere, IsPut}

-- a pair that is there is within the list
pub there-place : (xs : List Pair) (i : ℕ) → IsThere (slice_get xs i) → i < length xs
there-place [] i h = absurd h
there-place (x ∷ xs) zero h = omega arith
there-place (x ∷ xs) (suc i) h = let rest = there-place xs i h in omega (arith, rest)

-- and its run is there
pub there-run : (runs : List (List Pair)) (run place : ℕ) → IsThere (slice_get (run_at runs run) place) → run < length runs
there-run [] run place h = absurd h
there-run (r ∷ rs) zero place h = omega arith
there-run (r ∷ rs) (suc run) place h = let rest = there-run rs run place h in omega (arith, rest)

-- the pair of a list at a place within it
pub get-read : (xs : List Pair) (i : ℕ) (x : Pair) → i < length xs → x ≡ get_or xs i x → slice_get xs i ≡ Some x
get-read [] i x h e = absurd (omega arith)
get-read (y ∷ ys) zero x h e = ap (λ (z : Pair). Some z) (sym e)
get-read (y ∷ ys) (suc i) x h e = get-read ys i x (omega arith) e

-- what names a pair is there
pub there-some : (o : Option Pair) (p : Pair) → o ≡ Some p → IsThere o
there-some o p e = subst IsThere (sym e) tt

pub put-there : (o : Option Pair) → IsPut o → IsThere o
put-there None h = absurd h
put-there (Some p) h = tt
