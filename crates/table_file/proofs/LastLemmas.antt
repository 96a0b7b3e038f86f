-- A key above the last one of a run is above all of them. To know: `above_last`.
use Rattle.std.proofs.Common.{◌≡◌, ℕ, zero, suc, ◌+◌, ◌<◌, ◌≤◌, true, List, [], ◌∷◌, ◌++◌, length, get_or, refl, sym, ap, subst, arith}
use Rattle.std.specs.Prelude.{Some, slice_get}
use Rattle.std.specs.Ordering.{is_lt}
use Rattle.std.proofs.lemmas.Option.{slice_get_read}
use Rattle.rdb_base.specs.Order.{key_cmp}
use Rattle.rdb_base.specs.Runs.{IsRun, AreBelow}
use Rattle.rdb_base.specs.declared.pair.Pair.{Pair}
use Rattle.rdb_base.proofs.KeyOrder.{less_from_test}
use Rattle.rdb_base.proofs.PlaceLemmas.{some_injective}
use Rattle.rdb_base.proofs.RunLemmas.{AreBelow-last}

-- a list is what comes before its last pair, and that pair
split_last : (pairs : List Pair) (at : ℕ) (last : Pair) → suc at ≡ length pairs → slice_get pairs at ≡ Some last → (front : List Pair) × (pairs ≡ front ++ last ∷ [])
split_last [] at last n e = absurd cc
split_last (x ∷ []) zero last n e = ([], ap (λ (y : Pair). y ∷ []) (some_injective x last e))
split_last (x ∷ []) (suc at) last n e = absurd cc
split_last (x ∷ (y ∷ ys)) zero last n e = absurd (omega (arith, n))
split_last (x ∷ (y ∷ ys)) (suc at) last n e = let more = split_last (y ∷ ys) at last (omega (arith, n)) e in (x ∷ more.0, ap (λ (l : List Pair). x ∷ l) more.1)

pub above_last : (pairs : List Pair) (at : ℕ) (last : Pair) (key : List ℕ) → at < length pairs → length pairs ≤ at + 1 → last ≡ get_or pairs at last → IsRun pairs → is_lt (key_cmp last.key key) ≡ true → AreBelow pairs key
above_last pairs at last key lt end read rises less =
    let parts = split_last pairs at last (omega (arith, lt, end)) (slice_get_read pairs (length pairs) at last refl lt read) in
    subst (λ (l : List Pair). AreBelow l key) (sym parts.1) (AreBelow-last parts.0 last key (subst IsRun parts.1 rises) (less_from_test (key_cmp last.key key) less))

-- no pair is above any key
pub none_below : (pairs : List Pair) (key : List ℕ) → length pairs ≡ 0 → AreBelow pairs key
none_below [] key none = tt
none_below (x ∷ pairs) key none = absurd (omega (arith, none))
