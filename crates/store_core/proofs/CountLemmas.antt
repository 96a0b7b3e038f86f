-- Entries stay numbered for each caller. To know: `counted-more`, `counted-same`.
use Rattle.std.proofs.Common.{◌≡◌, ◌≢◌, ℕ, ◌+◌, ◌==◌, Bool, true, false, cond, List, [], ◌∷◌, ◌++◌, length, refl, ap, sym, ◌∙◌, subst, arith, eq-eqb, length-append}
use Rattle.std.proofs.lemmas.List.{append-nil}
use Rattle.std.proofs.lemmas.Bool.Decides.{nat_tests}
use Rattle.rdb_base.specs.Histories.{calls_of, AreNumbered, IsFair}
use Rattle.rdb_base.specs.declared.entry.Entry.{Entry}
use Rattle.rdb_base.proofs.PrefixLemmas.{filter-push}
use Rattle.store_core.specs.Claims.{IsCounted}
use Rattle.store_core.specs.Worlds.{caller_in, with_caller}
use Rattle.store_core.specs.declared.caller.Caller.{Caller}
use Rattle.store_core.proofs.CallerLemmas.{callers-hold}

-- the calls of a caller, with an entry more
calls_of-more : (xs : List Entry) (e : Entry) (c : ℕ) (b : Bool) → (e.caller == c) ≡ b → calls_of (xs ++ e ∷ []) c ≡ calls_of xs c ++ cond b (e ∷ []) []
calls_of-more xs e c b is = filter-push (λ (x : Entry). x.caller == c) xs e b is

calls_of-own : (xs : List Entry) (e : Entry) → calls_of (xs ++ e ∷ []) e.caller ≡ calls_of xs e.caller ++ e ∷ []
calls_of-own xs e = calls_of-more xs e e.caller true (eq-eqb e.caller e.caller refl)

calls_of-other : (xs : List Entry) (e : Entry) (c : ℕ) → (e.caller == c) ≡ false → calls_of (xs ++ e ∷ []) c ≡ calls_of xs c
calls_of-other xs e c differ = calls_of-more xs e c false differ ∙ append-nil (calls_of xs c)

AreNumbered-more : (k : ℕ) (xs : List Entry) (e : Entry) → AreNumbered k xs → e.ordinal ≡ k + length xs → AreNumbered k (xs ++ e ∷ [])
AreNumbered-more k [] e h is = (omega arith, tt)
AreNumbered-more k (x ∷ xs) e h is = (h.0, AreNumbered-more (k + 1) xs e h.1 (omega arith))

IsFair-more : (xs : List Entry) (e : Entry) → IsFair xs → e.ordinal ≡ length (calls_of xs e.caller) → IsFair (xs ++ e ∷ [])
IsFair-more xs e fair ordinal c = by_caller (e.caller == c) refl
  where
    by_caller : (b : Bool) → (e.caller == c) ≡ b → AreNumbered 0 (calls_of (xs ++ e ∷ []) c)
    by_caller true t =
        let same : e.caller ≡ c = grind (arith, nat_tests) in
        let ordinal_is : e.ordinal ≡ 0 + length (calls_of xs c) = omega (arith, ordinal, ap (λ (n : ℕ). length (calls_of xs n)) same) in
        subst (AreNumbered 0) (sym (calls_of-more xs e c true t)) (AreNumbered-more 0 (calls_of xs c) e (fair c) ordinal_is)
    by_caller false t = subst (AreNumbered 0) (sym (calls_of-other xs e c t)) (fair c)

-- an entry more, whose ordinal is its caller's count, which is one more then
pub counted-more : (xs : List Entry) (callers : List (ℕ × Caller)) (e : Entry) (c : Caller) → IsCounted xs callers → e.ordinal ≡ (caller_in callers e.caller).calls → c.calls ≡ (caller_in callers e.caller).calls + 1
    → IsCounted (xs ++ e ∷ []) (with_caller callers e.caller c)
counted-more xs callers e c counted ordinal more =
    let count = counted.counts e.caller in
    let own = ap length (calls_of-own xs e) in
    let one = length-append (calls_of xs e.caller) (e ∷ []) in
    record {
      fair = IsFair-more xs e counted.fair (ordinal ∙ count);
      counts =
          callers-hold (λ n k. k.calls ≡ length (calls_of (xs ++ e ∷ []) n)) callers e.caller c (omega (arith, more, count, own, one))
          (λ m differ. counted.counts m ∙ ap length (sym (calls_of-other xs e m (other m differ))));
    }
  where
    other : (m : ℕ) → m ≢ e.caller → (e.caller == m) ≡ false
    other m differ = by_test (e.caller == m) refl
      where
        by_test : (b : Bool) → (e.caller == m) ≡ b → b ≡ false
        by_test false t = refl
        by_test true t = let same : m ≡ e.caller = grind (arith, nat_tests) in absurd (differ same)

-- a caller that has counted as many
pub counted-same : (xs : List Entry) (callers : List (ℕ × Caller)) (n : ℕ) (c : Caller) → IsCounted xs callers → c.calls ≡ (caller_in callers n).calls → IsCounted xs (with_caller callers n c)
counted-same xs callers n c counted same =
    record { fair = counted.fair; counts = callers-hold (λ m k. k.calls ≡ length (calls_of xs m)) callers n c (same ∙ counted.counts n) (λ m differ. counted.counts m) }
