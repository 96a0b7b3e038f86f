-- The calls of one caller in a list with one more entry.
-- To know: `calls_of-more_own`, `calls_of-more_other`, `IsFair-more`, `ends-none`.
use Rattle.std.proofs.Common.{◌≡◌, ◌≢◌, ℕ, ◌+◌, ◌==◌, Bool, true, false, cond, List, [], ◌∷◌, ◌++◌, length, refl, ap, sym, ◌∙◌, subst, arith, eq-eqb}
use Rattle.std.specs.List.{AllByRecursion}
use Rattle.std.proofs.lemmas.List.{append-nil}
use Rattle.std.proofs.lemmas.Bool.{true≢false}
use Rattle.std.proofs.lemmas.Bool.Decides.{nat_tests}
use Rattle.seat_parts.specs.Seats.{weigh}
use Rattle.rdb_base.specs.Histories.{calls_of, AreNumbered, IsFair}
use Rattle.rdb_base.specs.declared.entry.Entry.{Entry}
use Rattle.rdb_base.proofs.PrefixLemmas.{filter-push}
use Rattle.front_rule.specs.declared.parts.Ended.{Ended}
use Rattle.front_rule.specs.Parts.{one_if, ends}

-- ---- what counts as 0

pub one_if-zero : (b : Bool) → one_if b ≡ 0 → b ≡ false
one_if-zero true h = absurd (omega arith)
one_if-zero false h = refl

-- who is not counted among those that have ended is none of them
pub ends-none : (c : ℕ) (xs : List Ended) → weigh (ends c) xs ≡ 0 → AllByRecursion (λ (t : Ended). t.caller ≢ c) xs
ends-none c [] none = tt
ends-none c (t ∷ ts) none =
    let other : (t.caller == c) ≡ false = one_if-zero (t.caller == c) (omega arith) in
    ((λ same. true≢false (sym (eq-eqb t.caller c same) ∙ other)), ends-none c ts (omega arith))

-- ---- the calls of a caller

pub calls_of-more : (xs : List Entry) (e : Entry) (c : ℕ) (b : Bool) → (e.caller == c) ≡ b → calls_of (xs ++ e ∷ []) c ≡ calls_of xs c ++ cond b (e ∷ []) []
calls_of-more xs e c b is = filter-push (λ (x : Entry). x.caller == c) xs e b is

-- another caller's
pub calls_of-more_other : (xs : List Entry) (e : Entry) (c : ℕ) → one_if (c == e.caller) ≡ 0 → calls_of (xs ++ e ∷ []) c ≡ calls_of xs c
calls_of-more_other xs e c h =
    let no : (c == e.caller) ≡ false = one_if-zero (c == e.caller) h in
    calls_of-more xs e c false (grind (arith, nat_tests)) ∙ append-nil (calls_of xs c)

-- the entry's own caller's
pub calls_of-more_own : (xs : List Entry) (e : Entry) (c : ℕ) → e.caller ≡ c → calls_of (xs ++ e ∷ []) c ≡ calls_of xs c ++ e ∷ []
calls_of-more_own xs e c is = calls_of-more xs e c true (eq-eqb e.caller c is)

-- those of callers that have ended
pub calls_of-more_ended : (list : List Entry) (e : Entry) (xs : List Ended) → weigh (ends e.caller) xs ≡ 0 → AllByRecursion (λ (t : Ended). calls_of list t.caller ≡ t.calls) xs
    → AllByRecursion (λ (t : Ended). calls_of (list ++ e ∷ []) t.caller ≡ t.calls) xs
calls_of-more_ended list e [] none h = tt
calls_of-more_ended list e (t ∷ ts) none h = (calls_of-more_other list e t.caller (omega arith) ∙ h.0, calls_of-more_ended list e ts (omega arith) h.1)

-- ---- a list stays fair

AreNumbered-more : (k : ℕ) (xs : List Entry) (e : Entry) → AreNumbered k xs → e.ordinal ≡ k + length xs → AreNumbered k (xs ++ e ∷ [])
AreNumbered-more k [] e h is = (omega arith, tt)
AreNumbered-more k (x ∷ xs) e h is = (h.0, AreNumbered-more (k + 1) xs e h.1 (omega arith))

pub IsFair-more : (xs : List Entry) (e : Entry) (own : List Entry) → IsFair xs → calls_of xs e.caller ≡ own → e.ordinal ≡ length own → IsFair (xs ++ e ∷ [])
IsFair-more xs e own fair is ordinal c = by_caller (e.caller == c) refl
  where
    by_caller : (b : Bool) → (e.caller == c) ≡ b → AreNumbered 0 (calls_of (xs ++ e ∷ []) c)
    by_caller true t =
        let same : e.caller ≡ c = grind (arith, nat_tests) in
        let ordinal_is : e.ordinal ≡ 0 + length (calls_of xs c) = omega (arith, ordinal, ap length (sym is ∙ ap (calls_of xs) same)) in
        subst (AreNumbered 0) (sym (calls_of-more xs e c true t)) (AreNumbered-more 0 (calls_of xs c) e (fair c) ordinal_is)
    by_caller false t = subst (AreNumbered 0) (sym (calls_of-more xs e c false t ∙ append-nil (calls_of xs c))) (fair c)
