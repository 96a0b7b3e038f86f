-- Callers by their numbers, with one in its place. To know: `caller_in-same`, `caller_in-other`, `callers-hold`.
use Rattle.std.proofs.Common.{◌≡◌, ◌≢◌, ℕ, true, false, cond, List, [], ◌∷◌, refl, sym, ap, ◌∙◌, subst}
use Rattle.std.specs.Prelude.{Option, Some}
use Rattle.std.specs.BTreeMap.{is_at}
use Rattle.std.specs.Map.{lookup}
use Rattle.std.specs.Ordering.{is_eq, nat_cmp, match_ordering}
use Rattle.std.specs.declared.cmp.Ordering.{Ordering}
use Rattle.std.specs.declared.cmp.Ordering.TheVariants.{Less, Equal, Greater}
use Rattle.std.specs.FinMap.{nat_cmp-IsAntisymmetric}
use Rattle.std.proofs.lemmas.Cmp.{nat_cmp_total, tied_itself}
use Rattle.store_core.specs.Worlds.{caller_in, with_caller, or_newcomer}
use Rattle.store_core.specs.declared.caller.Caller.{Caller}

abbrev find : List (ℕ × Caller) → ℕ → Option Caller
find callers n = lookup (is_at (nat_cmp n)) callers

same_number : (n : ℕ) → is_eq (nat_cmp n n) ≡ true
same_number n = ap is_eq (tied_itself nat_cmp_total n)

other_number : (m n : ℕ) → m ≢ n → is_eq (nat_cmp m n) ≡ false
other_number m n differ = by_order (nat_cmp m n) refl
  where
    by_order : (r : Ordering) → nat_cmp m n ≡ r → is_eq r ≡ false
    by_order Less h = refl
    by_order Greater h = refl
    by_order Equal h = absurd (differ (nat_cmp-IsAntisymmetric m n h))

find-same : (cs : List (ℕ × Caller)) (n : ℕ) (c : Caller) → find (with_caller cs n c) n ≡ Some c
find-same [] n c = rw (same_number n) refl
find-same (e ∷ es) n c = by_order (nat_cmp n e.0) refl (find-same es n c)
  where
    by_order : (r : Ordering) → nat_cmp n e.0 ≡ r → find (with_caller es n c) n ≡ Some c → find (match_ordering r ((n, c) ∷ e ∷ es) ((e.0, c) ∷ es) (e ∷ with_caller es n c)) n ≡ Some c
    by_order Less h rest = rw (same_number n) refl
    by_order Equal h rest = rw h refl
    by_order Greater h rest = rw h rest

find-other : (cs : List (ℕ × Caller)) (n : ℕ) (c : Caller) (m : ℕ) → m ≢ n → find (with_caller cs n c) m ≡ find cs m
find-other [] n c m differ = rw (other_number m n differ) refl
find-other (e ∷ es) n c m differ = by_order (nat_cmp n e.0) refl (find-other es n c m differ)
  where
    by_order : (r : Ordering) → nat_cmp n e.0 ≡ r → find (with_caller es n c) m ≡ find es m → find (match_ordering r ((n, c) ∷ e ∷ es) ((e.0, c) ∷ es) (e ∷ with_caller es n c)) m ≡ find (e ∷ es) m
    by_order Less h rest = rw (other_number m n differ) refl
    by_order Equal h rest =
        let other : is_eq (nat_cmp m e.0) ≡ false = other_number m e.0 (λ same. differ (same ∙ sym (nat_cmp-IsAntisymmetric n e.0 h))) in
        rw other refl
    by_order Greater h rest = ap (cond (is_eq (nat_cmp m e.0)) (Some e.1)) rest

-- at its number stands the new caller
pub caller_in-same : (cs : List (ℕ × Caller)) (n : ℕ) (c : Caller) → caller_in (with_caller cs n c) n ≡ c
caller_in-same cs n c = ap or_newcomer (find-same cs n c)

-- at each other number who stood there
pub caller_in-other : (cs : List (ℕ × Caller)) (n : ℕ) (c : Caller) (m : ℕ) → m ≢ n → caller_in (with_caller cs n c) m ≡ caller_in cs m
caller_in-other cs n c m differ = ap or_newcomer (find-other cs n c m differ)

-- what holds of all callers and of the new one holds of all after it
pub callers-hold : (P : ℕ → Caller → Type 0) (cs : List (ℕ × Caller)) (n : ℕ) (c : Caller) → P n c → ((m : ℕ) → m ≢ n → P m (caller_in cs m)) → (m : ℕ) → P m (caller_in (with_caller cs n c) m)
callers-hold P cs n c new old m = by_order (nat_cmp m n) refl
  where
    differs : (r : Ordering) → nat_cmp m n ≡ r → is_eq r ≡ false → m ≢ n
    differs r h other same = let k : nat_cmp m n ≡ Equal = ap (nat_cmp m) (sym same) ∙ tied_itself nat_cmp_total m in let f : is_eq Equal ≡ false = ap is_eq (sym k ∙ h) ∙ other in absurd cc

    outside : m ≢ n → P m (caller_in (with_caller cs n c) m)
    outside differ = subst (P m) (sym (caller_in-other cs n c m differ)) (old m differ)

    by_order : (r : Ordering) → nat_cmp m n ≡ r → P m (caller_in (with_caller cs n c) m)
    by_order Equal h =
        let same : m ≡ n = nat_cmp-IsAntisymmetric m n h in
        subst (λ k. P k (caller_in (with_caller cs n c) k)) (sym same) (subst (P n) (sym (caller_in-same cs n c)) new)
    by_order Less h = outside (differs Less h refl)
    by_order Greater h = outside (differs Greater h refl)
