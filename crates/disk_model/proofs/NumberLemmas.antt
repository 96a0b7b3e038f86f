-- The numbers of the slots that have a file are those of the files. To know: numbers-are.
use Rattle.std.specs.Prelude.{Contains, IsSome, is_some}
use Rattle.std.proofs.Common.{◌≡◌, ◌≢◌, inl, inr, ℕ, zero, suc, ◌<◌, Bool, true, false, if◌then◌else◌, List, [], ◌∷◌, length, refl, sym, subst, arith}
use mathlib.Core.Bool.{false≢true}
use Rattle.std.specs.List.{AllByRecursion}
use Rattle.std.proofs.lemmas.Bool.{cases_eq, eq-eqb, ne_eqb}
use Rattle.disk_model.specs.Shelves.{AreRising, AreNumbersOf}
use Rattle.disk_model.specs.Slots.{slot_at, file_at, number_at, numbers_in, AreRisingSlots}
use Rattle.disk_model.specs.declared.slot.Slot.{Slot}
use Rattle.disk_model.proofs.SlotLemmas.{absent-tail}

-- each number is above this one
all-above : (least : ℕ) (slots : List Slot) → ((j : ℕ) → j < length slots → least < number_at slots j) → AllByRecursion (λ n. least < n) (numbers_in slots)
all-above least [] above = tt
all-above least (first ∷ slots) above = grow (is_some first.file) (above 0 (omega arith)) (all-above least slots (λ j lt. above (suc j) (omega arith)))
  where
    grow : (b : Bool) → least < first.number → AllByRecursion (λ n. least < n) (numbers_in slots) → AllByRecursion (λ n. least < n) (if b then first.number ∷ numbers_in slots else numbers_in slots)
    grow true lower all = (lower, all)
    grow false lower all = all

rising-tail : (first : Slot) (slots : List Slot) → AreRisingSlots (first ∷ slots) → AreRisingSlots slots
rising-tail first slots rising i j lt within = rising (suc i) (suc j) (omega arith) (omega arith)

rising-numbers : (slots : List Slot) → AreRisingSlots slots → AreRising (numbers_in slots)
rising-numbers [] rising = tt
rising-numbers (first ∷ slots) rising = grow (is_some first.file) (all-above first.number slots (λ j lt. rising 0 (suc j) (omega arith) (omega arith))) (rising-numbers slots (rising-tail first slots rising))
  where
    grow : (b : Bool) → AllByRecursion (λ n. first.number < n) (numbers_in slots) → AreRising (numbers_in slots) → AreRising (if b then first.number ∷ numbers_in slots else numbers_in slots)
    grow true above all = (above, all)
    grow false above all = all

-- a list with one more in front
contains-later : (first n : ℕ) (numbers : List ℕ) → Contains numbers n → Contains (first ∷ numbers) n
contains-later first n numbers held = (suc held.0, omega (arith, held.1), held.2)

contains-rest : (first n : ℕ) (numbers : List ℕ) → first ≢ n → Contains (first ∷ numbers) n → Contains numbers n
contains-rest first n numbers other (zero, within, is) = absurd (other is)
contains-rest first n numbers other (suc k, within, is) = (k, omega (arith, within), is)

-- each file's number is there
number-in : (n : ℕ) (slots : List Slot) → IsSome (file_at slots n) → Contains (numbers_in slots) n
number-in n [] some = absurd (false≢true some)
number-in n (first ∷ slots) some = elim (cases_eq first.number n) [
  | inl is ↦ here is (subst (λ (b : Bool). IsSome (if b then first else slot_at n slots).file) (eq-eqb first.number n is) some)
  | inr other ↦ later (is_some first.file) (number-in n slots (subst (λ (b : Bool). IsSome (if b then first else slot_at n slots).file) (ne_eqb first.number n other) some))
]
  where
    here : first.number ≡ n → IsSome first.file → Contains (if is_some first.file then first.number ∷ numbers_in slots else numbers_in slots) n
    here is some = subst (λ (b : Bool). Contains (if b then first.number ∷ numbers_in slots else numbers_in slots) n) (sym some) (zero, omega arith, is)

    later : (b : Bool) → Contains (numbers_in slots) n → Contains (if b then first.number ∷ numbers_in slots else numbers_in slots) n
    later true held = contains-later first.number n (numbers_in slots) held
    later false held = held

-- each number that is there is a file's
file-in : (n : ℕ) (slots : List Slot) → AreRisingSlots slots → Contains (numbers_in slots) n → IsSome (file_at slots n)
file-in n [] rising held = absurd (omega (arith, held.1))
file-in n (first ∷ slots) rising held = elim (cases_eq first.number n) [
  | inl is ↦ subst (λ (b : Bool). IsSome (if b then first else slot_at n slots).file) (sym (eq-eqb first.number n is)) (here is (is_some first.file) refl held (λ rest. file-in n slots (rising-tail first slots rising) rest))
  | inr other ↦ subst (λ (b : Bool). IsSome (if b then first else slot_at n slots).file) (sym (ne_eqb first.number n other)) (file-in n slots (rising-tail first slots rising) (later other (is_some first.file) held))
]
  where
    here : first.number ≡ n → (b : Bool) → is_some first.file ≡ b → Contains (if b then first.number ∷ numbers_in slots else numbers_in slots) n → (Contains (numbers_in slots) n → IsSome (file_at slots n)) → IsSome first.file
    here is true some held rest = some
    here is false none held rest =
        let some : IsSome (file_at slots first.number) = subst (λ (m : ℕ). IsSome (file_at slots m)) (sym is) (rest held) in
        absurd (false≢true (subst (λ (s : Slot). IsSome s.file) (absent-tail first slots rising) some))

    later : first.number ≢ n → (b : Bool) → Contains (if b then first.number ∷ numbers_in slots else numbers_in slots) n → Contains (numbers_in slots) n
    later other true held = contains-rest first.number n (numbers_in slots) other held
    later other false held = held

pub numbers-are : (slots : List Slot) → AreRisingSlots slots → AreNumbersOf (numbers_in slots) (file_at slots)
numbers-are slots rising = record { rising = rising-numbers slots rising; each = λ n. (file-in n slots rising, number-in n slots) }
