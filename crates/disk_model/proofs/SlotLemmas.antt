-- What a search of slots finds, and what an edit at that place does. To know: searched, slot_at-found, slot_at-gap, sets-set, sets-changed, sets-removed, sets-none, sets-after_same, same-inserted, rising-set, rising-inserted, rising-removed, rising-left.
use Rattle.std.proofs.Common.{◌≡◌, ℕ, zero, suc, ◌+◌, ◌-◌, ◌<◌, ◌≤◌, eqb, ◌≢◌, List, [], ◌∷◌, length, map, get_or, set, if◌then◌else◌, Result, Ok, Err, IfOk, IfErr, refl, sym, ap, subst, ◌∙◌, arith}
use Rattle.std.specs.List.{insert, remove}
use Rattle.std.specs.List.Sorted.{IsSearchInRange, IsBinarySearchResult, IsNonDecreasingBy}
use Rattle.std.specs.Ordering.{nat_cmp, ordering_index}
use Rattle.std.proofs.lemmas.Cmp.{ranked}
use Rattle.std.proofs.lemmas.List.{length-map, get_or_default}
use Rattle.std.proofs.lemmas.List.Sorted.{IsNonDecreasingBy-from_default}
use Rattle.std.proofs.lemmas.List.Edits.{length-insert, get_or-insert_below, get_or-insert_at, get_or-insert_above, length-remove, get_or-remove_below, get_or-remove_above}
use Rattle.std.proofs.lemmas.Bool.Decides.{nat_tests}
use Rattle.std.proofs.lemmas.Grind.{common_steps}
use Rattle.disk_model.specs.Slots.{empty_slot, left_slot, slot_at, number_at, AreRisingSlots, IsAt, IsGapFor, SetsSlot}
use Rattle.disk_model.specs.declared.slot.Slot.{Slot}

-- no slot before place i has the number
abbrev pub NoneBefore : List Slot → ℕ → ℕ → Type 0
NoneBefore slots number i = (j : ℕ) → j < i → number_at slots j ≢ number

-- after an edit this is at the number, and at each other number what was there before
abbrev pub IsAfterSet : List Slot → List Slot → ℕ → Slot → Type 0
IsAfterSet old new number slot = (n : ℕ) → slot_at n new ≡ (if eqb number n then slot else slot_at n old)

none_before_tail : (first : Slot) (slots : List Slot) (number i : ℕ) → NoneBefore (first ∷ slots) number (suc i) → NoneBefore slots number i
none_before_tail first slots number i none j lt = none (suc j) (omega arith)

is_at_tail : (first : Slot) (slots : List Slot) (number i : ℕ) → IsAt (first ∷ slots) number (suc i) → IsAt slots number i
is_at_tail first slots number i is_at = record { in_range = omega (arith, is_at.in_range); has_number = is_at.has_number }

-- at a number that no slot has there is nothing
pub slot_at-absent : (slots : List Slot) (number : ℕ) → NoneBefore slots number (length slots) → slot_at number slots ≡ empty_slot number
slot_at-absent [] number none = refl
slot_at-absent (first ∷ slots) number none = grind (arith, nat_tests, none 0 (omega arith), slot_at-absent slots number (none_before_tail first slots number _ none))

-- the first slot that has the number is what is there
slot_at-first : (slots : List Slot) (number i : ℕ) → IsAt slots number i → NoneBefore slots number i → slot_at number slots ≡ get_or slots i (empty_slot 0)
slot_at-first [] number i is_at none = absurd (omega (arith, is_at.in_range))
slot_at-first (first ∷ slots) number zero is_at none = grind (arith, nat_tests, is_at.has_number)
slot_at-first (first ∷ slots) number (suc i) is_at none = grind (arith, nat_tests, none 0 (omega arith), slot_at-first slots number i (is_at_tail first slots number i is_at) (none_before_tail first slots number i none))

-- the number of what is at a number
pub number-slot_at : (slots : List Slot) (number : ℕ) → (slot_at number slots).number ≡ number
number-slot_at [] number = refl
number-slot_at (first ∷ slots) number = grind (arith, nat_tests, number-slot_at slots number)

-- writing over the first slot that has the number
slot_at-set : (slots : List Slot) (slot : Slot) (i : ℕ) → IsAt slots slot.number i → NoneBefore slots slot.number i → IsAfterSet slots (set slots i slot) slot.number slot
slot_at-set [] slot i is_at none n = absurd (omega (arith, is_at.in_range))
slot_at-set (first ∷ slots) slot zero is_at none n = grind (arith, nat_tests, is_at.has_number)
slot_at-set (first ∷ slots) slot (suc i) is_at none n = grind (arith, nat_tests, none 0 (omega arith), slot_at-set slots slot i (is_at_tail first slots slot.number i is_at) (none_before_tail first slots slot.number i none) n)

-- a new slot before any that has its number
slot_at-insert : (slots : List Slot) (slot : Slot) (i : ℕ) → NoneBefore slots slot.number i → IsAfterSet slots (insert slots i slot) slot.number slot
slot_at-insert slots slot zero none n = refl
slot_at-insert [] slot (suc i) none n = refl
slot_at-insert (first ∷ slots) slot (suc i) none n = grind (arith, nat_tests, none 0 (omega arith), slot_at-insert slots slot i (none_before_tail first slots slot.number i none) n)

-- one equation for every number gives the two facts of a contract
sets-after : (old new : List Slot) (number : ℕ) (slot : Slot) → IsAfterSet old new number slot → SetsSlot number slot old new
sets-after old new number slot after = record { here = grind (arith, nat_tests, after number); others = λ n other. grind (arith, nat_tests, after n) }

-- the tail of rising slots rises, and has no slot with the first number
rising-tail : (first : Slot) (slots : List Slot) → AreRisingSlots (first ∷ slots) → AreRisingSlots slots
rising-tail first slots rising i j lt within = rising (suc i) (suc j) (omega arith) (omega arith)

none-tail : (first : Slot) (slots : List Slot) → AreRisingSlots (first ∷ slots) → NoneBefore slots first.number (length slots)
none-tail first slots rising j lt same = omega (arith, rising 0 (suc j) (omega arith) (omega arith), same)

pub absent-tail : (first : Slot) (slots : List Slot) → AreRisingSlots (first ∷ slots) → slot_at first.number slots ≡ empty_slot first.number
absent-tail first slots rising = slot_at-absent slots first.number (none-tail first slots rising)

-- the slot with the number is taken out
slot_at-remove : (slots : List Slot) (number i : ℕ) → IsAt slots number i → AreRisingSlots slots → IsAfterSet slots (remove slots i) number (empty_slot number)
slot_at-remove [] number i is_at rising n = absurd (omega (arith, is_at.in_range))
slot_at-remove (first ∷ slots) number zero is_at rising n = grind (arith, nat_tests, is_at.has_number, absent-tail first slots rising)
slot_at-remove (first ∷ slots) number (suc i) is_at rising n =
    let lower : first.number < number = omega (arith, rising 0 (suc i) (omega arith) is_at.in_range, is_at.has_number) in
    grind (arith, nat_tests, lower, slot_at-remove slots number i (is_at_tail first slots number i is_at) (rising-tail first slots rising) n)

module _ (slots : List Slot) (rising : AreRisingSlots slots) (number : ℕ) where
  -- the comparisons with the number rise along the slots, as a binary search asks
  comparisons_rise : IsNonDecreasingBy (λ slot. ordering_index (nat_cmp slot.number number)) slots
  comparisons_rise = IsNonDecreasingBy-from_default (λ slot. ordering_index (nat_cmp slot.number number)) slots (empty_slot 0) (λ i j le within.
      let numbers_rise : number_at slots i ≤ number_at slots j = grind (arith, rising i j, λ (same : i ≡ j). ap (number_at slots) same) in
      grind (arith, nat_tests))

  -- a binary search by number ends at the number, or at the gap for it
  pub searched : (r : Result ℕ ℕ) → IsSearchInRange r (length slots) → IsBinarySearchResult (λ slot. nat_cmp slot.number number) slots r → record { found : IfOk r (IsAt slots number); absent : IfErr r (IsGapFor slots number) }
  searched (Ok at) within equal = record { found = record { in_range = within; has_number = ranked _ number _ (sym (equal (empty_slot 0))) }; absent = tt }
  searched (Err at) within parted = record {
    found = tt;
    absent = record {
      in_range = within;
      lower_before = λ j lt. ranked _ number _ (sym ((parted comparisons_rise).0 j (empty_slot 0) (omega arith) lt));
      higher_after = λ j le lt. ranked _ number _ (sym ((parted comparisons_rise).1 j (empty_slot 0) le lt));
    };
  }

module _ (slots : List Slot) (rising : AreRisingSlots slots) (number at : ℕ) (is_at : IsAt slots number at) where
  none_before_at : NoneBefore slots number at
  none_before_at j lt same = omega (arith, rising j at lt is_at.in_range, is_at.has_number, same)

  -- what is at the number
  pub slot_at-found : slot_at number slots ≡ get_or slots at (empty_slot 0)
  slot_at-found = slot_at-first slots number at is_at none_before_at

  -- writing over it changes that number alone
  pub sets-set : (slot : Slot) → slot.number ≡ number → SetsSlot number slot slots (set slots at slot)
  sets-set slot is = subst (λ (m : ℕ). SetsSlot m slot slots (set slots at slot)) is (sets-after slots (set slots at slot) slot.number slot (slot_at-set slots slot at (subst (λ (m : ℕ). IsAt slots m at) (sym is) is_at) (subst (λ (m : ℕ). NoneBefore slots m at) (sym is) none_before_at)))

  -- a change of what is there changes that number alone
  pub sets-changed : (slot : Slot) → slot ≡ get_or slots at slot → (change : Slot → Slot) → ((s : Slot) → (change s).number ≡ s.number) → SetsSlot number (change (slot_at number slots)) slots (set slots at (change slot))
  sets-changed slot read change keeps =
      let is : slot ≡ slot_at number slots = read ∙ get_or_default slots at slot (empty_slot 0) is_at.in_range ∙ sym slot_at-found in
      subst (λ (s : Slot). SetsSlot number (change (slot_at number slots)) slots (set slots at (change s))) (sym is) (sets-set (change (slot_at number slots)) (keeps (slot_at number slots) ∙ number-slot_at slots number))

  -- and keeps the order, since every number stays
  pub rising-set : (slot : Slot) → slot.number ≡ number → AreRisingSlots (set slots at slot)
  rising-set slot is i j lt within = grind (arith, common_steps, rising i j, rising i at, rising at j, is_at.in_range, is_at.has_number, is)

  -- taking it out leaves nothing there
  pub sets-removed : SetsSlot number (empty_slot number) slots (remove slots at)
  sets-removed = sets-after slots (remove slots at) number (empty_slot number) (slot_at-remove slots number at is_at rising)

  pub rising-removed : AreRisingSlots (remove slots at)
  rising-removed i j lt within =
      let new = remove slots at in
      let key = λ (s : Slot). s.number in
      let length_new = length-remove slots at is_at.in_range in
      let below : (i : ℕ) → i < at → number_at new i ≡ number_at slots i = λ i lower. ap key (get_or-remove_below slots at (empty_slot 0) i lower is_at.in_range) in
      let above : (i : ℕ) → at ≤ i → number_at new i ≡ number_at slots (i + 1) = λ i le. ap key (get_or-remove_above slots at (empty_slot 0) i le is_at.in_range) in
      grind (arith, below i, above i, below j, above j, rising i j, rising i (j + 1), rising (i + 1) (j + 1))

module _ (slots : List Slot) (number at : ℕ) (gap : IsGapFor slots number at) where
  none_in_gap : NoneBefore slots number (length slots)
  none_in_gap j lt same = grind (arith, gap.lower_before j, gap.higher_after j)

  -- nothing is at a number that has a gap
  pub slot_at-gap : slot_at number slots ≡ empty_slot number
  slot_at-gap = slot_at-absent slots number none_in_gap

  -- what changes nothing of an empty slot has nothing to change
  pub sets-none : (change : Slot → Slot) → change (empty_slot number) ≡ empty_slot number → SetsSlot number (change (slot_at number slots)) slots slots
  sets-none change keeps = record { here = slot_at-gap ∙ sym (ap change slot_at-gap ∙ keeps); others = λ n other. refl }

  -- an empty slot in the gap changes nothing
  pub same-inserted : (n : ℕ) → slot_at n (insert slots at (empty_slot number)) ≡ slot_at n slots
  same-inserted n = grind (arith, nat_tests, slot_at-gap, slot_at-insert slots (empty_slot number) at (λ j lt same. omega (arith, gap.lower_before j lt, same)) n)

  pub at-inserted : IsAt (insert slots at (empty_slot number)) number at
  at-inserted = record {
    in_range = omega (arith, length-insert slots at (empty_slot number) gap.in_range, gap.in_range);
    has_number = ap (λ (s : Slot). s.number) (get_or-insert_at slots at (empty_slot number) (empty_slot 0) gap.in_range);
  }

  -- it keeps the order: each new number is an old one below the gap, the number at it, or an old one moved up by one
  pub rising-inserted : AreRisingSlots slots → AreRisingSlots (insert slots at (empty_slot number))
  rising-inserted rising i j lt within =
      let slot = empty_slot number in
      let new = insert slots at slot in
      let key = λ (s : Slot). s.number in
      let length_new = length-insert slots at slot gap.in_range in
      let below : (i : ℕ) → i < at → number_at new i ≡ number_at slots i = λ i lower. ap key (get_or-insert_below slots at slot (empty_slot 0) i lower gap.in_range) in
      let here : (i : ℕ) → i ≡ at → number_at new i ≡ number = λ i is. rw is (ap key (get_or-insert_at slots at slot (empty_slot 0) gap.in_range)) in
      let above : (i : ℕ) → at < i → number_at new i ≡ number_at slots (i - 1) = λ i higher. subst (λ q. number_at new q ≡ number_at slots (i - 1)) {x = i - 1 + 1} (omega arith) (ap key (get_or-insert_above slots at slot (empty_slot 0) (i - 1) (omega arith) gap.in_range)) in
      grind (arith, below i, here i, above i, below j, here j, above j, rising i j, rising i (j - 1), rising (i - 1) (j - 1), gap.lower_before i, gap.higher_after (j - 1))

-- a change after one that changed nothing
pub sets-after_same : (number : ℕ) (slot : Slot) (old mid new : List Slot) → ((n : ℕ) → slot_at n mid ≡ slot_at n old) → SetsSlot number slot mid new → SetsSlot number slot old new
sets-after_same number slot old mid new same sets = record { here = sets.here; others = λ n other. sets.others n other ∙ same n }

-- a crash keeps the numbers
number-left : (pick : ℕ) (slots : List Slot) (i : ℕ) → number_at (map (left_slot pick) slots) i ≡ number_at slots i
number-left pick [] i = refl
number-left pick (first ∷ slots) zero = refl
number-left pick (first ∷ slots) (suc i) = number-left pick slots i

pub rising-left : (pick : ℕ) (slots : List Slot) → AreRisingSlots slots → AreRisingSlots (map (left_slot pick) slots)
rising-left pick slots rising i j lt within = omega (arith, number-left pick slots i, number-left pick slots j, rising i j lt (omega (arith, length-map slots (left_slot pick), within)))
