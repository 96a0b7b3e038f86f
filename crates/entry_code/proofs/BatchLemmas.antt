-- The bytes of a batch.
use Rattle.std.proofs.Common.{◌≡◌, ℕ, zero, suc, ◌+◌, ◌-◌, ◌^◌, ◌<◌, ◌≤◌, Bool, false, List, [], ◌∷◌, ◌++◌, length, drop, refl, sym, ap, subst, ◌∙◌, append_assoc, arith}
use Rattle.std.proofs.lemmas.List.{length-append, length-drop, append-nil, nil_from_length}
use Rattle.std.proofs.Common.{inl, inr}
use Rattle.std.proofs.lemmas.Bool.{cases_lt, le-ltb, lt-ltb}
use Rattle.rdb_base.specs.declared.entry.Entry.{Entry}
use Rattle.rdb_base.specs.PairFields.{pair_field}
use Rattle.entry_code.specs.Laws.{IsEntryWithin, AreEntriesWithin}
use Rattle.entry_code.specs.Payloads.{entry_numbers, entry_field, entry_fields, entries_head}
use Rattle.entry_code.specs.Batches.{IsSpelled, IsBatch, room_in}

pub field_some : (entry : Entry) → 1 ≤ length (entry_field entry)
unfolding entry_field
field_some entry = omega (arith, length-append (entry_numbers entry.caller entry.ordinal) (pair_field entry.key entry.change))

pub fields-append : (xs ys : List Entry) → entry_fields (xs ++ ys) ≡ entry_fields xs ++ entry_fields ys
unfolding entry_fields
fields-append [] ys = refl
fields-append (x ∷ xs) ys = ap (λ (l : List ℕ). entry_field x ++ l) (fields-append xs ys) ∙ sym (append_assoc (entry_field x) (entry_fields xs) (entry_fields ys))

pub fields_one : (entry : Entry) → entry_fields (entry ∷ []) ≡ entry_field entry
unfolding entry_fields
fields_one entry = append-nil (entry_field entry)

pub fields_none : entry_fields [] ≡ []
unfolding entry_fields
fields_none = refl

pub fields-next : (xs : List Entry) (entry : Entry) → entry_fields (xs ++ entry ∷ []) ≡ entry_fields xs ++ entry_field entry
fields-next xs entry = fields-append xs (entry ∷ []) ∙ ap (λ (l : List ℕ). entry_fields xs ++ l) (fields_one entry)

pub entries_short : (xs : List Entry) → length xs ≤ length (entry_fields xs)
unfolding entry_fields
entries_short [] = omega arith
entries_short (x ∷ xs) = omega (arith, entries_short xs, field_some x, length-append (entry_field x) (entry_fields xs))

pub within-next : (xs : List Entry) (entry : Entry) → AreEntriesWithin xs → IsEntryWithin entry → AreEntriesWithin (xs ++ entry ∷ [])
within-next [] entry all one = (one, tt)
within-next (x ∷ xs) entry all one = (all.0, within-next xs entry all.1 one)

drop_front : (n : ℕ) (xs ys : List ℕ) → n ≤ length xs → drop n (xs ++ ys) ≡ drop n xs ++ ys
drop_front zero xs ys le = refl
drop_front (suc n) [] ys le = absurd (omega arith)
drop_front (suc n) (x ∷ xs) ys le = drop_front n xs ys (omega arith)

pub spelled-next : (bytes : List ℕ) (entries : List Entry) (entry : Entry) → 13 ≤ length bytes → IsSpelled bytes entries → IsSpelled (bytes ++ entry_field entry) (entries ++ entry ∷ [])
spelled-next bytes entries entry head spelled = record {
  fields = drop_front 13 bytes (entry_field entry) head ∙ ap (λ (l : List ℕ). l ++ entry_field entry) spelled.fields ∙ sym (fields-next entries entry);
  head = λ some. omega (arith, head, length-append bytes (entry_field entry));
}

pub head_drop : (first count : ℕ) (fields : List ℕ) → drop 13 (entries_head first count ++ fields) ≡ fields
head_drop first count fields = refl

pub batch_none : (bytes : List ℕ) (count first : ℕ) (told : List Entry) (lent : Bool) → bytes ≡ [] → count ≡ 0 → told ≡ [] → first ≤ 2 ^ 62 → IsBatch bytes count first told lent
batch_none bytes count first told lent empty zeros none fits =
    subst (λ (es : List Entry). IsBatch bytes count first es lent) (sym none) (record {
      spelled = λ here. record { fields = ap (drop 13) empty ∙ sym fields_none; head = λ some. absurd (omega arith) };
      counted = zeros;
      within = tt;
      few = omega (arith, ap (λ (l : List ℕ). length l) fields_none);
      ends = omega arith;
    })

pub batch_same : (bytes new : List ℕ) (count first : ℕ) (told : List Entry) (lent : Bool) → new ≡ bytes → IsBatch bytes count first told lent → IsBatch new count first told lent
batch_same bytes new count first told lent e batch = subst (λ (l : List ℕ). IsBatch l count first told lent) (sym e) batch

pub batch_headed : (bytes new : List ℕ) (count first : ℕ) (told : List Entry) (lent : Bool) → length bytes < 13 → length new ≡ 13 → lent ≡ false → IsBatch bytes count first told lent → IsBatch new count first told lent
batch_headed bytes new count first told lent short whole here batch =
    let old : drop 13 bytes ≡ [] = nil_from_length (drop 13 bytes) (omega (arith, length-drop 13 bytes)) in
    let now : drop 13 new ≡ [] = nil_from_length (drop 13 new) (omega (arith, length-drop 13 new)) in
    record {
      spelled = λ h. record { fields = now ∙ sym old ∙ (batch.spelled here).fields; head = λ some. omega arith };
      counted = batch.counted;
      within = batch.within;
      few = batch.few;
      ends = batch.ends;
    }

pub batch_pushed : (bytes new : List ℕ) (count first : ℕ) (told more : List Entry) (lent : Bool) (entry : Entry) → lent ≡ false → 13 ≤ length bytes → length (entry_field entry) ≤ 66577 → length (entry_fields told) < 2 ^ 29 → first + length told < 2 ^ 62
    → new ≡ bytes ++ entry_field entry → more ≡ told ++ entry ∷ [] → IsEntryWithin entry → IsBatch bytes count first told lent → IsBatch new (count + 1) first more lent
batch_pushed bytes new count first told more lent entry here head most short end e f fits batch =
    let one : length (told ++ entry ∷ []) ≡ length told + 1 = length-append told (entry ∷ []) in
    let goes : IsBatch (bytes ++ entry_field entry) (count + 1) first (told ++ entry ∷ []) lent = record {
      spelled = λ h. spelled-next bytes told entry head (batch.spelled here);
      counted = omega (arith, one, batch.counted);
      within = within-next told entry batch.within fits;
      few = omega (arith, ap (λ (l : List ℕ). length l) (fields-next told entry), length-append (entry_fields told) (entry_field entry));
      ends = omega (arith, one);
    } in
    subst (λ (l : List ℕ). IsBatch l (count + 1) first more lent) (sym e) (subst (λ (l : List Entry). IsBatch (bytes ++ entry_field entry) (count + 1) first l lent) (sym f) goes)

pub room_some : (capacity len n : ℕ) → 1 ≤ n → n ≤ room_in capacity len → 13 ≤ len
room_some capacity len n some room =
    elim (cases_lt len 13) [
      | inl few ↦ let none : room_in capacity len ≡ 0 = rw (lt-ltb _ _ few) refl in absurd (omega (arith, some, room, none))
      | inr le ↦ le
    ]

-- what is added uses up no more room than its length
pub room-left : (capacity more len n : ℕ) → 13 ≤ len → capacity ≤ more → room_in capacity len ≤ room_in more (len + n) + n
room-left capacity more len n head le =
    let old : room_in capacity len ≡ capacity - len = rw (le-ltb len 13 head) refl in
    let new : room_in more (len + n) ≡ more - (len + n) = rw (le-ltb (len + n) 13 (omega (arith, head))) refl in
    omega (arith, old, new, le)

-- one entry more is added, and one fewer is left
pub added_next : (old new : List ℕ) (entry : Entry) (rest more : List Entry) (whole : List ℕ) → rest ≡ entry ∷ more → new ≡ old ++ entry_field entry → old ++ entry_fields rest ≡ whole → new ++ entry_fields more ≡ whole
unfolding entry_fields
added_next old new entry rest more whole e f so_far =
    ap (λ (l : List ℕ). l ++ entry_fields more) f ∙ append_assoc old (entry_field entry) (entry_fields more) ∙ ap (λ (l : List Entry). old ++ entry_fields l) (sym e) ∙ so_far

pub added_last : (old : List ℕ) (rest : List Entry) (whole : List ℕ) → rest ≡ [] → old ++ entry_fields rest ≡ whole → old ≡ whole
added_last old rest whole e so_far = sym (append-nil old) ∙ ap (λ (l : List ℕ). old ++ l) (sym fields_none ∙ ap entry_fields (sym e)) ∙ so_far
