-- Numbers that stand before, and how they are kept. To know: `is_in-pushed`, `kept-mark`, `kept-insert`.
use Rattle.std.proofs.Common.{◌≡◌, inl, inr, ℕ, ◌<◌, ◌≤◌, Bool, true, false, cond, eqb, ◌||◌, List, [], ◌∷◌, ◌++◌, length, set, refl, sym, ap, ◌∙◌, arith}
use Rattle.std.proofs.lemmas.Bool.{cases_lt, cases_eq, le-ltb, lt-ltb, eq-eqb, ne_eqb}
use Rattle.std.proofs.lemmas.List.{get_or-set_same, get_or-set_other}
use Rattle.std.specs.Ordering.{nat_cmp, is_eq}
use Rattle.std.specs.declared.cmp.Ordering.TheVariants.{Equal, Greater}
use Rattle.std.specs.BTreeSet.{BTreeSet, contains}
use Rattle.edition_code.specs.Editions.{is_in}
use Rattle.edition_code.specs.Told.{is_marked, Marks, KeepsMarks, IsKept}

or_of_or : (a b c : Bool) → (a || (b || c)) ≡ ((a || b) || c)
or_of_or true b c = refl
or_of_or false b c = refl

or_last : (a b : Bool) → (a || (b || false)) ≡ (b || a)
or_last true true = refl
or_last true false = refl
or_last false true = refl
or_last false false = refl

-- a number is in two lists where it is in one of them
pub is_in-append : (n : ℕ) (xs ys : List ℕ) → is_in n (xs ++ ys) ≡ (is_in n xs || is_in n ys)
is_in-append n [] ys = refl
is_in-append n (x ∷ xs) ys = ap (λ (b : Bool). eqb x n || b) (is_in-append n xs ys) ∙ or_of_or (eqb x n) (is_in n xs) (is_in n ys)

pub is_in-pushed : (n m : ℕ) (xs : List ℕ) → is_in n (xs ++ m ∷ []) ≡ (eqb m n || is_in n xs)
is_in-pushed n m xs = is_in-append n xs (m ∷ []) ∙ or_last (is_in n xs) (eqb m n)

-- one that is another is in the list as before
pub is_in-pushed_other : (n m : ℕ) (xs : List ℕ) → (m ≡ n → ⊥) → is_in n (xs ++ m ∷ []) ≡ is_in n xs
is_in-pushed_other n m xs other = is_in-pushed n m xs ∙ ap (λ (b : Bool). b || is_in n xs) (ne_eqb m n other)

-- a number is marked
pub kept-mark : (most : ℕ) (marks now : List Bool) (others : BTreeSet ℕ) (told : List ℕ) (n : ℕ) → n < most → IsKept most marks others told → Marks marks now n → IsKept most now others (told ++ n ∷ [])
kept-mark most marks now others told n low h m = record {
  marked = λ k lt. m k ∙ ap (λ (b : Bool). eqb n k || b) (h.marked k lt) ∙ sym (is_in-pushed k n told);
  other = λ k ge. h.other k ge ∙ sym (is_in-pushed_other k n told (λ same. omega (arith, same, low, ge)));
}

-- marks are kept
pub kept-same : (most : ℕ) (marks now : List Bool) (others : BTreeSet ℕ) (told : List ℕ) → IsKept most marks others told → KeepsMarks marks now → IsKept most now others told
kept-same most marks now others told h m = record { marked = λ k lt. m k ∙ h.marked k lt; other = h.other }

-- the order finds a number itself
pub is_eq-nat_cmp : (m n : ℕ) → is_eq (nat_cmp m n) ≡ eqb m n
is_eq-nat_cmp m n =
    elim (cases_lt m n) [
      | inl lt ↦ rw (lt-ltb m n lt) (sym (ne_eqb m n (λ same. omega (arith, same, lt))))
      | inr ge ↦ rw (le-ltb m n ge) (by_eqb (eqb m n))
    ]
  where
    by_eqb : (b : Bool) → is_eq (cond b Equal Greater) ≡ b
    by_eqb true = refl
    by_eqb false = refl

or_of_cond : (a b : Bool) → cond a true b ≡ (a || b)
or_of_cond true b = refl
or_of_cond false b = refl

-- a number is inserted
pub kept-insert : (most : ℕ) (marks : List Bool) (others now : BTreeSet ℕ) (told : List ℕ) (n : ℕ) → most ≤ n → IsKept most marks others told
    → ((q : ℕ) → contains nat_cmp now q ≡ cond (is_eq (nat_cmp n q)) true (contains nat_cmp others q)) → IsKept most marks now (told ++ n ∷ [])
kept-insert most marks others now told n high h updates = record {
  marked = λ k lt. h.marked k lt ∙ sym (is_in-pushed_other k n told (λ same. omega (arith, same, lt, high)));
  other = λ k ge. updates k ∙ ap (λ (b : Bool). cond b true (contains nat_cmp others k)) (is_eq-nat_cmp n k) ∙ or_of_cond (eqb n k) (contains nat_cmp others k)
      ∙ ap (λ (b : Bool). eqb n k || b) (h.other k ge) ∙ sym (is_in-pushed k n told);
}

-- ---- marks

-- a place is set to true
pub Marks-set : (marks : List Bool) (n : ℕ) → n < length marks → Marks marks (set marks n true) n
Marks-set marks n long k =
    elim (cases_eq n k) [
      | inl same ↦ rw same (get_or-set_same marks k true false (omega (arith, same, long))) ∙ sym (ap (λ (b : Bool). b || is_marked marks k) (eq-eqb n k same))
      | inr other ↦ get_or-set_other marks n k true false (λ e. other (sym e)) ∙ sym (ap (λ (b : Bool). b || is_marked marks k) (ne_eqb n k other))
    ]

pub Marks-kept : (before marks now : List Bool) (n : ℕ) → KeepsMarks before marks → Marks marks now n → Marks before now n
Marks-kept before marks now n kept m k = m k ∙ ap (λ (b : Bool). eqb n k || b) (kept k)
