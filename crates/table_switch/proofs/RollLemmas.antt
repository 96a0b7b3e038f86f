-- The step that adds an anchor keeps the roll's rule. To know: `adds-moves`, `prefix-either`.
use Rattle.std.proofs.Common.{◌≡◌, ◌⊎◌, ℕ, ◌+◌, ◌<◌, ◌==◌, Bool, true, false, List, [], ◌∷◌, ◌++◌, length, refl, ap, sym, subst, arith, inl, inr, ⊎_elim, length-append, None}
use Rattle.std.proofs.lemmas.List.{append-nil}
use Rattle.std.proofs.lemmas.Bool.Decides.{nat_tests}
use mathlib.Core.List.{IsPrefix}
use prog.Atomic.{either}
use Rattle.logbook.specs.Pages.{Cell, cell, keeps, no_nib, step, Moves, Goes}
use Rattle.rdb_base.proofs.PrefixLemmas.{prefix_whole}
use Rattle.meta_trie.specs.Tries.{Anchored}
use Rattle.table_switch.specs.Rolls.{HasCount, Adds}

-- of two beginnings of one list one begins the other
pub prefix-either : {A : Type 0} (xs ys zs : List A) → IsPrefix xs zs → IsPrefix ys zs → IsPrefix xs ys ⊎ IsPrefix ys xs
prefix-either [] ys zs p q = inl (ys, refl)
prefix-either (x ∷ xs) [] zs p q = inr (x ∷ xs, refl)
prefix-either (x ∷ xs) (y ∷ ys) [] p q = absurd (cc (p.1))
prefix-either (x ∷ xs) (y ∷ ys) (z ∷ zs) p q =
    let heads : x ≡ y = cc (p.1, q.1) in
    ⊎_elim (λ r. inl (r.0, cc (heads, r.1))) (λ r. inr (r.0, cc (heads, r.1))) (prefix-either xs ys zs (p.0, cc (p.1)) (q.0, cc (q.1)))

abbrev pub shown : List Anchored → List Anchored
shown anchors = []

abbrev pub moved : List Anchored → List Anchored → ℕ → Type 0
moved xs ys n = Unit {0}

adds_goes : (log v : List Anchored) (e : Anchored) (old : ℕ) → length v ≡ old → IsPrefix v log → (b : Bool) → (length log == old) ≡ b
    → Goes HasCount shown moved 0 (v, (no_nib, None)) (λ n. either (n == old) (old + 1) n) (Adds (step 0 old (old + 1) e) (v, (no_nib, None))) ((length log, true) ∷ (0, true) ∷ []) log
adds_goes log v e old len pre true is =
    let here : length log ≡ old = grind (arith, nat_tests) in
    let same : v ≡ log = prefix_whole v log pre (omega arith) in
    let n : either (length log == old) (old + 1) (length log) ≡ length (log ++ e ∷ []) = rw is (omega (arith, length-append log (e ∷ []))) in (
      keeps,
      e ∷ [],
      None,
      tt,
      ap (λ (k : ℕ). (k, true) ∷ (0, true) ∷ []) n,
      inl (refl, refl),
      rw is (ap (λ w. w ++ e ∷ []) (sym same)),
    )
adds_goes log v e old len pre false is =
    let all : log ++ [] ≡ log = append-nil log in
    let n : either (length log == old) (old + 1) (length log) ≡ length (log ++ []) = rw is (ap length (sym all)) in (
      keeps,
      [],
      None,
      tt,
      ap (λ (k : ℕ). (k, true) ∷ (0, true) ∷ []) n,
      inl (refl, refl),
      rw is tt,
    )

-- whatever the roll is, the step adds the anchor to all that was seen, or finds others
pub adds-moves : (v : List Anchored) (e : Anchored) (old : ℕ) → length v ≡ old
    → Moves HasCount shown moved 0 (v, (no_nib, None)) (λ n. either (n == old) (old + 1) n) (Adds (step 0 old (old + 1) e) (v, (no_nib, None)))
adds-moves v e old len cs log kept pre away =
    let P : List Cell → Type 0 = λ c. (0 < length c) × ((cell c 0).1 ≡ true) × Goes HasCount shown moved 0 (v, (no_nib, None)) (λ n. either (n == old) (old + 1) n) (Adds (step 0 old (old + 1) e) (v, (no_nib, None))) c log in
    subst P (sym kept) (omega arith, refl, adds_goes log v e old len pre (length log == old) refl)
