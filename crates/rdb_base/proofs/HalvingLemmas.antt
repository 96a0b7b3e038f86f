-- A search by halves: what is known of the places, and what it costs.
-- To know: `halved-all`, `halved-true`, `halved-false`, `halved-turn`; `bound-all`, `bound-half`, `bound-end`.
use Rattle.std.proofs.Common.{◌≡◌, ℕ, zero, suc, ◌+◌, ◌*◌, ◌/◌, ◌<◌, ◌≤◌, ◌^◌, Bool, true, false, refl, arith, inl, inr}
use Rattle.rdb_base.specs.Halvings.{IsFalling, Halved, IsTurn, EndsWithin, KeepsBound, IsLogarithmic}
use Rattle.std.proofs.lemmas.Bool.{cases_lt}
use native.Mathlib.Numerals.{unary_clauses}

-- ---- the places

-- at the start nothing is known
pub halved-all : (test : ℕ → Bool) (n high : ℕ) → high ≡ n → Halved test n 0 high
halved-all test n high e = record { inside = omega arith; ordered = omega arith; before = λ i h. absurd (omega arith); after = λ i h g. absurd (omega arith) }

-- the middle passed: all up to it do
pub halved-true : (test : ℕ → Bool) (n low high middle : ℕ) → IsFalling test n → Halved test n low high → middle < high → low ≤ middle → test middle ≡ true → Halved test n (middle + 1) high
halved-true test n low high middle falling h below above is = record { inside = h.inside; ordered = omega arith; before = λ i lt. falling i middle (omega arith) (omega (arith, h.inside)) is; after = h.after }

-- the middle did not pass: none from it on does
pub halved-false : (test : ℕ → Bool) (n low high middle : ℕ) → IsFalling test n → Halved test n low high → middle < high → low ≤ middle → test middle ≡ false → Halved test n low middle
halved-false test n low high middle falling h below above is = record { inside = omega (arith, h.inside); ordered = above; before = h.before; after = λ i le lt. not_true (test i) refl le lt }
  where
    not_true : (b : Bool) → {i : ℕ} → test i ≡ b → middle ≤ i → i < n → b ≡ false
    not_true false e le lt = refl
    not_true true {i} e le lt = absurd (let t : test middle ≡ true = falling middle i le lt e in cc)

-- no place is left between both
pub halved-turn : (test : ℕ → Bool) (n low high : ℕ) → Halved test n low high → high ≤ low → IsTurn test n low
halved-turn test n low high h done = record { inside = omega (arith, h.inside, h.ordered); before = h.before; after = λ i le lt. h.after i (omega arith) lt }

-- there is one place where the test stops to pass
pub turn-one : (test : ℕ → Bool) (n a b : ℕ) → IsTurn test n a → IsTurn test n b → a ≤ b
turn-one test n a b p q = by_less (test b) refl
  where
    not_less : (b < a → ⊥) → a ≤ b
    not_less h = elim (cases_lt b a) [
      | inl lt ↦ absurd (h lt)
      | inr le ↦ le
    ]

    by_less : (r : Bool) → test b ≡ r → a ≤ b
    by_less true e = not_less (λ lt. let f : test b ≡ false = q.after b (omega arith) (omega (arith, p.inside, lt)) in absurd cc)
    by_less false e = not_less (λ lt. let t : test b ≡ true = p.before b lt in absurd cc)

-- ---- the cost

-- at the start all places are left
pub bound-all : (n start left : ℕ) → left ≤ n → KeepsBound n start start left
bound-all n start left le most lt = record { more = most; enough = omega arith; within = omega arith }

half_enough : (left half k : ℕ) → half ≤ left / 2 → left < 2 ^ suc k → half < 2 ^ k
half_enough left half k le lt = let two : 2 ^ suc k ≡ 2 ^ k * 2 = simp unary_clauses refl in omega arith

-- with at most one step more at most half of the places are left
pub bound-half : (n start now next left half : ℕ) → next ≤ now + 1 → half ≤ left / 2 → 0 < left → KeepsBound n start now left → KeepsBound n start next half
bound-half n start now next left half e le some bound most lt = by_more (bound most lt).more (bound most lt).enough (bound most lt).within
  where
    by_more : (k : ℕ) → left < 2 ^ k → now + k ≤ start + most → EndsWithin start next most half
    by_more zero enough within = absurd (omega arith)
    by_more (suc k) enough within = record { more = k; enough = half_enough left half k le enough; within = omega arith }

-- what was taken is within the bound
pub bound-end : (n start now left : ℕ) → KeepsBound n start now left → IsLogarithmic n start now
bound-end n start now left bound most lt = omega (arith, (bound most lt).within)
