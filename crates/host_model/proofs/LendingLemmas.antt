-- Counts of a thing that is lent. The lemmas to know are `rise_of-next` and `within-back`.
use Rattle.std.proofs.Common.{◌≡◌, ℕ, zero, suc, ◌+◌, ◌-◌, ◌^◌, ◌<◌, ◌≤◌, min, List, [], ◌∷◌, length, take, get_or, refl, subst, arith}
use Rattle.std.proofs.lemmas.List.{take_all}
use Rattle.host_model.specs.Lent.{NoneFell, rise_of, AllFit, AreWithin}

-- a count did not fall
pub none_fell-at : (before now : List ℕ) (i : ℕ) → NoneFell before now → get_or before i 0 ≤ get_or now i 0
none_fell-at [] now i h = omega arith
none_fell-at (b ∷ before) [] i h = absurd h
none_fell-at (b ∷ before) (n ∷ now) zero h = h.0
none_fell-at (b ∷ before) (n ∷ now) (suc i) h = none_fell-at before now i h.1

-- the rise of one count more that was not there before
rise_of-none_next : (now : List ℕ) (i : ℕ) → i < length now → rise_of [] (take (suc i) now) ≡ rise_of [] (take i now) + get_or now i 0
rise_of-none_next [] i some = absurd (omega (arith, some))
rise_of-none_next (n ∷ now) zero some = omega arith
rise_of-none_next (n ∷ now) (suc i) some = omega (arith, rise_of-none_next now i (omega (arith, some)))

take-none : (k : ℕ) → take {A = ℕ} k [] ≡ []
take-none zero = refl
take-none (suc k) = refl

-- the rise of one count more
rise_of-suc : (before now : List ℕ) (i : ℕ) → i < length now → rise_of (take (suc i) before) (take (suc i) now) ≡ rise_of (take i before) (take i now) + (get_or now i 0 - get_or before i 0)
rise_of-suc [] now i some = rw (take-none (suc i), take-none i) (omega (arith, rise_of-none_next now i some))
rise_of-suc (b ∷ before) [] i some = absurd (omega (arith, some))
rise_of-suc (b ∷ before) (n ∷ now) zero some = omega arith
rise_of-suc (b ∷ before) (n ∷ now) (suc i) some = omega (arith, rise_of-suc before now i (omega (arith, some)))

pub rise_of-next : (before now : List ℕ) (i : ℕ) → i < length now → rise_of (take (i + 1) before) (take (i + 1) now) ≡ rise_of (take i before) (take i now) + (get_or now i 0 - get_or before i 0)
rise_of-next before now i some =
    let one_more : suc i ≡ i + 1 = omega arith in
    subst (λ (k : ℕ). rise_of (take k before) (take k now) ≡ rise_of (take i before) (take i now) + (get_or now i 0 - get_or before i 0)) one_more (rise_of-suc before now i some)

none_fell-length : (before now : List ℕ) → NoneFell before now → length before ≤ length now
none_fell-length [] now h = omega arith
none_fell-length (b ∷ before) [] h = absurd h
none_fell-length (b ∷ before) (n ∷ now) h = omega (arith, none_fell-length before now h.1)

-- the rise of all
pub rise_of-all : (before now : List ℕ) (i : ℕ) → NoneFell before now → length now ≤ i → rise_of (take i before) (take i now) ≡ rise_of before now
rise_of-all before now i h all = rw (take_all i before (omega (arith, none_fell-length before now h, all)), take_all i now all) refl

-- what fits at each place fits in all
pub all_fit : (counts : List ℕ) → ((i : ℕ) → get_or counts i 0 < 2 ^ 64) → AllFit counts
all_fit [] fits = tt
all_fit (n ∷ counts) fits = (fits 0, all_fit counts (λ i. fits (suc i)))

-- no count passes the faults in all, as they rose by at least the rise of the counts
pub within-more : (faults risen : ℕ) (before now : List ℕ) → NoneFell before now → AllFit now → AreWithin faults before → min (faults + rise_of before now) (2 ^ 64 - 1) ≤ risen → AreWithin risen now
within-more faults risen before [] h fit within more = tt
within-more faults risen [] (n ∷ now) h fit within more = ((omega (arith, fit.0, more), fit.0), within-more faults risen [] now tt fit.1 tt (omega (arith, more)))
within-more faults risen (b ∷ before) (n ∷ now) h fit within more = ((omega (arith, h.0, fit.0, within.0.0, more), fit.0), within-more faults risen before now h.1 fit.1 within.1 (omega (arith, more)))
