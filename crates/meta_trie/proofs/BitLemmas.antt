-- The bytes of a set, by the bits of its words. To know: `bit_at-masked_from`, `first_bit`, `no_bit`.
use Rattle.std.proofs.Common.{◌≡◌, ℕ, zero, suc, Bool, true, false, ◌||◌, List, length, get_or, set, eq-eqb, ◌-◌, ◌*◌, ◌/◌, ◌%◌, ◌^◌, ◌<◌, ◌≤◌, min, sym, ap, ◌∙◌, arith, ◌⊎◌, inl, inr, refl}
use Rattle.std.specs.Prelude.{bit_and, bit_or, ◌==◌}
use Rattle.std.specs.Int.{w64, bit_at, trailing_zeros}
use Rattle.std.proofs.lemmas.List.{get_or-set_same, get_or-set_other}
use Rattle.std.proofs.lemmas.Nat.{and_le_l}
use Rattle.std.proofs.lemmas.Bool.{cases_lt, cases_order, ne_eqb}
use Rattle.std.proofs.lemmas.Nat.Bits.{ones_shl, bit_at_and, bit_at_mask_inside, bit_at_mask_below, bit_at-trailing_zeros, bit_at-lt, bit_at-zero, bit_at_set_same, bit_at_set_other}

-- the bits of a word from a place on
abbrev pub masked : ℕ → ℕ → ℕ
masked word from = bit_and word (18446744073709551615 * 2 ^ from % 18446744073709551616)

mask_is : (from : ℕ) → from < 64 → 18446744073709551615 * 2 ^ from % 18446744073709551616 ≡ 2 ^ 64 - 2 ^ from
mask_is from lt = ones_shl 64 from (omega arith)

pub bit_at-masked_from : (word from i : ℕ) → from < 64 → from ≤ i → i < 64 → bit_at (masked word from) i ≡ bit_at word i
bit_at-masked_from word from i lt le most =
    let one : bit_at (2 ^ 64 - 2 ^ from) i ≡ 1 = bit_at_mask_inside from 64 i le most in
    let bit : bit_at word i < 2 = bit_at-lt word i in
    let both : bit_at (bit_and word (2 ^ 64 - 2 ^ from)) i ≡ min (bit_at word i) (bit_at (2 ^ 64 - 2 ^ from) i) = bit_at_and word (2 ^ 64 - 2 ^ from) i in
    ap (λ m. bit_at (bit_and word m) i) (mask_is from lt) ∙ both ∙ ap (min (bit_at word i)) one ∙ small (bit_at word i) bit
  where
    small : (b : ℕ) → b < 2 → min b 1 ≡ b
    small b lt = omega arith

pub bit_at-masked_below : (word from i : ℕ) → from < 64 → i < from → bit_at (masked word from) i ≡ 0
bit_at-masked_below word from i lt below =
    let none : bit_at (2 ^ 64 - 2 ^ from) i ≡ 0 = bit_at_mask_below from 64 i below in
    ap (λ m. bit_at (bit_and word m) i) (mask_is from lt) ∙ bit_at_and word (2 ^ 64 - 2 ^ from) i ∙ ap (min (bit_at word i)) none ∙ zero_min (bit_at word i)
  where
    zero_min : (b : ℕ) → min b 0 ≡ 0
    zero_min b = omega arith

masked-lt : (word from : ℕ) → from < 64 → word < 2 ^ 64 → masked word from < 2 ^ 64
masked-lt word from lt fits = omega (arith, and_le_l word (18446744073709551615 * 2 ^ from % 18446744073709551616))

-- no bit is there from the place on
pub no_bit : (word from : ℕ) → from < 64 → masked word from ≡ 0 → (i : ℕ) → from ≤ i → i < 64 → bit_at word i ≡ 0
no_bit word from lt none i le most = sym (bit_at-masked_from word from i lt le most) ∙ ap (λ m. bit_at m i) none ∙ bit_at-zero i

-- the first bit from a place on
pub record FirstBit (word from place : ℕ) : Type 0 where
  pub from_on : from ≤ place
  pub inside : place < 64
  pub set : bit_at word place ≡ 1
  pub first : (i : ℕ) → from ≤ i → i < place → bit_at word i ≡ 0

pub first_bit : (word from : ℕ) → from < 64 → word < 2 ^ 64 → (masked word from ≡ 0 → ⊥) → FirstBit word from (trailing_zeros w64 (masked word from))
first_bit word from lt fits some = record {
  from_on = late (cases_lt place from);
  inside = found.0;
  set = sym (bit_at-masked_from word from place lt (late (cases_lt place from)) found.0) ∙ found.1;
  first = λ i le below. sym (bit_at-masked_from word from i lt le (omega (arith, found.0, below))) ∙ found.2 i below;
}
  where
    place : ℕ
    place = trailing_zeros w64 (masked word from)

    positive : (n : ℕ) → (n ≡ 0 → ⊥) → 0 < n
    positive zero f = absurd (f refl)
    positive (suc n) f = omega arith

    found : (place < 64) × (bit_at (masked word from) place ≡ 1) × ((i : ℕ) → i < place → bit_at (masked word from) i ≡ 0)
    found = bit_at-trailing_zeros w64 (masked word from) (positive (masked word from) some) (masked-lt word from lt fits)

    late : (place < from) ⊎ (from ≤ place) → from ≤ place
    late (inr h) = h
    late (inl h) = absurd (one_zero (bit_at (masked word from) place) found.1 (bit_at-masked_below word from place lt h))
      where
        one_zero : (b : ℕ) → b ≡ 1 → b ≡ 0 → ⊥
        one_zero b e f = absurd (omega arith)

-- ---- one byte more

-- the word and the place of a byte give the byte back
pub same_byte : (b c : ℕ) → c / 64 ≡ b / 64 → 63 - c % 64 ≡ 63 - b % 64 → c ≡ b
same_byte b c e f = omega (arith, e, f)

abbrev pub has_bit : List ℕ → ℕ → Bool
has_bit words c = bit_at (get_or words (c / 64) 0) (63 - c % 64) == 1

pub has_bit-set : (words : List ℕ) (b c : ℕ) → b < 256 → length words ≡ 4
    → has_bit (set words (b / 64) (bit_or (get_or words (b / 64) 0) (1 * 2 ^ (63 - b % 64) % 2 ^ 64))) c ≡ (c == b) || has_bit words c
has_bit-set words b c small four = by_word (cases_order (c / 64) (b / 64))
  where
    w : ℕ
    w = b / 64

    place : ℕ
    place = 63 - b % 64

    changed : ℕ
    changed = bit_or (get_or words w 0) (1 * 2 ^ place % 2 ^ 64)

    inside : w < length words
    inside = omega (arith, small, four)

    other : (c / 64 ≡ w → ⊥) → has_bit (set words w changed) c ≡ (c == b) || has_bit words c
    other ne =
        let apart : (c == b) ≡ false = ne_eqb c b (λ e. ne (ap (λ n. n / 64) e)) in
        ap (λ x. bit_at x (63 - c % 64) == 1) (get_or-set_other words w (c / 64) changed 0 ne) ∙ sym (ap (λ t. t || has_bit words c) apart)

    same : c / 64 ≡ w → has_bit (set words w changed) c ≡ (c == b) || has_bit words c
    same e = ap (λ n. bit_at (get_or (set words w changed) n 0) (63 - c % 64) == 1) e
        ∙ ap (λ x. bit_at x (63 - c % 64) == 1) (get_or-set_same words w changed 0 inside)
        ∙ by_place (cases_order (63 - c % 64) place)
      where
        differ : (63 - c % 64 ≡ place → ⊥) → (bit_at changed (63 - c % 64) == 1) ≡ (c == b) || has_bit words c
        differ ne =
            let apart : (c == b) ≡ false = ne_eqb c b (λ f. ne (ap (λ n. 63 - n % 64) f)) in
            ap (λ x. x == 1) (bit_at_set_other w64 (get_or words w 0) place (omega arith) (63 - c % 64) ne)
            ∙ ap (λ n. bit_at (get_or words n 0) (63 - c % 64) == 1) (sym e)
            ∙ sym (ap (λ t. t || has_bit words c) apart)

        by_place : (63 - c % 64 ≡ place) ⊎ ((63 - c % 64 < place) ⊎ (place < 63 - c % 64)) → (bit_at changed (63 - c % 64) == 1) ≡ (c == b) || has_bit words c
        by_place (inl f) =
            let here : (c == b) ≡ true = eq-eqb c b (same_byte b c e f) in
            ap (λ x. x == 1) (ap (bit_at changed) f ∙ bit_at_set_same w64 (get_or words w 0) place (omega arith)) ∙ sym (ap (λ t. t || has_bit words c) here)
        by_place (inr (inl lt)) = differ (λ f. absurd (omega (arith, f, lt)))
        by_place (inr (inr lt)) = differ (λ f. absurd (omega (arith, f, lt)))

    by_word : (c / 64 ≡ w) ⊎ ((c / 64 < w) ⊎ (w < c / 64)) → has_bit (set words w changed) c ≡ (c == b) || has_bit words c
    by_word (inl e) = same e
    by_word (inr (inl lt)) = other (λ e. absurd (omega (arith, e, lt)))
    by_word (inr (inr lt)) = other (λ e. absurd (omega (arith, e, lt)))
