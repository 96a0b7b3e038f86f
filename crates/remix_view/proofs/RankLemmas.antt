-- Counting selectors of a run by a mask of bits. To know: mask_of_runs, rank_of_mask.
use Rattle.std.proofs.Common.{◌≡◌, ℕ, zero, suc, ◌+◌, ◌-◌, ◌*◌, ◌%◌, ◌^◌, ◌<◌, ◌≤◌, Bool, cond, eqb, List, [], ◌∷◌, length, map, take, drop, replicate, sym, ap, ◌∙◌, arith, w8}
use Rattle.std.specs.Prelude.{count_ones, ◌==◌, bit_and}
use Rattle.std.specs.Simd.Lanes.{mask_l, zip2, top}
use mir.Val.{bits, hbits}
use native.Mathlib.Numerals.{unary_clauses}
use Rattle.std.proofs.Math.Nat.{mul_assoc, mul_comm, add-mul-mod_self_left}
use Rattle.std.proofs.lemmas.Nat.{and_mask, one_shl}
use Rattle.std.proofs.lemmas.List.{take-map, length-take-le, length-map}
use Rattle.std.proofs.lemmas.Simd.{bitmask_splat, zip2_splat, map-map, mask_l-mod, ones-mask_l, length-zip2, length-replicate}
use Rattle.remix_view.specs.Selectors.{run_in, rank_in}

-- which selectors name a run
abbrev names : ℕ → ℕ → Bool
names run selector = run_in selector == run

-- the low six bits of all, compared with a run
pub mask_of_runs : (selectors : List ℕ) (run : ℕ) → length selectors ≡ 32 → mask_l (map (top (hbits w8)) (zip2 (λ a b. cond (eqb a b) (2 ^ bits w8 - 1) 0) (zip2 bit_and selectors (replicate 32 63)) (replicate 32 run))) % 2 ^ 64 ≡ mask_l (map (λ selector. run_in selector == run) selectors)
mask_of_runs selectors run long =
    bitmask_splat w8 eqb (zip2 bit_and selectors (replicate 32 63)) 32 run (length-zip2 bit_and selectors (replicate 32 63) (long ∙ sym (length-replicate {A = ℕ} 32 63)) ∙ long) (omega arith)
    ∙ ap (λ (xs : List ℕ). mask_l (map (λ x. eqb x run) xs)) (zip2_splat bit_and selectors 32 63 long)
    ∙ ap mask_l (map-map (λ x. eqb x run) (λ x. bit_and x 63) selectors)
    ∙ (λ i. mask_l (map (λ x. eqb (and_mask x 6 i) run) selectors))

-- a mask in two parts
mask_split : (bs : List Bool) (k : ℕ) → k ≤ length bs → mask_l bs ≡ mask_l (take k bs) + 2 ^ k * mask_l (drop k bs)
mask_split bs zero le = omega arith
mask_split [] (suc k) le = absurd (omega arith)
mask_split (b ∷ bs) (suc k) le =
    let two : 2 ^ suc k ≡ 2 * 2 ^ k = simp unary_clauses (mul_comm (2 ^ k) 2) in
    let whole : 2 ^ suc k * mask_l (drop k bs) ≡ 2 * (2 ^ k * mask_l (drop k bs)) = ap (λ (n : ℕ). n * mask_l (drop k bs)) two ∙ mul_assoc 2 (2 ^ k) (mask_l (drop k bs)) in
    let rest = mask_split bs k (omega arith) in
    omega arith

mask_front : (bs : List Bool) (k : ℕ) → k ≤ length bs → mask_l bs % 2 ^ k ≡ mask_l (take k bs)
mask_front bs k le =
    ap (λ (n : ℕ). n % 2 ^ k) (mask_split bs k le)
    ∙ add-mul-mod_self_left (mask_l (take k bs)) (2 ^ k) (mask_l (drop k bs))
    ∙ mask_l-mod (take k bs) k (omega (arith, length-take-le k bs le))

-- the bits below a place, counted
pub rank_of_mask : (selectors : List ℕ) (run place mask : ℕ) → length selectors ≡ 32 → place < 32 → mask ≡ mask_l (map (λ selector. run_in selector == run) selectors) → count_ones (mask % (1 * 2 ^ place % 2 ^ 64)) ≡ rank_in run (take place selectors)
rank_of_mask selectors run place mask long low e =
    (λ i. count_ones (e i % one_shl place 64 (omega arith) i))
    ∙ ap count_ones (mask_front (map (names run) selectors) place (omega (arith, length-map selectors (names run), long)))
    ∙ ap (λ (bs : List Bool). count_ones (mask_l bs)) (take-map (names run) place selectors)
    ∙ ones-mask_l (names run) (take place selectors)
