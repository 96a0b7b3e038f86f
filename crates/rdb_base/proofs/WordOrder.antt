-- Byte strings compare as the numbers that their first bytes spell, and then as the rest. To know: `words_then`.
use Rattle.std.proofs.Common.{◌≡◌, ℕ, zero, suc, ◌+◌, ◌*◌, ◌<◌, ◌≤◌, List, [], ◌∷◌, length, take, drop, refl, sym, ap, ◌∙◌, arith}
use Rattle.std.specs.Ordering.{nat_cmp, ordering_then, MatchOrdering}
use Rattle.std.specs.Cmp.{nat_cmp_is, ranks}
use Rattle.std.specs.Int.{w64, from_be_bytes}
use Rattle.std.specs.declared.cmp.Ordering.{Ordering}
use Rattle.std.specs.declared.cmp.Ordering.TheVariants.{Less, Equal, Greater}
use Rattle.rdb_base.specs.Bytes.{AreBytes}
use Rattle.rdb_base.specs.Order.{key_cmp}

-- the number that bytes spell after n, the first in the highest place
abbrev spelled : ℕ → List ℕ → ℕ
spelled n [] = n
spelled n (b ∷ bs) = spelled (n * 256 + b) bs

-- what follows does not catch up with a greater front
spelled-rises : (k n m : ℕ) (xs ys : List ℕ) → k ≤ length xs → k ≤ length ys → AreBytes xs → n < m → spelled n (take k xs) < spelled m (take k ys)
spelled-rises zero n m xs ys p q g l = l
spelled-rises (suc k) n m [] ys p q g l = absurd (omega arith)
spelled-rises (suc k) n m (x ∷ xs) [] p q g l = absurd (omega arith)
spelled-rises (suc k) n m (x ∷ xs) (y ∷ ys) p q g l =
    let small : x < 256 = g 0 in
    spelled-rises k (n * 256 + x) (m * 256 + y) xs ys (omega arith) (omega arith) (λ i. g (suc i)) (omega arith)

spelled-then : (k n : ℕ) (xs ys : List ℕ) → k ≤ length xs → k ≤ length ys → AreBytes xs → AreBytes ys
    → key_cmp xs ys ≡ ordering_then (nat_cmp (spelled n (take k xs)) (spelled n (take k ys))) (key_cmp (drop k xs) (drop k ys))
spelled-then zero n xs ys p q g h = ap (λ r. ordering_then r (key_cmp xs ys)) (nat_cmp_is n n Equal refl)
spelled-then (suc k) n [] ys p q g h = absurd (omega arith)
spelled-then (suc k) n (x ∷ xs) [] p q g h = absurd (omega arith)
spelled-then (suc k) n (x ∷ xs) (y ∷ ys) p q g h = by_first (spelled-then k (n * 256 + x) xs ys (omega arith) (omega arith) (λ i. g (suc i)) (λ i. h (suc i))) (nat_cmp x y) (ranks x y)
  where
    back : Ordering
    back = key_cmp (drop k xs) (drop k ys)

    by_first : key_cmp xs ys ≡ ordering_then (nat_cmp (spelled (n * 256 + x) (take k xs)) (spelled (n * 256 + x) (take k ys))) back
        → (r : Ordering) → MatchOrdering r (x < y) (x ≡ y) (y < x)
        → ordering_then r (key_cmp xs ys) ≡ ordering_then (nat_cmp (spelled (n * 256 + x) (take k xs)) (spelled (n * 256 + y) (take k ys))) back
    by_first rest Less l =
        let below : x < y = l in
        ap (λ r. ordering_then r back) (nat_cmp_is _ _ Less (spelled-rises k (n * 256 + x) (n * 256 + y) xs ys (omega arith) (omega arith) (λ i. g (suc i)) (omega arith)))
    by_first rest Greater l =
        let above : y < x = l in
        ap (λ r. ordering_then r back) (nat_cmp_is _ _ Greater (spelled-rises k (n * 256 + y) (n * 256 + x) ys xs (omega arith) (omega arith) (λ i. h (suc i)) (omega arith)))
    by_first rest Equal l =
        let level : x ≡ y = l in
        rest ∙ ap (λ z. ordering_then (nat_cmp (spelled (n * 256 + x) (take k xs)) (spelled (n * 256 + z) (take k ys))) back) level

-- a word of eight bytes
word_is : (xs : List ℕ) → 8 ≤ length xs → from_be_bytes w64 (take 8 xs) ≡ spelled 0 (take 8 xs)
word_is [] p = absurd (omega arith)
word_is (a ∷ []) p = absurd (omega arith)
word_is (a ∷ b ∷ []) p = absurd (omega arith)
word_is (a ∷ b ∷ c ∷ []) p = absurd (omega arith)
word_is (a ∷ b ∷ c ∷ d ∷ []) p = absurd (omega arith)
word_is (a ∷ b ∷ c ∷ d ∷ e ∷ []) p = absurd (omega arith)
word_is (a ∷ b ∷ c ∷ d ∷ e ∷ f ∷ []) p = absurd (omega arith)
word_is (a ∷ b ∷ c ∷ d ∷ e ∷ f ∷ g ∷ []) p = absurd (omega arith)
word_is (a ∷ b ∷ c ∷ d ∷ e ∷ f ∷ g ∷ h ∷ xs) p = omega arith

-- strings compare as their first words, and then as the rest
pub words_then : (xs ys : List ℕ) (x y : ℕ) (r : Ordering) → 8 ≤ length xs → 8 ≤ length ys → AreBytes xs → AreBytes ys
    → x ≡ from_be_bytes w64 (take 8 xs) → y ≡ from_be_bytes w64 (take 8 ys) → MatchOrdering r (x < y) (x ≡ y) (y < x)
    → key_cmp xs ys ≡ ordering_then r (key_cmp (drop 8 xs) (drop 8 ys))
words_then xs ys x y r p q g h x_is y_is ranked =
    let mine : x ≡ spelled 0 (take 8 xs) = x_is ∙ word_is xs p in
    let theirs : y ≡ spelled 0 (take 8 ys) = y_is ∙ word_is ys q in
    let order : r ≡ nat_cmp (spelled 0 (take 8 xs)) (spelled 0 (take 8 ys)) = nat_cmp_is x y r ranked ∙ (λ i. nat_cmp (mine i) (theirs i)) in
    spelled-then 8 0 xs ys p q g h ∙ sym (ap (λ o. ordering_then o (key_cmp (drop 8 xs) (drop 8 ys))) order)
