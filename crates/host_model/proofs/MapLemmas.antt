-- A list of eight, mapped. The lemma to know is `map-of_eight`.
use Rattle.std.proofs.Common.{◌≡◌, ℕ, List, [], ◌∷◌, length, map, slice_index_or, arith, refl}

-- the names are those of the items of a slice pattern
pub map-of_eight : {S : Type 0} (f : S → ℕ) (xs : List S) (a b c d e g h i : S) → length xs ≡ 8
    → a ≡ slice_index_or xs 0 a → b ≡ slice_index_or xs 1 b → c ≡ slice_index_or xs 2 c → d ≡ slice_index_or xs 3 d → e ≡ slice_index_or xs 4 e → g ≡ slice_index_or xs 5 g → h ≡ slice_index_or xs 6 h → i ≡ slice_index_or xs 7 i
    → f a ∷ f b ∷ f c ∷ f d ∷ f e ∷ f g ∷ f h ∷ f i ∷ [] ≡ map f xs
map-of_eight f ([]) a b c d e g h i len p0 p1 p2 p3 p4 p5 p6 p7 = absurd (omega (arith, len))
map-of_eight f (x0 ∷ []) a b c d e g h i len p0 p1 p2 p3 p4 p5 p6 p7 = absurd (omega (arith, len))
map-of_eight f (x0 ∷ x1 ∷ []) a b c d e g h i len p0 p1 p2 p3 p4 p5 p6 p7 = absurd (omega (arith, len))
map-of_eight f (x0 ∷ x1 ∷ x2 ∷ []) a b c d e g h i len p0 p1 p2 p3 p4 p5 p6 p7 = absurd (omega (arith, len))
map-of_eight f (x0 ∷ x1 ∷ x2 ∷ x3 ∷ []) a b c d e g h i len p0 p1 p2 p3 p4 p5 p6 p7 = absurd (omega (arith, len))
map-of_eight f (x0 ∷ x1 ∷ x2 ∷ x3 ∷ x4 ∷ []) a b c d e g h i len p0 p1 p2 p3 p4 p5 p6 p7 = absurd (omega (arith, len))
map-of_eight f (x0 ∷ x1 ∷ x2 ∷ x3 ∷ x4 ∷ x5 ∷ []) a b c d e g h i len p0 p1 p2 p3 p4 p5 p6 p7 = absurd (omega (arith, len))
map-of_eight f (x0 ∷ x1 ∷ x2 ∷ x3 ∷ x4 ∷ x5 ∷ x6 ∷ []) a b c d e g h i len p0 p1 p2 p3 p4 p5 p6 p7 = absurd (omega (arith, len))
map-of_eight f (x0 ∷ x1 ∷ x2 ∷ x3 ∷ x4 ∷ x5 ∷ x6 ∷ x7 ∷ []) a b c d e g h i len p0 p1 p2 p3 p4 p5 p6 p7 = rw (p0, p1, p2, p3, p4, p5, p6, p7) refl
map-of_eight f (x0 ∷ x1 ∷ x2 ∷ x3 ∷ x4 ∷ x5 ∷ x6 ∷ x7 ∷ x8 ∷ xs) a b c d e g h i len p0 p1 p2 p3 p4 p5 p6 p7 = absurd (omega (arith, len))
