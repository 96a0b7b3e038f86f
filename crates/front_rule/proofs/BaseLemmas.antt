-- Where memtables begin and end: places in a list of bases. To know: `end_of-climbs`, `end_of-known`, `end_of-reached`.
use Rattle.std.proofs.Common.{◌≡◌, ℕ, zero, suc, ◌-◌, ◌≤◌, ◌<◌, List, [], ◌∷◌, ◌++◌, length, get_or, refl, ap, sym, ◌∙◌, subst, arith}
use Rattle.std.specs.List.{AllByRecursion}
use mathlib.Core.List.{IsPrefix}
use Rattle.rdb_base.proofs.Lists.{all-weaker, all-front}
use Rattle.front_rule.specs.Parts.{base_of, end_of, Climbs}
use Rattle.front_rule.specs.Rule.{IsWell}
use Rattle.front_rule.specs.declared.parts.PenPart.{PenPart}

-- ---- a member of a list of numbers, or another number where the list has none there

-- what holds of each member
pub get_or-all : (P : ℕ → Type 0) (xs : List ℕ) (i d : ℕ) → AllByRecursion P xs → i < length xs → P (get_or xs i d)
get_or-all P [] i d h below = absurd (omega arith)
get_or-all P (x ∷ xs) zero d h below = h.0
get_or-all P (x ∷ xs) (suc i) d h below = get_or-all P xs i d h.1 (omega arith)

pub get_or-past : (xs : List ℕ) (i d : ℕ) → length xs ≤ i → get_or xs i d ≡ d
get_or-past [] i d above = refl
get_or-past (x ∷ xs) zero d above = absurd (omega arith)
get_or-past (x ∷ xs) (suc i) d above = get_or-past xs i d (omega arith)

pub get_or-within : (xs : List ℕ) (i d e : ℕ) → i < length xs → get_or xs i d ≡ get_or xs i e
get_or-within [] i d e below = absurd (omega arith)
get_or-within (x ∷ xs) zero d e below = refl
get_or-within (x ∷ xs) (suc i) d e below = get_or-within xs i d e (omega arith)

pub get_or-greater : (xs : List ℕ) (i d e : ℕ) → d ≤ e → get_or xs i d ≤ get_or xs i e
get_or-greater [] i d e le = le
get_or-greater (x ∷ xs) zero d e le = omega arith
get_or-greater (x ∷ xs) (suc i) d e le = get_or-greater xs i d e le

-- with the other number at the list's end
pub get_or-push : (xs : List ℕ) (d i : ℕ) → get_or (xs ++ d ∷ []) i d ≡ get_or xs i d
get_or-push [] d zero = refl
get_or-push [] d (suc i) = refl
get_or-push (x ∷ xs) d zero = refl
get_or-push (x ∷ xs) d (suc i) = get_or-push xs d i

-- ---- the last base

-- the last base is at most what each is
pub base_of-within : (m : ℕ) (bases : List ℕ) → AllByRecursion (λ b. b ≤ m) bases → base_of bases ≤ m
base_of-within m [] h = omega arith
base_of-within m (b ∷ []) h = h.0
base_of-within m (b ∷ c ∷ bases) h = base_of-within m (c ∷ bases) h.1

pub base_of-prefix : (m : ℕ) (bases all : List ℕ) → IsPrefix bases all → AllByRecursion (λ b. b ≤ m) all → base_of bases ≤ m
base_of-prefix m bases all p h = base_of-within m bases (all-front (λ b. b ≤ m) bases p.0 (subst (AllByRecursion (λ b. b ≤ m)) (sym p.1) h))

pub base_of_last : (xs : List ℕ) (d : ℕ) → base_of (xs ++ d ∷ []) ≡ d
base_of_last [] d = refl
base_of_last (x ∷ []) d = refl
base_of_last (x ∷ y ∷ xs) d = base_of_last (y ∷ xs) d

-- ---- bases climb

pub Climbs-push : (c : ℕ) (xs : List ℕ) (d : ℕ) → Climbs c xs → AllByRecursion (λ b. b ≤ d) xs → c ≤ d → Climbs c (xs ++ d ∷ [])
Climbs-push c [] d h all le = (le, tt)
Climbs-push c (x ∷ xs) d h all le = (h.0, Climbs-push x xs d h.1 all.1 all.0)

get_or-from : (d c : ℕ) (xs : List ℕ) (j : ℕ) → Climbs c xs → AllByRecursion (λ b. b ≤ d) xs → c ≤ d → c ≤ get_or xs j d
get_or-from d c [] j h all le = le
get_or-from d c (x ∷ xs) zero h all le = h.0
get_or-from d c (x ∷ xs) (suc j) h all le = let r = get_or-from d x xs j h.1 all.1 all.0 in let q = h.0 in omega arith

-- also from the last base to the list's end
get_or-climbs : (d c : ℕ) (xs : List ℕ) (i j : ℕ) → Climbs c xs → AllByRecursion (λ b. b ≤ d) xs → i ≤ j → get_or xs i d ≤ get_or xs j d
get_or-climbs d c [] i j h all le = omega arith
get_or-climbs d c (x ∷ xs) zero zero h all le = omega arith
get_or-climbs d c (x ∷ xs) zero (suc j) h all le = get_or-from d x xs j h.1 all.1 all.0
get_or-climbs d c (x ∷ xs) (suc i) zero h all le = absurd (omega arith)
get_or-climbs d c (x ∷ xs) (suc i) (suc j) h all le = get_or-climbs d x xs i j h.1 all.1 (omega arith)

-- what a front of the bases has at a place, the bases have
get_or-prefix : (i d e : ℕ) (xs ys : List ℕ) → IsPrefix xs ys → i < length xs → get_or ys i d ≡ get_or xs i e
get_or-prefix i d e [] ys p below = absurd (omega arith)
get_or-prefix i d e (x ∷ xs) [] p below = absurd (cc (p.1))
get_or-prefix zero d e (x ∷ xs) (y ∷ ys) p below = cc (p.1)
get_or-prefix (suc i) d e (x ∷ xs) (y ∷ ys) p below = get_or-prefix i d e xs ys (p.0, cc (p.1)) (omega arith)

get_or-last : (xs : List ℕ) (d : ℕ) → 0 < length xs → get_or xs (length xs - 1) d ≡ base_of xs
get_or-last [] d some = absurd (omega arith)
get_or-last (x ∷ []) d some = refl
get_or-last (x ∷ y ∷ xs) d some = ap (λ k. get_or (x ∷ y ∷ xs) k d) (index (length xs)) ∙ get_or-last (y ∷ xs) d (omega arith)
  where
    index : (n : ℕ) → suc (suc n) - 1 ≡ suc (suc n - 1)
    index n = omega arith

-- ---- where a memtable ends

bases_within : (first : ℕ) (g : PenPart) → IsWell first g → AllByRecursion (λ b. b ≤ length g.list) g.bases
bases_within first g well = all-weaker (λ b. b ≤ g.safe) (λ b. b ≤ length g.list) (λ b h. let s = well.safe in omega arith) g.bases well.bases

-- an earlier memtable does not end after a later one
pub end_of-climbs : (first : ℕ) (g : PenPart) (b c : List ℕ) → IsWell first g → length b ≤ length c → end_of g b ≤ end_of g c
end_of-climbs first g b c well le = get_or-climbs (length g.list) 0 g.bases (length b) (length c) well.climbs (bases_within first g well) le

-- who knows a later base knows where the memtable ends
pub end_of-known : (g : PenPart) (b c : List ℕ) → IsPrefix c g.bases → length b < length c → end_of g b ≡ get_or c (length b) 0
end_of-known g b c p below = get_or-prefix (length b) (length g.list) 0 c g.bases p below

-- and that is not past the base of a later memtable
pub end_of-reached : (first : ℕ) (g : PenPart) (b c : List ℕ) (size : ℕ) → IsWell first g → length b < length c → IsPrefix c g.bases → base_of c ≤ size → end_of g b ≤ size
end_of-reached first g b c size well below p le =
    let rises : get_or g.bases (length b) (length g.list) ≤ get_or g.bases (length c - 1) (length g.list) =
    get_or-climbs (length g.list) 0 g.bases (length b) (length c - 1) well.climbs (bases_within first g well) (omega arith) in
    let there : get_or g.bases (length c - 1) (length g.list) ≡ get_or c (length c - 1) 0 = get_or-prefix (length c - 1) (length g.list) 0 c g.bases p (omega arith) in
    let last = get_or-last c 0 (omega arith) in omega (arith, rises, there, last)
