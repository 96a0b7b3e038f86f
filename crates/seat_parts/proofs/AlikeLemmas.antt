-- Lists with the same members in any order, and the parts of all seats with one seat's parts first. To know: `Alike`, `parts_of-taken_out`, `parts_of-put_in`.
use Rattle.std.proofs.Common.{◌≡◌, ℕ, zero, suc, ◌+◌, List, [], ◌∷◌, ◌++◌, set, refl, ap, sym, ◌∙◌, subst, arith}
use Rattle.std.specs.List.{AllByRecursion}
use mathlib.Core.Option.{some, some-injective, some-ne-none}
use lib.ListN.{get_elem?}
use Rattle.seat_parts.specs.Seats.{weigh, parts_of}

-- these three are also among `rdb_base`'s lemmas: this crate and `rdb_base` are both at the bottom, and neither stands on the other
all-append : {X : Type 0} (P : X → Type 0) (xs ys : List X) → AllByRecursion P xs → AllByRecursion P ys → AllByRecursion P (xs ++ ys)
all-append P [] ys h g = g
all-append P (x ∷ xs) ys h g = (h.0, all-append P xs ys h.1 g)

all-front : {X : Type 0} (P : X → Type 0) (xs ys : List X) → AllByRecursion P (xs ++ ys) → AllByRecursion P xs
all-front P [] ys h = tt
all-front P (x ∷ xs) ys h = (h.0, all-front P xs ys h.1)

all-back : {X : Type 0} (P : X → Type 0) (xs ys : List X) → AllByRecursion P (xs ++ ys) → AllByRecursion P ys
all-back P [] ys h = h
all-back P (x ∷ xs) ys h = all-back P xs ys h.1

-- two lists weigh together what each weighs
pub weigh-append : {X : Type 0} (f : X → ℕ) (xs ys : List X) → weigh f (xs ++ ys) ≡ weigh f xs + weigh f ys
weigh-append f [] ys = omega arith
weigh-append f (x ∷ xs) ys = omega (arith, weigh-append f xs ys)

-- two lists weigh the same by every weight, and what holds of each member of the first holds of each of the second
pub record Alike {X : Type 0} (xs ys : List X) : Type 1 where
  pub sums : (f : X → ℕ) → weigh f ys ≡ weigh f xs
  pub all : (P : X → Type 0) → AllByRecursion P xs → AllByRecursion P ys

-- one after the other
pub Alike-trans : {X : Type 0} (xs ys zs : List X) → Alike xs ys → Alike ys zs → Alike xs zs
Alike-trans xs ys zs p q = record { sums = λ f. q.sums f ∙ p.sums f; all = λ P h. q.all P (p.all P h) }

-- equal lists
pub Alike-same : {X : Type 0} (xs ys : List X) → xs ≡ ys → Alike xs ys
Alike-same xs ys e = record { sums = λ f. ap (weigh f) (sym e); all = λ P h. subst (AllByRecursion P) e h }

-- after a common front
pub Alike-append : {X : Type 0} (xs ys zs : List X) → Alike ys zs → Alike (xs ++ ys) (xs ++ zs)
Alike-append xs ys zs p = record {
  sums = λ f. omega (arith, p.sums f, weigh-append f xs ys, weigh-append f xs zs);
  all = λ P h. all-append P xs zs (all-front P xs ys h) (p.all P (all-back P xs ys h));
}

-- two fronts the other way round
pub Alike-swap : {X : Type 0} (xs ys zs : List X) → Alike (xs ++ (ys ++ zs)) (ys ++ (xs ++ zs))
Alike-swap xs ys zs = record {
  sums = λ f. omega (arith, weigh-append f xs (ys ++ zs), weigh-append f ys zs, weigh-append f ys (xs ++ zs), weigh-append f xs zs);
  all = λ P h. let later = all-back P xs (ys ++ zs) h in
      all-append P ys (xs ++ zs) (all-front P ys zs later) (all-append P xs zs (all-front P xs (ys ++ zs) h) (all-back P ys zs later));
}

-- the parts of all seats but this one
abbrev pub without : {X : Type 0} → List (List X) → ℕ → List X
without views id = parts_of (set views id [])

-- one seat's parts can be put first
pub parts_of-taken_out : {X : Type 0} (views : List (List X)) (id : ℕ) (v : List X) → get_elem? views id ≡ some v → Alike (parts_of views) (v ++ without views id)
parts_of-taken_out [] id v e = absurd (some-ne-none v (sym e))
parts_of-taken_out (x ∷ xs) zero v e = Alike-same (x ++ parts_of xs) (v ++ parts_of xs) (ap (λ l. l ++ parts_of xs) (some-injective x v e))
parts_of-taken_out (x ∷ xs) (suc id) v e =
    Alike-trans (x ++ parts_of xs) (x ++ (v ++ without xs id)) (v ++ (x ++ without xs id))
    (Alike-append x (parts_of xs) (v ++ without xs id) (parts_of-taken_out xs id v e))
    (Alike-swap x v (without xs id))

-- and new parts of that seat go back to its place
pub parts_of-put_in : {X : Type 0} (views : List (List X)) (id : ℕ) (v w : List X) → get_elem? views id ≡ some v → Alike (w ++ without views id) (parts_of (set views id w))
parts_of-put_in [] id v w e = absurd (some-ne-none v (sym e))
parts_of-put_in (x ∷ xs) zero v w e = Alike-same (w ++ parts_of xs) (w ++ parts_of xs) refl
parts_of-put_in (x ∷ xs) (suc id) v w e =
    Alike-trans (w ++ (x ++ without xs id)) (x ++ (w ++ without xs id)) (x ++ parts_of (set xs id w))
    (Alike-swap w x (without xs id))
    (Alike-append x (w ++ without xs id) (parts_of (set xs id w)) (parts_of-put_in xs id v w e))

-- with the parts of one more seat
pub parts_of-one_more : {X : Type 0} (views : List (List X)) (w : List X) → Alike (w ++ parts_of views) (parts_of (views ++ w ∷ []))
parts_of-one_more [] w = Alike-same (w ++ []) (w ++ []) refl
parts_of-one_more (x ∷ xs) w =
    Alike-trans (w ++ (x ++ parts_of xs)) (x ++ (w ++ parts_of xs)) (x ++ parts_of (xs ++ w ∷ []))
    (Alike-swap w x (parts_of xs))
    (Alike-append x (w ++ parts_of xs) (parts_of (xs ++ w ∷ [])) (parts_of-one_more xs w))
