-- The order of keys: total, and alike only at one key. To know: `total`, `same_key`.
use Rattle.std.proofs.Common.{◌≡◌, ℕ, true, List, refl, ◌∙◌}
use Rattle.std.specs.Ordering.{is_lt, is_gt, is_eq}
use Rattle.std.specs.declared.cmp.Ordering.{Ordering}
use Rattle.std.specs.Cmp.{IsTotalOrder}
use Rattle.std.specs.FinMap.{slice_cmp-IsAntisymmetric, nat_cmp-IsAntisymmetric}
use Rattle.std.specs.declared.cmp.Ordering.TheVariants.{Less, Equal, Greater}
use Rattle.std.proofs.lemmas.Cmp.{nat_list_cmp_total, tied_itself}
use Rattle.rdb_base.specs.Order.{key_cmp}

pub total : IsTotalOrder key_cmp
total = nat_list_cmp_total

-- keys that compare alike are one
pub same_key : (a b : List ℕ) → key_cmp a b ≡ Equal → a ≡ b
same_key a b h = slice_cmp-IsAntisymmetric nat_cmp-IsAntisymmetric a b h

-- a key compares alike with itself
pub key_cmp-same : (a : List ℕ) → key_cmp a a ≡ Equal
key_cmp-same a = tied_itself total a

-- the order the other way round
pub turned_less : (a b : List ℕ) → key_cmp a b ≡ Less → key_cmp b a ≡ Greater
turned_less a b h = total.antisymm b a ∙ rw h refl

pub turned_greater : (a b : List ℕ) → key_cmp a b ≡ Greater → key_cmp b a ≡ Less
turned_greater a b h = total.antisymm b a ∙ rw h refl

pub turned_equal : (a b : List ℕ) → key_cmp a b ≡ Equal → key_cmp b a ≡ Equal
turned_equal a b h = total.antisymm b a ∙ rw h refl

-- ---- what the tests of an order tell

pub less_from_test : (r : Ordering) → is_lt r ≡ true → r ≡ Less
less_from_test Less h = refl
less_from_test Equal h = absurd cc
less_from_test Greater h = absurd cc

pub greater_from_test : (r : Ordering) → is_gt r ≡ true → r ≡ Greater
greater_from_test Less h = absurd cc
greater_from_test Equal h = absurd cc
greater_from_test Greater h = refl

pub equal_from_test : (r : Ordering) → is_eq r ≡ true → r ≡ Equal
equal_from_test Less h = absurd cc
equal_from_test Equal h = refl
equal_from_test Greater h = absurd cc
