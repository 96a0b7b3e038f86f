-- Ranges of keys. To know: `range_from`, `range_to`, `range_past`; where a range is cut in two: `left_in`, `right_in`, `not_both`, `one_of_both`.
use Rattle.std.proofs.Common.{◌≡◌, ◌⊎◌, inl, inr, ℕ, true, false, List, refl, sym, ◌∙◌}
use Rattle.std.specs.Prelude.{not, Option, Some, None, ◌&&◌}
use Rattle.std.specs.Ordering.{is_lt}
use Rattle.std.specs.declared.cmp.Ordering.{Ordering}
use Rattle.std.specs.declared.cmp.Ordering.TheVariants.{Less, Equal, Greater}
use Rattle.rdb_base.specs.Order.{key_cmp}
use Rattle.rdb_base.specs.Ranges.{NotBelow, IsBelow, is_below, in_range}
use Rattle.rdb_base.proofs.OrderLemmas.{lt_lt, le_le}

-- the test of a high bound and the statement
pub below_from : (high : Option (List ℕ)) (key : List ℕ) → is_below high key ≡ true → IsBelow high key
below_from None key h = tt
below_from (Some high) key h = by_order (key_cmp key high) refl h
  where
    by_order : (r : Ordering) → key_cmp key high ≡ r → is_lt r ≡ true → key_cmp key high ≡ Less
    by_order Less e t = e
    by_order Equal e t = absurd cc
    by_order Greater e t = absurd cc

pub below_to : (high : Option (List ℕ)) (key : List ℕ) → IsBelow high key → is_below high key ≡ true
below_to None key h = refl
below_to (Some high) key h = rw h refl

-- the test of a range and what it tells
pub range_from : (low : List ℕ) (high : Option (List ℕ)) (key : List ℕ) → in_range low high key ≡ true → NotBelow key low × IsBelow high key
range_from low high key h = by_order (key_cmp key low) refl h
  where
    by_order : (r : Ordering) → key_cmp key low ≡ r → (not (is_lt r) && is_below high key) ≡ true → NotBelow key low × IsBelow high key
    by_order Less e t = absurd cc
    by_order Equal e t = ((λ lt. let no : Equal ≡ Less = sym e ∙ lt in absurd cc), below_from high key t)
    by_order Greater e t = ((λ lt. let no : Greater ≡ Less = sym e ∙ lt in absurd cc), below_from high key t)

pub range_to : (low : List ℕ) (high : Option (List ℕ)) (key : List ℕ) → NotBelow key low → IsBelow high key → in_range low high key ≡ true
range_to low high key up below = by_order (key_cmp key low) refl
  where
    by_order : (r : Ordering) → key_cmp key low ≡ r → (not (is_lt r) && is_below high key) ≡ true
    by_order Less e = absurd (up e)
    by_order Equal e = below_to high key below
    by_order Greater e = below_to high key below

-- a key that is not in the range, and not below it: there is a high, and the key is not below that
pub range_past : (low high : List ℕ) (key : List ℕ) → NotBelow key low → in_range low (Some high) key ≡ false → NotBelow key high
range_past low high key up out lt = let e : true ≡ false = sym (range_to low (Some high) key up lt) ∙ out in absurd cc

-- ---- a range that is cut in two at a key of it

-- below a key that is below the high bound
pub below_high : (high : Option (List ℕ)) (key at : List ℕ) → IsBelow high at → key_cmp key at ≡ Less → IsBelow high key
below_high None key at up lt = tt
below_high (Some high) key at up lt = lt_lt key at high lt up

-- a key of the left part is one of the whole
pub left_in : (low : List ℕ) (high : Option (List ℕ)) (at key : List ℕ) → in_range low high at ≡ true → in_range low (Some at) key ≡ true → in_range low high key ≡ true
left_in low high at key inside h =
    let cut = range_from low high at inside in
    let part = range_from low (Some at) key h in
    range_to low high key part.0 (below_high high key at cut.1 part.1)

-- and so is one of the right part
pub right_in : (low : List ℕ) (high : Option (List ℕ)) (at key : List ℕ) → in_range low high at ≡ true → in_range at high key ≡ true → in_range low high key ≡ true
right_in low high at key inside h =
    let cut = range_from low high at inside in
    let part = range_from at high key h in
    range_to low high key (le_le low at key cut.0 part.0) part.1

-- no key is in both parts
pub not_both : (low : List ℕ) (high : Option (List ℕ)) (at key : List ℕ) → in_range low (Some at) key ≡ true → in_range at high key ≡ true → ⊥
not_both low high at key l r = (range_from at high key r).0 (range_from low (Some at) key l).1

-- each key of the whole is in one of them
pub one_of_both : (low : List ℕ) (high : Option (List ℕ)) (at key : List ℕ) → in_range low high key ≡ true → (in_range low (Some at) key ≡ true) ⊎ (in_range at high key ≡ true)
one_of_both low high at key h = by_order (key_cmp key at) refl
  where
    whole : NotBelow key low × IsBelow high key
    whole = range_from low high key h

    by_order : (r : Ordering) → key_cmp key at ≡ r → (in_range low (Some at) key ≡ true) ⊎ (in_range at high key ≡ true)
    by_order Less e = inl (range_to low (Some at) key whole.0 e)
    by_order Equal e = inr (range_to at high key (λ lt. let no : Equal ≡ Less = sym e ∙ lt in absurd cc) whole.1)
    by_order Greater e = inr (range_to at high key (λ lt. let no : Greater ≡ Less = sym e ∙ lt in absurd cc) whole.1)
