-- The order of keys, by what is not below. To know: `lt_lt`, `le_lt`, `lt_le`, `le_le`, `both_same`.
use Rattle.std.proofs.Common.{◌≡◌, ℕ, List, refl, sym, ◌∙◌}
use Rattle.std.specs.declared.cmp.Ordering.{Ordering}
use Rattle.std.specs.declared.cmp.Ordering.TheVariants.{Less, Equal, Greater}
use Rattle.rdb_base.specs.Order.{key_cmp}
use Rattle.rdb_base.proofs.KeyOrder.{total, same_key, key_cmp-same, turned_greater}
use Rattle.rdb_base.specs.Ranges.{NotBelow}

-- a key is not below itself
pub irreflexive : (a : List ℕ) → NotBelow a a
irreflexive a h = let e : Equal ≡ Less = sym (key_cmp-same a) ∙ h in absurd cc

-- below, twice
pub lt_lt : (a b c : List ℕ) → key_cmp a b ≡ Less → key_cmp b c ≡ Less → key_cmp a c ≡ Less
lt_lt a b c = total.trans a b c

-- a is at most b, and b is below c
pub le_lt : (a b c : List ℕ) → NotBelow b a → key_cmp b c ≡ Less → key_cmp a c ≡ Less
le_lt a b c up lt = by_order (key_cmp a b) refl
  where
    by_order : (r : Ordering) → key_cmp a b ≡ r → key_cmp a c ≡ Less
    by_order Less h = lt_lt a b c h lt
    by_order Equal h = total.congr a b c h ∙ lt
    by_order Greater h = absurd (up (turned_greater a b h))

-- a is below b, and b is at most c
pub lt_le : (a b c : List ℕ) → key_cmp a b ≡ Less → NotBelow c b → key_cmp a c ≡ Less
lt_le a b c lt up = by_order (key_cmp b c) refl
  where
    by_order : (r : Ordering) → key_cmp b c ≡ r → key_cmp a c ≡ Less
    by_order Less h = lt_lt a b c lt h
    by_order Equal h = let e = same_key b c h in rw (sym e) lt
    by_order Greater h = absurd (up (turned_greater b c h))

-- at most, twice
pub le_le : (a b c : List ℕ) → NotBelow b a → NotBelow c b → NotBelow c a
le_le a b c one two h = two (lt_le c a b h one)

-- below, and so not above
pub lt_not : (a b : List ℕ) → key_cmp a b ≡ Less → NotBelow b a
lt_not a b h g = irreflexive a (lt_lt a b a h g)

-- not below either way is the same
pub both_same : (a b : List ℕ) → NotBelow a b → NotBelow b a → a ≡ b
both_same a b up down = by_order (key_cmp a b) refl
  where
    by_order : (r : Ordering) → key_cmp a b ≡ r → a ≡ b
    by_order Less h = absurd (up h)
    by_order Equal h = same_key a b h
    by_order Greater h = absurd (down (turned_greater a b h))
