-- Ranges of keys: from a low bound on, and below a high bound where there is one.
use Rattle.std.specs.Prelude.{◌≡◌, ℕ, Bool, true, not, ◌&&◌, List, Option, Some, None}
use Rattle.std.specs.Ordering.{is_lt}
use Rattle.std.specs.declared.cmp.Ordering.TheVariants.{Less}
use Rattle.rdb_base.specs.Order.{key_cmp}

-- the first key is not below the second
abbrev pub NotBelow : List ℕ → List ℕ → Type 0
NotBelow a b = key_cmp a b ≡ Less → ⊥

-- whether a key is below a high bound; without a bound every key is
abbrev pub is_below : Option (List ℕ) → List ℕ → Bool
is_below None key = true
is_below (Some high) key = is_lt (key_cmp key high)

-- the same as a statement
abbrev pub IsBelow : Option (List ℕ) → List ℕ → Type 0
IsBelow None key = Unit {0}
IsBelow (Some high) key = key_cmp key high ≡ Less

-- whether a key is in the range: not below low, and below high
abbrev pub in_range : List ℕ → Option (List ℕ) → List ℕ → Bool
in_range low high key = not (is_lt (key_cmp key low)) && is_below high key
