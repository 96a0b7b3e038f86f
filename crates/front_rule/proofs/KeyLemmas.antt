-- The range of all keys. To know: `in_range_all`.
use Rattle.std.proofs.Common.{◌≡◌, ℕ, true, List, [], ◌∷◌, None, refl}
use Rattle.rdb_base.specs.Ranges.{in_range}

-- it has every key
pub in_range_all : (key : List ℕ) → in_range [] None key ≡ true
in_range_all [] = refl
in_range_all (x ∷ xs) = refl
