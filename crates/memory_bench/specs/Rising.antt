-- Anchors that are added rising.
use Rattle.std.specs.Prelude.{◌≡◌, ℕ, List, ◌∷◌, slice_get, Some}
use Rattle.rdb_base.specs.Ranges.{NotBelow}
use Rattle.meta_trie.specs.Tries.{Anchored, root}

-- no anchor is above this string, the empty anchor among them
abbrev pub NoneAbove : List Anchored → List ℕ → Type 0
NoneAbove added last = (place : ℕ) (a : Anchored) → slice_get (root ∷ added) place ≡ Some a → NotBelow last a.anchor
