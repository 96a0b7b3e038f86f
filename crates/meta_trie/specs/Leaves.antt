-- The list of leaf entries, by columns: anchors with their leaves, and the neighbours in the order of keys.
use Rattle.std.specs.Prelude.{◌≡◌, ℕ, List, [], ◌∷◌, ◌++◌, Option, Some, None, length, map, get_or, slice_set}
use Rattle.meta_trie.specs.declared.leaf_entry.LeafEntry.{LeafEntry}
use Rattle.meta_trie.specs.Tries.{Anchored, root}

-- an entry's anchor with its leaf
abbrev pub anchored : LeafEntry → Anchored
anchored entry = record { anchor = entry.anchor.items; leaf = entry.leaf }

-- all anchors with their leaves, the empty one first
abbrev pub all_of : List LeafEntry → List Anchored
all_of leaves = map anchored leaves

-- the anchors after the first one
abbrev pub rest_of : List Anchored → List Anchored
rest_of [] = []
rest_of (first ∷ rest) = rest

-- the empty anchor, with leaf 0, is the first
abbrev pub BeginsWithRoot : List Anchored → Type 0
BeginsWithRoot all = all ≡ root ∷ rest_of all

-- the place of each entry's lower neighbour
abbrev pub previouses : List LeafEntry → List ℕ
previouses leaves = map (λ entry. entry.previous) leaves

-- the place of each entry's upper neighbour, where there is one
abbrev pub nexts : List LeafEntry → List (Option ℕ)
nexts leaves = map (λ entry. entry.next) leaves

-- that of one entry
abbrev pub next_at : List (Option ℕ) → ℕ → Option ℕ
next_at nexts place = get_or nexts place None

-- ---- one entry more, after this place in the order of keys

-- the lower neighbours: the new entry is that of what was next to the place
abbrev pub previouses_with : List ℕ → Option ℕ → ℕ → List ℕ
previouses_with previous None place = previous ++ place ∷ []
previouses_with previous (Some next) place = slice_set previous next (length previous) ++ place ∷ []

-- the upper neighbours: the new entry is that of the place
abbrev pub nexts_with : List (Option ℕ) → ℕ → List (Option ℕ)
nexts_with nexts place = slice_set nexts place (Some (length nexts)) ++ next_at nexts place ∷ []
