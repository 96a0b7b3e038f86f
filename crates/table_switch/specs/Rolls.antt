-- The roll of a switch: all anchors that were appended on it. Its word has their number, so an anchor is added to all of them
-- or not at all.
use Rattle.std.specs.Prelude.{◌≡◌, ℕ, ◌==◌, true, List, [], ◌∷◌, ◌++◌, length, MatchBool}
use Rattle.logbook.specs.Pages.{Book, Cell, Named, Step, View}
use Rattle.meta_trie.specs.Tries.{Anchored}

-- the kit's book has two words. The first is the number of anchors, the second is not used
abbrev pub HasCount : List Cell → List Anchored → Type 0
HasCount cells anchors = cells ≡ (length anchors, true) ∷ (0, true) ∷ []

abbrev pub head_of : Book → Named
head_of switch = record { tracked = true; key = 0; book = switch }

-- the anchor was added to all that had been seen; or there are others, and nothing was added
abbrev pub Adds : Step Anchored → View Anchored ℕ → ℕ → View Anchored ℕ → Type 0
Adds step before found after = MatchBool (found == step.old) (after.0 ≡ before.0 ++ step.ask ∷ []) (Unit {0})
