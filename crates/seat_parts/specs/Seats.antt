-- A rule over one word and over the parts of all seats, and what a step makes of them.
use Rattle.std.specs.Prelude.{◌≡◌, ℕ, ◌+◌, List, [], ◌∷◌, ◌++◌}
use Rattle.atomic_table.specs.Table.{State, Step, Me}

-- what the members of a list weigh together
abbrev pub weigh : {X : Type 0} → (X → ℕ) → List X → ℕ
weigh f [] = 0
weigh f (x ∷ xs) = f x + weigh f xs

-- the parts of all seats
abbrev pub parts_of : {X : Type 0} → List (List X) → List X
parts_of [] = []
parts_of (v ∷ vs) = v ++ parts_of vs

-- the table has one word, and the rule holds of it and of the parts of all seats
pub record Holds {X : Type 0} (Rule : ℕ → List X → Type 0) (s : State ℕ (List X)) : Type 0 where
  pub word : ℕ
  pub words_are : s.words ≡ word ∷ []
  pub rule : Rule word (parts_of s.views)

-- what a step tells of the parts that its seat had, the word that it found and the parts that its seat then has; no slot is taken
abbrev pub Told : {X : Type 0} → (List X → ℕ → List X → Type 0) → Step ℕ → Me ℕ (List X) → ℕ → Me ℕ (List X) → Type 0
Told tells s me found after = (after.1 ≡ me.1) × tells me.0 found after.0

-- whatever the word and the others' parts are, the parts v become parts that keep the rule, when the word becomes f of what it was
abbrev pub Goes : {X : Type 0} → (ℕ → List X → Type 0) → List X → (ℕ → ℕ) → (ℕ → List X → Type 0) → Type 0
Goes {X} Rule v f tells = (n : ℕ) (others : List X) → Rule n (v ++ others) → (w : List X) × Rule (f n) (w ++ others) × tells n w

-- the same where the word stays, and the new parts are known beforehand
abbrev pub Becomes : {X : Type 0} → (ℕ → List X → Type 0) → List X → List X → Type 0
Becomes {X} Rule v w = (n : ℕ) (others : List X) → Rule n (v ++ others) → Rule n (w ++ others)

-- all members but the last
abbrev pub but_last : {X : Type 0} → List X → List X
but_last [] = []
but_last (x ∷ []) = []
but_last (x ∷ y ∷ ys) = x ∷ but_last (y ∷ ys)

-- the last member alone
abbrev pub last : {X : Type 0} → List X → List X
last [] = []
last (x ∷ []) = x ∷ []
last (x ∷ y ∷ ys) = last (y ∷ ys)
