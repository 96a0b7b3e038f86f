-- What a crash might have left at earlier moments. `leaves` says what a crash leaves of one state.
use Rattle.std.specs.Prelude.{◌⊎◌, ℕ, List, [], ◌∷◌, drop}

-- at the moment of one of these states
abbrev pub LeftIn : {F C : Type 0} → (F → C → Type 0) → List F → C → Type 0
LeftIn leaves [] c = ⊥
LeftIn leaves (state ∷ states) c = leaves state c ⊎ LeftIn leaves states c

-- at some moment from t on, where these states were before now
abbrev pub LeftSince : {F C : Type 0} → (F → C → Type 0) → List F → F → ℕ → C → Type 0
LeftSince leaves past now t c = leaves now c ⊎ LeftIn leaves (drop t past) c
