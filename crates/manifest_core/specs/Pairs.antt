-- Two strips, and what crashes leave of both.
use Rattle.std.specs.Prelude.{◌≡◌, ℕ, ◌+◌, ◌≤◌, List}
use Rattle.disk_model.specs.declared.strip.Strip.{Ghosts}
use Rattle.disk_model.specs.Calls.{IfTold}
use Rattle.frame_journal.specs.Devices.{Spans}

-- if contracts see the bytes of both strips
abbrev pub IfBoth : {S : Type 0} → Ghosts S → S → S → Type 0 → Type 0
IfBoth strip a b P = IfTold (strip.tells a) (IfTold (strip.tells b) P)

-- this holds of the bytes of both, as a read gives them
abbrev pub OfBothBytes : {S : Type 0} → Ghosts S → S → S → (List ℕ → List ℕ → Type 0) → Type 0
OfBothBytes strip a b P = IfBoth strip a b (P (strip.content a) (strip.content b))

-- this holds of each image that a crash now may leave of the one, with each that it may leave of the other
abbrev pub OfBothImages : {S : Type 0} → Ghosts S → S → S → (List ℕ → List ℕ → Type 0) → Type 0
OfBothImages strip a b P = IfBoth strip a b ((x y : List ℕ) → strip.may_leave a x → strip.may_leave b y → P x y)

-- it holds of both: as a read gives them, and as a crash may leave them
pub record StandNow {S : Type 0} (strip : Ghosts S) (a b : S) (P : List ℕ → List ℕ → Type 0) : Type 0 where
  pub content : OfBothBytes strip a b P
  pub images : OfBothImages strip a b P

-- Calls took two strips from old to new. Whatever moment of these calls a crash takes of the one strip, and whatever
-- moment of the other, this holds of what is left.
abbrev pub OfBothCrashes : {S : Type 0} → Ghosts S → S → S → S → S → (List ℕ → List ℕ → Type 0) → Type 0
OfBothCrashes strip old_a old_b new_a new_b P = IfBoth strip old_a old_b
    ((x y : List ℕ) → strip.left_since new_a (strip.moment old_a) x → strip.left_since new_b (strip.moment old_b) y → P x y)

-- at most so many calls took two strips from old to new, and this holds of what crashes within them leave
pub record PairCalls {S : Type 0} (strip : Ghosts S) (most : ℕ) (old_a old_b new_a new_b : S) (P : List ℕ → List ℕ → Type 0) : Type 0 where
  pub crash : OfBothCrashes strip old_a old_b new_a new_b P
  pub time : Spans strip old_a new_a × Spans strip old_b new_b
  pub calls : strip.calls new_a + strip.calls new_b ≤ strip.calls old_a + strip.calls old_b + most
  pub book : (strip.book new_a ≡ strip.book old_a) × (strip.book new_b ≡ strip.book old_b)
  pub tells : (strip.tells new_a ≡ strip.tells old_a) × (strip.tells new_b ≡ strip.tells old_b)
  pub tells_images : (strip.tells_images new_a ≡ strip.tells_images old_a) × (strip.tells_images new_b ≡ strip.tells_images old_b)
