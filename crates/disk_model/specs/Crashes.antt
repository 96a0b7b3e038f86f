-- What a crash may leave of a device, now and since an earlier moment. `C` is what a device holds.
use Rattle.std.specs.Prelude.{◌≡◌, ◌⊎◌, ℕ, ◌≤◌}

-- an old outcome of a crash after a step
abbrev pub IsStepOf : {C : Type 0} → (C → C → Type 0) → (C → Type 0) → C → Type 0
IsStepOf {C} step old c = (d : C) × old d × step d c

-- each new outcome of a crash is an old outcome after a step
abbrev pub Follows : {C : Type 0} → (C → C → Type 0) → (C → Type 0) → (C → Type 0) → Type 0
Follows {C} step old new = (c : C) → new c → IsStepOf step old c

-- each new outcome of a crash was an outcome before
abbrev pub Narrows : {C : Type 0} → (C → Type 0) → (C → Type 0) → Type 0
Narrows {C} old new = (c : C) → new c → old c

-- a crash leaves this and nothing else
abbrev pub Only : {C : Type 0} → C → (C → Type 0) → Type 0
Only {C} content outcomes = (c : C) → outcomes c → c ≡ content

-- time goes on in a call: a crash since t might have left what it might have left before, or what it may leave now
pub record Elapses {C : Type 0} (before now : ℕ) (past since : ℕ → C → Type 0) (may_leave : C → Type 0) : Type 0 where
  pub later : before ≤ now
  pub nothing_else : (t : ℕ) (c : C) → t ≤ before → since t c → past t c ⊎ may_leave c
  pub keeps : (t : ℕ) (c : C) → t ≤ before → past t c → since t c

-- Time goes on in several calls: a crash since t might have left what it might have left before them, or what it might
-- have left since they began.
pub record IsSpan {C : Type 0} (before now : ℕ) (past since : ℕ → C → Type 0) : Type 0 where
  pub later : before ≤ now
  pub nothing_else : (t : ℕ) (c : C) → t ≤ before → since t c → past t c ⊎ since before c
  pub keeps : (t : ℕ) (c : C) → t ≤ before → past t c → since t c
