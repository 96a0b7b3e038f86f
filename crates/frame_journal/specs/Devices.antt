-- What calls of a strip leave of it, however many they are.
use Rattle.std.specs.Prelude.{◌≡◌, ℕ, ◌+◌, ◌≤◌, List, Result}
use Rattle.disk_model.specs.declared.device_error.DeviceError.{DeviceError}
use Rattle.disk_model.specs.declared.strip.Strip.{Ghosts}
use Rattle.fault_count.specs.Causes.{HasCause}
use Rattle.disk_model.specs.Causes.{CauseOf}
use Rattle.disk_model.specs.Calls.{IfTold}
use Rattle.disk_model.specs.Crashes.{Only, IsSpan}

-- it is the same strip, of which at most so many calls were made
pub record SameStrip {S : Type 0} (strip : Ghosts S) (most : ℕ) (old new : S) : Type 0 where
  pub book : strip.book new ≡ strip.book old
  pub tells : strip.tells new ≡ strip.tells old
  pub tells_images : strip.tells_images new ≡ strip.tells_images old
  pub calls : strip.calls new ≤ strip.calls old + most

-- an answer has its cause in the strip's book: each fault is a unit of it, drawn by these calls, and nothing else was
abbrev pub CauseIn : {S T : Type 0} → Ghosts S → S → S → Result T DeviceError → Type 0
CauseIn strip old new result = HasCause (CauseOf (strip.book old)) (strip.count old) (strip.count new) result

-- this holds of a strip's bytes, if contracts see them
abbrev pub OfBytes : {S : Type 0} → Ghosts S → S → (List ℕ → Type 0) → Type 0
OfBytes strip s P = IfTold (strip.tells s) (P (strip.content s))

-- a crash leaves what a read gives, if contracts see the strip's bytes
abbrev pub IsSynced : {S : Type 0} → Ghosts S → S → Type 0
IsSynced strip s = IfTold (strip.tells s) (Only (strip.content s) (strip.may_leave s))

-- the bytes stay, if contracts see them
abbrev pub KeepsBytes : {S : Type 0} → Ghosts S → S → S → Type 0
KeepsBytes strip old new = OfBytes strip new (λ bytes. bytes ≡ strip.content old)

-- this holds of each image that a crash now may leave, if contracts see the strip's bytes
abbrev pub OfImages : {S : Type 0} → Ghosts S → S → (List ℕ → Type 0) → Type 0
OfImages strip s P = IfTold (strip.tells s) ((c : List ℕ) → strip.may_leave s c → P c)

-- this holds of each image that a crash may leave at some moment of the calls that took the strip from old to new, if
-- contracts see the strip's bytes
abbrev pub OfCrashes : {S : Type 0} → Ghosts S → S → S → (List ℕ → Type 0) → Type 0
OfCrashes strip old new P = IfTold (strip.tells old) ((c : List ℕ) → strip.left_since new (strip.moment old) c → P c)

-- at each moment of these calls a crash leaves only what it might have left before them
abbrev pub LeavesNoMore : {S : Type 0} → Ghosts S → S → S → Type 0
LeavesNoMore strip old new = (c : List ℕ) → strip.left_since new (strip.moment old) c → strip.may_leave old c

-- time went on in calls that took the strip from old to new
abbrev pub Spans : {S : Type 0} → Ghosts S → S → S → Type 0
Spans strip old new = IsSpan (strip.moment old) (strip.moment new) (strip.left_since old) (strip.left_since new)
