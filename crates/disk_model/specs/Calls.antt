-- What each call of a device keeps to, whatever it answers.
use Rattle.std.specs.Prelude.{◌≡◌, ℕ, ◌+◌, ◌≤◌, Bool, IsTrue, Result}
use Rattle.fault_count.specs.Causes.{HasCause}
use Rattle.disk_model.specs.Books.{BookName}
use Rattle.disk_model.specs.Causes.{CauseOf}
use Rattle.disk_model.specs.Crashes.{Elapses}
use Rattle.disk_model.specs.declared.device_error.DeviceError.{DeviceError}

-- this holds of a device where contracts see what it speaks of
abbrev pub IfTold : Bool → Type 0 → Type 0
IfTold told P = IsTrue told → P

-- One call took a device from old to new: it is the same device, as much of it is seen, it counts at most this call,
-- time goes on, and a fault is one unit of its own book.
pub record IsCall {S T C : Type 0} (book_of : S → BookName) (count_of calls_of : S → ℕ) (tells_of images_of : S → Bool) (moment_of : S → ℕ)
    (since : S → ℕ → C → Type 0) (leaves : S → C → Type 0) (old new : S) (result : Result T DeviceError) : Type 0 where
  pub book : book_of new ≡ book_of old
  pub tells : tells_of new ≡ tells_of old
  pub tells_images : images_of new ≡ images_of old
  pub calls : calls_of new ≤ calls_of old + 1
  pub time : Elapses (moment_of old) (moment_of new) (since old) (since new) (leaves new)
  pub cause : HasCause (CauseOf (book_of old)) (count_of old) (count_of new) result
