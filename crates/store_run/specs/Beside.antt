-- The devices of a store beside the strip of its log.
use Rattle.std.specs.Prelude.{◌≡◌, List, [], ◌∷◌}
use Rattle.disk_model.specs.declared.devices.Devices.{Devices}

-- the strips 1 to 7, those of the manifest, and the shelf
pub record Beside (S H : Type 0) : Type 0 where
  pub strips : List S
  pub manifest_a : S
  pub manifest_b : S
  pub shelf : H

-- These devices have one strip of which this holds, and then those that lie beside it.
pub record HasFirst {S H : Type 0} (devices : Devices S H) (beside : Beside S H) (P : S → Type 0) : Type 0 where
  pub first : S
  pub strips : devices.log.items ≡ first ∷ beside.strips
  pub manifest_a : devices.manifest_a ≡ beside.manifest_a
  pub manifest_b : devices.manifest_b ≡ beside.manifest_b
  pub shelf : devices.shelf ≡ beside.shelf
  pub holds : P first

-- All devices stay but the first strip, and of what it was and what it is this holds.
pub record OthersStay {S H : Type 0} (old new : Devices S H) (P : S → S → Type 0) : Type 0 where
  pub beside : Beside S H
  pub was : S
  pub before : HasFirst old beside (λ s. s ≡ was)
  pub now : HasFirst new beside (P was)
