-- Devices of which a script uses the first strip alone. The lemmas to know are `home_first` and `counts_again`.
use Rattle.std.proofs.Common.{◌≡◌, ℕ, ◌^◌, ◌<◌, ◌≤◌, List, [], ◌∷◌, ◌++◌, map, drop, Option, Some, refl, sym, ap, subst, ◌∙◌}
use Rattle.std.specs.Prelude.{slice_get}
use Rattle.disk_model.specs.declared.devices.Devices.{Devices}
use Rattle.disk_model.specs.declared.shelf.Shelf.{Ghosts as ShelfGhosts}
use Rattle.disk_model.specs.declared.strip.Strip.{Ghosts as StripGhosts}
use Rattle.disk_model.specs.Facts.{AreDevices}
use Rattle.host_model.specs.Lent.{NoneFell, AreWithin, risen}
use Rattle.host_model.specs.HostState.{DeviceBytes, StripLeaves, device_bytes, device_counts, strip_bytes, shelf_files}
use Rattle.host_model.proofs.HostLemmas.{WithFirst, other_counts, counts-first, risen-first, none_fell-same}
use Rattle.store_run.specs.Beside.{Beside, HasFirst}
use Rattle.remixdb.specs.Scripts.{first_bytes, devices_at_home}

some_is : {S : Type 0} (a b : S) → Some a ≡ Some b → a ≡ b
some_is a b e = cc

-- devices with a first strip, as the store says it
pub with_first : {S H : Type 0} (devices : Devices S H) (beside : Beside S H) (P : S → Type 0) (h : HasFirst devices beside P) → WithFirst devices h.first beside.strips beside.manifest_a beside.manifest_b beside.shelf
with_first devices beside P h = record { strips_are = h.strips; manifest_a = h.manifest_a; manifest_b = h.manifest_b; shelf_is = h.shelf }

-- what is seen of the first strip, and of the others
pub first-seen : {S H : Type 0} (strip : StripGhosts S) (shelf : ShelfGhosts H) (devices : Devices S H) (first : S) (strips : List S) (a b : S) (h : H) → WithFirst devices first strips a b h → first_bytes (device_bytes strip shelf devices).strips ≡ strip_bytes strip first
first-seen strip shelf devices first strips a b h w = rw (w.strips_are) refl

pub others-seen : {S H : Type 0} (strip : StripGhosts S) (shelf : ShelfGhosts H) (devices : Devices S H) (first : S) (strips : List S) (a b : S) (h : H) → WithFirst devices first strips a b h → drop 1 (device_bytes strip shelf devices).strips ≡ map (strip_bytes strip) (strips ++ (a ∷ (b ∷ [])))
others-seen strip shelf devices first strips a b h w = rw (w.strips_are, w.manifest_a, w.manifest_b) refl

pub files-seen : {S H : Type 0} (strip : StripGhosts S) (shelf : ShelfGhosts H) (devices : Devices S H) (first : S) (strips : List S) (a b : S) (h : H) → WithFirst devices first strips a b h → (device_bytes strip shelf devices).files ≡ shelf_files shelf h
files-seen strip shelf devices first strips a b h w = rw (w.shelf_is) refl

-- what a crash may leave of device 0 it may leave of the first strip
pub first-leaves : {S H : Type 0} (strip : StripGhosts S) (devices : Devices S H) (first : S) (strips : List S) (a b : S) (h : H) (bytes : List ℕ) → WithFirst devices first strips a b h → StripLeaves strip devices 0 bytes → strip.may_leave first bytes
first-leaves {S} strip devices first strips a b h bytes w (s, at, left) =
    let here : slice_get (first ∷ strips) 0 ≡ Some s = subst (λ (xs : List S). slice_get (xs ++ (devices.manifest_a ∷ (devices.manifest_b ∷ []))) 0 ≡ Some s) w.strips_are at in
    subst (λ (x : S). strip.may_leave x bytes) (sym (some_is first s here)) left

-- what a crash may leave of the first strip it may leave of device 0
pub leaves-first : {S H : Type 0} (strip : StripGhosts S) (devices : Devices S H) (first : S) (strips : List S) (a b : S) (h : H) (bytes : List ℕ) → WithFirst devices first strips a b h → strip.may_leave first bytes → StripLeaves strip devices 0 bytes
leaves-first strip devices first strips a b h bytes w left = (first, rw (w.strips_are) refl, left)

-- their counts before and after, of which that of the first strip alone rose
pub counts_again : {S H : Type 0} (strip : StripGhosts S) (shelf : ShelfGhosts H) (old new : Devices S H) (first again : S) (strips : List S) (a b : S) (h : H) → WithFirst old first strips a b h → WithFirst new again strips a b h → strip.count first ≤ strip.count again → NoneFell (device_counts strip shelf old) (device_counts strip shelf new)
counts_again strip shelf old new first again strips a b h was is later = rw (counts-first strip shelf old first strips a b h was, counts-first strip shelf new again strips a b h is) (later, none_fell-same (other_counts strip shelf strips a b h))

-- the same, where the first strip has another name
pub with_was : {S H : Type 0} (devices : Devices S H) (beside : Beside S H) (was : S) (h : HasFirst devices beside (λ (s : S). s ≡ was)) → WithFirst devices was beside.strips beside.manifest_a beside.manifest_b beside.shelf
with_was {S} devices beside was h = record { strips_are = h.strips ∙ ap (λ (s : S). s ∷ beside.strips) h.holds; manifest_a = h.manifest_a; manifest_b = h.manifest_b; shelf_is = h.shelf }

-- the first strip is device 0, and its count is within the host's
pub first-device : {S H : Type 0} (strip : StripGhosts S) (shelf : ShelfGhosts H) (devices : Devices S H) (first : S) (strips : List S) (a b : S) (h : H) → WithFirst devices first strips a b h → AreDevices strip shelf devices → (strip.book first).device ≡ 0
first-device {S} strip shelf devices first strips a b h w are = are.log 0 first (rw (w.strips_are) refl)

pub within-first : {S H : Type 0} (strip : StripGhosts S) (shelf : ShelfGhosts H) (devices : Devices S H) (first : S) (strips : List S) (a b : S) (h : H) (faults : ℕ) → WithFirst devices first strips a b h → AreWithin faults (device_counts strip shelf devices) → (strip.count first ≤ faults) × (strip.count first < 2 ^ 64)
within-first strip shelf devices first strips a b h faults w within = (subst (λ (counts : List ℕ). AreWithin faults counts) (counts-first strip shelf devices first strips a b h w) within).0

-- the host's faults rose by those of the first strip
pub faults-first : {S H : Type 0} (strip : StripGhosts S) (shelf : ShelfGhosts H) (old new : Devices S H) (first again : S) (strips : List S) (a b : S) (h : H) (faults out : ℕ) → WithFirst old first strips a b h → WithFirst new again strips a b h → out ≡ risen faults (device_counts strip shelf old) (device_counts strip shelf new) → out ≡ risen faults (strip.count first ∷ []) (strip.count again ∷ [])
faults-first strip shelf old new first again strips a b h faults out was is e =
    e ∙ ap (λ (counts : List ℕ). risen faults counts (device_counts strip shelf new)) (counts-first strip shelf old first strips a b h was)
    ∙ ap (λ (counts : List ℕ). risen faults (strip.count first ∷ other_counts strip shelf strips a b h) counts) (counts-first strip shelf new again strips a b h is)
    ∙ risen-first faults (strip.count first) (strip.count again) (other_counts strip shelf strips a b h)

-- the other devices stay, as a host tells them
pub others_stay : {S H : Type 0} (strip : StripGhosts S) (shelf : ShelfGhosts H) (old new : Devices S H) (first again : S) (strips : List S) (a b : S) (h : H) (was now : Option DeviceBytes) → WithFirst old first strips a b h → WithFirst new again strips a b h → was ≡ Some (device_bytes strip shelf old) → now ≡ Some (device_bytes strip shelf new)
    → (drop 1 (devices_at_home now).strips ≡ drop 1 (devices_at_home was).strips) × ((devices_at_home now).files ≡ (devices_at_home was).files)
others_stay strip shelf old new first again strips a b h was now w0 w1 is_was is_now = (
  ap (λ (o : Option DeviceBytes). drop 1 (devices_at_home o).strips) is_now ∙ others-seen strip shelf new again strips a b h w1 ∙ sym (others-seen strip shelf old first strips a b h w0) ∙ sym (ap (λ (o : Option DeviceBytes). drop 1 (devices_at_home o).strips) is_was),
  ap (λ (o : Option DeviceBytes). (devices_at_home o).files) is_now ∙ files-seen strip shelf new again strips a b h w1 ∙ sym (files-seen strip shelf old first strips a b h w0) ∙ sym (ap (λ (o : Option DeviceBytes). (devices_at_home o).files) is_was),
)

-- the first strip, as a host tells it
pub strip_at_home : {S H : Type 0} (strip : StripGhosts S) (shelf : ShelfGhosts H) (devices : Devices S H) (first : S) (strips : List S) (a b : S) (h : H) (home : Option DeviceBytes) → WithFirst devices first strips a b h → home ≡ Some (device_bytes strip shelf devices) → first_bytes (devices_at_home home).strips ≡ strip_bytes strip first
strip_at_home strip shelf devices first strips a b h home w is = ap (λ (o : Option DeviceBytes). first_bytes (devices_at_home o).strips) is ∙ first-seen strip shelf devices first strips a b h w
