-- What contracts see of a host.
use Rattle.std.specs.Prelude.{◌≡◌, ℕ, List, [], ◌∷◌, ◌++◌, map, slice_get, Option, Some, None, if◌then◌else◌}
use Rattle.disk_model.specs.Crashes.{Narrows}
use Rattle.disk_model.specs.declared.device_error.DeviceError.{DeviceError}
use Rattle.disk_model.specs.declared.device_error.DeviceError.TheVariants as device
use Rattle.disk_model.specs.declared.devices.Devices.{Devices}
use Rattle.disk_model.specs.declared.limits.TheConstants.{FOLDER}
use Rattle.disk_model.specs.declared.shelf.Shelf.{Ghosts as ShelfGhosts}
use Rattle.disk_model.specs.declared.strip.Strip.{Ghosts as StripGhosts}
use Rattle.link_model.specs.declared.source.Source.{Ghosts as SourceGhosts}
use Rattle.link_model.specs.declared.sink.Sink.{Ghosts as SinkGhosts}
use Rattle.host_model.specs.Lent.{Lent, IsHome, failed_once}

-- the bytes of each strip, by device, and the files of the shelf, each where contracts can see it
pub record DeviceBytes : Type 0 where
  pub strips : List (Option (List ℕ))
  pub files : Option (ℕ → Option (List ℕ))

-- the bytes that a source has left and those that a sink took, where contracts can see them
pub record StreamBytes : Type 0 where
  pub input : Option (List ℕ)
  pub output : Option (List ℕ)

-- the devices of a store, and the streams
pub record HostState : Type 0 where
  pub devices : Lent DeviceBytes
  pub streams : Lent StreamBytes

-- all that a host lends is at home
abbrev pub IsAllHome : HostState → Type 0
IsAllHome host = IsHome host.devices × IsHome host.streams

-- ---- devices

-- the strips by device: the log strips, then the two manifest strips
abbrev pub strips_of : {S H : Type 0} → Devices S H → List S
strips_of devices = devices.log.items ++ (devices.manifest_a ∷ (devices.manifest_b ∷ []))

-- the bytes of a strip, where contracts can see them
abbrev pub strip_bytes : {S : Type 0} → StripGhosts S → S → Option (List ℕ)
strip_bytes strip s = if strip.tells s then Some (strip.content s) else None

-- the files of a shelf, where contracts can see them
abbrev pub shelf_files : {H : Type 0} → ShelfGhosts H → H → Option (ℕ → Option (List ℕ))
shelf_files shelf h = if shelf.tells h then Some (shelf.content h) else None

abbrev pub device_bytes : {S H : Type 0} → StripGhosts S → ShelfGhosts H → Devices S H → DeviceBytes
device_bytes strip shelf devices = record {
  strips = map (strip_bytes strip) (strips_of devices);
  files = shelf_files shelf devices.shelf;
}

-- the counts of faults, by device
abbrev pub device_counts : {S H : Type 0} → StripGhosts S → ShelfGhosts H → Devices S H → List ℕ
device_counts strip shelf devices = map strip.count (strips_of devices) ++ (shelf.count devices.shelf ∷ [])

-- what a crash may leave of the strip of a device
abbrev pub StripLeaves : {S H : Type 0} → StripGhosts S → Devices S H → ℕ → List ℕ → Type 0
StripLeaves {S} strip devices device bytes = (s : S) × (slice_get (strips_of devices) device ≡ Some s) × strip.may_leave s bytes

-- what a crash may leave of the shelf
abbrev pub ShelfLeaves : {S H : Type 0} → ShelfGhosts H → Devices S H → (ℕ → Option (List ℕ)) → Type 0
ShelfLeaves shelf devices files = shelf.may_leave devices.shelf files

-- a crash may leave the same, of this as of that
abbrev pub LeavesSame : {C : Type 0} → (C → Type 0) → (C → Type 0) → Type 0
LeavesSame old new = Narrows old new × Narrows new old

-- the same of each device
abbrev pub LeaveSame : {C : Type 0} → (ℕ → C → Type 0) → (ℕ → C → Type 0) → Type 0
LeaveSame old new = (device : ℕ) → LeavesSame (old device) (new device)

-- No devices were handed out. A fault is one of the folder's, and was counted. Out of memory nothing changed.
abbrev pub HandsOutNone : DeviceError → HostState → HostState → Type 0
HandsOutNone (device.Fault unit) old new = (unit.device ≡ FOLDER) × (new ≡ record old { devices = failed_once old.devices })
HandsOutNone device.Memory old new = new ≡ old

-- ---- streams

-- the bytes of a pair of streams, where contracts can see them
abbrev pub stream_bytes : {S K : Type 0} → SourceGhosts S → SinkGhosts K → S × K → StreamBytes
stream_bytes source sink pair = record { input = source.left pair.0; output = sink.written pair.1 }

-- the counts of faults of a pair of streams
abbrev pub stream_counts : {S K : Type 0} → SourceGhosts S → SinkGhosts K → S × K → List ℕ
stream_counts source sink pair = source.faults pair.0 ∷ (sink.faults pair.1 ∷ [])
