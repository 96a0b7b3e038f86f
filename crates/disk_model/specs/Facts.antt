-- What stays of a device, whatever calls are made of it, and the devices of a store.
use Rattle.std.specs.Prelude.{◌≡◌, ℕ, Bool, length, slice_get, Some}
use Rattle.disk_model.specs.Books.{BookName}
use Rattle.disk_model.specs.declared.devices.Devices.{Devices}
use Rattle.disk_model.specs.declared.limits.TheConstants.{LOG_STRIPS, MANIFEST_A, MANIFEST_B, SHELF}
use Rattle.disk_model.specs.declared.shelf.Shelf as shelves
use Rattle.disk_model.specs.declared.strip.Strip as strips

-- its book, and whether contracts see its content and its crash images
pub record DeviceFacts : Type 0 where
  pub book : BookName
  pub tells : Bool
  pub tells_images : Bool

abbrev pub strip_facts : {S : Type 0} → strips.Ghosts S → S → DeviceFacts
strip_facts strip s = record { book = strip.book s; tells = strip.tells s; tells_images = strip.tells_images s }

abbrev pub shelf_facts : {H : Type 0} → shelves.Ghosts H → H → DeviceFacts
shelf_facts shelf h = record { book = shelf.book h; tells = shelf.tells h; tells_images = shelf.tells_images h }

-- there are eight log strips, and each book has its device's number
pub record AreDevices {S H : Type 0} (strip : strips.Ghosts S) (shelf : shelves.Ghosts H) (devices : Devices S H) : Type 0 where
  pub strips : length devices.log.items ≡ LOG_STRIPS
  pub log : (device : ℕ) (s : S) → slice_get devices.log.items device ≡ Some s → (strip.book s).device ≡ device
  pub manifest_a : (strip.book devices.manifest_a).device ≡ MANIFEST_A
  pub manifest_b : (strip.book devices.manifest_b).device ≡ MANIFEST_B
  pub shelf_book : (shelf.book devices.shelf).device ≡ SHELF
