-- The devices of a process: whose failures they count, and how many there were.
use Rattle.std.specs.Prelude.{◌≡◌, ℕ, slice_get, Some}
use Rattle.disk_model.specs.Books.{BookState}
use Rattle.disk_model.specs.declared.devices.Devices.{Devices}
use Rattle.disk_model.specs.declared.limits.TheConstants.{SHELF}
use Rattle.disk_real.specs.declared.real_strip.StripKind.{StripKind}
use Rattle.disk_real.specs.declared.real_strip.StripKind.TheVariants as strips
use Rattle.disk_real.specs.declared.real_shelf.ShelfKind.{ShelfKind}
use Rattle.disk_real.specs.declared.real_shelf.ShelfKind.TheVariants as shelves

-- the book of a strip; one in memory never fails
abbrev pub strip_book : {R : Type 0} → StripKind R → BookState
strip_book (strips.File strip) = strip
strip_book (strips.Memory strip) = record { name = strip.book; count = 0 }

abbrev pub shelf_book : {R : Type 0} → ShelfKind R → BookState
shelf_book (shelves.Files shelf) = shelf
shelf_book (shelves.Memory shelf) = record { name = record { device = SHELF }; count = 0 }

-- none of these devices has failed yet
pub record HaveNotFailed (devices : Devices BookState BookState) : Type 0 where
  pub log : (device : ℕ) (s : BookState) → slice_get devices.log.items device ≡ Some s → s.count ≡ 0
  pub manifest_a : devices.manifest_a.count ≡ 0
  pub manifest_b : devices.manifest_b.count ≡ 0
  pub shelf : devices.shelf.count ≡ 0
