-- What a crash may leave of the devices that a host in memory has at home.
use Rattle.std.specs.Prelude.{ℕ, List, Option, Some, None}
use Rattle.disk_model.specs.declared.devices.Devices.{Devices}
use Rattle.disk_model.specs.declared.shelf.Shelf.{Ghosts as ShelfGhosts}
use Rattle.disk_model.specs.declared.strip.Strip.{Ghosts as StripGhosts}
use Rattle.host_model.specs.HostState.{StripLeaves, ShelfLeaves}

-- of the strip of a device; nothing where the devices are out
abbrev pub StripLeavesHome : {S H : Type 0} → StripGhosts S → Option (Devices S H) → ℕ → List ℕ → Type 0
StripLeavesHome strip (Some devices) device bytes = StripLeaves strip devices device bytes
StripLeavesHome strip None device bytes = ⊥

-- of the shelf
abbrev pub ShelfLeavesHome : {S H : Type 0} → ShelfGhosts H → Option (Devices S H) → (ℕ → Option (List ℕ)) → Type 0
ShelfLeavesHome shelf (Some devices) files = ShelfLeaves shelf devices files
ShelfLeavesHome shelf None files = ⊥
