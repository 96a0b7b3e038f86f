-- The bytes of a strip in memory: what a read gives, what was synced last, and what changed since then.
use Rattle.std.specs.Prelude.{◌≡◌, ◌⊎◌, ℕ, zero, suc, ◌+◌, ◌≤◌, ◌%◌, List, [], ◌∷◌, ◌++◌, length, take, drop}
use Rattle.disk_model.specs.Strips.{Torn, Cut}
use Rattle.disk_model.specs.declared.change.Change.{Change}
use Rattle.disk_model.specs.declared.change.Change.TheVariants.{Written, CutTo}
use Rattle.disk_model.specs.declared.limits.TheConstants.{ERASED_BYTE, STRAY_BYTE}

pub record FileState : Type 0 where
  pub bytes : List ℕ
  pub synced : List ℕ
  pub changes : List Change

-- what an unsynced change may make of the bytes on a disk
abbrev pub Alters : Change → List ℕ → List ℕ → Type 0
Alters (Written at count) from image = Torn at count from image
Alters (CutTo at) from image = Cut at from image

-- what unsynced changes may make of them, oldest first
abbrev pub AlterAll : List Change → List ℕ → List ℕ → Type 0
AlterAll [] from image = image ≡ from
AlterAll (change ∷ changes) from image = (mid : List ℕ) × Alters change from mid × AlterAll changes mid image

-- what a crash may leave: what a read gives, or what the changes may make of the bytes that were synced
abbrev pub MayLeave : FileState → List ℕ → Type 0
MayLeave file image = (image ≡ file.bytes) ⊎ AlterAll file.changes file.synced image

-- a file's parts agree: up to a place nothing changed, each buffer has room for the other's bytes, and the changes
-- lead from the synced bytes to those that a read gives
pub record IsSoundFile (bytes synced : List ℕ) (changes : List Change) (same capacity synced_capacity : ℕ) : Type 0 where
  pub front : take same synced ≡ take same bytes
  pub within : same ≤ length bytes
  pub within_synced : same ≤ length synced
  pub room : length synced ≤ capacity
  pub synced_room : length bytes ≤ synced_capacity
  pub own : AlterAll changes synced bytes

-- these bytes with another in place of each in a range
unfoldable pub marked_in : ℕ → List ℕ → ℕ → ℕ → List ℕ
marked_in byte [] at count = []
marked_in byte (b ∷ bytes) zero zero = b ∷ bytes
marked_in byte (b ∷ bytes) zero (suc count) = byte ∷ marked_in byte bytes zero count
marked_in byte (b ∷ bytes) (suc at) count = b ∷ marked_in byte bytes at count

-- with this byte in place of each that a change was to write
abbrev pub marked_by : ℕ → Change → List ℕ → List ℕ
marked_by byte (Written at count) bytes = marked_in byte bytes at count
marked_by byte (CutTo at) bytes = bytes

-- with this byte in place of each that one of these changes was to write
abbrev pub marked : ℕ → List Change → List ℕ → List ℕ
marked byte [] bytes = bytes
marked byte (change ∷ changes) bytes = marked byte changes (marked_by byte change bytes)

-- what is left by each of the four crashes that can be picked
abbrev pub left_by : ℕ → FileState → List ℕ
left_by zero file = file.synced
left_by (suc zero) file = file.bytes
left_by (suc (suc zero)) file = marked ERASED_BYTE file.changes file.bytes
left_by other file = marked STRAY_BYTE file.changes file.bytes

-- what is left by the crash that is picked
abbrev pub crash_image : ℕ → FileState → List ℕ
crash_image pick file = left_by (pick % 4) file

-- the bytes with a piece at this place
abbrev pub written : ℕ → List ℕ → List ℕ → List ℕ
written at piece bytes = take at bytes ++ piece ++ drop (at + length piece) bytes

-- one unsynced change more
abbrev pub changed : Change → FileState → FileState
changed change file = record file { changes = file.changes ++ change ∷ [] }

-- a file after a write, after a cut, after a sync
abbrev pub file_written : ℕ → List ℕ → FileState → FileState
file_written at piece file = record (changed (Written at (length piece)) file) { bytes = written at piece file.bytes }

abbrev pub file_cut : ℕ → FileState → FileState
file_cut at file = record (changed (CutTo at) file) { bytes = take at file.bytes }

abbrev pub file_of : List ℕ → FileState
file_of bytes = record { bytes = bytes; synced = bytes; changes = [] }
