-- A cursor over newer rows above a set: what it stands at, and the rows that are left.
use Rattle.std.specs.Prelude.{◌≡◌, ℕ, Bool, false, List, [], ◌∷◌, drop, slice_get, Option, Some, None}
use Rattle.std.specs.declared.cmp.Ordering.{Ordering}
use Rattle.std.specs.declared.cmp.Ordering.TheVariants.{Less, Equal, Greater}
use Rattle.rdb_base.specs.Runs.{IsRun}
use Rattle.rdb_base.specs.Levels.{over, live}
use Rattle.rdb_base.specs.declared.row.Row.{Row}
use Rattle.rdb_base.specs.declared.change.Change.{Change}
use Rattle.rdb_base.specs.declared.change.Change.TheVariants.{Put, Del}
use Rattle.rdb_base.specs.declared.pair.Pair.{Pair}
use Rattle.remix_view.specs.declared.spot.Spot.{Spot}
use Rattle.remix_seek.specs.Versions.{is_deletion}
use Rattle.partition_set.specs.Partitions.{PartState}
use Rattle.overlay_view.specs.declared.placement.Placement.{Placement}
use Rattle.overlay_view.specs.declared.older.Older.{Older}
use Rattle.overlay_view.specs.declared.head.Head.{Head}
use Rattle.overlay_view.specs.declared.head.Head.TheVariants as heads
use Rattle.overlay_view.specs.declared.cursor.Cursor.{Cursor}
use Rattle.overlay_view.specs.declared.lent_row.LentRow.{LentRow}
use Rattle.overlay_view.specs.Older.{older_left, Stands}
use Rattle.overlay_view.specs.Placements.{UpperState, row_order}

-- the rows of newer pairs above a level: at each key the newer change, no deletion
abbrev pub rows_over : List Pair → List Pair → List Row
rows_over newer level = live (over newer level)

-- ---- what a cursor stands at

-- the head by the order of the next newer row and the older version
abbrev pub head_by : Ordering → Spot → Head
head_by Less spot = heads.Newer
head_by Equal spot = heads.Both
head_by Greater spot = heads.Older spot

-- the head, of the newer row's placement and the older version, where they are left
abbrev pub head_of : Option Placement → Older → Option Spot → Head
head_of None older None = heads.End
head_of None older (Some spot) = heads.Older spot
head_of (Some placement) older None = heads.Newer
head_of (Some placement) older (Some spot) = head_by (row_order placement older.place) spot

-- what a cursor stands at
abbrev pub head_at : UpperState → Cursor → Head
head_at upper cursor = head_of (slice_get upper.placements cursor.at) cursor.older cursor.older.spot

-- whether there is a pair that is a deletion
abbrev pub is_deleted : Option Pair → Bool
is_deleted None = false
is_deleted (Some pair) = is_deletion pair.change

-- whether a head is a deletion of the newer rows; older versions that show are none
abbrev pub deletes : List Pair → ℕ → Head → Bool
deletes rows at heads.Newer = is_deleted (slice_get rows at)
deletes rows at heads.Both = is_deleted (slice_get rows at)
deletes rows at (heads.Older spot) = false
deletes rows at heads.End = false

-- ---- what is left

-- the pairs that are left, deletions of the newer rows among them
abbrev pub pairs_left : {T : Type 0} → (T → List Pair) → List (PartState T) → UpperState → Cursor → List Pair
pairs_left run parts upper cursor = over (drop cursor.at upper.rows) (older_left run parts cursor.older)

-- the rows that are left
abbrev pub rows_left : {T : Type 0} → (T → List Pair) → List (PartState T) → UpperState → Cursor → List Row
rows_left run parts upper cursor = live (pairs_left run parts upper cursor)

-- a cursor goes on: its older side stands at a version that shows or at the end, and keys rise
pub record GoesOn {T : Type 0} (run : T → List Pair) (parts : List (PartState T)) (cursor : Cursor) : Type 0 where
  pub stands : Stands run parts cursor.older
  pub rises : IsRun (older_left run parts cursor.older)

-- a cursor of a listing stands at a row, newer or older, or at the end: at no deletion, no older version, nothing hidden
pub record IsCursor {T : Type 0} (run : T → List Pair) (parts : List (PartState T)) (upper : UpperState) (cursor : Cursor) : Type 0 where
  pub goes_on : GoesOn run parts cursor
  pub at_row : deletes upper.rows cursor.at (head_at upper cursor) ≡ false

-- ---- rows that are lent or copied

-- a change of a key as a row, lent; none exactly where it is a deletion
abbrev pub LendsChange : List ℕ → Change → Option LentRow → Type 0
LendsChange key (Put value) None = ⊥
LendsChange key (Put value) (Some lent) = (lent.key.now ≡ key) × (lent.value.now ≡ value)
LendsChange key Del None = Unit {0}
LendsChange key Del (Some lent) = ⊥

-- a pair as a row, lent
abbrev pub LendsPair : Option Pair → Option LentRow → Type 0
LendsPair None lent = ⊥
LendsPair (Some pair) lent = LendsChange pair.key pair.change lent

-- a change of a key as a row; none exactly where it is a deletion
abbrev pub CopiesChange : List ℕ → Change → Option Row → Type 0
CopiesChange key (Put value) None = ⊥
CopiesChange key (Put value) (Some row) = row ≡ record { key = key; value = value }
CopiesChange key Del None = Unit {0}
CopiesChange key Del (Some row) = ⊥

-- a pair as a row
abbrev pub CopiesPair : Option Pair → Option Row → Type 0
CopiesPair None row = ⊥
CopiesPair (Some pair) row = CopiesChange pair.key pair.change row

-- the first of these rows; none exactly where there is none
abbrev pub CopiesFirst : List Row → Option Row → Type 0
CopiesFirst rows None = rows ≡ []
CopiesFirst rows (Some row) = (rest : List Row) × (rows ≡ (row ∷ rest))

-- the first of these rows, lent; none exactly where there is none
abbrev pub LendsFirst : List Row → Option LentRow → Type 0
LendsFirst rows None = rows ≡ []
LendsFirst rows (Some lent) = (rest : List Row) × (rows ≡ (record { key = lent.key.now; value = lent.value.now } ∷ rest))
