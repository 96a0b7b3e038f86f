-- What readers of a table answer.
use Rattle.std.specs.Prelude.{◌≡◌, ℕ, List, Option, Some, None, Result, Ok, Err}
use Rattle.sha2.specs.Sha256.{sha256}
use Rattle.rdb_base.specs.declared.bad_field.BadField.{BadField}
use Rattle.rdb_base.specs.declared.pair.Pair.{Pair}
use Rattle.block_code.specs.declared.format.TheConstants.{FIRST_LIMITS}
use Rattle.table_file.specs.declared.table_error.TableError.{TableError}
use Rattle.table_file.specs.declared.table_error.TableError.TheVariants as errors
use Rattle.table_file.specs.declared.reading.NextBlock.{NextBlock}
use Rattle.table_file.specs.Held.{TableState}
use Rattle.table_file.specs.Tables.{IsTable}
use Rattle.table_file.specs.TableReading.{first_wrong}

-- what a reader keeps after a block, as values
abbrev pub next_lent : NextBlock → List ℕ × (List ℕ × List ℕ)
next_lent next = (next.last.now, (next.units.now, next.counts.now))

-- how many bytes are left from the field on that a reader found wrong
abbrev pub left_of : {X : Type 0} → Result X BadField → Option ℕ
left_of (Ok x) = None
left_of (Err bad) = Some bad.left

-- these bytes are a table of some run
abbrev pub IsSomeTable : List ℕ → Type 0
IsSomeTable bytes = (run : List Pair) × IsTable FIRST_LIMITS run bytes

-- these bytes are a table of no run
abbrev pub IsNoTable : List ℕ → Type 0
IsNoTable bytes = (run : List Pair) → IsTable FIRST_LIMITS run bytes → ⊥

-- what opening answers. The digest comes first, then the form of the bytes, and memory last
abbrev pub Opens : List ℕ → List ℕ → Result TableState TableError → Type 0
Opens bytes digest (Ok table) = (sha256 bytes ≡ digest) × (table.bytes ≡ bytes) × IsTable FIRST_LIMITS table.run bytes
Opens bytes digest (Err (errors.WrongDigest kept found)) = (kept ≡ digest) × (found ≡ sha256 bytes) × (found ≡ kept → ⊥)
Opens bytes digest (Err (errors.BadTable at)) = (sha256 bytes ≡ digest) × (first_wrong FIRST_LIMITS bytes ≡ Some at) × IsNoTable bytes
Opens bytes digest (Err errors.Memory) = (sha256 bytes ≡ digest) × (first_wrong FIRST_LIMITS bytes ≡ None)
