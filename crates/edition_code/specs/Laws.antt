-- What holds of every edition.
use Rattle.std.specs.Prelude.{◌≡◌, ℕ, ◌+◌, ◌*◌, ◌^◌, ◌<◌, ◌≤◌, List, [], ◌∷◌, length, Option, Some, None, Ok}
use Rattle.std.specs.List.{AllByRecursion}
use Rattle.rdb_base.specs.Bytes.{AreBytes}
use Rattle.edition_code.specs.declared.run_field.RunField.{RunField}
use Rattle.edition_code.specs.declared.index_field.IndexField.{IndexField}
use Rattle.edition_code.specs.declared.format.TheConstants.{DIGEST_LEN, FILE_LEN, LOW_MAX, PART_LEN, RUNS_MAX}
use Rattle.edition_code.specs.Values.{PartValue, EditionValue}
use Rattle.edition_code.specs.Editions.{IsEdition, edition_bytes}
use Rattle.edition_code.specs.Reading.{edition_of}

-- a file's length and digest are such as their types can hold
pub record IsRunHeld (run : RunField) : Type 0 where
  pub size : run.length < 2 ^ 64
  pub digest : length run.digest ≡ DIGEST_LEN

-- so are those of an index
abbrev pub IsIndexHeld : Option IndexField → Type 0
IsIndexHeld None = Unit {0}
IsIndexHeld (Some index) = (index.length < 2 ^ 64) × (length index.digest ≡ DIGEST_LEN)

-- so are a partition's fields
pub record IsPartHeld (part : PartValue) : Type 0 where
  pub base : part.base < 2 ^ 64
  pub runs : AllByRecursion IsRunHeld part.runs
  pub index : IsIndexHeld part.index

-- so are an edition's: each `Edition` is held
pub record IsHeld (edition : EditionValue) : Type 0 where
  pub next : edition.next < 2 ^ 64
  pub first : edition.first < 2 ^ 64
  pub partitions : AllByRecursion IsPartHeld edition.partitions

-- a partition's fields are within their limits
pub record IsPartWithin (part : PartValue) : Type 0 where
  pub low : length part.low ≤ LOW_MAX
  pub runs : length part.runs ≤ RUNS_MAX

-- how many bytes a partition has
abbrev pub part_size : PartValue → ℕ
part_size part = PART_LEN + length part.low + FILE_LEN * length part.runs

-- how many bytes partitions have together
abbrev pub parts_size : List PartValue → ℕ
parts_size [] = 0
parts_size (part ∷ parts) = part_size part + parts_size parts

-- an edition that is encoded is read back
abbrev pub EditionReadsBack : Type 0
EditionReadsBack = (edition : EditionValue) → IsHeld edition → IsEdition edition → edition_of (edition_bytes edition) ≡ Ok edition

-- an edition that is read was spelled there
abbrev pub EditionWasSpelled : Type 0
EditionWasSpelled = (bytes : List ℕ) (edition : EditionValue) → AreBytes bytes → edition_of bytes ≡ Ok edition → IsHeld edition × IsEdition edition × (bytes ≡ edition_bytes edition)

-- bytes are those of at most one edition
abbrev pub BytesOfOne : Type 0
BytesOfOne = (one other : EditionValue) → IsHeld one → IsHeld other → IsEdition one → IsEdition other → edition_bytes one ≡ edition_bytes other → one ≡ other
