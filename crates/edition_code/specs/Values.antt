-- An edition and its partitions as contracts see them.
use Rattle.std.specs.Prelude.{ℕ, List, Option}
use Rattle.edition_code.specs.declared.run_field.RunField.{RunField}
use Rattle.edition_code.specs.declared.index_field.IndexField.{IndexField}

-- a partition: its low bound, its base number, the files of its runs, the newest first, and the file of its index
pub record PartValue : Type 0 where
  pub low : List ℕ
  pub base : ℕ
  pub runs : List RunField
  pub index : Option IndexField

-- an edition: its number, the next number to be drawn, the first live segment of the log, and its partitions
pub record EditionValue : Type 0 where
  pub number : ℕ
  pub next : ℕ
  pub first : ℕ
  pub partitions : List PartValue
