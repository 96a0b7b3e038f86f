-- Editions: their bytes, and which of them are in the grammar. Numbers are big-endian.
use Rattle.std.specs.Prelude.{◌≡◌, ℕ, ◌<◌, ◌≤◌, Bool, false, ◌||◌, max, List, [], ◌∷◌, ◌++◌, length, map, replicate, ◌==◌, Option, Some, None}
use Rattle.std.specs.Int.{w8, w16, w32, w64, to_be_bytes}
use Rattle.std.specs.List.{AllByRecursion}
use Rattle.std.specs.declared.cmp.Ordering.TheVariants.{Less}
use Rattle.rdb_base.specs.Order.{key_cmp}
use Rattle.edition_code.specs.declared.run_field.RunField.{RunField}
use Rattle.edition_code.specs.declared.index_field.IndexField.{IndexField}
use Rattle.edition_code.specs.declared.format.TheConstants.{FILE_LEN, LOW_MAX, PARTITIONS_MAX, RUNS_MAX}
use Rattle.edition_code.specs.Values.{PartValue, EditionValue}

-- ---- how an edition is spelled

-- a file: its number, its length and its digest
abbrev pub file_field : ℕ → ℕ → List ℕ → List ℕ
file_field number len digest = to_be_bytes w64 number ++ (to_be_bytes w64 len ++ digest)

-- the file of a run
unfoldable pub run_field : RunField → List ℕ
run_field run = file_field run.number run.length run.digest

-- the files of runs, one after another
unfoldable pub run_fields : List RunField → List ℕ
run_fields [] = []
run_fields (run ∷ runs) = run_field run ++ run_fields runs

-- the file of an index, or bytes 00 where there is none
unfoldable pub index_field : Option IndexField → List ℕ
index_field None = replicate FILE_LEN 0
index_field (Some index) = file_field index.number index.length index.digest

-- a partition's low bound, its base number, and how many runs it has
unfoldable pub part_head : List ℕ → ℕ → ℕ → List ℕ
part_head low base runs = to_be_bytes w16 (length low) ++ (low ++ (to_be_bytes w64 base ++ to_be_bytes w8 runs))

-- a partition: its head, its runs and its index
unfoldable pub part_field : PartValue → List ℕ
part_field part = part_head part.low part.base (length part.runs) ++ (run_fields part.runs ++ index_field part.index)

-- partitions, one after another
unfoldable pub part_fields : List PartValue → List ℕ
part_fields [] = []
part_fields (part ∷ parts) = part_field part ++ part_fields parts

-- an edition's number, the next number to be drawn, the first live segment, and how many partitions there are
unfoldable pub edition_head : ℕ → ℕ → ℕ → ℕ → List ℕ
edition_head number next first count = to_be_bytes w64 number ++ (to_be_bytes w64 next ++ (to_be_bytes w64 first ++ to_be_bytes w32 count))

-- the payload of an edition
unfoldable pub edition_bytes : EditionValue → List ℕ
edition_bytes edition = edition_head edition.number edition.next edition.first (length edition.partitions) ++ part_fields edition.partitions

-- ---- which editions are in the grammar

-- the low bounds of partitions
abbrev pub lows_of : List PartValue → List (List ℕ)
lows_of parts = map (λ (part : PartValue). part.low) parts

-- the first bound is empty
abbrev pub BeginsEmpty : List (List ℕ) → Type 0
BeginsEmpty [] = ⊥
BeginsEmpty (low ∷ lows) = low ≡ []

-- a bound after the first has 1 to LOW_MAX bytes
abbrev pub IsLowLength : ℕ → Type 0
IsLowLength n = (1 ≤ n) × (n ≤ LOW_MAX)

-- so has each of them
abbrev pub AreLowLengths : List (List ℕ) → Type 0
AreLowLengths [] = Unit {0}
AreLowLengths (low ∷ lows) = AllByRecursion (λ (next : List ℕ). IsLowLength (length next)) lows

-- each bound is above the one before, and the first above this one
abbrev pub RiseAbove : List ℕ → List (List ℕ) → Type 0
RiseAbove last [] = Unit {0}
RiseAbove last (low ∷ lows) = (key_cmp last low ≡ Less) × RiseAbove low lows

-- each bound is above the one before
abbrev pub AreRising : List (List ℕ) → Type 0
AreRising [] = Unit {0}
AreRising (low ∷ lows) = RiseAbove low lows

-- the numbers of the files of runs
abbrev pub run_numbers : List RunField → List ℕ
run_numbers runs = map (λ (run : RunField). run.number) runs

-- the number of the file of an index, where there is one
abbrev pub index_numbers : Option IndexField → List ℕ
index_numbers None = []
index_numbers (Some index) = index.number ∷ []

-- the numbers of a partition's files, in the order of their fields
abbrev pub part_numbers : PartValue → List ℕ
part_numbers part = run_numbers part.runs ++ index_numbers part.index

-- the numbers of all files, in the order of their fields
abbrev pub file_numbers : List PartValue → List ℕ
file_numbers [] = []
file_numbers (part ∷ parts) = part_numbers part ++ file_numbers parts

-- a number is one of these
abbrev pub is_in : ℕ → List ℕ → Bool
is_in n [] = false
is_in n (m ∷ ms) = (m == n) || is_in n ms

-- each number is none of those before it
abbrev pub AreNew : List ℕ → List ℕ → Type 0
AreNew before [] = Unit {0}
AreNew before (n ∷ ns) = (is_in n before ≡ false) × AreNew (before ++ n ∷ []) ns

-- a file's number was drawn
abbrev pub IsDrawn : ℕ → ℕ → Type 0
IsDrawn next n = (1 ≤ n) × (n < next)

-- a partition without a run has no index
abbrev pub IsIndexed : PartValue → Type 0
IsIndexed part = length part.runs ≡ 0 → part.index ≡ None

-- the greatest base number of partitions
abbrev pub greatest_base : List PartValue → ℕ
greatest_base [] = 0
greatest_base (part ∷ parts) = max part.base (greatest_base parts)

-- the grammar of editions, a field for each rule
pub record IsEdition (edition : EditionValue) : Type 0 where
  pub number_some : 1 ≤ edition.number
  pub number_drawn : edition.number < edition.next
  pub partitions_some : 1 ≤ length edition.partitions
  pub partitions_few : length edition.partitions ≤ PARTITIONS_MAX
  pub first_low : BeginsEmpty (lows_of edition.partitions)
  pub low_lengths : AreLowLengths (lows_of edition.partitions)
  pub lows_rise : AreRising (lows_of edition.partitions)
  pub runs_few : AllByRecursion (λ (part : PartValue). length part.runs ≤ RUNS_MAX) edition.partitions
  pub files_drawn : AllByRecursion (IsDrawn edition.next) (file_numbers edition.partitions)
  pub files_differ : AreNew [] (file_numbers edition.partitions)
  pub index_of_runs : AllByRecursion IsIndexed edition.partitions
  pub first_covered : edition.first ≤ greatest_base edition.partitions

-- the edition of a manifest without a frame: it is never written, since its number is 0
abbrev pub initial_edition : EditionValue
initial_edition = record { number = 0; next = 1; first = 0; partitions = record { low = []; base = 0; runs = []; index = None } ∷ [] }
