-- What decoding answers.
use Rattle.std.specs.Prelude.{◌≡◌, ◌≤◌, ℕ, List, Result, Ok, Err}
use Rattle.edition_code.specs.declared.edition_error.EditionError.{EditionError}
use Rattle.edition_code.specs.declared.edition_error.EditionError.TheVariants as places
use Rattle.edition_code.specs.declared.field_error.FieldError.{FieldError}
use Rattle.edition_code.specs.declared.field_error.FieldError.TheVariants as fields
use Rattle.edition_code.specs.Values.{EditionValue}
use Rattle.edition_code.specs.Editions.{IsEdition, edition_bytes}
use Rattle.edition_code.specs.Laws.{IsHeld}
use Rattle.edition_code.specs.Reading.{PartHead}
use Rattle.edition_code.specs.declared.lent_head.LentHead.{LentHead}

-- a lent head as the head that it is
abbrev pub head_lent : LentHead → PartHead
head_lent head = record { low = head.low.now; base = head.base; runs = head.runs }

-- a field that is refused is wrong there, or there was no memory
abbrev pub FailsField : {Y : Type 0} → FieldError → Result Y ℕ → Type 0
FailsField fields.Memory read = Unit {0}
FailsField (fields.Bad left) read = read ≡ Err left

-- what a function returned, seen by view, is what the definition reads, unless memory ran out
abbrev pub GivesFields : {X Y : Type 0} → (X → Y) → Result X FieldError → Result Y ℕ → Type 0
GivesFields view (Ok x) read = read ≡ Ok (view x)
GivesFields view (Err e) read = FailsField e read

-- this holds where a field is refused for want of memory
abbrev pub IfFieldMemory : FieldError → Type 0 → Type 0
IfFieldMemory fields.Memory P = P
IfFieldMemory (fields.Bad left) P = Unit {0}

-- this holds where a payload is refused for want of memory
abbrev pub IfMemory : EditionError → Type 0 → Type 0
IfMemory places.Memory P = P
IfMemory (places.BadEdition at) P = Unit {0}

-- this holds where a payload is refused as wrong
abbrev pub IfBad : EditionError → Type 0 → Type 0
IfBad places.Memory P = Unit {0}
IfBad (places.BadEdition at) P = P

-- the place that a refusal names is at most this
abbrev pub IsWithin : EditionError → ℕ → Type 0
IsWithin places.Memory n = Unit {0}
IsWithin (places.BadEdition at) n = at ≤ n

-- a payload that is refused is wrong at that place, or there was no memory
abbrev pub FailsAt : {Y : Type 0} → EditionError → Result Y ℕ → Type 0
FailsAt places.Memory read = Unit {0}
FailsAt (places.BadEdition at) read = read ≡ Err at

-- what decoding returned is what the definition reads, unless memory ran out
abbrev pub GivesEdition : Result EditionValue EditionError → Result EditionValue ℕ → Type 0
GivesEdition (Ok edition) read = read ≡ Ok edition
GivesEdition (Err e) read = FailsAt e read

-- these bytes are those of this edition, which is in the grammar
abbrev pub IsSpelling : EditionValue → List ℕ → Type 0
IsSpelling edition bytes = IsEdition edition × (bytes ≡ edition_bytes edition)

-- these bytes are those of no edition
abbrev pub HasNoEdition : List ℕ → Type 0
HasNoEdition bytes = (edition : EditionValue) → IsHeld edition → IsSpelling edition bytes → ⊥
