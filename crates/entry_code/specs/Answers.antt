-- What decoding answers.
use Rattle.std.specs.Prelude.{◌≡◌, ℕ, Result, Ok, Err}
use Rattle.entry_code.specs.declared.entry_error.EntryError.{EntryError}
use Rattle.entry_code.specs.declared.entry_error.EntryError.TheVariants as places
use Rattle.entry_code.specs.declared.field_error.FieldError.{FieldError}
use Rattle.entry_code.specs.declared.field_error.FieldError.TheVariants as fields

-- a field that is refused is wrong there, or there was no memory
abbrev pub FailsField : {Y : Type 0} → FieldError → Result Y ℕ → Type 0
FailsField fields.Memory read = Unit {0}
FailsField (fields.Bad left) read = read ≡ Err left

-- what a function returned, seen by view, is what the definition reads, unless memory ran out
abbrev pub GivesFields : {X Y : Type 0} → (X → Y) → Result X FieldError → Result Y ℕ → Type 0
GivesFields view (Ok x) read = read ≡ Ok (view x)
GivesFields view (Err e) read = FailsField e read

-- this holds where a field is refused for want of memory
abbrev pub IfFieldMemory : FieldError → Type 0 → Type 0
IfFieldMemory fields.Memory P = P
IfFieldMemory (fields.Bad left) P = Unit {0}

-- this holds where a payload is refused for want of memory
abbrev pub IfMemory : EntryError → Type 0 → Type 0
IfMemory places.Memory P = P
IfMemory (places.BadEntry at) P = Unit {0}

-- a payload that is refused is wrong at that place, or there was no memory
abbrev pub FailsAt : {Y : Type 0} → EntryError → Result Y ℕ → Type 0
FailsAt places.Memory read = Unit {0}
FailsAt (places.BadEntry at) read = read ≡ Err at

-- the same of a whole payload
abbrev pub GivesPayload : {X Y : Type 0} → (X → Y) → Result X EntryError → Result Y ℕ → Type 0
GivesPayload view (Ok x) read = read ≡ Ok (view x)
GivesPayload view (Err e) read = FailsAt e read

-- a refusal names a place: memory was not needed
abbrev pub TellsPlace : EntryError → Type 0
TellsPlace places.Memory = ⊥
TellsPlace (places.BadEntry at) = Unit {0}
