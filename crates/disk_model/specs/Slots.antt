-- The numbers of a shelf in memory, each with its file and with what a crash may make of that.
use Rattle.std.specs.Global.{Vec}
use Rattle.std.specs.Prelude.{◌≡◌, ◌≢◌, ◌⊎◌, ◌==◌, ◌<◌, ◌≤◌, ◌/◌, ◌%◌, ℕ, zero, suc, Bool, true, false, if◌then◌else◌, List, [], ◌∷◌, length, take, replicate, slice_index_or, Option, Some, None, is_some}
use Rattle.disk_model.specs.declared.limits.TheConstants.{STRAY_BYTE}
use Rattle.disk_model.specs.declared.slot.Doubt.{Doubt}
use Rattle.disk_model.specs.declared.slot.Doubt.TheVariants.{Put, Removing, Removed}
use Rattle.disk_model.specs.declared.slot.Slot.{Slot}

-- a number with nothing
abbrev pub empty_slot : ℕ → Slot
empty_slot number = record { number = number; file = None; doubt = None }

-- a number with a file that stays
abbrev pub stored_slot : ℕ → List ℕ → Slot
stored_slot number bytes = record { number = number; file = Some bytes; doubt = None }

-- after a put that failed
abbrev pub put_failed : List ℕ → Slot → Slot
put_failed bytes slot = record slot { doubt = Some (Put bytes) }

-- whether a crash may leave anything
abbrev pub is_open : Option Doubt → Bool
is_open None = false
is_open (Some (Put bytes)) = true
is_open (Some Removing) = false
is_open (Some (Removed bytes)) = false

-- after a remove: if it is not open anyhow, a crash may leave the file that was there
abbrev pub removed_from : Option (List ℕ) → Slot → Slot
removed_from None slot = slot
removed_from (Some bytes) slot = record slot { file = None; doubt = if is_open slot.doubt then slot.doubt else Some (Removed bytes) }

abbrev pub removed : Slot → Slot
removed slot = removed_from slot.file slot

-- after a remove that failed: if it is not open anyhow, a crash may leave the file or none
abbrev pub remove_failed_from : Option (List ℕ) → Slot → Slot
remove_failed_from None slot = slot
remove_failed_from (Some bytes) slot = record slot { doubt = if is_open slot.doubt then slot.doubt else Some Removing }

abbrev pub remove_failed : Slot → Slot
remove_failed slot = remove_failed_from slot.file slot

-- what a crash may leave of a file
abbrev pub MayBe : Option Doubt → Option (List ℕ) → Option (List ℕ) → Type 0
MayBe None own left = left ≡ own
MayBe (Some (Put bytes)) own left = Unit {0}
MayBe (Some Removing) own left = (left ≡ None) ⊎ (left ≡ own)
MayBe (Some (Removed bytes)) own left = (left ≡ own) ⊎ (left ≡ Some bytes)

-- what is left of a file by each of the four crashes that can be picked
abbrev pub picked_by : Option Doubt → ℕ → Option (List ℕ) → Option (List ℕ)
picked_by None pick own = own
picked_by (Some (Put bytes)) zero own = None
picked_by (Some (Put bytes)) (suc zero) own = Some bytes
picked_by (Some (Put bytes)) (suc (suc zero)) own = Some (take (length bytes / 2) bytes)
picked_by (Some (Put bytes)) (suc (suc (suc more))) own = Some (replicate (length bytes) STRAY_BYTE)
picked_by (Some Removing) zero own = own
picked_by (Some Removing) (suc more) own = None
picked_by (Some (Removed bytes)) zero own = Some bytes
picked_by (Some (Removed bytes)) (suc more) own = own

-- what is left of a slot by the crash that is picked
abbrev pub left_slot : ℕ → Slot → Slot
left_slot pick slot = record { number = slot.number; file = picked_by slot.doubt (pick % 4) slot.file; doubt = None }

-- what is at a number
abbrev pub slot_at : ℕ → List Slot → Slot
slot_at number [] = empty_slot number
slot_at number (slot ∷ slots) = if slot.number == number then slot else slot_at number slots

-- the file at a number
abbrev pub file_at : List Slot → ℕ → Option (List ℕ)
file_at slots number = (slot_at number slots).file

-- what a crash may leave of the files
abbrev pub MayLeaveFiles : List Slot → (ℕ → Option (List ℕ)) → Type 0
MayLeaveFiles slots files = (number : ℕ) → MayBe (slot_at number slots).doubt (slot_at number slots).file (files number)

-- a crash leaves these files and no others
abbrev pub OnlyFiles : (ℕ → Option (List ℕ)) → ((ℕ → Option (List ℕ)) → Type 0) → Type 0
OnlyFiles files outcomes = (c : ℕ → Option (List ℕ)) → outcomes c → (number : ℕ) → c number ≡ files number

-- this is at the number, and at each other number what was there before
pub record SetsSlot (number : ℕ) (slot : Slot) (old new : List Slot) : Type 0 where
  pub here : slot_at number new ≡ slot
  pub others : (n : ℕ) → n ≢ number → slot_at n new ≡ slot_at n old

-- the number of the slot at place i
abbrev pub number_at : List Slot → ℕ → ℕ
number_at slots i = let slot = slice_index_or slots i (empty_slot 0) in slot.number

-- the numbers rise
abbrev pub AreRisingSlots : List Slot → Type 0
AreRisingSlots slots = (i j : ℕ) → i < j → j < length slots → number_at slots i < number_at slots j

-- the slot at place i has the number
pub record IsAt (slots : List Slot) (number i : ℕ) : Type 0 where
  pub in_range : i < length slots
  pub has_number : number_at slots i ≡ number

-- the number would go at place i: lower ones before it, and higher ones from it on
pub record IsGapFor (slots : List Slot) (number i : ℕ) : Type 0 where
  pub in_range : i ≤ length slots
  pub lower_before : (j : ℕ) → j < i → number_at slots j < number
  pub higher_after : (j : ℕ) → i ≤ j → j < length slots → number < number_at slots j

-- the numbers of the slots that have a file
abbrev pub numbers_in : List Slot → List ℕ
numbers_in [] = []
numbers_in (slot ∷ slots) = if is_some slot.file then slot.number ∷ numbers_in slots else numbers_in slots

-- these files over others: of two with one number the later counts
abbrev pub with_file : ℕ → List ℕ → (ℕ → Option (List ℕ)) → ℕ → Option (List ℕ)
with_file number bytes files n = if number == n then Some bytes else files n

abbrev pub with_files : (ℕ → Option (List ℕ)) → List (ℕ × Vec ℕ) → ℕ → Option (List ℕ)
with_files files [] n = files n
with_files files (first ∷ more) n = with_files (with_file first.0 first.1.items files) more n

abbrev pub no_files : ℕ → Option (List ℕ)
no_files n = None
