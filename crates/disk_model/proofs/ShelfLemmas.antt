-- What a call of a shelf in memory means for its files. To know: puts-set, files_kept, removes-set, images-goes_put, images-goes_remove.
use Rattle.std.specs.Global.{Vec}
use Rattle.std.proofs.Common.{◌≡◌, inl, inr, ℕ, ◌==◌, if◌then◌else◌, List, [], ◌∷◌, Option, Some, None, Result, Ok, Err, refl, sym, ◌∙◌, ap, subst}
use Rattle.std.proofs.lemmas.Bool.{cases_eq, eq-eqb, ne_eqb}
use Rattle.disk_model.specs.Crashes.{Follows}
use Rattle.disk_model.specs.MemoryState.{MemoryState, HeldAfter, Goes}
use Rattle.disk_model.specs.Shelves.{Puts, PutsOrNot, Removes, RemovesOrNot}
use Rattle.disk_model.specs.SlotLaws.{images-set, images-removed, images-remove_failed, images_same-put, images_same-remove}
use Rattle.disk_model.specs.Slots.{stored_slot, removed, remove_failed, slot_at, file_at, MayLeaveFiles, OnlyFiles, MayBe, SetsSlot, with_file, with_files}
use Rattle.disk_model.specs.declared.device_error.DeviceError.{DeviceError}
use Rattle.disk_model.specs.declared.device_error.DeviceError.TheVariants.{Fault, Memory}
use Rattle.disk_model.specs.declared.slot.Doubt.{Doubt}
use Rattle.disk_model.specs.declared.slot.Slot.{Slot}

module _ {number : ℕ} {old new : List Slot} where
  pub puts-set : {bytes : List ℕ} → SetsSlot number (stored_slot number bytes) old new → Puts number bytes (file_at old) (file_at new)
  puts-set sets = record { stored = ap (λ (s : Slot). s.file) sets.here; others = λ n other. ap (λ (s : Slot). s.file) (sets.others n other) }

  -- where the slot's file is the one that was there, all files are as they were
  pub files_kept : {slot : Slot} → slot.file ≡ file_at old number → SetsSlot number slot old new → (n : ℕ) → file_at new n ≡ file_at old n
  files_kept {slot} kept sets n = elim (cases_eq n number) [
    | inl is ↦ subst (λ (m : ℕ). file_at new m ≡ file_at old m) (sym is) (ap (λ (s : Slot). s.file) sets.here ∙ kept)
    | inr other ↦ ap (λ (s : Slot). s.file) (sets.others n other)
  ]

  -- where the slot has no file, there is none at the number
  pub removes-set : {slot : Slot} → slot.file ≡ None → SetsSlot number slot old new → Removes number (file_at old) (file_at new)
  removes-set none sets = record { absent = ap (λ (s : Slot). s.file) sets.here ∙ none; others = λ n other. ap (λ (s : Slot). s.file) (sets.others n other) }

pub same-puts_or_not : (number : ℕ) (old new : List Slot) → ((n : ℕ) → file_at new n ≡ file_at old n) → PutsOrNot number (file_at old) (file_at new)
same-puts_or_not number old new same = record { others = λ n other. same n }

pub same-removes_or_not : (number : ℕ) (old new : List Slot) → ((n : ℕ) → file_at new n ≡ file_at old n) → RemovesOrNot number (file_at old) (file_at new)
same-removes_or_not number old new same = record { either = inr (same number); others = λ n other. same n }

-- a removed slot has no file, and a remove that failed leaves it
file-removed_parts : (number : ℕ) (own : Option (List ℕ)) (doubt : Option Doubt) → (removed (record { number = number; file = own; doubt = doubt })).file ≡ None
file-removed_parts number None doubt = refl
file-removed_parts number (Some bytes) doubt = refl

pub file-removed : (slot : Slot) → (removed slot).file ≡ None
file-removed slot = file-removed_parts slot.number slot.file slot.doubt

file-remove_failed_parts : (number : ℕ) (own : Option (List ℕ)) (doubt : Option Doubt) → (remove_failed (record { number = number; file = own; doubt = doubt })).file ≡ own
file-remove_failed_parts number None doubt = refl
file-remove_failed_parts number (Some bytes) doubt = refl

pub file-remove_failed : (slot : Slot) → (remove_failed slot).file ≡ slot.file
file-remove_failed slot = file-remove_failed_parts slot.number slot.file slot.doubt

-- the number of a slot stays
number-removed_parts : (number : ℕ) (own : Option (List ℕ)) (doubt : Option Doubt) → (removed (record { number = number; file = own; doubt = doubt })).number ≡ number
number-removed_parts number None doubt = refl
number-removed_parts number (Some bytes) doubt = refl

pub number-removed : (slot : Slot) → (removed slot).number ≡ slot.number
number-removed slot = number-removed_parts slot.number slot.file slot.doubt

number-remove_failed_parts : (number : ℕ) (own : Option (List ℕ)) (doubt : Option Doubt) → (remove_failed (record { number = number; file = own; doubt = doubt })).number ≡ number
number-remove_failed_parts number None doubt = refl
number-remove_failed_parts number (Some bytes) doubt = refl

pub number-remove_failed : (slot : Slot) → (remove_failed slot).number ≡ slot.number
number-remove_failed slot = number-remove_failed_parts slot.number slot.file slot.doubt

-- each image after a put is one from before it, but for that number
images-after_put : {T : Type 0} (number : ℕ) (done failed : Slot) (old new : List Slot) (result : Result T DeviceError) → HeldAfter old (SetsSlot number done old) (SetsSlot number failed old) result new → Follows (PutsOrNot number) (MayLeaveFiles old) (MayLeaveFiles new)
images-after_put number done failed old new (Ok x) after = images-set number done old new after
images-after_put number done failed old new (Err (Fault unit)) after = images-set number failed old new after
images-after_put number done failed old new (Err Memory) after = subst (λ (f : List Slot). Follows (PutsOrNot number) (MayLeaveFiles old) (MayLeaveFiles f)) (sym after) (images_same-put number old)

pub images-goes_put : {T : Type 0} {number : ℕ} {done failed : Slot} {old new : MemoryState (List Slot)} {result : Result T DeviceError} → Goes old new (SetsSlot number done old.held) (SetsSlot number failed old.held) result → Follows (PutsOrNot number) (MayLeaveFiles old.held) (MayLeaveFiles new.held)
images-goes_put {T} {number} {done} {failed} {old} {new} {result} goes = images-after_put number done failed old.held new.held result goes.held

-- each image after a remove is one from before it, with that file or without
images-after_remove : {T : Type 0} (number : ℕ) (old new : List Slot) (result : Result T DeviceError) → HeldAfter old (SetsSlot number (removed (slot_at number old)) old) (SetsSlot number (remove_failed (slot_at number old)) old) result new → Follows (RemovesOrNot number) (MayLeaveFiles old) (MayLeaveFiles new)
images-after_remove number old new (Ok x) after = images-removed number old new after
images-after_remove number old new (Err (Fault unit)) after = images-remove_failed number old new after
images-after_remove number old new (Err Memory) after = subst (λ (f : List Slot). Follows (RemovesOrNot number) (MayLeaveFiles old) (MayLeaveFiles f)) (sym after) (images_same-remove number old)

pub images-goes_remove : {T : Type 0} {number : ℕ} {old new : MemoryState (List Slot)} {result : Result T DeviceError} → Goes old new (SetsSlot number (removed (slot_at number old.held)) old.held) (SetsSlot number (remove_failed (slot_at number old.held)) old.held) result → Follows (RemovesOrNot number) (MayLeaveFiles old.held) (MayLeaveFiles new.held)
images-goes_remove {T} {number} {old} {new} {result} goes = images-after_remove number old.held new.held result goes.held

-- files over files that are the same
pub with_files-same : (more : List (ℕ × Vec ℕ)) (a b : ℕ → Option (List ℕ)) → ((n : ℕ) → a n ≡ b n) → (n : ℕ) → with_files a more n ≡ with_files b more n
with_files-same [] a b same n = same n
with_files-same (first ∷ more) a b same n = with_files-same more (with_file first.0 first.1.items a) (with_file first.0 first.1.items b) (λ m. ap (λ (file : Option (List ℕ)). if first.0 == m then Some first.1.items else file) (same m)) n

-- a stored file over the others
pub file_at-set : (number : ℕ) (bytes : List ℕ) (old new : List Slot) → SetsSlot number (stored_slot number bytes) old new → (n : ℕ) → file_at new n ≡ with_file number bytes (file_at old) n
file_at-set number bytes old new sets n = elim (cases_eq number n) [
  | inl is ↦ rw (eq-eqb number n is) (subst (λ (m : ℕ). file_at new m ≡ Some bytes) is (ap (λ (s : Slot). s.file) sets.here))
  | inr other ↦ rw (ne_eqb number n other) (ap (λ (s : Slot). s.file) (sets.others n (λ same. other (sym same))))
]

-- a stored file has no doubt
pub doubt-set : (number : ℕ) (bytes : List ℕ) (old new : List Slot) → SetsSlot number (stored_slot number bytes) old new → ((n : ℕ) → (slot_at n old).doubt ≡ None) → (n : ℕ) → (slot_at n new).doubt ≡ None
doubt-set number bytes old new sets none n = elim (cases_eq n number) [
  | inl is ↦ subst (λ (m : ℕ). (slot_at m new).doubt ≡ None) (sym is) (ap (λ (s : Slot). s.doubt) sets.here)
  | inr other ↦ ap (λ (s : Slot). s.doubt) (sets.others n other) ∙ none n
]

-- where there is no doubt, a crash leaves the files
pub only-settled : (slots : List Slot) → ((n : ℕ) → (slot_at n slots).doubt ≡ None) → OnlyFiles (file_at slots) (MayLeaveFiles slots)
only-settled slots none files left n = subst (λ (d : Option Doubt). MayBe d (file_at slots n) (files n)) (none n) (left n)
