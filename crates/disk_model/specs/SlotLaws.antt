-- What a crash may leave of the files of a shelf in memory. To know: own-image, images-put, images-set, images-removed, images-remove_failed, image-picked.
use Rattle.std.specs.Prelude.{◌≡◌, ◌⊎◌, ◌==◌, ◌%◌, ℕ, zero, suc, Bool, true, false, if◌then◌else◌, List, [], ◌∷◌, map, Option, Some, None}
use Rattle.std.proofs.Common.{inl, inr, refl, sym, ◌∙◌, ap, subst}
use Rattle.std.proofs.lemmas.Bool.{cases_eq, eq-eqb, ne_eqb}
use Rattle.disk_model.specs.Crashes.{Follows, IsStepOf}
use Rattle.disk_model.specs.Shelves.{KeepsOthers, Puts, PutsOrNot, RemovesOrNot}
use Rattle.disk_model.specs.Slots.{stored_slot, removed, remove_failed, MayBe, picked_by, left_slot, slot_at, file_at, MayLeaveFiles, OnlyFiles, SetsSlot}
use Rattle.disk_model.specs.declared.slot.Doubt.{Doubt}
use Rattle.disk_model.specs.declared.slot.Doubt.TheVariants.{Put, Removing, Removed}
use Rattle.disk_model.specs.declared.slot.Slot.{Slot}

-- a crash may leave a file as it is
pub own_may_be : (doubt : Option Doubt) (own : Option (List ℕ)) → MayBe doubt own own
own_may_be None own = refl
own_may_be (Some (Put bytes)) own = tt
own_may_be (Some Removing) own = inr refl
own_may_be (Some (Removed bytes)) own = inl refl

-- the files as they are, are an image
pub own-image : (slots : List Slot) → MayLeaveFiles slots (file_at slots)
own-image slots number = own_may_be (slot_at number slots).doubt (slot_at number slots).file

-- what is picked may be left
picked_may_be : (doubt : Option Doubt) (pick : ℕ) (own : Option (List ℕ)) → MayBe doubt own (picked_by doubt pick own)
picked_may_be None pick own = refl
picked_may_be (Some (Put bytes)) pick own = tt
picked_may_be (Some Removing) zero own = inr refl
picked_may_be (Some Removing) (suc more) own = inl refl
picked_may_be (Some (Removed bytes)) zero own = inr refl
picked_may_be (Some (Removed bytes)) (suc more) own = inl refl

-- after a crash each number has what is left of it
pub slot_at-left : (pick number : ℕ) (slots : List Slot) → slot_at number (map (left_slot pick) slots) ≡ left_slot pick (slot_at number slots)
slot_at-left pick number [] = refl
slot_at-left pick number (first ∷ slots) = left-if (first.number == number) (slot_at number (map (left_slot pick) slots)) (slot_at number slots) (slot_at-left pick number slots)
  where
    left-if : (b : Bool) (x y : Slot) → x ≡ left_slot pick y → (if b then left_slot pick first else x) ≡ left_slot pick (if b then first else y)
    left-if true x y same = refl
    left-if false x y same = same

-- the file that is left at a number is what is picked there
pub file_at-left : (pick number : ℕ) (slots : List Slot) → file_at (map (left_slot pick) slots) number ≡ picked_by (slot_at number slots).doubt (pick % 4) (slot_at number slots).file
file_at-left pick number slots = ap (λ (s : Slot). s.file) (slot_at-left pick number slots)

pub image-picked : (pick : ℕ) (slots : List Slot) → MayLeaveFiles slots (file_at (map (left_slot pick) slots))
image-picked pick slots number = subst (MayBe (slot_at number slots).doubt (slot_at number slots).file) (sym (file_at-left pick number slots)) (picked_may_be (slot_at number slots).doubt (pick % 4) (slot_at number slots).file)

-- a crash leaves what is left of a crash before it
pub only-left : (pick : ℕ) (slots : List Slot) → OnlyFiles (file_at (map (left_slot pick) slots)) (MayLeaveFiles (map (left_slot pick) slots))
only-left pick slots files left number = subst (λ (s : Slot). MayBe s.doubt s.file (files number)) (slot_at-left pick number slots) (left number) ∙ sym (file_at-left pick number slots)

-- files with another at a number
abbrev put_at : ℕ → Option (List ℕ) → (ℕ → Option (List ℕ)) → ℕ → Option (List ℕ)
put_at number file files n = if n == number then file else files n

module _ (number : ℕ) (slot : Slot) (old new : List Slot) (sets : SetsSlot number slot old new) (c : ℕ → Option (List ℕ)) (left : MayLeaveFiles new c) where
  -- what is left at the number
  left-here : MayBe slot.doubt slot.file (c number)
  left-here = subst (λ (s : Slot). MayBe s.doubt s.file (c number)) sets.here (left number)

  module _ (file : Option (List ℕ)) (may : MayBe (slot_at number old).doubt (slot_at number old).file file) where
    -- the image that was left before, with this file at the number
    abbrev before : ℕ → Option (List ℕ)
    before = put_at number file c

    before-here : before number ≡ file
    before-here = rw (eq-eqb number number refl) refl

    before-others : KeepsOthers number before c
    before-others n other = rw (ne_eqb n number other) refl

    before-left : MayLeaveFiles old before
    before-left n = elim (cases_eq n number) [
      | inl is ↦ subst (λ (m : ℕ). MayBe (slot_at m old).doubt (slot_at m old).file (before m)) (sym is) (subst (MayBe (slot_at number old).doubt (slot_at number old).file) (sym before-here) may)
      | inr other ↦ subst (λ (s : Slot). MayBe s.doubt s.file (before n)) (sets.others n other) (subst (MayBe (slot_at n new).doubt (slot_at n new).file) (before-others n other) (left n))
    ]

  -- what was there
  own_before : MayBe (slot_at number old).doubt (slot_at number old).file (file_at old number)
  own_before = own_may_be (slot_at number old).doubt (slot_at number old).file

-- after a put each image is one from before with the new file
pub images-put : (number : ℕ) (bytes : List ℕ) (old new : List Slot) → SetsSlot number (stored_slot number bytes) old new → Follows (Puts number bytes) (MayLeaveFiles old) (MayLeaveFiles new)
images-put number bytes old new sets c left =
    let slot = stored_slot number bytes in
    let own = own_before number slot old new sets c left in
    let file = file_at old number in
    (before number slot old new sets c left file own, before-left number slot old new sets c left file own, record { stored = left-here number slot old new sets c left; others = before-others number slot old new sets c left file own })

-- whatever stands at a number then, each image keeps the others
pub images-set : (number : ℕ) (slot : Slot) (old new : List Slot) → SetsSlot number slot old new → Follows (PutsOrNot number) (MayLeaveFiles old) (MayLeaveFiles new)
images-set number slot old new sets c left =
    let own = own_before number slot old new sets c left in
    let file = file_at old number in
    (before number slot old new sets c left file own, before-left number slot old new sets c left file own, record { others = before-others number slot old new sets c left file own })

-- what was left at the number before a remove, by what is left after it
record WasLeft (slot : Slot) (left : Option (List ℕ)) : Type 0 where
  file : Option (List ℕ)
  may : MayBe slot.doubt slot.file file
  either : (left ≡ None) ⊎ (left ≡ file)

was_left_same : (slot : Slot) (left : Option (List ℕ)) → MayBe slot.doubt slot.file left → WasLeft slot left
was_left_same slot left may = record { file = left; may = may; either = inr refl }

-- a crash may leave anything: so it might before
was_left-removed : (number : ℕ) (own : Option (List ℕ)) (doubt : Option Doubt) (left : Option (List ℕ)) → MayBe (removed (record { number = number; file = own; doubt = doubt })).doubt (removed (record { number = number; file = own; doubt = doubt })).file left
    → WasLeft (record { number = number; file = own; doubt = doubt }) left
was_left-removed number None doubt left may = was_left_same (record { number = number; file = None; doubt = doubt }) left may
was_left-removed number (Some bytes) None left may = record { file = Some bytes; may = refl; either = may }
was_left-removed number (Some bytes) (Some (Put other)) left may = record { file = left; may = tt; either = inr refl }
was_left-removed number (Some bytes) (Some Removing) left may = record { file = Some bytes; may = inr refl; either = may }
was_left-removed number (Some bytes) (Some (Removed other)) left may = record { file = Some bytes; may = inl refl; either = may }

was_left-remove_failed : (number : ℕ) (own : Option (List ℕ)) (doubt : Option Doubt) (left : Option (List ℕ)) → MayBe (remove_failed (record { number = number; file = own; doubt = doubt })).doubt (remove_failed (record { number = number; file = own; doubt = doubt })).file left
    → WasLeft (record { number = number; file = own; doubt = doubt }) left
was_left-remove_failed number None doubt left may = was_left_same (record { number = number; file = None; doubt = doubt }) left may
was_left-remove_failed number (Some bytes) None left may = record { file = Some bytes; may = refl; either = may }
was_left-remove_failed number (Some bytes) (Some (Put other)) left may = record { file = left; may = tt; either = inr refl }
was_left-remove_failed number (Some bytes) (Some Removing) left may = record { file = Some bytes; may = inr refl; either = may }
was_left-remove_failed number (Some bytes) (Some (Removed other)) left may = record { file = Some bytes; may = inl refl; either = may }

-- after a remove each image is one from before, with the file or without
images-was_left : (number : ℕ) (slot : Slot) (old new : List Slot) (sets : SetsSlot number slot old new) (c : ℕ → Option (List ℕ)) (left : MayLeaveFiles new c) → WasLeft (slot_at number old) (c number) → IsStepOf (RemovesOrNot number) (MayLeaveFiles old) c
images-was_left number slot old new sets c left was =
    let here = before-here number slot old new sets c left was.file was.may in (
      before number slot old new sets c left was.file was.may,
      before-left number slot old new sets c left was.file was.may,
      record {
        either = elim was.either [ inl none ↦ inl none | inr is ↦ inr (is ∙ sym here) ];
        others = before-others number slot old new sets c left was.file was.may;
      },
    )

pub images-removed : (number : ℕ) (old new : List Slot) → SetsSlot number (removed (slot_at number old)) old new → Follows (RemovesOrNot number) (MayLeaveFiles old) (MayLeaveFiles new)
images-removed number old new sets c left =
    let slot = slot_at number old in
    images-was_left number (removed slot) old new sets c left (was_left-removed slot.number slot.file slot.doubt (c number) (left-here number (removed slot) old new sets c left))

pub images-remove_failed : (number : ℕ) (old new : List Slot) → SetsSlot number (remove_failed (slot_at number old)) old new → Follows (RemovesOrNot number) (MayLeaveFiles old) (MayLeaveFiles new)
images-remove_failed number old new sets c left =
    let slot = slot_at number old in
    images-was_left number (remove_failed slot) old new sets c left (was_left-remove_failed slot.number slot.file slot.doubt (c number) (left-here number (remove_failed slot) old new sets c left))

-- nothing changed
pub images_same-put : (number : ℕ) (slots : List Slot) → Follows (PutsOrNot number) (MayLeaveFiles slots) (MayLeaveFiles slots)
images_same-put number slots c left = (c, left, record { others = λ n other. refl })

pub images_same-remove : (number : ℕ) (slots : List Slot) → Follows (RemovesOrNot number) (MayLeaveFiles slots) (MayLeaveFiles slots)
images_same-remove number slots c left = (c, left, record { either = inr refl; others = λ n other. refl })
