-- The next version of a view that shows, and of a set. To know: shown-here, shown-passed, shown-end, older-shown, older-none, older-end.
use Rattle.std.proofs.Common.{◌≡◌, inl, inr, ℕ, ◌+◌, ◌≤◌, true, false, List, [], ◌∷◌, ◌++◌, length, map, drop, refl, sym, ap, subst, ◌∙◌, arith}
use Rattle.std.specs.Prelude.{slice_get, Some, not, ◌||◌, filter}
use Rattle.std.proofs.lemmas.List.{drop_all}
use Rattle.rdb_base.specs.declared.pair.Pair.{Pair}
use Rattle.remix_view.specs.declared.spot.Spot.{Spot}
use Rattle.remix_view.specs.declared.walk.Walk.{Walk}
use Rattle.remix_view.specs.Views.{ViewState, IsFormed}
use Rattle.remix_view.specs.Spots.{spots_from, spots_from_place, IsAhead, IsSpotPlace}
use Rattle.partition_set.specs.Partitions.{PartState}
use Rattle.overlay_view.specs.declared.older.Shown.{Shown}
use Rattle.overlay_view.specs.Older.{shows, shown_from, pairs_of, shown_of, shown_past, older_from, from_first, NextShown, StandsAt}
use Rattle.overlay_view.proofs.ListLemmas.{drop-there, filter-first}

-- ---- of a view

-- nothing is left at the end place
end-spots : (view : ViewState) (segment place : ℕ) → segment ≡ length view.segments → spots_from view segment place ≡ []
end-spots view segment place e = ap (spots_from_place place) (drop_all segment view.segments (omega (arith, e)))

spot-place : (view : ViewState) (segment place : ℕ) (spot : Spot) (later : List Spot) → IsAhead view segment place → spots_from view segment place ≡ (spot ∷ later) → IsSpotPlace view segment place
spot-place view segment place spot later (inr there) some = there
spot-place view segment place spot later (inl ends) some = absurd (let none = sym (end-spots view segment place ends.0) ∙ some in cc)

unmarked : (spot : Spot) → spot.old ≡ false → spot.del ≡ false → shows spot ≡ true
unmarked spot old del = (λ i. not (old i || del i))

-- the version that stands there shows
pub shown-here : (view : ViewState) (walk at after : Walk) (here : ℕ × ℕ) (spot : Spot) → shown_from view at ≡ shown_from view walk → here ≡ (at.segment, at.place) → IsAhead view at.segment at.place → spots_from view at.segment at.place ≡ (spot ∷ spots_from view after.segment after.place) → shows spot ≡ true → IsFormed view
    → NextShown view walk (Some (record { segment = here.0; place = here.1; spot = spot; after = after }))
shown-here view walk at after here spot same e ahead some shown formed =
    subst (λ (h : ℕ × ℕ). NextShown view walk (Some (record { segment = h.0; place = h.1; spot = spot; after = after }))) (sym e) (
      spot-place view at.segment at.place spot (spots_from view after.segment after.place) ahead some,
      some,
      shown,
      sym same ∙ ap (filter shows) some ∙ filter-first shows spot (spots_from view after.segment after.place) true shown,
      formed,
    )

-- it does not show
pub shown-passed : (view : ViewState) (at after : Walk) (spot : Spot) → spots_from view at.segment at.place ≡ (spot ∷ spots_from view after.segment after.place) → shows spot ≡ false → shown_from view after ≡ shown_from view at
shown-passed view at after spot some hidden = sym (ap (filter shows) some ∙ filter-first shows spot (spots_from view after.segment after.place) false hidden)

-- nothing stands there
pub shown-end : (view : ViewState) (walk at : Walk) → shown_from view at ≡ shown_from view walk → spots_from view at.segment at.place ≡ [] → shown_from view walk ≡ []
shown-end view walk at same none = sym same ∙ ap (filter shows) none

-- ---- of a set

shown_past-first : {T : Type 0} (run : T → List Pair) (parts : List (PartState T)) → shown_past run parts from_first ≡ shown_of run parts
shown_past-first run [] = refl
shown_past-first run (p ∷ ps) = refl

-- a version of the partition shows
pub older-shown : {T : Type 0} (run : T → List Pair) (parts : List (PartState T)) (number : ℕ) (part : PartState T) (walk : Walk) (shown : Shown) → slice_get parts number ≡ Some part → NextShown part.view walk (Some shown)
    → (older_from run parts number (record { segment = shown.segment; place = shown.place }) ≡ older_from run parts number walk) × StandsAt parts (record { part = number; segment = shown.segment; place = shown.place }) shown.after shown.spot
older-shown {T} run parts number part walk shown at next = (
  ap (λ (ps : List (PartState T)). shown_past run ps (record { segment = shown.segment; place = shown.place })) (drop-there parts number part at)
      ∙ ap (λ (ss : List Spot). pairs_of (map run part.runs) ss ++ shown_of run (drop (number + 1) parts))
      (ap (filter shows) next.1 ∙ filter-first shows shown.spot (spots_from part.view shown.after.segment shown.after.place) true next.2 ∙ sym next.3)
      ∙ ap (λ (ps : List (PartState T)). shown_past run ps walk) (sym (drop-there parts number part at)),
  record { part = part; at = at; formed = next.4; there = next.0; spots = next.1; shown = next.2 },
)

-- none does, and the next partition begins
pub older-none : {T : Type 0} (run : T → List Pair) (parts : List (PartState T)) (number : ℕ) (part : PartState T) (walk : Walk) → slice_get parts number ≡ Some part → shown_from part.view walk ≡ [] → older_from run parts (number + 1) from_first ≡ older_from run parts number walk
older-none {T} run parts number part walk at none =
    shown_past-first run (drop (number + 1) parts)
    ∙ ap (λ (ss : List Spot). pairs_of (map run part.runs) ss ++ shown_of run (drop (number + 1) parts)) (sym none)
    ∙ ap (λ (ps : List (PartState T)). shown_past run ps walk) (sym (drop-there parts number part at))

-- the set ends
pub older-end : {T : Type 0} (run : T → List Pair) (parts : List (PartState T)) (number : ℕ) (walk : Walk) → length parts ≤ number → older_from run parts number walk ≡ []
older-end {T} run parts number walk le = ap (λ (ps : List (PartState T)). shown_past run ps walk) (drop_all number parts le)
