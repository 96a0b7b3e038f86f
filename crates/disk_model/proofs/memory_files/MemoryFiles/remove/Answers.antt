-- The slot at the number is changed; or there is none, and nothing to change.
use Rattle.std.proofs.Common.{◌≡◌, List, get_or, refl, subst}
use Rattle.disk_model.specs.Slots.{AreRisingSlots, removed}
use Rattle.disk_model.specs.declared.slot.Slot.{Slot}
use Rattle.disk_model.proofs.ShelfLemmas.{number-removed}
use Rattle.disk_model.proofs.SlotLemmas.{sets-changed, sets-none}
use Rattle.disk_model.proofs.memory_files.MemoryFiles.remove.Goals as goal

pub returns-in-Ok : goal.returns-in-Ok
returns-in-Ok c =
    let slot = c.index_mut.result.now in
    let rising = subst AreRisingSlots c.self.view_is c.self.invariant in
    let read = subst (λ (l : List Slot). slot ≡ get_or l c.in-Ok.place slot) c.self.view_is c.index_mut.ensures.value in
    rw (c.remove.ensures, c.self.view_is) (sets-changed _ rising _ _ c.in-Ok.ensures.found slot read removed number-removed)

pub returns-in-Err : goal.returns-in-Err
returns-in-Err c = sets-none _ _ _ c.in-Err.ensures.absent removed refl
