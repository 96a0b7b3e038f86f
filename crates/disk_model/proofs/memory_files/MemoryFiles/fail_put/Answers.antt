-- The number has its place, and the slot there is changed.
use Rattle.std.proofs.Common.{◌≡◌, List, get_or, refl, subst}
use Rattle.disk_model.specs.Slots.{AreRisingSlots, put_failed}
use Rattle.disk_model.specs.declared.slot.Slot.{Slot}
use Rattle.disk_model.proofs.SlotLemmas.{sets-changed, sets-after_same}
use Rattle.disk_model.proofs.memory_files.MemoryFiles.fail_put.Goals as goal

pub returns-clause-ok : goal.returns-clause-ok
returns-clause-ok c =
    let found = c.in_ok-place.ensures in
    let slot = c.index_mut.result.now in
    let rising = subst AreRisingSlots c.self.view_is c.self.invariant in
    let read = subst (λ (l : List Slot). slot ≡ get_or l c.in_ok-place.place slot) c.self.view_is c.index_mut.ensures.value in
    rw (c.fail_put.ensures, c.self.view_is, ← found.same c.args.number) (sets-after_same _ _ _ _ _ found.same (sets-changed _ rising _ _ found.place slot read (put_failed c.args.bytes) (λ s. refl)))
