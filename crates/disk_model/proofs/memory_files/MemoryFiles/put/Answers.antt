-- The number has its place, and the slot there is written over.
use Rattle.std.proofs.Common.{refl, subst}
use Rattle.disk_model.specs.Slots.{AreRisingSlots, stored_slot}
use Rattle.disk_model.proofs.SlotLemmas.{sets-set, sets-after_same}
use Rattle.disk_model.proofs.memory_files.MemoryFiles.put.Goals as goal

pub returns-clause-ok : goal.returns-clause-ok
returns-clause-ok c =
    let found = c.in_ok-place.ensures in
    let rising = subst AreRisingSlots c.self.view_is c.self.invariant in
    rw c.self.view_is (sets-after_same _ _ _ _ _ found.same (sets-set _ rising _ _ found.place (stored_slot c.args.number c.args.bytes) refl))
