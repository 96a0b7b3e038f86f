-- The number is at its place, and the file there is the one that was read; or it is not there.
use Rattle.std.proofs.Common.{rules, ◌≡◌, sym, ap, subst, arith}
use Rattle.std.proofs.lemmas.List.{get_or_default}
use Rattle.disk_model.specs.Slots.{empty_slot, slot_at, AreRisingSlots}
use Rattle.disk_model.specs.declared.slot.Slot.{Slot}
use Rattle.disk_model.proofs.SlotLemmas.{slot_at-found, slot_at-gap}
use Rattle.disk_model.proofs.memory_files.MemoryFiles.get.Goals as goal

pub returns-in-Ok : goal.returns-in-Ok
returns-in-Ok c =
    let found = slot_at-found _ (subst AreRisingSlots c.self.view_is c.self.invariant) _ _ c.in-Ok.ensures.found in
    let read = get_or_default _ _ c.index.result.now (empty_slot 0) c.in-Ok.ensures.found.in_range in
    let is : slot_at c.args.number c.args.self.now ≡ c.index.result.now = grind (arith, c.self.view_is, found, read) in
    rw is (search rules)

pub returns-in-Err : goal.returns-in-Err
returns-in-Err c = sym (ap (λ (s : Slot). s.file) (slot_at-gap _ _ _ c.in-Err.ensures.absent))
