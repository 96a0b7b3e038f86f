-- The slot at the number is taken out; or there is none, and nothing to take.
use Rattle.std.proofs.Common.{refl, subst}
use Rattle.disk_model.specs.Slots.{empty_slot, AreRisingSlots}
use Rattle.disk_model.proofs.SlotLemmas.{sets-removed, sets-none}
use Rattle.disk_model.proofs.memory_files.MemoryFiles.erase.Goals as goal

pub returns-in-Ok : goal.returns-in-Ok
returns-in-Ok c = rw (c.remove.ensures.items, c.self.view_is) (sets-removed _ (subst AreRisingSlots c.self.view_is c.self.invariant) _ _ c.in-Ok.ensures.found)

pub returns-in-Err : goal.returns-in-Err
returns-in-Err c = sets-none _ _ _ c.in-Err.ensures.absent (λ s. empty_slot c.args.number) refl
