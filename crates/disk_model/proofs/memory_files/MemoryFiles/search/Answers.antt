-- The closure gives a slot's number, and the slice is the slots.
use Rattle.std.proofs.Common.{rules}
use Rattle.std.proofs.lemmas.List.Sorted.{answers_always}
use Rattle.disk_model.proofs.SlotLemmas.{searched}
use Rattle.disk_model.proofs.memory_files.MemoryFiles.search.Goals as goal

pub returns : goal.returns
returns c =
    let facts = c.binary_search_by_key.ensures in
    let by_key = facts.position (λ slot. slot.number) (answers_always _ _ _ (λ f a r g called. search rules)) in
    rw (← c.self.view_is, ← c.deref.ensures.value) (searched _ (rw c.deref.ensures.value c.self.invariant) c.args.number _ facts.bound by_key)
