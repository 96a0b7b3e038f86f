-- All numbers were gathered.
use Rattle.std.proofs.Common.{◌≡◌, ◌≤◌, ◌++◌, ℕ, List, length, ap, ◌∙◌, subst, arith}
use Rattle.std.proofs.lemmas.Grind.{common_steps}
use Rattle.std.proofs.lemmas.List.{append-nil, drop_all}
use Rattle.disk_model.specs.Shelves.{AreNumbersOf}
use Rattle.disk_model.specs.Slots.{numbers_in, file_at}
use Rattle.disk_model.specs.declared.slot.Slot.{Slot}
use Rattle.disk_model.proofs.NumberLemmas.{numbers-are}
use Rattle.disk_model.proofs.memory_files.MemoryFiles.numbers.Goals as goal

pub returns : goal.returns
returns c =
    let slots = c.self.inside.slots.items in
    let numbers = c.loop-i.numbers.items in
    let past : length slots ≤ c.loop-i.i = grind (arith, common_steps) in
    let all : numbers_in slots ≡ numbers = c.loop-i.invariant ∙ ap (λ (l : List Slot). numbers ++ numbers_in l) (drop_all c.loop-i.i slots past) ∙ append-nil numbers in
    subst (λ (l : List ℕ). AreNumbersOf l (file_at c.args.self.now)) all (subst (λ (l : List Slot). AreNumbersOf (numbers_in slots) (file_at l)) c.self.view_is (numbers-are slots c.self.invariant))
