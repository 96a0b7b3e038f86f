-- Each slot was crashed.
use Rattle.std.proofs.Common.{◌≤◌, length, map, sym, ◌∙◌, arith}
use Rattle.std.proofs.lemmas.Grind.{common_steps}
use Rattle.std.proofs.lemmas.List.{ext_get_or, get_or-map, length-map}
use Rattle.disk_model.specs.Slots.{empty_slot, left_slot}
use Rattle.disk_model.proofs.memory_files.crash_each.Goals as goal

pub returns : goal.returns
returns c =
    let crashed = left_slot c.args.pick in
    let slots = c.args.slots.now.items in
    let all : length slots ≤ c.loop-i.i = grind (arith, common_steps) in
    let same = c.loop-i.invariant.same_length in
    ext_get_or (empty_slot 0) c.loop-i.slots.items (map crashed slots) (same ∙ sym (length-map slots crashed))
    (λ i lt. c.loop-i.invariant.done i (omega (arith, all, same, lt)) ∙ sym (get_or-map crashed slots i (empty_slot 0) (empty_slot 0) (omega (arith, same, lt))))
