-- The piece stands in its place.
use Rattle.std.proofs.Common.{◌≡◌, ◌+◌, ◌≤◌, length, Result, OnOk, subst, ap, ◌∙◌}
use Rattle.std.proofs.lemmas.Grind.{common_steps}
use Rattle.std.proofs.Common.{arith}
use Rattle.std.specs.Prelude.{vec_capacity}
use Rattle.std.specs.declared.alloc.AllocError.{AllocError}
use Rattle.disk_model.specs.Strips.{Holds}
use Rattle.disk_model.specs.FileState.{written}
use Rattle.disk_model.proofs.FileLemmas.{sound-written}
use Rattle.disk_model.proofs.memory_file.MemoryFile.write.Goals as goal

pub invariant_of-self-2 : goal.invariant_of-self-2
invariant_of-self-2 c =
    let bytes = c.self.inside.bytes.items in
    let piece = c.args.piece.now in
    let P : Result (Unit {0}) AllocError → Type 0 = λ r. OnOk r (Holds c.reserve.new.self.items c.args.at piece c.write_over.new.bytes.items) in
    let is : c.write_over.new.bytes.items ≡ written c.args.at piece bytes = subst P c.unwrap.ensures c.write_over.ensures.written ∙ ap (written c.args.at piece) c.reserve.ensures.items in
    let within : c.args.at ≤ length bytes = grind (arith, common_steps) in
    let room : c.args.at + length piece ≤ vec_capacity c.reserve-2.new.self = grind (arith, common_steps) in
    rw (is, c.reserve-2.ensures.items, c.in_ok-push.ensures.items, c.min-self-inside.ensures)
    (sound-written _ _ _ _ _ _ c.self.invariant c.args.at piece (vec_capacity c.write_over.new.bytes) (vec_capacity c.reserve-2.new.self) within
    (grind (arith, common_steps)) c.reserve-2.ensures.capacity room)
