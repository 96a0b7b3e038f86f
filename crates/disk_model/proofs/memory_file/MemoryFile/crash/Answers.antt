-- What is picked is an image, and there is room for it.
use Rattle.std.proofs.Common.{◌≡◌, ◌≤◌, length, ◌∙◌, arith}
use Rattle.std.proofs.lemmas.Grind.{common_steps}
use Rattle.std.specs.Prelude.{vec_capacity}
use Rattle.disk_model.specs.FileState.{FileState, crash_image}
use Rattle.disk_model.proofs.MarkLemmas.{image-picked, length-picked}
use Rattle.disk_model.proofs.memory_file.MemoryFile.crash.Goals as goal

pub replace-requires : goal.replace-requires
replace-requires c =
    let file : FileState = record { bytes = c.self.inside.bytes.items; synced = c.deref.result.now; changes = c.deref-2.result.now } in
    let synced : length c.deref.result.now ≤ vec_capacity c.self.inside.synced = grind (arith, common_steps) in
    let is : c.deref-3.result.now ≡ crash_image c.args.pick file = c.deref-3.ensures.value ∙ c.crash_bytes.ensures.left in
    rw is (length-picked c.args.pick (vec_capacity c.self.inside.synced) file synced c.self.invariant.synced_room)

pub returns-clause-image : goal.returns-clause-image
returns-clause-image c = rw (← c.self.view_is) (image-picked c.args.pick (record { bytes = c.self.inside.bytes.items; synced = c.self.inside.synced.items; changes = c.self.inside.changes.items }) c.self.invariant.own)
