use Rattle.std.proofs.Common.{List, length, ap, ◌∙◌, arith}
use Rattle.rdb_base.specs.declared.entry.Entry.{Entry}
use Rattle.store_run.proofs.MoveLemmas.{update_enters}
use Rattle.store_run.proofs.store_pass.StorePass.update.Goals as goal

pub returns-in-Ok-clause-moves : goal.returns-in-Ok-clause-moves
returns-in-Ok-clause-moves g c =
    let enters = c.in-Ok.ensures.enters in
    update_enters g.S.Strip c.args.self.now c.make_room.new.self c.enter.new.self c.args.key c.args.change c.in-Ok.number c.in-Ok.ensures.below c.make_room.ensures.stays enters.0 enters.1 enters.2 (omega (arith, ap (λ (es : List Entry). length es) c.in-Ok.ensures.synced))
    (ap (λ j. g.S.Strip.count j.strip) c.in-Ok.ensures.journal ∙ c.in_ok-make_room.ensures.cause.kept)
