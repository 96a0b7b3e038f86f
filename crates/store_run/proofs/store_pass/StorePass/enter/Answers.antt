use Rattle.std.proofs.Common.{◌-◌, refl}
use Rattle.rdb_base.specs.declared.entry.Entry.{Entry}
use Rattle.store_run.specs.Rows.{rows_of}
use Rattle.store_run.proofs.ReopenLemmas.{kept-same, kept-appended}
use Rattle.store_run.proofs.store_pass.StorePass.enter.Goals as goal

pub invariant_of-self-2 : goal.invariant_of-self-2
invariant_of-self-2 g c =
    let entry : Entry = record { caller = 0; ordinal = c.end.result - c.self.inside.begun; key = c.args.key; change = c.args.change } in
    let made = c.reserve.ensures in
    let kept = kept-same g.S.Strip c.self.inside.log c.reserve.new.self (rows_of c.self.inside.map) c.self.inside.begun c.self.inside.opened.value c.self.inside.made c.self.invariant made.same.0 made.same.1 made.headed made.journal made.synced made.entries in
    let appends = c.append.ensures in
    kept-appended g.S.Strip c.append.result c.reserve.new.self c.append.new.log (rows_of c.self.inside.map) (rows_of c.append.new.rows) c.self.inside.begun c.self.inside.opened.value c.self.inside.made c.append.new.made entry kept (rw (← c.self.view_is) at c.requires.some) refl
    appends.rows appends.made appends.appended appends.refused
