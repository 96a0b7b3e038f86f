use Rattle.std.proofs.Common.{sym, arith}
use Rattle.rdb_base.specs.declared.entry.Entry.{Entry}
use Rattle.rdb_base.specs.declared.change.Change.TheVariants.{Put}
use Rattle.session_core.proofs.OneRowLemmas.{heard_telling}
use Rattle.session_core.proofs.tests.one_row.OneRowPass.hear.Goals as goal

pub returns-clause-grows : goal.returns-clause-grows
returns-clause-grows c =
    let entry : Entry = record { caller = 1; ordinal = 0; key = c.in-Some.field-0.key; change = Put c.in-Some.field-0.value } in
    heard_telling c.args.self.now c.self.inside.seen c.see.new.self c.self.inside.book.count entry (sym c.self.view_is) (omega (arith, c.front.ensures.front, c.front.ensures.most, c.if-front-eq-NUMBER_MAX.false)) (λ e. absurd (omega (arith, e, c.front.ensures.caller))) c.in-Ok.ensures.ok.1
