use Rattle.std.proofs.Common.{sym, ◌∙◌, arith}
use Rattle.session_core.proofs.OneRowLemmas.{enters_telling}
use Rattle.session_core.proofs.tests.one_row.OneRowPass.update.Goals as goal

pub returns-clause-moves : goal.returns-clause-moves
returns-clause-moves c = enters_telling c.args.self.now c.self.inside.seen c.enter.new.self c.self.inside.book.count c.in-Ok.number c.args.key c.args.change (sym c.in_ok-call_strip.ensures.ok ∙ sym c.self.view_is) (omega (arith, c.front-number.ensures.front, c.front-number.ensures.most, c.if-number-eq-NUMBER_MAX.false)) c.in-Ok.ensures.ok.0 c.in-Ok.ensures.ok.1
