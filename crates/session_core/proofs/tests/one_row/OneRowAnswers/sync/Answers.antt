use Rattle.std.proofs.Common.{sym, ◌∙◌}
use Rattle.session_core.proofs.OneRowLemmas.{syncs_telling}
use Rattle.session_core.proofs.tests.one_row.OneRowAnswers.sync.Goals as goal

pub returns-clause-moves : goal.returns-clause-moves
returns-clause-moves c = syncs_telling c.args.pass.now c.pass.inside.seen c.save.new.self c.pass.inside.book.count c.save.result c.save.new.self.safe (sym c.in_ok-call_strip.ensures.ok ∙ sym c.pass.view_is) c.save.ensures.number c.save.ensures.saved c.save.ensures.later c.save.ensures.safe
