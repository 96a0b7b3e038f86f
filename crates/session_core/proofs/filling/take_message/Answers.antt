use Rattle.std.proofs.Common.{arith}
use Rattle.session_core.proofs.TurnLemmas.{input_ended}
use Rattle.session_core.proofs.filling.take_message.Goals as goal

pub returns-then-count-eq0-clause-out : goal.returns-then-count-eq0-clause-out
returns-then-count-eq0-clause-out g c = input_ended c.end_of_input.result c.message.decoder c.take_from.new.self (g.R.Source.left c.message.source) (g.R.Source.left c.take_from.new.source) _ c.in-Ok.count c.in-Ok.ensures.taken c.if-count-eq0.true c.end_of_input.ensures.ends (omega (arith, c.want.ensures.wanted)) (omega arith)
