use Rattle.session_core.specs.Conversations.{scene_at}
use Rattle.session_core.proofs.TurnLemmas.{turn_untaken, turn_sent, turn_unsent}
use Rattle.session_core.proofs.session.turn.Goals as goal

pub returns-in-Err-clause-out : goal.returns-in-Err-clause-out
returns-in-Err-clause-out g c =
    let before = scene_at g.A.Answers g.R.Source g.W.Sink c.args.pass.now c.args.source.now c.args.sink.now c.args.faults.now in
    turn_untaken c.in-Err.end c.args.rooms.now.decoder c.take_message.new.decoder before (g.R.Source.left c.take_message.new.source) c.requires.start c.in-Err.ensures.came c.in-Err.ensures.place c.in-Err.ensures.out

pub returns-in_default-send-clause-out : goal.returns-in_default-send-clause-out
returns-in_default-send-clause-out g c =
    let before = scene_at g.A.Answers g.R.Source g.W.Sink c.args.pass.now c.args.source.now c.args.sink.now c.args.faults.now in
    let after = scene_at g.A.Answers g.R.Source g.W.Sink c.decide-reply.new.pass c.take_message.new.source c.send.new.sink c.decide-reply.new.faults in
    turn_unsent c.decide-reply.result.reply c.decide-reply.result.end c.args.rooms.now.decoder c.take_message.new.decoder c.decide-reply.new.decoder before after c.in_default-send.ensures.bytes.0 c.requires.start c.in_default.ensures.came c.in_default.ensures.place c.in_default.ensures.below c.decide-reply.ensures.decides c.in_default-send.ensures.bytes.2

pub returns-clause-out : goal.returns-clause-out
returns-clause-out g c =
    let before = scene_at g.A.Answers g.R.Source g.W.Sink c.args.pass.now c.args.source.now c.args.sink.now c.args.faults.now in
    let after = scene_at g.A.Answers g.R.Source g.W.Sink c.decide-reply.new.pass c.take_message.new.source c.send.new.sink c.decide-reply.new.faults in
    turn_sent c.decide-reply.result.reply c.decide-reply.result.end c.args.rooms.now.decoder c.take_message.new.decoder c.decide-reply.new.decoder before after c.requires.start c.in_default.ensures.came c.in_default.ensures.place c.in_default.ensures.below c.decide-reply.ensures.decides c.in-Ok.ensures.bytes
