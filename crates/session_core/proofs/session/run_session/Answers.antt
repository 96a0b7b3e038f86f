use Rattle.std.proofs.Common.{◌≡◌, ℕ, [], Option, Some, refl, sym, ap, subst, arith, ◌∙◌, ◌+◌}
use Rattle.std.specs.Prelude.{IfSome}
use Rattle.disk_model.specs.Piles.{Units, units_at, number_of, book_of}
use Rattle.wire_protocol.specs.Messages.{Held}
use Rattle.session_core.specs.declared.session_end.SessionEnd.TheVariants.{Memory}
use Rattle.session_core.specs.Conversations.{scene_at, decided_of}
use Rattle.session_core.proofs.ExchangeLemmas.{nothing_exchanged}
use Rattle.session_core.proofs.ConversationLemmas.{so_far_first, so_far_more, ended_after, turn_counts, passed_on}
use Rattle.session_core.proofs.session.run_session.Goals as goal

pub messages-init : goal.messages-init
messages-init g c =
    let first = scene_at g.A.Answers g.R.Source g.W.Sink c.args.pass.now c.args.source.now c.args.sink.now [] in
    let ready = scene_at g.A.Answers g.R.Source g.W.Sink c.args.pass.now c.args.source.now c.args.sink.now c.new-faults.result in
    let at = ap (λ (d : Held). d.at) c.in-Ok.ensures in
    let none : (d : ℕ) → number_of (units_at c.new-faults.result d) ≡ 0 = λ d. ap number_of (c.new-faults.ensures d) in
    record {
      empty = ap (λ (d : Held). d.bytes) c.in-Ok.ensures;
      below = omega (arith, at);
      replies = omega (arith, at);
      few = λ d. omega (arith, none d);
      books = λ d. subst (λ (o : Option Units). IfSome (book_of o) (λ book. book ≡ g.A.Answers.books d)) (sym (c.new-faults.ensures d)) tt;
      source = refl;
      sink = refl;
      so_far = so_far_first first ready c.in-Ok.rooms.decoder.at (nothing_exchanged first ready refl refl refl (λ d. none d)) at;
    }

pub messages-preserved : goal.messages-preserved
messages-preserved g c =
    let first = scene_at g.A.Answers g.R.Source g.W.Sink c.args.pass.now c.args.source.now c.args.sink.now [] in
    let before = scene_at g.A.Answers g.R.Source g.W.Sink c.messages.pass c.messages.source c.messages.sink c.messages.faults in
    let after = scene_at g.A.Answers g.R.Source g.W.Sink c.turn.new.pass c.turn.new.source c.turn.new.sink c.turn.new.faults in
    let old = c.messages.rooms.decoder in
    let new = c.turn.new.rooms.decoder in
    let counts = turn_counts old new before after c.in-None.ensures.out in
    record {
      empty = counts.1;
      below = c.in-None.ensures.spent;
      replies = omega (arith, counts.0, c.messages.invariant.replies);
      few = λ d. omega (arith, counts.0, counts.2 d, c.messages.invariant.few d);
      books = c.in-None.ensures.books;
      source = c.in-None.ensures.source_kept (λ e. cc) ∙ c.messages.invariant.source;
      sink = c.in-None.ensures.sink_kept (λ e. cc) ∙ c.messages.invariant.sink;
      so_far = so_far_more 0 c.messages.replies old new first before after c.messages.invariant.so_far c.in-None.ensures.out;
    }

pub returns-in-Some-clause-out : goal.returns-in-Some-clause-out
returns-in-Some-clause-out g c =
    let first = scene_at g.A.Answers g.R.Source g.W.Sink c.args.pass.now c.args.source.now c.args.sink.now [] in
    let before = scene_at g.A.Answers g.R.Source g.W.Sink c.messages.pass c.messages.source c.messages.sink c.messages.faults in
    let after = scene_at g.A.Answers g.R.Source g.W.Sink c.turn.new.pass c.turn.new.source c.turn.new.sink c.turn.new.faults in
    let begun : (c.in-Some.end ≡ Memory → ⊥) = λ e. c.in-Some.ensures.begun (ap (λ x. Some x) e) in
    let ended = ended_after c.in-Some.end 0 c.messages.rooms.decoder.at c.messages.replies (decided_of c.in-Some.end) first before after begun c.messages.invariant.so_far c.in-Some.ensures.out in
    let whole = passed_on c.in-Some.end c.pass_on-end.result (c.messages.replies + decided_of c.in-Some.end) first after (g.W.Sink.written c.pass_on-end.new.sink) c.pass_on-end.ensures.bytes begun c.pass_on-end.ensures.end ended in
    rw c.decided_in.ensures whole
