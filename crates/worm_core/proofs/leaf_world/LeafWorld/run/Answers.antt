use Rattle.std.proofs.Common.{◌≡◌, ◌+◌, ◌≤◌, List, [], ◌∷◌, ◌++◌, length, sym, ap, ◌∙◌, subst, arith, rules, length-append}
use Rattle.std.specs.Prelude.{vec_len, vec_capacity}
use Rattle.std.proofs.lemmas.Iterator.Adapters.{YieldsList-from_vec}
use Rattle.std.proofs.lemmas.Iterator.Consumers.{YieldsList-so_far, YieldsList-turn}
use Rattle.worm_core.specs.Events.{RunsTo}
use Rattle.worm_core.specs.Refusals.{StopsAt, error_at}
use Rattle.worm_core.specs.Worlds.{World}
use Rattle.worm_core.specs.declared.leaf_answer.LeafAnswer.{LeafAnswer}
use Rattle.worm_core.specs.declared.leaf_world_error.LeafWorldError.{LeafWorldError}
use Rattle.worm_core.proofs.PromiseLemmas.{runs-more}
use Rattle.worm_core.proofs.RunLemmas.{run-stops}
use Rattle.worm_core.proofs.leaf_world.LeafWorld.run.Goals as goal

pub returns-in-Err-clause-stops : goal.returns-in-Err-clause-stops
returns-in-Err-clause-stops c =
    let es = c.args.events.items in
    let xs = c.events.yielded in
    let event = c.in-Some.event in
    let refused = c.in-Err.refused in
    let all = YieldsList-from_vec {s = c.into_iter-event-iterator.result} es (search rules) (search rules) in
    let front = YieldsList-so_far all xs c.events.event-iterator c.events.yielded_by in
    let turn = YieldsList-turn all xs c.events.event-iterator c.events.yielded_by c.next.result c.next.new.self event c.in-Some.is c.next.ensures.steps in
    subst (λ (e : LeafWorldError). StopsAt c.args.self.now es e c.happen.new.self) (sym c.at.ensures)
    (subst (λ (next : World). StopsAt c.args.self.now es (error_at refused c.events.number) next) (sym c.in-Err.ensures.same)
    (run-stops refused c.args.self.now c.events.self es xs c.events.answers.items c.events.number event c.events.invariant.number front turn c.events.invariant.runs c.in-Err.ensures.none))

pub events-preserved : goal.events-preserved
events-preserved c =
    let xs = c.events.yielded in
    let event = c.in-Some.event in
    let one = length-append xs (event ∷ []) in
    record {
      number = omega (arith, one, c.events.invariant.number);
      count = omega (arith, one, c.push_reserved.ensures.len, c.events.invariant.count);
      room = omega (arith, c.push_reserved.ensures.capacity, c.events.invariant.room);
      runs = subst (λ (more : List LeafAnswer). RunsTo c.args.self.now (xs ++ event ∷ []) more c.happen.new.self) (sym c.push_reserved.ensures.items)
          (runs-more xs c.events.answers.items c.args.self.now c.events.self c.happen.new.self event c.in-Ok.answer c.events.invariant.runs c.in-Ok.ensures.step);
    }
