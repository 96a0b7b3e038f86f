use Rattle.std.proofs.Common.{ap, subst, ◌∙◌, arith, length}
use Rattle.frame_journal.specs.declared.phase.Phase.{Phase}
use Rattle.frame_journal.specs.JournalState.{is_ready, has_staged}
use Rattle.frame_journal.specs.Journals.{HoldsIn, LeftIn, unframed}
use Rattle.frame_journal.proofs.JournalLemmas.{length-framed, unframed-framed}
use Rattle.frame_journal.proofs.PhaseLemmas.{ready_only, framed-is}
use Rattle.frame_journal.proofs.StandingLemmas.{stands-sound}
use Rattle.frame_journal.specs.declared.phase.Phase.TheVariants.{Staged}
use Rattle.frame_journal.proofs.journal.Journal.stage.Goals as goal

pub invariant_of-self : goal.invariant_of-self
invariant_of-self g c =
    let old = c.self.invariant in
    let inside = c.self.inside in
    let phase = ready_only inside.phase (ap is_ready c.self.view_is ∙ c.requires.ready) (ap has_staged c.self.view_is ∙ c.requires.idle) in
    let framed_is = c.in_ok-self-inside.ensures.framed in
    record {
      below = omega (arith, old.below, c.if-self-len.false, c.len.ensures, c.args.payload.ok.0, ap length framed_is, length-framed c.args.payload.items);
      begins = λ not_ready. absurd cc;
      stages = framed-is c.args.payload.items c.in_ok-self-inside.field-0.items framed_is c.requires.some c.requires.most;
      holds = λ told. subst (λ (p : Phase). HoldsIn p (g.S.Strip.content inside.strip) inside.end inside.staged.items) phase (old.holds told);
      leaves = λ told image left. subst (λ (p : Phase). LeftIn p (g.S.Strip.content inside.strip) inside.end image) phase (old.leaves told image left);
    }

pub returns-clause-payload : goal.returns-clause-payload
returns-clause-payload g c = ap unframed c.in_ok-self-inside.ensures.framed ∙ unframed-framed c.args.payload.items

pub returns-then-self-len-clause-leaves : goal.returns-then-self-len-clause-leaves
returns-then-self-len-clause-leaves g c = rw (← c.self.view_is) (stands-sound g.S.Strip c.self.inside.strip c.self.inside.phase c.self.inside.end c.self.inside.staged.items c.self.invariant)

pub returns-in_err-self-inside-clause-leaves : goal.returns-in_err-self-inside-clause-leaves
returns-in_err-self-inside-clause-leaves g c = rw (← c.self.view_is) (stands-sound g.S.Strip c.self.inside.strip c.self.inside.phase c.self.inside.end c.self.inside.staged.items c.self.invariant)

pub returns-clause-leaves : goal.returns-clause-leaves
returns-clause-leaves g c = stands-sound g.S.Strip c.self.inside.strip Staged c.self.inside.end c.in_ok-self-inside.field-0.items (invariant_of-self g c)
