use Rattle.std.proofs.Common.{ap, subst, ◌∙◌}
use Rattle.frame_journal.specs.Frames.{StandsFor}
use Rattle.frame_journal.specs.JournalState.{JournalState, is_ready, has_staged}
use Rattle.frame_journal.specs.Journals.{standing}
use Rattle.frame_journal.proofs.JournalLemmas.{ready_stands}
use Rattle.frame_journal.proofs.StandingLemmas.{stands-sound}
use Rattle.frame_journal.proofs.journal.Journal.into_strip.Goals as goal

pub returns-clause-stands : goal.returns-clause-stands
returns-clause-stands g c = λ ready idle told.
    let inside = c.self.inside in
    let s = ready_stands (g.S.Strip.tells inside.strip) (g.S.Strip.content inside.strip) (g.S.Strip.may_leave inside.strip) inside.phase inside.end inside.staged.items c.self.invariant (ap is_ready c.self.view_is ∙ ready) (ap has_staged c.self.view_is ∙ idle) told in
    subst (λ (j : JournalState _). StandsFor (standing g.S.Strip j) (g.S.Strip.content inside.strip)) c.self.view_is s

pub returns-clause-leaves : goal.returns-clause-leaves
returns-clause-leaves g c = rw (← c.self.view_is) (stands-sound g.S.Strip c.self.inside.strip c.self.inside.phase c.self.inside.end c.self.inside.staged.items c.self.invariant)
