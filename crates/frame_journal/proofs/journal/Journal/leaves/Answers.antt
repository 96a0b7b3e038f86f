-- By the journal's invariant.
use Rattle.frame_journal.proofs.StandingLemmas.{stands-sound}
use Rattle.frame_journal.proofs.journal.Journal.leaves.Goals as goal

pub returns : goal.returns
returns g c = rw (← c.self.view_is) (stands-sound g.S.Strip c.self.inside.strip c.self.inside.phase c.self.inside.end c.self.inside.staged.items c.self.invariant)
