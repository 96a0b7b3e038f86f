use Rattle.std.proofs.Common.{ap, ◌∙◌}
use Rattle.frame_journal.specs.JournalState.{has_staged, is_written}
use Rattle.frame_journal.proofs.PhaseCalls.{body-content, body-before, body-doubted, body-gated, body-crash}
use Rattle.frame_journal.proofs.journal.Journal.write_body.Goals as goal

pub returns-in_err-write_synced-clause-stands : goal.returns-in_err-write_synced-clause-stands
returns-in_err-write_synced-clause-stands g c = rw (← c.self.view_is)
    (body-content g.S.Strip c.self.inside.strip c.write_synced.new.strip c.self.inside.phase c.self.inside.end c.self.inside.staged.items _ (ap has_staged c.self.view_is ∙ c.requires.staged) (ap is_written c.self.view_is ∙ c.requires.unwritten) c.self.invariant
    c.write_synced.ensures.strip.tells c.write_synced.ensures.torn)

pub returns-clause-stands : goal.returns-clause-stands
returns-clause-stands g c = rw (← c.self.view_is)
    (body-content g.S.Strip c.self.inside.strip c.write_synced.new.strip c.self.inside.phase c.self.inside.end c.self.inside.staged.items _ (ap has_staged c.self.view_is ∙ c.requires.staged) (ap is_written c.self.view_is ∙ c.requires.unwritten) c.self.invariant
    c.write_synced.ensures.strip.tells c.write_synced.ensures.torn)

pub returns-in_err-write_synced-clause-crash : goal.returns-in_err-write_synced-clause-crash
returns-in_err-write_synced-clause-crash g c = rw (← c.self.view_is)
    (body-crash g.S.Strip c.self.inside.strip c.write_synced.new.strip c.self.inside.phase c.self.inside.end c.self.inside.staged.items _ (ap has_staged c.self.view_is ∙ c.requires.staged) (ap is_written c.self.view_is ∙ c.requires.unwritten) c.self.invariant
    c.write_synced.ensures.crash)

pub returns-clause-crash : goal.returns-clause-crash
returns-clause-crash g c = rw (← c.self.view_is)
    (body-crash g.S.Strip c.self.inside.strip c.write_synced.new.strip c.self.inside.phase c.self.inside.end c.self.inside.staged.items _ (ap has_staged c.self.view_is ∙ c.requires.staged) (ap is_written c.self.view_is ∙ c.requires.unwritten) c.self.invariant
    c.write_synced.ensures.crash)

pub returns-in_err-write_synced-clause-before : goal.returns-in_err-write_synced-clause-before
returns-in_err-write_synced-clause-before g c = rw (← c.self.view_is)
    (body-before g.S.Strip c.self.inside.strip c.write_synced.new.strip c.self.inside.phase c.self.inside.end c.self.inside.staged.items _ (ap has_staged c.self.view_is ∙ c.requires.staged) (ap is_written c.self.view_is ∙ c.requires.unwritten) c.self.invariant
    c.write_synced.ensures.strip.tells c.write_synced.ensures.torn)

pub returns-clause-before : goal.returns-clause-before
returns-clause-before g c = rw (← c.self.view_is)
    (body-before g.S.Strip c.self.inside.strip c.write_synced.new.strip c.self.inside.phase c.self.inside.end c.self.inside.staged.items _ (ap has_staged c.self.view_is ∙ c.requires.staged) (ap is_written c.self.view_is ∙ c.requires.unwritten) c.self.invariant
    c.write_synced.ensures.strip.tells c.write_synced.ensures.torn)

pub invariant_of-self : goal.invariant_of-self
invariant_of-self g c =
    body-doubted g.S.Strip c.self.inside.strip c.write_synced.new.strip c.self.inside.phase c.self.inside.end c.self.inside.staged.items _ (ap has_staged c.self.view_is ∙ c.requires.staged) (ap is_written c.self.view_is ∙ c.requires.unwritten) c.self.invariant
    c.write_synced.ensures.strip.tells c.write_synced.ensures.torn c.write_synced.ensures.images

pub invariant_of-self-2 : goal.invariant_of-self-2
invariant_of-self-2 g c =
    body-gated g.S.Strip c.self.inside.strip c.write_synced.new.strip c.self.inside.phase c.self.inside.end c.self.inside.staged.items _ (ap has_staged c.self.view_is ∙ c.requires.staged) (ap is_written c.self.view_is ∙ c.requires.unwritten) c.self.invariant _ c.deref.ensures.value
    c.write_synced.ensures.strip.tells c.in_ok-write_synced.ensures.written c.in_ok-write_synced.ensures.synced c.write_synced.ensures.torn
