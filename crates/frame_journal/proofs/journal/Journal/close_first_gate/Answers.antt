use Rattle.std.proofs.Common.{ap, ◌∙◌}
use Rattle.frame_journal.specs.JournalState.{JournalState}
use Rattle.frame_journal.proofs.PhaseCalls.{first_gate-content, first_gate-crash}
use Rattle.frame_journal.proofs.journal.Journal.close_first_gate.Goals as goal

pub returns-in_err-write_synced-clause-either : goal.returns-in_err-write_synced-clause-either
returns-in_err-write_synced-clause-either g c = rw (← c.self.view_is)
    (first_gate-content g.S.Strip c.self.inside.strip c.write_synced.new.strip c.self.inside.phase c.self.inside.end c.self.inside.staged.items (ap (λ (j : JournalState _). j.phase) c.self.view_is ∙ c.requires) c.self.invariant c.write_synced.ensures.strip.tells c.write_synced.ensures.torn)

pub returns-clause-either : goal.returns-clause-either
returns-clause-either g c = rw (← c.self.view_is)
    (first_gate-content g.S.Strip c.self.inside.strip c.write_synced.new.strip c.self.inside.phase c.self.inside.end c.self.inside.staged.items (ap (λ (j : JournalState _). j.phase) c.self.view_is ∙ c.requires) c.self.invariant c.write_synced.ensures.strip.tells c.write_synced.ensures.torn)

pub returns-in_err-write_synced-clause-crash : goal.returns-in_err-write_synced-clause-crash
returns-in_err-write_synced-clause-crash g c = rw (← c.self.view_is)
    (first_gate-crash g.S.Strip c.self.inside.strip c.write_synced.new.strip c.self.inside.phase c.self.inside.end c.self.inside.staged.items (ap (λ (j : JournalState _). j.phase) c.self.view_is ∙ c.requires) c.self.invariant c.write_synced.ensures.crash)

pub returns-clause-crash : goal.returns-clause-crash
returns-clause-crash g c = rw (← c.self.view_is)
    (first_gate-crash g.S.Strip c.self.inside.strip c.write_synced.new.strip c.self.inside.phase c.self.inside.end c.self.inside.staged.items (ap (λ (j : JournalState _). j.phase) c.self.view_is ∙ c.requires) c.self.invariant c.write_synced.ensures.crash)
