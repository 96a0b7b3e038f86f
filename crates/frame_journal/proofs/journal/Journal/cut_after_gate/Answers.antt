use Rattle.std.proofs.Common.{ap, subst, ◌∙◌, sym, arith, ◌≡◌, refl}
use Rattle.frame_journal.specs.declared.phase.Phase.{Phase}
use Rattle.frame_journal.specs.JournalState.{JournalState}
use Rattle.frame_journal.specs.Journals.{HoldsIn, StagedIn}
use Rattle.frame_journal.proofs.PhaseLemmas.{cut-done, ends_at-zero}
use Rattle.frame_journal.proofs.PhaseCalls.{cut-content, cut-crash}
use Rattle.frame_journal.proofs.journal.Journal.cut_after_gate.Goals as goal

pub returns-in_err-cut_synced-clause-none : goal.returns-in_err-cut_synced-clause-none
returns-in_err-cut_synced-clause-none g c =
    cut-content g.S.Strip c.self.inside.strip c.cut_synced.new.strip c.self.inside.phase c.self.inside.end c.self.inside.staged.items (ap (λ (j : JournalState _). j.phase) c.self.view_is ∙ c.requires) c.self.invariant c.cut_synced.ensures.strip.tells c.cut_synced.ensures.torn

pub returns-clause-none : goal.returns-clause-none
returns-clause-none g c =
    cut-content g.S.Strip c.self.inside.strip c.cut_synced.new.strip c.self.inside.phase c.self.inside.end c.self.inside.staged.items (ap (λ (j : JournalState _). j.phase) c.self.view_is ∙ c.requires) c.self.invariant c.cut_synced.ensures.strip.tells c.cut_synced.ensures.torn

pub returns-in_err-cut_synced-clause-crash : goal.returns-in_err-cut_synced-clause-crash
returns-in_err-cut_synced-clause-crash g c = rw (← c.self.view_is)
    (cut-crash g.S.Strip c.self.inside.strip c.cut_synced.new.strip c.self.inside.phase c.self.inside.end c.self.inside.staged.items (ap (λ (j : JournalState _). j.phase) c.self.view_is ∙ c.requires) c.self.invariant c.cut_synced.ensures.crash)

pub returns-clause-crash : goal.returns-clause-crash
returns-clause-crash g c = rw (← c.self.view_is)
    (cut-crash g.S.Strip c.self.inside.strip c.cut_synced.new.strip c.self.inside.phase c.self.inside.end c.self.inside.staged.items (ap (λ (j : JournalState _). j.phase) c.self.view_is ∙ c.requires) c.self.invariant c.cut_synced.ensures.crash)

pub invariant_of-self-2 : goal.invariant_of-self-2
invariant_of-self-2 g c =
    let old = c.self.invariant in
    let shut = ap (λ (j : JournalState _). j.phase) c.self.view_is ∙ c.requires in
    let start : c.self.inside.end ≡ 0 = old.begins (rw shut refl) in
    record {
      below = old.below;
      begins = λ not_ready. absurd cc;
      stages = subst (λ (p : Phase). StagedIn p c.self.inside.staged.items) shut old.stages;
      holds = λ told.
          let told_first = sym c.cut_synced.ensures.strip.tells ∙ told in
          let closed = subst (λ (p : Phase). HoldsIn p (g.S.Strip.content c.self.inside.strip) c.self.inside.end c.self.inside.staged.items) shut (old.holds told_first) in
          let emptied = cut-done _ _ closed (c.in_ok-cut_synced.ensures.cut told_first) in
          rw start (ends_at-zero _ (omega (arith, emptied.one)), emptied.closed);
      leaves = λ told image left. c.in_ok-cut_synced.ensures.synced told image left;
    }
