use Rattle.std.proofs.Common.{ap, subst, ◌∙◌, sym, arith, ◌≡◌, length, rules}
use Rattle.frame_journal.specs.declared.phase.Phase.{Phase}
use Rattle.frame_journal.specs.JournalState.{JournalState}
use Rattle.frame_journal.specs.Journals.{HoldsIn, StagedIn}
use Rattle.frame_journal.proofs.PhaseLemmas.{gate-written}
use Rattle.frame_journal.proofs.PhaseCalls.{gate-content, gate-crash}
use Rattle.frame_journal.proofs.journal.Journal.open_gate.Goals as goal

pub returns-in_err-write_synced-clause-either : goal.returns-in_err-write_synced-clause-either
returns-in_err-write_synced-clause-either g c = rw (← c.self.view_is)
    (gate-content g.S.Strip c.self.inside.strip c.write_synced.new.strip c.self.inside.phase c.self.inside.end c.self.inside.staged.items (ap (λ (j : JournalState _). j.phase) c.self.view_is ∙ c.requires) c.self.invariant c.write_synced.ensures.strip.tells c.write_synced.ensures.torn)

pub returns-clause-either : goal.returns-clause-either
returns-clause-either g c = rw (← c.self.view_is)
    (gate-content g.S.Strip c.self.inside.strip c.write_synced.new.strip c.self.inside.phase c.self.inside.end c.self.inside.staged.items (ap (λ (j : JournalState _). j.phase) c.self.view_is ∙ c.requires) c.self.invariant c.write_synced.ensures.strip.tells c.write_synced.ensures.torn)

pub returns-in_err-write_synced-clause-crash : goal.returns-in_err-write_synced-clause-crash
returns-in_err-write_synced-clause-crash g c = rw (← c.self.view_is)
    (gate-crash g.S.Strip c.self.inside.strip c.write_synced.new.strip c.self.inside.phase c.self.inside.end c.self.inside.staged.items (ap (λ (j : JournalState _). j.phase) c.self.view_is ∙ c.requires) c.self.invariant c.write_synced.ensures.crash)

pub returns-clause-crash : goal.returns-clause-crash
returns-clause-crash g c = rw (← c.self.view_is)
    (gate-crash g.S.Strip c.self.inside.strip c.write_synced.new.strip c.self.inside.phase c.self.inside.end c.self.inside.staged.items (ap (λ (j : JournalState _). j.phase) c.self.view_is ∙ c.requires) c.self.invariant c.write_synced.ensures.crash)

pub invariant_of-self-2 : goal.invariant_of-self-2
invariant_of-self-2 g c =
    let old = c.self.invariant in
    let gate = ap (λ (j : JournalState _). j.phase) c.self.view_is ∙ c.requires in
    let framed = subst (λ (p : Phase). StagedIn p c.self.inside.staged.items) gate old.stages in
    let len : c.len.result ≡ length c.self.inside.staged.items = search rules in
    record {
      below = omega (arith, old.below, len, ap length c.clear.ensures.items);
      begins = λ not_ready. absurd cc;
      stages = c.clear.ensures.items;
      holds = λ told.
          let told_first = sym c.write_synced.ensures.strip.tells ∙ told in
          let holds = subst (λ (p : Phase). HoldsIn p (g.S.Strip.content c.self.inside.strip) c.self.inside.end c.self.inside.staged.items) gate (old.holds told_first) in
          let written = gate-written _ _ _ _ holds.0 holds.1 framed (c.in_ok-write_synced.ensures.written told_first) in
          rw len (written.1, written.2);
      leaves = λ told image left. c.in_ok-write_synced.ensures.synced told image left;
    }

pub returns-clause-standing : goal.returns-clause-standing
returns-clause-standing g c = rw (← c.self.view_is)
    (λ told_after.
    let told = sym c.write_synced.ensures.strip.tells ∙ told_after in
    let gate = ap (λ (j : JournalState _). j.phase) c.self.view_is ∙ c.requires in
    let holds = subst (λ (p : Phase). HoldsIn p (g.S.Strip.content c.self.inside.strip) c.self.inside.end c.self.inside.staged.items) gate (c.self.invariant.holds told) in
    let framed = subst (λ (p : Phase). StagedIn p c.self.inside.staged.items) gate c.self.invariant.stages in
    let len : c.len.result ≡ length c.self.inside.staged.items = search rules in
    rw len (gate-written _ _ _ _ holds.0 holds.1 framed (c.in_ok-write_synced.ensures.written told)).3)

pub returns-clause-settled : goal.returns-clause-settled
returns-clause-settled g c = rw (← c.self.view_is)
    (λ told_after.
    let told = sym c.write_synced.ensures.strip.tells ∙ told_after in
    let gate = ap (λ (j : JournalState _). j.phase) c.self.view_is ∙ c.requires in
    let holds = subst (λ (p : Phase). HoldsIn p (g.S.Strip.content c.self.inside.strip) c.self.inside.end c.self.inside.staged.items) gate (c.self.invariant.holds told) in
    let framed = subst (λ (p : Phase). StagedIn p c.self.inside.staged.items) gate c.self.invariant.stages in
    (gate-written _ _ _ _ holds.0 holds.1 framed (c.in_ok-write_synced.ensures.written told)).0)
