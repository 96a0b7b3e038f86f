use Rattle.std.proofs.Common.{ap, ◌∙◌, arith, ◌≡◌, ◌<◌, sym, subst, refl, ℕ, List, drop}
use Rattle.frame_journal.specs.declared.phase.Phase.{Phase}
use Rattle.frame_journal.specs.JournalState.{has_staged}
use Rattle.frame_journal.specs.Frames.{IsClosedAt}
use Rattle.frame_journal.specs.Journals.{HoldsIn, LeftIn, StagedIn, IsSound}
use Rattle.frame_journal.proofs.PhaseLemmas.{ready-stands, survivors-in}
use Rattle.frame_journal.proofs.journal.Journal.begin_clear.Goals as goal
use Rattle.frame_journal.proofs.journal.Journal.begin_clear.Goals.{then-self-eq0, else-self-eq0}

pub invariant_of-self : goal.invariant_of-self
invariant_of-self g c =
    let old = c.self.invariant in
    let inside = c.self.inside in
    let bytes = g.S.Strip.content inside.strip in
    let staged = subst (λ (p : Phase). StagedIn p inside.staged.items) c.in-Ready.is old.stages in
    elim c.if-self-eq0.branch [
      | then-self-eq0 w ↦
          let zero : inside.end ≡ 0 = w.if-self-eq0.true in
          subst (λ (p : Phase). IsSound (g.S.Strip.tells inside.strip) bytes (g.S.Strip.may_leave inside.strip) p 0 inside.staged.items) (sym w.self-is)
          (record {
            below = omega (arith, old.below);
            begins = λ _. refl;
            stages = staged;
            holds = λ told. subst (λ (n : ℕ). IsClosedAt bytes n) zero (subst (λ (p : Phase). HoldsIn p bytes inside.end inside.staged.items) c.in-Ready.is (old.holds told)).1;
            leaves = λ told image left.
                let shut = subst (λ (n : ℕ). IsClosedAt bytes n) zero (subst (λ (p : Phase). HoldsIn p bytes inside.end inside.staged.items) c.in-Ready.is (old.holds told)).1 in
                subst (λ (l : List ℕ). IsClosedAt l 0) (sym (subst (λ (p : Phase). LeftIn p bytes inside.end image) c.in-Ready.is (old.leaves told image left))) shut;
          })
      | else-self-eq0 w ↦
          let some : 0 < inside.end = omega (arith, w.if-self-eq0.false) in
          subst (λ (p : Phase). IsSound (g.S.Strip.tells inside.strip) bytes (g.S.Strip.may_leave inside.strip) p 0 inside.staged.items) (sym w.self-is)
          (record {
            below = omega (arith, old.below);
            begins = λ _. refl;
            stages = staged;
            holds = λ told. let ends = subst (λ (p : Phase). HoldsIn p bytes inside.end inside.staged.items) c.in-Ready.is (old.holds told) in ready-stands bytes inside.end ends.0 ends.1 some;
            leaves = λ told image left. ap (drop 1) (subst (λ (p : Phase). LeftIn p bytes inside.end image) c.in-Ready.is (old.leaves told image left));
          })
    ]

pub returns-after-self-eq0-clause-own : goal.returns-after-self-eq0-clause-own
returns-after-self-eq0-clause-own g c = rw (← c.self.view_is)
    (λ ready told.
    let idle = ap has_staged c.self.view_is ∙ c.requires in
    survivors-in c.self.inside.phase (g.S.Strip.content c.self.inside.strip) c.self.inside.end c.self.inside.staged.items ready idle (c.self.invariant.holds told))
