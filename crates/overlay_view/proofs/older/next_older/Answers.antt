use Rattle.std.proofs.Common.{◌≡◌, ◌+◌, [], sym, ap, subst, ◌∙◌}
use Rattle.std.specs.Prelude.{Some}
use Rattle.partition_set.specs.Partitions.{PartState}
use Rattle.overlay_view.specs.Older.{shown_from, older_from, older_left, NextShown, Stands}
use Rattle.overlay_view.proofs.NextLemmas.{older-shown, older-none}
use Rattle.overlay_view.proofs.older.next_older.Goals as goal

pub returns-in-Some-clause-same : goal.returns-in-Some-clause-same
returns-in-Some-clause-same g c =
    let next = subst (λ (p : PartState _). NextShown p.view c.parts.walk (Some c.in-Some.shown)) c.behind-parts.view_is c.in-Some.ensures in
    ap (older_left g.T.Runs.run c.args.parts.now) c.older_at.ensures
    ∙ (older-shown g.T.Runs.run c.args.parts.now c.parts.number c.part.result.now c.parts.walk c.in-Some.shown c.part.ensures next).0
    ∙ c.parts.invariant

pub returns-in-Some-clause-stands : goal.returns-in-Some-clause-stands
returns-in-Some-clause-stands g c =
    let next = subst (λ (p : PartState _). NextShown p.view c.parts.walk (Some c.in-Some.shown)) c.behind-parts.view_is c.in-Some.ensures in
    subst (Stands g.T.Runs.run c.args.parts.now) (sym c.older_at.ensures)
    (older-shown g.T.Runs.run c.args.parts.now c.parts.number c.part.result.now c.parts.walk c.in-Some.shown c.part.ensures next).1

pub parts-preserved : goal.parts-preserved
parts-preserved g c =
    ap (older_from g.T.Runs.run c.args.parts.now (c.parts.number + 1)) c.at-walk.ensures
    ∙ older-none g.T.Runs.run c.args.parts.now c.parts.number c.part.result.now c.parts.walk c.part.ensures (subst (λ (p : PartState _). shown_from p.view c.parts.walk ≡ []) c.behind-parts.view_is c.in-None.ensures)
    ∙ c.parts.invariant
