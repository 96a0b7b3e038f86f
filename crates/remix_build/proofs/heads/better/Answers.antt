use Rattle.std.proofs.Common.{ℕ, List, sym, ap, subst, ◌∙◌}
use Rattle.std.specs.Prelude.{Option}
use Rattle.std.specs.Ordering.{is_lt}
use denote.Ref.{Bor}
use Rattle.remix_build.specs.Heads.{LeastHead, lent_key}
use Rattle.remix_build.proofs.HeadLemmas.{least_more, least_stays}
use Rattle.remix_build.proofs.heads.better.Goals as goal

pub returns-then-before : goal.returns-then-before
returns-then-before c = least_more c.args.heads.now c.args.run c.in-Some-best.other c.in-Some.key.now c.in-Some-best.least.now
    (sym c.requires.head ∙ ap lent_key c.in-Some.is)
    (subst (λ (best : Option (ℕ × Bor (List ℕ))). LeastHead c.args.heads.now c.args.run best) c.in-Some-best.is c.requires.best)
    (sym (c.is_lt-before.ensures ∙ ap is_lt c.compare_bytes.ensures) ∙ c.if-before.true)

pub returns-else-before : goal.returns-else-before
returns-else-before c = least_stays c.args.heads.now c.args.run c.in-Some-best.other c.in-Some.key.now c.in-Some-best.least.now
    (sym c.requires.head ∙ ap lent_key c.in-Some.is)
    (subst (λ (best : Option (ℕ × Bor (List ℕ))). LeastHead c.args.heads.now c.args.run best) c.in-Some-best.is c.requires.best)
    (sym (c.is_lt-before.ensures ∙ ap is_lt c.compare_bytes.ensures) ∙ c.if-before.false)
