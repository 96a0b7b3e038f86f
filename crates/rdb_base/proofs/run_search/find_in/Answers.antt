use Rattle.std.proofs.Common.{◌∙◌, sym, ap}
use Rattle.rdb_base.specs.declared.pair.Pair.{Pair}
use Rattle.rdb_base.proofs.SearchLemmas.{lends-past, lends-here, lends-other}
use Rattle.rdb_base.proofs.run_search.find_in.Goals as goal

pub returns-then-place-run-clause-change : goal.returns-then-place-run-clause-change
returns-then-place-run-clause-change g c = lends-past c.args.run.now c.args.key.now c.place_of-place.result c.requires.rises c.place_of-place.ensures.place c.if-place-run.true

pub returns-then-is_eq-clause-change : goal.returns-then-is_eq-clause-change
returns-then-is_eq-clause-change g c = lends-here c.args.run.now c.args.key.now c.place_of-place.result c.index-run-place.result c.as_bytes.result.now c.compare_bytes.result c.change_of.result c.requires.rises c.place_of-place.ensures.place c.if-place-run.false (c.as_bytes.ensures.bytes ∙ ap (λ (p : Pair). p.key) c.index-run-place.is) c.compare_bytes.ensures (sym c.is_eq.ensures ∙ c.if-is_eq.true) (c.change_of.ensures ∙ ap (λ (p : Pair). p.change) c.index-run-place.is)

pub returns-else-is_eq-clause-change : goal.returns-else-is_eq-clause-change
returns-else-is_eq-clause-change g c = lends-other c.args.run.now c.args.key.now c.place_of-place.result c.index-run-place.result c.as_bytes.result.now c.compare_bytes.result c.requires.rises c.place_of-place.ensures.place c.if-place-run.false (c.as_bytes.ensures.bytes ∙ ap (λ (p : Pair). p.key) c.index-run-place.is) c.compare_bytes.ensures (sym c.is_eq.ensures ∙ c.if-is_eq.false)
