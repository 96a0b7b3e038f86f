use Rattle.std.proofs.Common.{◌<◌, List, length, map, sym, ap, subst, ◌∙◌}
use Rattle.std.specs.Prelude.{slice_get}
use Rattle.rdb_base.specs.declared.pair.Pair.{Pair}
use Rattle.remix_seek.specs.Reads.{KeyAt, ChangeAt}
use Rattle.remix_seek.proofs.ReadLemmas.{run_at-map}
use Rattle.partition_set.specs.Lookups.{change_of_pair, HasValue}
use Rattle.partition_set.proofs.LookupLemmas.{read-same, read-other, change_in-same, needs_value}
use Rattle.partition_set.proofs.lookup.change_at_place.Goals as goal

pub lent_key-requires : goal.lent_key-requires
lent_key-requires g c = subst (λ (run : List Pair). c.args.place < length run) (run_at-map g.T.Runs.run c.args.runs.now c.args.run c.index-runs-run.result c.requires.run c.index-runs-run.is) c.requires.place

pub copied_change-requires : goal.copied_change-requires
copied_change-requires g c = subst (λ (run : List Pair). c.args.place < length run) (run_at-map g.T.Runs.run c.args.runs.now c.args.run c.index-runs-run.result c.requires.run c.index-runs-run.is) c.requires.place

pub returns-in_ok-copied_change-clause-change : goal.returns-in_ok-copied_change-clause-change
returns-in_ok-copied_change-clause-change g c =
    read-same (map g.T.Runs.run c.args.runs.now) c.args.run c.args.place c.lent_key.result.now c.args.key.now c.compare_bytes.result c.in_ok-copied_change.field-0
    (subst (λ (run : List Pair). KeyAt run c.args.place c.lent_key.result.now) (sym (run_at-map g.T.Runs.run c.args.runs.now c.args.run c.index-runs-run.result c.requires.run c.index-runs-run.is)) c.lent_key.ensures.key)
    (subst (λ (run : List Pair). ChangeAt run c.args.place c.in_ok-copied_change.field-0) (sym (run_at-map g.T.Runs.run c.args.runs.now c.args.run c.index-runs-run.result c.requires.run c.index-runs-run.is)) c.in_ok-copied_change.ensures.change)
    c.compare_bytes.ensures (sym c.is_eq.ensures ∙ c.if-is_eq.true)

pub returns-in_err-copied_change-clause-memory : goal.returns-in_err-copied_change-clause-memory
returns-in_err-copied_change-clause-memory g c =
    needs_value c.from_residual.result (subst HasValue
    (ap (λ (run : List Pair). change_of_pair (slice_get run c.args.place)) (sym (run_at-map g.T.Runs.run c.args.runs.now c.args.run c.index-runs-run.result c.requires.run c.index-runs-run.is))
    ∙ change_in-same (map g.T.Runs.run c.args.runs.now) c.args.run c.args.place c.lent_key.result.now c.args.key.now c.compare_bytes.result
    (subst (λ (run : List Pair). KeyAt run c.args.place c.lent_key.result.now) (sym (run_at-map g.T.Runs.run c.args.runs.now c.args.run c.index-runs-run.result c.requires.run c.index-runs-run.is)) c.lent_key.ensures.key)
    c.compare_bytes.ensures (sym c.is_eq.ensures ∙ c.if-is_eq.true))
    c.in_err-copied_change.ensures.memory)

pub returns-else-is_eq-clause-change : goal.returns-else-is_eq-clause-change
returns-else-is_eq-clause-change g c =
    read-other (map g.T.Runs.run c.args.runs.now) c.args.run c.args.place c.lent_key.result.now c.args.key.now c.compare_bytes.result
    (subst (λ (run : List Pair). KeyAt run c.args.place c.lent_key.result.now) (sym (run_at-map g.T.Runs.run c.args.runs.now c.args.run c.index-runs-run.result c.requires.run c.index-runs-run.is)) c.lent_key.ensures.key)
    c.compare_bytes.ensures (sym c.is_eq.ensures ∙ c.if-is_eq.false)
