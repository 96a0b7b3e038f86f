use Rattle.std.proofs.Common.{◌+◌, ◌<◌, arith, sym, map, subst, List, length}
use Rattle.std.proofs.lemmas.List.{length-map}
use Rattle.rdb_base.specs.declared.pair.Pair.{Pair}
use Rattle.remix_seek.specs.Reads.{KeyAt}
use Rattle.remix_seek.proofs.ReadLemmas.{names_there, below_is, run_at-map}
use Rattle.remix_seek.proofs.search.is_below.Goals as goal

pub overflow_add-offset : goal.overflow_add-offset
overflow_add-offset g c =
    let h = (names_there (map g.T.Runs.run c.args.runs.now) c.args.view.now c.args.segment c.args.place c.selector-selector.result c.run_in-run.result c.offset-offset.result c.rank-rank.result c.run_in-run.ensures c.selector-selector.ensures.formed c.requires.readable c.requires.place c.if-selector-eq-FILLER.false c.selector-selector.ensures.selector c.offset-offset.ensures c.rank-rank.ensures).fits in
    omega arith

pub lent_key-read-requires : goal.lent_key-read-requires
lent_key-read-requires g c =
    let names = names_there (map g.T.Runs.run c.args.runs.now) c.args.view.now c.args.segment c.args.place c.selector-selector.result c.run_in-run.result c.offset-offset.result c.rank-rank.result c.run_in-run.ensures c.selector-selector.ensures.formed c.requires.readable c.requires.place c.if-selector-eq-FILLER.false c.selector-selector.ensures.selector c.offset-offset.ensures c.rank-rank.ensures in
    subst (λ (run : List Pair). c.offset-offset.result + c.rank-rank.result < length run)
    (run_at-map g.T.Runs.run c.args.runs.now c.run_in-run.result c.index-runs-run.result (omega (arith, names.run, length-map c.args.runs.now g.T.Runs.run)) c.index-runs-run.is)
    names.pair

pub returns-clause-below : goal.returns-clause-below
returns-clause-below g c =
    let names = names_there (map g.T.Runs.run c.args.runs.now) c.args.view.now c.args.segment c.args.place c.selector-selector.result c.run_in-run.result c.offset-offset.result c.rank-rank.result c.run_in-run.ensures c.selector-selector.ensures.formed c.requires.readable c.requires.place c.if-selector-eq-FILLER.false c.selector-selector.ensures.selector c.offset-offset.ensures c.rank-rank.ensures in
    below_is (map g.T.Runs.run c.args.runs.now) c.args.view.now c.args.segment c.args.place c.selector-selector.result c.run_in-run.result c.offset-offset.result c.rank-rank.result c.lent_key-read.result.now c.args.key.now c.compare_bytes.result c.is_lt.result c.run_in-run.ensures c.if-selector-eq-FILLER.false c.selector-selector.ensures.selector c.offset-offset.ensures c.rank-rank.ensures
    (subst (λ (run : List Pair). KeyAt run (c.offset-offset.result + c.rank-rank.result) c.lent_key-read.result.now)
    (sym (run_at-map g.T.Runs.run c.args.runs.now c.run_in-run.result c.index-runs-run.result (omega (arith, names.run, length-map c.args.runs.now g.T.Runs.run)) c.index-runs-run.is))
    c.lent_key-read.ensures.key)
    c.compare_bytes.ensures c.is_lt.ensures
