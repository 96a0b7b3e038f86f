use Rattle.std.proofs.Common.{◌≡◌, ◌∷◌, map, sym, ap, subst, ◌∙◌, List}
use Rattle.std.specs.Prelude.{Option}
use Rattle.rdb_base.specs.Levels.{merged}
use Rattle.rdb_base.specs.declared.row.Row.{Row}
use Rattle.rdb_base.specs.declared.pair.Pair.{Pair}
use Rattle.rdb_base.specs.Pages.{row_size}
use Rattle.partition_merge.specs.Merging.{rows_left, within_u64, size_from}
use Rattle.partition_merge.specs.Counting.{IsCount}
use Rattle.partition_merge.proofs.CountLemmas.{count-next}
use Rattle.partition_merge.proofs.counting.count_rows.Goals as goal

pub rows-preserved : goal.rows-preserved
rows-preserved g c =
    let all = merged (c.args.newer.now ∷ map g.T.Runs.run c.args.runs.now) in
    let later = rows_left (map g.T.Runs.run c.args.runs.now) c.args.remix.now.view c.args.newer.now c.next_row.new.place in
    let next = c.in-Some.ensures.next in
    let so_far = subst (λ (left : List Row). IsCount all left c.rows.counted) next.2 c.rows.invariant.0 in
    let more : c.size_of.result ≡ within_u64 (row_size next.0) = c.size_of.ensures ∙ ap (λ (o : Option Pair). within_u64 (size_from o)) next.1 in
    (subst (IsCount all later) (sym c.with_row-counted.ensures) (count-next all later next.0 c.rows.counted c.size_of.result so_far more), c.in-Some.ensures.goes_on)
