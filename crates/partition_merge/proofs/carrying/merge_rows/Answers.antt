use Rattle.std.proofs.Common.{◌≡◌, ◌∷◌, ◌++◌, [], map, sym, ap, subst, ◌∙◌, List}
use Rattle.rdb_base.specs.Levels.{merged, level_of}
use Rattle.rdb_base.specs.Runs.{AreBelow}
use Rattle.rdb_base.specs.declared.row.Row.{Row}
use Rattle.rdb_base.specs.declared.pair.Pair.{Pair}
use Rattle.rdb_base.proofs.LiveLemmas.{IsRising-live}
use Rattle.rdb_base.proofs.RunLemmas.{IsRun-level_of}
use Rattle.partition_merge.specs.Merging.{rows_left, pair_from, row_pair}
use Rattle.partition_merge.specs.Pieces.{IsMerged}
use Rattle.partition_merge.proofs.CutLemmas.{merged-begins, merged-below, merged-next, read-row}
use Rattle.partition_merge.proofs.carrying.merge_rows.Goals as goal

pub rows-init : goal.rows-init
rows-init g c =
    let all = merged (c.args.newer.now ∷ map g.T.Runs.run c.args.runs.now) in
    let rise = IsRising-live (level_of (c.args.newer.now ∷ map g.T.Runs.run c.args.runs.now)) (IsRun-level_of (c.args.newer.now ∷ map g.T.Runs.run c.args.runs.now)) in (
      subst (λ (left : List Row). IsMerged all left c.new-run.result) (sym c.first_place-place.ensures.rows)
          (subst (IsMerged all all) (sym c.new-run.ensures) (merged-begins all rise)),
      c.first_place-place.ensures.goes_on,
    )

pub push-requires : goal.push-requires
push-requires g c =
    let all = merged (c.args.newer.now ∷ map g.T.Runs.run c.args.runs.now) in
    let later = rows_left (map g.T.Runs.run c.args.runs.now) c.args.remix.now.view c.args.newer.now c.next_row.new.place in
    let next = c.in-Some.ensures.next in
    let so_far = subst (λ (left : List Row). IsMerged all left c.rows.run) next.2 c.rows.invariant.0 in
    let same = read-row (pair_from (map g.T.Runs.run c.args.runs.now) c.args.newer.now c.in-Some.origin) c.in_ok-copied.field-0 next.0 next.1 c.in_ok-copied.ensures in
    record { above = subst (λ (p : Pair). AreBelow c.rows.run p.key) (sym same) (merged-below all later next.0 c.rows.run so_far) }

pub rows-preserved : goal.rows-preserved
rows-preserved g c =
    let all = merged (c.args.newer.now ∷ map g.T.Runs.run c.args.runs.now) in
    let later = rows_left (map g.T.Runs.run c.args.runs.now) c.args.remix.now.view c.args.newer.now c.next_row.new.place in
    let next = c.in-Some.ensures.next in
    let so_far = subst (λ (left : List Row). IsMerged all left c.rows.run) next.2 c.rows.invariant.0 in
    let same = read-row (pair_from (map g.T.Runs.run c.args.runs.now) c.args.newer.now c.in-Some.origin) c.in_ok-copied.field-0 next.0 next.1 c.in_ok-copied.ensures in
    let pushed : c.push.new.self ≡ c.rows.run ++ row_pair next.0 ∷ [] = c.in_ok-push.ensures.ok ∙ ap (λ (p : Pair). c.rows.run ++ p ∷ []) same in
    (subst (IsMerged all later) (sym pushed) (merged-next all later next.0 c.rows.run so_far), c.in-Some.ensures.goes_on)
