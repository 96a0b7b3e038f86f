use Rattle.std.proofs.Common.{◌≡◌, ◌≤◌, ◌∷◌, map, sym, ap, subst, ◌∙◌, List}
use Rattle.rdb_base.specs.Levels.{merged, level_of}
use Rattle.rdb_base.specs.Runs.{AreBelow, pair_size}
use Rattle.rdb_base.specs.declared.limits.TheConstants.{PAIR_MAX}
use Rattle.rdb_base.specs.declared.row.Row.{Row}
use Rattle.rdb_base.specs.declared.pair.Pair.{Pair}
use Rattle.rdb_base.proofs.LiveLemmas.{IsRising-live}
use Rattle.rdb_base.proofs.RunLemmas.{IsRun-level_of}
use Rattle.partition_merge.specs.Merging.{rows_left, pair_from, row_pair}
use Rattle.partition_merge.specs.Pieces.{IsCut, cut_with}
use Rattle.partition_merge.proofs.CutLemmas.{cut-begins, cut-below, cut-next, read-row}
use Rattle.partition_merge.proofs.carrying.split_rows.Goals as goal

pub rows-init : goal.rows-init
rows-init g c =
    let all = merged (c.args.newer.now ∷ map g.T.Runs.run c.args.runs.now) in
    let rise = IsRising-live (level_of (c.args.newer.now ∷ map g.T.Runs.run c.args.runs.now)) (IsRun-level_of (c.args.newer.now ∷ map g.T.Runs.run c.args.runs.now)) in (
      subst (λ (left : List Row). IsCut c.args.low.now all left c.in_ok-cut.cut) (sym c.first_place-place.ensures.rows)
          (subst (IsCut c.args.low.now all all) (sym c.in_ok-cut.ensures) (cut-begins c.args.low.now all rise)),
      c.first_place-place.ensures.goes_on,
    )

pub add-requires : goal.add-requires
add-requires g c =
    let all = merged (c.args.newer.now ∷ map g.T.Runs.run c.args.runs.now) in
    let later = rows_left (map g.T.Runs.run c.args.runs.now) c.args.remix.now.view c.args.newer.now c.next_row.new.place in
    let next = c.in-Some.ensures.next in
    let so_far = subst (λ (left : List Row). IsCut c.args.low.now all left c.rows.cut) next.2 c.rows.invariant.0 in
    let same = read-row (pair_from (map g.T.Runs.run c.args.runs.now) c.args.newer.now c.in-Some.origin) c.in_ok-copied.field-0 next.0 next.1 c.in_ok-copied.ensures in
    record { above = subst (λ (p : Pair). AreBelow c.rows.cut.part p.key) (sym same) (cut-below c.args.low.now all later next.0 c.rows.cut so_far) }

pub rows-preserved : goal.rows-preserved
rows-preserved g c =
    let all = merged (c.args.newer.now ∷ map g.T.Runs.run c.args.runs.now) in
    let later = rows_left (map g.T.Runs.run c.args.runs.now) c.args.remix.now.view c.args.newer.now c.next_row.new.place in
    let next = c.in-Some.ensures.next in
    let so_far = subst (λ (left : List Row). IsCut c.args.low.now all left c.rows.cut) next.2 c.rows.invariant.0 in
    let same = read-row (pair_from (map g.T.Runs.run c.args.runs.now) c.args.newer.now c.in-Some.origin) c.in_ok-copied.field-0 next.0 next.1 c.in_ok-copied.ensures in
    let small : pair_size (row_pair next.0) ≤ PAIR_MAX = subst (λ (p : Pair). pair_size p ≤ PAIR_MAX) same c.add.ensures.small in
    let added : c.add.new.self ≡ cut_with c.rows.cut (row_pair next.0) = c.in_ok-add.ensures.ok ∙ ap (cut_with c.rows.cut) same in
    (subst (IsCut c.args.low.now all later) (sym added) (cut-next c.args.low.now all later next.0 c.rows.cut so_far small), c.in-Some.ensures.goes_on)
