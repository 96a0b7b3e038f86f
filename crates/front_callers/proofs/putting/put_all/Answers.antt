use Rattle.std.proofs.Common.{◌<◌, [], ◌∷◌, ◌++◌, length, sym, ◌∙◌, arith}
use Rattle.rdb_base.specs.declared.change.Change.TheVariants.{Put}
use Rattle.front_callers.proofs.PutLemmas.{puts-next}
use Rattle.front_callers.proofs.putting.put_all.Goals as goal

pub loop-row-preserved : goal.loop-row-preserved
loop-row-preserved g c =
    let i = c.loop-row.invariant in
    let row = c.row-item.result in
    let here : c.loop-row.row-index < length c.args.rows.now = omega arith in (
      c.in_ok-put_row.ensures.caller ∙ i.0,
      c.in_ok-put_row.ensures.own
          ∙ (λ k. i.1 k ++ record { caller = i.0 k; ordinal = length (i.1 k); key = row.key; change = Put row.value } ∷ [])
          ∙ sym (puts-next c.args.pass.caller c.loop-row.row-index c.args.rows.now row here c.row-item.is),
    )
