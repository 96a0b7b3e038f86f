use Rattle.std.proofs.Common.{sym, ◌∙◌}
use Rattle.std.proofs.lemmas.Bool.{eqb-true, eqb-false}
use Rattle.block_code.proofs.CheckLemmas.{checked_whole, checked_more, checked_wrong}
use Rattle.block_code.proofs.reading.count_in.Goals as goal

pub returns-then-not-is_empty : goal.returns-then-not-is_empty
returns-then-not-is_empty c =
    checked_more c.args.block.now c.in-Ok.found.last.now c.in-Ok.found.rest.now c.in-Ok.found.count _ c.in-Ok.ensures
    (eqb-false _ 0 (sym c.is_empty.ensures ∙ c.if-not-is_empty.true)) c.saturating_sub.ensures

pub returns-else-not-is_empty : goal.returns-else-not-is_empty
returns-else-not-is_empty c =
    checked_whole c.args.block.now c.in-Ok.found.last.now c.in-Ok.found.rest.now c.in-Ok.found.count c.in-Ok.ensures
    (eqb-true _ 0 (sym c.is_empty.ensures ∙ c.if-not-is_empty.false))

pub returns-in-Err : goal.returns-in-Err
returns-in-Err c = checked_wrong c.args.block.now _ _ c.in-Err.ensures c.place.ensures
