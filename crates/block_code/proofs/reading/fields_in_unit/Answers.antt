use Rattle.block_code.proofs.EndsLemmas.{within-ends, within-wrong}
use Rattle.block_code.proofs.reading.fields_in_unit.Goals as goal

pub returns-in-Ok : goal.returns-in-Ok
returns-in-Ok c = within-ends c.args.limits c.args.last.now _ _ _ _ c.args.units.now c.args.count _ c.front-unit.ensures c.after.ensures c.in-Ok.ensures

pub returns-in-Err : goal.returns-in-Err
returns-in-Err c = within-wrong c.args.limits c.args.last.now _ c.args.units.now c.args.count _ _ _ c.front-unit.ensures c.place.ensures c.saturating_sub.ensures c.in-Err.ensures
