use Rattle.std.proofs.Common.{rules, Err}
use Rattle.block_code.specs.Answers.{ends_lent}
use Rattle.block_code.proofs.StepLemmas.{gives_so}
use Rattle.block_code.proofs.EndsLemmas.{block-cut, block-none, block-one, block-many}
use Rattle.block_code.proofs.reading.read_block.Goals as goal

pub returns-in_err-count : goal.returns-in_err-count
returns-in_err-count c =
    let wrong = block-cut c.args.limits c.args.last.now c.args.units.now _ c.in_err-count.ensures in
    gives_so ends_lent c.from_residual.result _ (Err c.in_err-count.field-0.0.left) wrong (search rules)

pub returns-then-count-eq0 : goal.returns-then-count-eq0
returns-then-count-eq0 c = block-none c.args.limits c.args.last.now c.args.units.now _ _ c.in_ok-count.ensures c.if-count-eq0.true

pub returns-then-count-eq1 : goal.returns-then-count-eq1
returns-then-count-eq1 c = gives_so ends_lent c.fields_in.result _ _ (block-one c.args.limits c.args.last.now c.args.units.now _ _ c.in_ok-count.ensures c.if-count-eq1.true) c.fields_in.ensures

pub returns : goal.returns
returns c = gives_so ends_lent c.fields_in_unit.result _ _ (block-many c.args.limits c.args.last.now c.args.units.now _ _ c.in_ok-count.ensures c.if-count-eq0.false c.if-count-eq1.false) c.fields_in_unit.ensures
