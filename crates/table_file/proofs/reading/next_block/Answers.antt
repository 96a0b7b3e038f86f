use Rattle.std.proofs.Common.{rules, Err}
use Rattle.block_code.proofs.StepLemmas.{gives_so}
use Rattle.table_file.specs.Answers.{next_lent}
use Rattle.table_file.proofs.StepLemmas.{next-counts, next-block, next-further, next-ends}
use Rattle.table_file.proofs.reading.next_block.Goals as goal

pub returns-in_err-rest : goal.returns-in_err-rest
returns-in_err-rest c =
    let wrong = next-counts c.args.limits c.args.tail.now c.args.last.now c.args.units.now c.args.counts.now _ c.in_err-rest.ensures in
    gives_so next_lent c.from_residual.result _ (Err c.in_err-rest.field-0.0.left) wrong (search rules)

pub returns-in-Err : goal.returns-in-Err
returns-in-Err c = next-block c.args.limits c.args.tail.now c.args.last.now c.args.units.now c.args.counts.now _ _ _ c.in_ok-rest.ensures c.in-Err.ensures c.wrong_in_units.ensures

pub returns-in_err-counts : goal.returns-in_err-counts
returns-in_err-counts c =
    let wrong = next-further c.args.limits c.args.tail.now c.args.last.now c.args.units.now c.args.counts.now _ _ _ _ c.saturating_sub.result _ c.in_ok-rest.ensures c.in-Ok.ensures (search rules) c.in_err-counts.ensures in
    gives_so next_lent c.from_residual-in_err-counts.result _ (Err c.in_err-counts.field-0.0.left) wrong (search rules)

pub returns : goal.returns
returns c = next-ends c.args.limits c.args.tail.now c.args.last.now c.args.units.now c.args.counts.now _ _ _ _ _ c.saturating_sub.result c.in_ok-rest.ensures c.in-Ok.ensures (search rules) c.in_ok-counts.ensures
