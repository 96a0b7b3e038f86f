use Rattle.std.proofs.Common.{rules, Err}
use Rattle.block_code.specs.Answers.{ends_lent}
use Rattle.block_code.proofs.StepLemmas.{gives_so}
use Rattle.block_code.proofs.EndsLemmas.{fields-ends, fields-offsets, fields-pairs, fields-zeros}
use Rattle.block_code.proofs.reading.fields_in.Goals as goal

pub returns-in_err-offsets_in : goal.returns-in_err-offsets_in
returns-in_err-offsets_in c =
    let wrong = fields-offsets c.args.limits c.args.last.now c.args.count c.args.area.now _ c.in_err-offsets_in.ensures in
    gives_so ends_lent c.from_residual.result _ (Err c.in_err-offsets_in.field-0.0.left) wrong (search rules)

pub returns-in_err-found : goal.returns-in_err-found
returns-in_err-found c =
    let wrong = fields-pairs c.args.limits c.args.last.now c.args.count c.args.area.now _ _ c.in_ok-offsets_in.ensures c.in_err-found.ensures in
    gives_so ends_lent c.from_residual-in_err-found.result _ (Err c.in_err-found.field-0.0.left) wrong (search rules)

pub returns-in_err-rest : goal.returns-in_err-rest
returns-in_err-rest c =
    let wrong = fields-zeros c.args.limits c.args.last.now c.args.count _ c.args.area.now _ _ _ _ c.in_ok-offsets_in.ensures c.in_ok-found.ensures c.in_err-rest.ensures in
    gives_so ends_lent c.from_residual-in_err-rest.result _ (Err c.in_err-rest.field-0.0.left) wrong (search rules)

pub returns : goal.returns
returns c = fields-ends c.args.limits c.args.last.now c.args.count _ c.args.area.now _ _ _ _ c.in_ok-offsets_in.ensures c.in_ok-found.ensures c.in_ok-rest.ensures
