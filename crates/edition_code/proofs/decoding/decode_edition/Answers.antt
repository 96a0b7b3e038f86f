use Rattle.std.proofs.Common.{◌-◌, length, ap, arith}
use Rattle.rdb_base.specs.PairFields.{placed}
use Rattle.edition_code.specs.Reading.{edition_fields}
use Rattle.edition_code.proofs.AnswerLemmas.{decoded-spelled, decoded-none, fails_left}
use Rattle.edition_code.proofs.decoding.decode_edition.Goals as goal

pub returns-in-Ok-clause-spelled : goal.returns-in-Ok-clause-spelled
returns-in-Ok-clause-spelled c = decoded-spelled c.args.payload.now c.in-Ok.edition (λ i. omega (arith, c.type_inv.payload i)) (ap (placed c.args.payload.now) c.in-Ok.ensures.exact)

pub returns-in-Err-Bad-clause-none : goal.returns-in-Err-Bad-clause-none
returns-in-Err-Bad-clause-none c = decoded-none c.args.payload.now (length c.args.payload.now - c.in-Err-Bad.left) (ap (placed c.args.payload.now) (fails_left c.in-Err-Bad.field-0 c.in-Err-Bad.left (edition_fields c.args.payload.now) c.in-Err-Bad.field-0-is c.in-Err-Bad.ensures.exact))
