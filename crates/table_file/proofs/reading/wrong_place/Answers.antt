use Rattle.std.proofs.Common.{arith}
use Rattle.table_file.proofs.OpenLemmas.{answer-table, answer-none}
use Rattle.table_file.proofs.reading.wrong_place.Goals as goal

pub returns-clause-table : goal.returns-clause-table
returns-clause-table c = answer-table c.args.bytes.now c.wrong_within.result (λ i. omega (arith, c.type_inv.bytes i)) c.wrong_within.ensures

pub returns-clause-none : goal.returns-clause-none
returns-clause-none c = answer-none c.args.bytes.now c.wrong_within.result c.wrong_within.ensures
