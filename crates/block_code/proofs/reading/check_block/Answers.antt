use Rattle.std.proofs.Common.{arith}
use Rattle.block_code.proofs.CheckLemmas.{answer-pairs, answer-block, answer-none}
use Rattle.block_code.proofs.reading.check_block.Goals as goal

pub returns-clause-pairs : goal.returns-clause-pairs
returns-clause-pairs c = answer-pairs c.args.block.now c.count_in.result c.count_in.ensures

pub returns-clause-block : goal.returns-clause-block
returns-clause-block c = answer-block c.args.block.now c.count_in.result (λ i. omega (arith, c.type_inv.block i)) c.count_in.ensures

pub returns-clause-none : goal.returns-clause-none
returns-clause-none c = answer-none c.args.block.now c.count_in.result c.count_in.ensures
