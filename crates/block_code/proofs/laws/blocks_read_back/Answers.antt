use Rattle.block_code.proofs.AgainLemmas.{block_again}
use Rattle.block_code.proofs.TakenLemmas.{block_taken}
use Rattle.block_code.proofs.laws.blocks_read_back.Goals as goal

pub returns-clause-block : goal.returns-clause-block
returns-clause-block c = block_again

pub returns-clause-spelled : goal.returns-clause-spelled
returns-clause-spelled c = block_taken
