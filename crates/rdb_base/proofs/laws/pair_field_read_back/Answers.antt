use Rattle.rdb_base.proofs.PairLemmas.{pair_again, pair_taken, pair_size, bad_inside}
use Rattle.rdb_base.proofs.laws.pair_field_read_back.Goals as goal

pub returns-clause-pair : goal.returns-clause-pair
returns-clause-pair c = pair_again

pub returns-clause-spelled : goal.returns-clause-spelled
returns-clause-spelled c = pair_taken

pub returns-clause-size : goal.returns-clause-size
returns-clause-size c = pair_size

pub returns-clause-inside : goal.returns-clause-inside
returns-clause-inside c = bad_inside
