use Rattle.rdb_base.proofs.KeyOrder.{total, same_key, key_cmp-same}
use Rattle.rdb_base.proofs.laws.order_of_keys.Goals as goal

pub returns-clause-total : goal.returns-clause-total
returns-clause-total c = total

pub returns-clause-same : goal.returns-clause-same
returns-clause-same c = same_key

pub returns-clause-reflexive : goal.returns-clause-reflexive
returns-clause-reflexive c = key_cmp-same
