use Rattle.rdb_base.proofs.MergeLemmas.{merge-newer, merge-same, merge-older, merge-none}
use Rattle.rdb_base.proofs.laws.merge_of_runs.Goals as goal

pub returns-clause-newer : goal.returns-clause-newer
returns-clause-newer c = merge-newer

pub returns-clause-both : goal.returns-clause-both
returns-clause-both c = merge-same

pub returns-clause-older : goal.returns-clause-older
returns-clause-older c = merge-older

pub returns-clause-end : goal.returns-clause-end
returns-clause-end c = merge-none
