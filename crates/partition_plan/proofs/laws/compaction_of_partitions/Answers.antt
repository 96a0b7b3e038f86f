use Rattle.partition_plan.proofs.CompactionLemmas.{compaction-kept, aborts-kept}
use Rattle.partition_plan.proofs.laws.compaction_of_partitions.Goals as goal

pub returns-clause-rows : goal.returns-clause-rows
returns-clause-rows c = compaction-kept

pub returns-clause-aborts : goal.returns-clause-aborts
returns-clause-aborts c = aborts-kept
