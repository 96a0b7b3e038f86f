use Rattle.partition_plan.proofs.PieceLemmas.{pieces-kept}
use Rattle.partition_plan.proofs.PlannedLemmas.{pieces-pairs}
use Rattle.partition_plan.proofs.laws.pieces_of_partition.Goals as goal

pub returns-clause-rows : goal.returns-clause-rows
returns-clause-rows c = pieces-kept

pub returns-clause-pairs : goal.returns-clause-pairs
returns-clause-pairs c = pieces-pairs
