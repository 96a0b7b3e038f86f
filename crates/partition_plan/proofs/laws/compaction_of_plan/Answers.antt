use Rattle.partition_plan.proofs.PlannedLemmas.{planned-few_parts, planned-few_runs, planned-little}
use Rattle.partition_plan.proofs.laws.compaction_of_plan.Goals as goal

pub returns-clause-parts : goal.returns-clause-parts
returns-clause-parts c = planned-few_parts

pub returns-clause-runs : goal.returns-clause-runs
returns-clause-runs c = planned-few_runs

pub returns-clause-carried : goal.returns-clause-carried
returns-clause-carried c = planned-little
