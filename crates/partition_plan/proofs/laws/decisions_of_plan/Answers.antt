use Rattle.partition_plan.proofs.PlanLemmas.{planned-length, kept_by-planned, count_by-planned, planned-no_abort}
use Rattle.partition_plan.proofs.laws.decisions_of_plan.Goals as goal

pub returns-clause-each : goal.returns-clause-each
returns-clause-each c = planned-length

pub returns-clause-carried : goal.returns-clause-carried
returns-clause-carried c = kept_by-planned

pub returns-clause-parts : goal.returns-clause-parts
returns-clause-parts c = count_by-planned

pub returns-clause-allowed : goal.returns-clause-allowed
returns-clause-allowed c = planned-no_abort
