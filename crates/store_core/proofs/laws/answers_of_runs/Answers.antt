use Rattle.store_core.proofs.EventLemmas.{step-holds}
use Rattle.store_core.proofs.RunLemmas.{run-holds}
use Rattle.store_core.proofs.laws.answers_of_runs.Goals as goal

pub returns-clause-answers : goal.returns-clause-answers
returns-clause-answers c before told w next e a led stepped = (step-holds w next e a (run-holds before told w led) stepped).1

pub returns-clause-fair : goal.returns-clause-fair
returns-clause-fair c before told w led = (run-holds before told w led).counts.fair
