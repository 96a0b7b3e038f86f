use Rattle.partition_plan.proofs.CutLemmas.{joined_rows-cut_rows, cut_rows-fit, cut_rows-rows, cut_rows-full}
use Rattle.partition_plan.proofs.laws.cut_of_rows.Goals as goal

pub returns-clause-rows : goal.returns-clause-rows
returns-clause-rows c = joined_rows-cut_rows

pub returns-clause-fits : goal.returns-clause-fits
returns-clause-fits c = cut_rows-fit

pub returns-clause-some : goal.returns-clause-some
returns-clause-some c = cut_rows-rows

pub returns-clause-full : goal.returns-clause-full
returns-clause-full c = cut_rows-full
