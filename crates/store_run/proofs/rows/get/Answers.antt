use Rattle.std.proofs.Common.{Some, None, ◌∙◌}
use Rattle.rdb_base.proofs.LiveLemmas.{IsRising-live}
use Rattle.memory_rows.specs.Memories.{level}
use Rattle.store_run.proofs.RowLemmas.{value_at-rows_of}
use Rattle.store_run.proofs.rows.get.Goals as goal

pub returns-in-Some-clause-value : goal.returns-in-Some-clause-value
returns-in-Some-clause-value c = c.value_in.ensures ∙ value_at-rows_of c.args.rows.now c.args.key.now (Some c.in-Some.change.now) c.find.ensures.rises c.in-Some.ensures.change

pub returns-in-Some-clause-rises : goal.returns-in-Some-clause-rises
returns-in-Some-clause-rises c = IsRising-live (level c.args.rows.now) c.find.ensures.rises

pub returns-in-None-clause-value : goal.returns-in-None-clause-value
returns-in-None-clause-value c = value_at-rows_of c.args.rows.now c.args.key.now None c.find.ensures.rises c.in-None.ensures.change

pub returns-in-None-clause-rises : goal.returns-in-None-clause-rises
returns-in-None-clause-rises c = IsRising-live (level c.args.rows.now) c.find.ensures.rises
