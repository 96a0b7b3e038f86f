use Rattle.partition_set.proofs.LookupLemmas.{change_at-deletion, value-lent, needs_value}
use Rattle.partition_set.proofs.lookup.copied_change.Goals as goal

pub returns-in-None-clause-change : goal.returns-in-None-clause-change
returns-in-None-clause-change g c = change_at-deletion (g.T.Runs.run c.args.run.now) c.args.place c.lent_value.result c.lent_value.ensures c.in-None.is

pub returns-in-Some-clause-memory : goal.returns-in-Some-clause-memory
returns-in-Some-clause-memory g c = needs_value c.change_at.result (value-lent (g.T.Runs.run c.args.run.now) c.args.place c.lent_value.result c.in-Some._value c.lent_value.ensures c.in-Some.is)
