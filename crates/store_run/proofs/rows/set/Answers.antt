use Rattle.std.proofs.Common.{sym}
use Rattle.store_run.proofs.RowLemmas.{rows_of-set}
use Rattle.store_run.proofs.rows.set.Goals as goal

pub returns-then-not-takes-clause-changed : goal.returns-then-not-takes-clause-changed
returns-then-not-takes-clause-changed c = sym (c.takes.ensures c.if-not-takes.true)

pub returns-clause-changed : goal.returns-clause-changed
returns-clause-changed c = rows_of-set c.args.rows.now c.reserve.new.self c.set_reserved.new.self c.args.key c.args.change c.reserve.ensures.same c.set_reserved.ensures.set
