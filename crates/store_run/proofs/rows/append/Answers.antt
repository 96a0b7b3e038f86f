use Rattle.std.proofs.Common.{sym}
use Rattle.store_run.proofs.RowLemmas.{rows_of-set}
use Rattle.store_run.proofs.rows.append.Goals as goal

pub returns-then-not-takes-clause-rows : goal.returns-then-not-takes-clause-rows
returns-then-not-takes-clause-rows g c = sym (c.takes.ensures c.if-not-takes.true)

pub returns-clause-rows : goal.returns-clause-rows
returns-clause-rows g c = rows_of-set c.args.rows.now c.reserve.new.self c.set_reserved.new.self c.args.entry.key c.args.entry.change c.reserve.ensures.same c.set_reserved.ensures.set
