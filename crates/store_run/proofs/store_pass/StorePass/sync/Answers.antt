use Rattle.store_run.specs.Rows.{rows_of}
use Rattle.store_run.proofs.ReopenLemmas.{calls-flushed, kept-flushed}
use Rattle.store_run.proofs.store_pass.StorePass.sync.Goals as goal

pub returns-in_err-flushed-clause-calls : goal.returns-in_err-flushed-clause-calls
returns-in_err-flushed-clause-calls g c =
    rw (← c.self.view_is) (calls-flushed g.S.Strip c.self.inside.log c.flush-flushed.new.self (rows_of c.self.inside.map) c.self.inside.begun c.self.inside.opened.value c.self.inside.made c.self.invariant c.flush-flushed.ensures.calls)

pub returns-clause-calls : goal.returns-clause-calls
returns-clause-calls g c =
    rw (← c.self.view_is) (calls-flushed g.S.Strip c.self.inside.log c.flush-flushed.new.self (rows_of c.self.inside.map) c.self.inside.begun c.self.inside.opened.value c.self.inside.made c.self.invariant c.flush-flushed.ensures.calls)
