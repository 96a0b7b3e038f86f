use Rattle.store_run.specs.Closing.{HasWhole}
use Rattle.store_run.specs.Rows.{rows_of}
use Rattle.store_run.proofs.ReopenLemmas.{closing_calls, closing_whole, on_ok-then}
use Rattle.store_run.proofs.store_pass.StorePass.close.Goals as goal

pub returns-clause-calls : goal.returns-clause-calls
returns-clause-calls g c =
    rw (← c.pass.view_is, c.into_strip.ensures.strip) (closing_calls g.S.Strip c.pass.inside.log c.flush-flushed.new.self (rows_of c.pass.inside.map) c.pass.inside.begun c.pass.inside.opened.value c.pass.inside.made c.pass.invariant
    c.flush-flushed.ensures.same c.flush-flushed.ensures.calls c.flush-flushed.ensures.content c.flush-flushed.ensures.left)

pub returns-clause-whole : goal.returns-clause-whole
returns-clause-whole g c =
    rw (← c.pass.view_is, c.into_strip.ensures.strip) (on_ok-then _ _ c.flush-flushed.result (closing_whole g.S.Strip c.pass.inside.log c.flush-flushed.new.self (rows_of c.pass.inside.map) c.pass.inside.begun c.pass.inside.opened.value c.pass.inside.made c.pass.invariant
    c.flush-flushed.ensures.same c.flush-flushed.ensures.headed c.flush-flushed.ensures.calls c.flush-flushed.ensures.content c.flush-flushed.ensures.left) c.flush-flushed.ensures.all)
