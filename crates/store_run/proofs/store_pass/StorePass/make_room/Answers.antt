use Rattle.std.proofs.Common.{ℕ, List, length, ap, arith}
use Rattle.rdb_base.specs.declared.entry.Entry.{Entry}
use Rattle.entry_code.specs.Payloads.{entry_fields}
use Rattle.entry_code.proofs.BatchLemmas.{fields_none}
use Rattle.store_run.specs.Rows.{rows_of}
use Rattle.store_run.proofs.ReopenLemmas.{calls-flushed}
use Rattle.store_run.proofs.store_pass.StorePass.make_room.Goals as goal

pub returns-in_err-flush-clause-calls : goal.returns-in_err-flush-clause-calls
returns-in_err-flush-clause-calls g c =
    rw (← c.self.view_is) (calls-flushed g.S.Strip c.self.inside.log c.flush.new.self (rows_of c.self.inside.map) c.self.inside.begun c.self.inside.opened.value c.self.inside.made c.self.invariant c.flush.ensures.calls)

pub returns-clause-calls : goal.returns-clause-calls
returns-clause-calls g c =
    rw (← c.self.view_is) (calls-flushed g.S.Strip c.self.inside.log c.flush.new.self (rows_of c.self.inside.map) c.self.inside.begun c.self.inside.opened.value c.self.inside.made c.self.invariant c.flush.ensures.calls)

pub returns-clause-room : goal.returns-clause-room
returns-clause-room g c = omega (arith, ap (λ (es : List Entry). length (entry_fields es)) c.in_ok-flush.ensures.pending, ap (λ (l : List ℕ). length l) fields_none)
