use Rattle.store_run.specs.Rows.{rows_of}
use Rattle.store_run.proofs.MoveLemmas.{kept_found}
use Rattle.store_run.proofs.store_pass.StorePass.get.Goals as goal

pub returns : goal.returns
returns g c = rw (← c.self.view_is) (kept_found g.S.Strip c.self.inside.log (rows_of c.self.inside.map) c.self.inside.begun c.self.inside.opened.value c.self.inside.made c.self.invariant c.args.key.now c.end-front.result _ c.end-front.ensures.number c.in_ok-value.ensures)
