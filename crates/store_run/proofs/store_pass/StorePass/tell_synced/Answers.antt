use Rattle.store_run.specs.Rows.{rows_of}
use Rattle.store_run.proofs.ReopenLemmas.{synced_front}
use Rattle.store_run.proofs.store_pass.StorePass.tell_synced.Goals as goal

pub returns-clause-content : goal.returns-clause-content
returns-clause-content g c =
    rw (← c.self.view_is) (λ told. synced_front g.S.Strip c.self.inside.log (rows_of c.self.inside.map) c.self.inside.begun c.self.inside.opened.value c.self.inside.made c.self.invariant (g.S.Strip.content c.self.inside.log.journal.strip) (c.tell_images.ensures.content told))

pub returns-clause-images : goal.returns-clause-images
returns-clause-images g c =
    rw (← c.self.view_is) (λ told image may. synced_front g.S.Strip c.self.inside.log (rows_of c.self.inside.map) c.self.inside.begun c.self.inside.opened.value c.self.inside.made c.self.invariant image (c.tell_images.ensures.images told image may))
