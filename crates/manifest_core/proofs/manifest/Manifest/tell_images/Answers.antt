use Rattle.manifest_core.specs.Told.{newest_of}
use Rattle.manifest_core.proofs.PairLemmas.{standing_now}
use Rattle.manifest_core.proofs.manifest.Manifest.tell_images.Goals as goal

pub returns-clause-left : goal.returns-clause-left
returns-clause-left g c = rw (← c.self.view_is) (standing_now g.S.Strip c.self.inside.on_second c.self.inside.current c.self.inside.other c.self.inside.stands.value (newest_of c.self.inside.stands.value c.self.inside.doubt) c.self.invariant.0 c.leaves.ensures c.leaves-2.ensures)
