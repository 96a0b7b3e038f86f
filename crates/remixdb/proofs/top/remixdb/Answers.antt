use Rattle.std.proofs.Common.{ap}
use Rattle.remixdb.specs.Scripts.{home_of}
use Rattle.remixdb.proofs.Serving.{ends_told}
use Rattle.remixdb.proofs.top.remixdb.Goals as goal

pub returns-clause-bytes : goal.returns-clause-bytes
returns-clause-bytes g c = λ is_script. ends_told _ _ _ _ _ _ _ _ c.status.ensures (ap home_of c.tell.ensures.same) (λ bytes left. (c.tell.ensures.images 0).0 bytes left) (c.run-outcome.ensures.bytes is_script)
