use Rattle.std.proofs.Common.{refl}
use Rattle.remixdb.proofs.system_host.SystemHost.new.Goals as goal

pub returns-clause-home : goal.returns-clause-home
returns-clause-home c = rw (c.new.ensures.home, c.new-3.ensures.home) ((_, refl), (_, refl))
