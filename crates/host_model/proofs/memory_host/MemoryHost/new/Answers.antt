use Rattle.std.proofs.Common.{refl}
use Rattle.host_model.proofs.memory_host.MemoryHost.new.Goals as goal

pub returns-clause-home : goal.returns-clause-home
returns-clause-home c = rw (c.new.ensures.home, c.new-2.ensures.home) ((_, refl), (_, refl))
