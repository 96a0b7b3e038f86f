use Rattle.std.proofs.Common.{rules, ◌-◌, length}
use Rattle.link_model.proofs.steady_sink.SteadySinkSink.put.Goals as goal

pub returns-then-space-piece-clause-bytes : goal.returns-then-space-piece-clause-bytes
returns-then-space-piece-clause-bytes c =
    rw (← c.self.view_is) (c.self.inside.room - length c.self.inside.bytes.items, search rules, search rules)
