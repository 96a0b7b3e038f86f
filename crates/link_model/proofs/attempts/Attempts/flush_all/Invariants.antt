use Rattle.std.proofs.Common.{◌-◌}
use Rattle.std.specs.Io.KnownBytes.{Keeps}
use Rattle.link_model.specs.Attempts.{WereInterrupted}
use Rattle.link_model.specs.declared.limits.TheConstants.{INTERRUPTS_MAX}
use Rattle.link_model.proofs.attempts.Attempts.flush_all.Given as goal

abbrev pub invariant-flushes : goal.invariant-flushes
invariant-flushes g l = Keeps (g.W.Write.contents l.initial.self.stream) (g.W.Write.contents l.self.stream)
    × WereInterrupted l.interrupts l.initial.self.counts l.self.counts

abbrev pub decreases-flushes : goal.decreases-flushes
decreases-flushes g l = INTERRUPTS_MAX - l.interrupts
