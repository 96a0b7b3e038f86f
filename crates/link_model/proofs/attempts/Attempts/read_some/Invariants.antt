use Rattle.std.proofs.Common.{◌≡◌, ◌-◌, length}
use Rattle.std.specs.Io.KnownBytes.{Keeps}
use Rattle.link_model.specs.Attempts.{WereInterrupted}
use Rattle.link_model.specs.declared.limits.TheConstants.{INTERRUPTS_MAX}
use Rattle.link_model.proofs.attempts.Attempts.read_some.Given as goal

abbrev pub invariant-reads : goal.invariant-reads
invariant-reads g l = (length l.into ≡ length l.initial.into)
    × Keeps (g.R.Read.remaining l.initial.self.stream) (g.R.Read.remaining l.self.stream)
    × WereInterrupted l.interrupts l.initial.self.counts l.self.counts

abbrev pub decreases-reads : goal.decreases-reads
decreases-reads g l = INTERRUPTS_MAX - l.interrupts
