use Rattle.std.proofs.Common.{length, ◌-◌, ◌+◌, ◌≤◌, take}
use Rattle.std.specs.Io.KnownBytes.{Appends}
use Rattle.link_model.specs.Attempts.{WereInterrupted}
use Rattle.link_model.specs.declared.limits.TheConstants.{INTERRUPTS_MAX}
use Rattle.link_model.proofs.attempts.Attempts.write_front.Given as goal

abbrev pub invariant-writes : goal.invariant-writes
invariant-writes g l = (l.written ≤ length l.bytes) × (l.interrupts ≤ INTERRUPTS_MAX)
    × Appends (g.W.Write.contents l.initial.self.stream) (g.W.Write.contents l.self.stream) (take l.written l.bytes)
    × WereInterrupted l.interrupts l.initial.self.counts l.self.counts

abbrev pub decreases-writes : goal.decreases-writes
decreases-writes g l = (length l.bytes - l.written) + (INTERRUPTS_MAX - l.interrupts)
