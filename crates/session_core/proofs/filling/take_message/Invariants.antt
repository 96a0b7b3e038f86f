use Rattle.std.proofs.Common.{◌≡◌, ◌-◌, ◌≤◌, length}
use Rattle.std.specs.Io.KnownBytes.{prepend_known}
use Rattle.wire_protocol.specs.declared.limits.TheConstants.{MESSAGE_MAX}
use Rattle.session_core.specs.declared.limits.TheConstants.{SESSION_MAX}
use Rattle.session_core.specs.Turns.{taken_of}
use Rattle.session_core.proofs.filling.take_message.Given as goal

abbrev pub invariant-message : goal.invariant-message
invariant-message g l = record {
  came : prepend_known l.decoder.bytes (g.R.Source.left l.source) ≡ prepend_known l.fn.decoder.bytes (g.R.Source.left l.fn.source);
  place : l.decoder.at ≡ l.fn.decoder.at;
  below : taken_of l.decoder ≤ SESSION_MAX;
  kept : g.R.Source.faults l.source ≡ g.R.Source.faults l.fn.source;
}

abbrev pub decreases-message : goal.decreases-message
decreases-message g l = MESSAGE_MAX - length l.decoder.bytes
