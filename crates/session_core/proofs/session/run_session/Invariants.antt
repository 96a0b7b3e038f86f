use Rattle.std.proofs.Common.{◌≡◌, ◌-◌, ◌≤◌, []}
use Rattle.session_core.specs.declared.limits.TheConstants.{SESSION_MAX}
use Rattle.session_core.specs.Telling.{AreOf, AreAtMost}
use Rattle.session_core.specs.Conversations.{SoFar, scene_at}
use Rattle.session_core.proofs.session.run_session.Given as goal

abbrev pub invariant-messages : goal.invariant-messages
invariant-messages g l = record {
  empty : l.rooms.decoder.bytes ≡ [];
  below : l.rooms.decoder.at ≤ SESSION_MAX;
  replies : l.replies ≤ l.rooms.decoder.at;
  few : AreAtMost l.rooms.decoder.at l.faults;
  books : AreOf g.A.Answers.books l.faults;
  source : g.R.Source.faults l.source ≡ g.R.Source.faults l.fn.source;
  sink : g.W.Sink.faults l.sink ≡ g.W.Sink.faults l.fn.sink;
  so_far : SoFar 0
      (scene_at g.A.Answers g.R.Source g.W.Sink l.fn.pass l.fn.source l.fn.sink [])
      (scene_at g.A.Answers g.R.Source g.W.Sink l.pass l.source l.sink l.faults)
      l.rooms.decoder.at l.replies;
}

abbrev pub decreases-messages : goal.decreases-messages
decreases-messages g l = SESSION_MAX - l.rooms.decoder.at
