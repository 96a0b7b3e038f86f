use Rattle.std.proofs.Common.{◌∙◌, ap, sym}
use Rattle.wal_log.specs.Told.{written_of}
use Rattle.wal_log.proofs.KeptLemmas.{kept-cleared, survivors_of, crash-clear, not_both}
use Rattle.wal_log.proofs.segment.Segment.make_ready.Goals as goal

pub returns-in_err-clear-clause-calls : goal.returns-in_err-clear-clause-calls
returns-in_err-clear-clause-calls g c = rw (← c.self.view_is) record {
  crash = crash-clear g.S.Strip c.self.inside.number c.self.inside.first c.self.inside.journal c.clear.new.self.strip c.self.inside.synced.value _ c.self.inside.all c.self.inside.batch c.self.inside.headed c.self.invariant.0 c.self.invariant.1
      (ap (λ s. s.headed) c.self.view_is ∙ c.requires.bare) (sym c.ready.ensures ∙ c.if-ready.false) c.clear.ensures.crash;
  time = c.clear.ensures.time;
  same = c.clear.ensures.strip;
}

pub returns-clause-calls : goal.returns-clause-calls
returns-clause-calls g c = rw (← c.self.view_is) record {
  crash = crash-clear g.S.Strip c.self.inside.number c.self.inside.first c.self.inside.journal c.clear.new.self.strip c.self.inside.synced.value _ c.self.inside.all c.self.inside.batch c.self.inside.headed c.self.invariant.0 c.self.invariant.1
      (ap (λ s. s.headed) c.self.view_is ∙ c.requires.bare) (sym c.ready.ensures ∙ c.if-ready.false) c.clear.ensures.crash;
  time = c.clear.ensures.time;
  same = c.clear.ensures.strip;
}

pub invariant_of-self : goal.invariant_of-self
invariant_of-self g c =
    let bare = ap (λ s. s.headed) c.self.view_is ∙ c.requires.bare in
    let waits = sym c.ready.ensures ∙ c.if-ready.false in
    let written = written_of c.self.inside.synced.value c.self.inside.staged in (
      kept-cleared g.S.Strip c.self.inside.number c.self.inside.first c.self.inside.journal c.clear.new.self c.self.inside.synced.value written c.self.inside.headed c.self.invariant.0 bare waits c.clear.ensures.strip.tells c.clear.ensures.idle c.clear.ensures.standing
          (λ r. survivors_of g.S.Strip c.self.inside.number c.self.inside.first c.self.inside.journal c.clear.new.self c.self.inside.synced.value written c.self.inside.headed c.self.invariant.0 waits c.clear.ensures.strip.tells c.in_err-clear.ensures.same)
          c.clear.ensures.either c.clear.ensures.crash c.clear.ensures.time.later (g.met.S.Strip.counts_now c.clear.new.self.strip),
      c.self.invariant.1,
    )

pub invariant_of-self-2 : goal.invariant_of-self-2
invariant_of-self-2 g c =
    let bare = ap (λ s. s.headed) c.self.view_is ∙ c.requires.bare in
    let waits = sym c.ready.ensures ∙ c.if-ready.false in
    let written = written_of c.self.inside.synced.value c.self.inside.staged in (
      kept-cleared g.S.Strip c.self.inside.number c.self.inside.first c.self.inside.journal c.clear.new.self c.self.inside.synced.value written c.self.inside.headed c.self.invariant.0 bare waits c.clear.ensures.strip.tells c.clear.ensures.idle c.clear.ensures.standing
          (λ r. absurd (not_both _ c.in_ok-clear.ensures.ready r))
          c.clear.ensures.either c.clear.ensures.crash c.clear.ensures.time.later (g.met.S.Strip.counts_now c.clear.new.self.strip),
      c.self.invariant.1,
    )
