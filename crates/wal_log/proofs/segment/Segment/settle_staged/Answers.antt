use Rattle.std.proofs.Common.{◌∙◌, ap}
use Rattle.frame_journal.specs.JournalState.{has_staged}
use Rattle.wal_log.specs.Told.{written_of}
use Rattle.wal_log.proofs.KeptLemmas.{kept-settled, kept-doubted, crash-settle, counted-settled}
use Rattle.wal_log.proofs.segment.Segment.settle_staged.Goals as goal

pub returns-in_err-settle-clause-calls : goal.returns-in_err-settle-clause-calls
returns-in_err-settle-clause-calls g c = rw (← c.self.view_is) record {
  crash = crash-settle g.S.Strip c.self.inside.number c.self.inside.first c.self.inside.journal c.settle.new.self.strip c.self.inside.synced.value _ c.self.inside.all c.self.inside.batch c.self.inside.headed c.self.invariant.0 c.self.invariant.1 (ap (λ s. has_staged s.journal) c.self.view_is ∙ c.requires) (c.settle.ensures.crash (ap (λ s. has_staged s.journal) c.self.view_is ∙ c.requires));
  time = c.settle.ensures.time;
  same = c.settle.ensures.strip;
}

pub returns-clause-calls : goal.returns-clause-calls
returns-clause-calls g c = rw (← c.self.view_is) record {
  crash = crash-settle g.S.Strip c.self.inside.number c.self.inside.first c.self.inside.journal c.settle.new.self.strip c.self.inside.synced.value _ c.self.inside.all c.self.inside.batch c.self.inside.headed c.self.invariant.0 c.self.invariant.1 (ap (λ s. has_staged s.journal) c.self.view_is ∙ c.requires) (c.settle.ensures.crash (ap (λ s. has_staged s.journal) c.self.view_is ∙ c.requires));
  time = c.settle.ensures.time;
  same = c.settle.ensures.strip;
}

pub invariant_of-self : goal.invariant_of-self
invariant_of-self g c =
    let staged = ap (λ s. has_staged s.journal) c.self.view_is ∙ c.requires in (
      kept-doubted g.S.Strip c.self.inside.number c.self.inside.first c.self.inside.journal c.settle.new.self _ _ c.self.inside.headed c.self.invariant.0 staged c.settle.ensures.strip.tells
          c.in_err-settle.ensures.kept c.in_err-settle.ensures.before c.in_err-settle.ensures.idle c.settle.ensures.ready (c.settle.ensures.either staged) (c.settle.ensures.crash staged) c.settle.ensures.time.later (g.met.S.Strip.counts_now c.settle.new.self.strip),
      c.self.invariant.1,
    )

pub invariant_of-self-2 : goal.invariant_of-self-2
invariant_of-self-2 g c =
    let staged = ap (λ s. has_staged s.journal) c.self.view_is ∙ c.requires in
    rw (c.take_staged.ensures.none, c.take_staged.ensures.synced) (
      kept-settled g.S.Strip c.self.inside.number c.self.inside.first c.self.inside.journal c.settle.new.self c.self.inside.synced.value (written_of c.self.inside.synced.value c.self.inside.staged) c.self.inside.headed c.self.invariant.0 staged c.settle.ensures.strip.tells
          (c.in_ok-settle.ensures.settled staged) (c.in_ok-settle.ensures.standing staged) c.in_ok-settle.ensures.idle c.settle.ensures.ready (c.in_ok-settle.ensures.left staged),
      counted-settled g.S.Strip c.self.inside.number c.self.inside.first c.self.inside.synced.value (written_of c.self.inside.synced.value c.self.inside.staged) c.self.inside.all c.self.inside.batch c.self.inside.headed c.self.invariant.1,
    )
