use Rattle.std.proofs.Common.{◌∙◌, ap}
use Rattle.frame_journal.specs.JournalState.{has_staged}
use Rattle.manifest_core.specs.Told.{newest_of}
use Rattle.manifest_core.proofs.KeptLemmas.{kept-settled, kept-doubted}
use Rattle.manifest_core.proofs.PairLemmas.{pair-settle}
use Rattle.manifest_core.proofs.manifest.Manifest.settle_staged.Goals as goal

pub returns-in_err-settle-clause-calls : goal.returns-in_err-settle-clause-calls
returns-in_err-settle-clause-calls g c =
    let staged = ap (λ s. has_staged s.current) c.self.view_is ∙ c.requires in
    rw (← c.self.view_is) (pair-settle g.S.Strip c.self.inside.on_second c.self.inside.current c.self.inside.other c.settle.new.self.strip c.self.inside.stands.value (newest_of c.self.inside.stands.value c.self.inside.doubt)
    c.self.invariant.0 staged c.leaves.ensures (g.met.S.Strip.only_now c.self.inside.other.strip) c.settle.ensures.strip c.settle.ensures.time (c.settle.ensures.crash staged))

pub returns-clause-calls : goal.returns-clause-calls
returns-clause-calls g c =
    let staged = ap (λ s. has_staged s.current) c.self.view_is ∙ c.requires in
    rw (← c.self.view_is) (pair-settle g.S.Strip c.self.inside.on_second c.self.inside.current c.self.inside.other c.settle.new.self.strip c.self.inside.stands.value (newest_of c.self.inside.stands.value c.self.inside.doubt)
    c.self.invariant.0 staged c.leaves.ensures (g.met.S.Strip.only_now c.self.inside.other.strip) c.settle.ensures.strip c.settle.ensures.time (c.settle.ensures.crash staged))

pub invariant_of-self : goal.invariant_of-self
invariant_of-self g c =
    let staged = ap (λ s. has_staged s.current) c.self.view_is ∙ c.requires in (
      kept-doubted g.S.Strip c.self.inside.current c.settle.new.self c.self.inside.other c.self.inside.stands.value (newest_of c.self.inside.stands.value c.self.inside.doubt) c.self.invariant.0 staged c.settle.ensures.strip.tells
          c.in_err-settle.ensures.kept c.in_err-settle.ensures.before c.in_err-settle.ensures.idle c.settle.ensures.ready,
      c.self.invariant.1,
    )

pub invariant_of-self-2 : goal.invariant_of-self-2
invariant_of-self-2 g c =
    let staged = ap (λ s. has_staged s.current) c.self.view_is ∙ c.requires in
    rw (c.settle_told.ensures.none, c.settle_told.ensures.stands) (
      kept-settled g.S.Strip c.self.inside.current c.settle.new.self c.self.inside.other c.self.inside.stands.value (newest_of c.self.inside.stands.value c.self.inside.doubt) c.self.invariant.0 staged c.settle.ensures.strip.tells
          (c.in_ok-settle.ensures.standing staged) c.in_ok-settle.ensures.idle c.settle.ensures.ready,
      c.self.invariant.1,
    )
