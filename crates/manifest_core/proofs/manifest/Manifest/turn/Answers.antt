use Rattle.std.proofs.Common.{◌∙◌, ap}
use Rattle.frame_journal.specs.JournalState.{has_staged}
use Rattle.edition_code.specs.Values.{EditionValue}
use Rattle.manifest_core.specs.Manifests.{HasEdition}
use Rattle.manifest_core.specs.Steps.{is_full}
use Rattle.manifest_core.specs.Told.{newest_of}
use Rattle.manifest_core.proofs.KeptLemmas.{kept-turned, kept-uncleared}
use Rattle.manifest_core.proofs.PairLemmas.{pair-clear, pair-turn, full_end}
use Rattle.manifest_core.proofs.manifest.Manifest.turn.Goals as goal

pub returns-in_err-clear-clause-calls : goal.returns-in_err-clear-clause-calls
returns-in_err-clear-clause-calls g c =
    let full = full_end c.self.inside.current (ap (λ s. is_full s.current) c.self.view_is ∙ c.requires.full) in
    let idle = ap (λ s. has_staged s.current) c.self.view_is ∙ c.requires.idle in
    rw (← c.self.view_is) (pair-clear g.S.Strip c.self.inside.on_second c.self.inside.current c.self.inside.other c.clear.new.self.strip c.self.inside.stands.value (newest_of c.self.inside.stands.value c.self.inside.doubt)
    c.self.invariant.0 idle full c.leaves.ensures (g.met.S.Strip.only_now c.self.inside.current.strip) c.clear.ensures.strip c.clear.ensures.time c.clear.ensures.own c.clear.ensures.crash)

pub returns-clause-calls : goal.returns-clause-calls
returns-clause-calls g c =
    let full = full_end c.self.inside.current (ap (λ s. is_full s.current) c.self.view_is ∙ c.requires.full) in
    let idle = ap (λ s. has_staged s.current) c.self.view_is ∙ c.requires.idle in
    rw (← c.self.view_is, c.swap.ensures.x_after, c.swap.ensures.y_after) (pair-turn g.S.Strip 4 c.self.inside.on_second _ _ c.self.inside.current.strip c.clear.new.self.strip (HasEdition c.self.inside.stands.value)
    (pair-clear g.S.Strip c.self.inside.on_second c.self.inside.current c.self.inside.other c.clear.new.self.strip c.self.inside.stands.value (newest_of c.self.inside.stands.value c.self.inside.doubt)
    c.self.invariant.0 idle full c.leaves.ensures (g.met.S.Strip.only_now c.self.inside.current.strip) c.clear.ensures.strip c.clear.ensures.time c.clear.ensures.own c.clear.ensures.crash))

pub invariant_of-self : goal.invariant_of-self
invariant_of-self g c =
    let full = full_end c.self.inside.current (ap (λ s. is_full s.current) c.self.view_is ∙ c.requires.full) in
    let idle = ap (λ s. has_staged s.current) c.self.view_is ∙ c.requires.idle in (
      kept-uncleared g.S.Strip c.self.inside.current c.self.inside.other c.clear.new.self c.self.inside.stands.value (newest_of c.self.inside.stands.value c.self.inside.doubt) c.self.invariant.0 idle full c.clear.ensures.strip.tells
          c.in_err-clear.ensures.ready c.clear.ensures.idle c.clear.ensures.own c.in_err-clear.ensures.same,
      c.self.invariant.1,
    )

pub invariant_of-self-2 : goal.invariant_of-self-2
invariant_of-self-2 g c =
    let full = full_end c.self.inside.current (ap (λ s. is_full s.current) c.self.view_is ∙ c.requires.full) in
    let idle = ap (λ s. has_staged s.current) c.self.view_is ∙ c.requires.idle in
    rw (c.swap.ensures.x_after, c.swap.ensures.y_after) (
      kept-turned g.S.Strip c.self.inside.current c.self.inside.other c.clear.new.self c.self.inside.stands.value (newest_of c.self.inside.stands.value c.self.inside.doubt) c.self.invariant.0 idle full c.clear.ensures.strip.tells
          c.clear.ensures.standing c.in_ok-clear.ensures.ready c.clear.ensures.idle c.clear.ensures.end,
      c.self.invariant.1,
    )
