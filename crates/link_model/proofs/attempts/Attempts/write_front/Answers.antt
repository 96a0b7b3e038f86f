use Rattle.std.proofs.Common.{List, ℕ, take, subst, rules}
use Rattle.std.specs.Io.KnownBytes.{Appends}
use Rattle.link_model.proofs.AttemptLemmas.{interrupted-kept, interrupted-more}
use Rattle.link_model.proofs.GivenLemmas.{Appends-more, Appends-Keeps}
use Rattle.link_model.proofs.attempts.Attempts.write_front.Goals as goal

pub writes-preserved-in-Ok : goal.writes-preserved-in-Ok
writes-preserved-in-Ok g c =
    let next = subst (λ (l : List ℕ). Appends (g.W.Write.contents c.writes.self.stream)
    (g.W.Write.contents c.write.new.self.stream) (take c.in-Ok.count l)) c.split_at.ensures.back
    c.in-Ok.ensures.bytes in (
      search rules,
      c.writes.invariant.1,
      Appends-more _ _ _ c.args.bytes.now c.writes.written c.in-Ok.count
          c.writes.invariant.2 next,
      interrupted-kept _ _ _ _ c.writes.invariant.3 c.in-Ok.ensures.counts,
    )

pub writes-preserved : goal.writes-preserved
writes-preserved g c = (
  search rules,
  search rules,
  Appends-Keeps _ _ _ _ c.writes.invariant.2 c.in-Err-Interrupted.ensures.bytes,
  interrupted-more _ _ _ _ _ c.writes.invariant.3 c.in-Err-Interrupted.field-0-is
      c.in-Err-Interrupted.ensures.counts,
)
