use Rattle.std.proofs.Common.{ℕ, List, subst, ◌∙◌, inr}
use Rattle.remixdb.specs.Scripts.{HasRun}
use Rattle.remixdb.proofs.program.program.Goals as goal

pub returns-in-Ok-words_of-clause-ran : goal.returns-in-Ok-words_of-clause-ran
returns-in-Ok-words_of-clause-ran g c =
    let run = c.remixdb.ensures in
    let ran : HasRun c.deref.result.now c.remixdb.result (g.H.Host.strip_leaves c.args.host.now 0) (g.H.Host.strip_leaves c.remixdb.new.host 0) (g.H.Host.state c.args.host.now) (g.H.Host.state c.remixdb.new.host) = record {
      refused = run.words;
      idle = run.idle;
      least = run.least;
      causes = record { device_failed = run.device_failed; device_kept = run.device_kept; stream_failed = run.stream_failed; stream_kept = run.stream_kept };
      bytes = run.bytes;
    } in
    rw (c.in-Ok.is) (inr (subst (λ (words : List (List ℕ)). HasRun words c.remixdb.result (g.H.Host.strip_leaves c.args.host.now 0) (g.H.Host.strip_leaves c.remixdb.new.host 0) (g.H.Host.state c.args.host.now) (g.H.Host.state c.remixdb.new.host)) (c.deref.ensures.value ∙ c.in-Ok-words_of.ensures) ran))
