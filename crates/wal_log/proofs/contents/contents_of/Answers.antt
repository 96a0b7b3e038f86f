use Rattle.std.proofs.Common.{◌≡◌, ◌∙◌, length, Ok, ap, subst, refl, arith}
use Rattle.entry_code.specs.Payloads.{Header}
use Rattle.wal_log.specs.Answers.{FailsLog}
use Rattle.wal_log.specs.LogValues.{SegmentValue, end_from}
use Rattle.wal_log.specs.Segments.{content_of}
use Rattle.wal_log.proofs.SegmentLemmas.{contents-next, contents-stop, contents-end, end_from-push}
use Rattle.wal_log.proofs.contents.contents_of.Goals as goal

pub returns-in-Err-clause-exact : goal.returns-in-Err-clause-exact
returns-in-Err-clause-exact c =
    let fails = subst (λ (h : Header). FailsLog c.in-Err.error (content_of c.args.strips.now c.live.end h)) c.header-item.is c.in-Err.ensures.exact in
    contents-stop c.in-Err.error c.args.strips.now c.live.end c.live.segments.items c.args.live.now c.live.header-index c.header-item.result _ (omega (arith, c.live-test.true)) fails c.live.invariant.so_far

pub live-preserved : goal.live-preserved
live-preserved c =
    let read = subst (λ (h : Header). content_of c.args.strips.now c.live.end h ≡ Ok c.in-Ok.segment) c.header-item.is c.in-Ok.ensures.exact in
    let items = c.in-Ok-push.ensures.items in
    let more : c.len.result ≡ length c.in-Ok.segment.entries = omega (arith, c.len.ensures, c.segment.inside.entries.ok.0, ap (λ (s : SegmentValue). length s.entries) c.segment.view_is) in
    let end = ap (end_from c.args.start) items ∙ end_from-push c.args.start c.live.segments.items c.in-Ok.segment in
    record {
      so_far = c.live.invariant.so_far ∙ contents-next c.args.strips.now c.live.end c.live.segments.items c.in-Ok.segment c.args.live.now c.live.header-index c.header-item.result (omega (arith, c.live-test.true)) read
          ∙ rw (items, more) refl;
      end = omega (arith, c.live.invariant.end, end, more);
      most = omega (arith, more, c.in-Ok.ensures.within);
    }

pub returns-clause-exact : goal.returns-clause-exact
returns-clause-exact c = c.live.invariant.so_far ∙ contents-end c.args.strips.now c.live.end c.live.segments.items c.args.live.now c.live.header-index (omega (arith, c.live-test.false))
