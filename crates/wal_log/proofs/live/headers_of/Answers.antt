use Rattle.std.proofs.Common.{◌≡◌, ◌∙◌, ◌+◌, List, Option, length, drop, Ok, ap, sym, subst, arith}
use Rattle.std.proofs.lemmas.List.{length_push}
use Rattle.std.specs.List.{AllByRecursion}
use Rattle.frame_journal.specs.FrameValue.{FrameValue}
use Rattle.entry_code.specs.Payloads.{Header}
use Rattle.wal_log.specs.Answers.{FailsLog}
use Rattle.wal_log.specs.Segments.{header_on, headers_from, IsHeaderWithin}
use Rattle.wal_log.proofs.SegmentLemmas.{headers_after, headers-next, headers-stop, headers-end, header_on-within, within-push}
use Rattle.wal_log.proofs.live.headers_of.Goals as goal

pub returns-in-Err-clause-exact : goal.returns-in-Err-clause-exact
returns-in-Err-clause-exact c =
    let fails = subst (λ (f : List FrameValue). FailsLog c.in-Err.error (header_on c.strips.strip f)) c.frames-item.is c.in-Err.ensures in
    headers-stop c.in-Err.error c.strips.strip c.strips.headers.items c.args.strips.now c.strips.frames-index c.frames-item.result _ (omega (arith, c.strips-test.true)) fails c.strips.invariant.so_far

pub strips-preserved : goal.strips-preserved
strips-preserved c =
    let read = subst (λ (f : List FrameValue). header_on c.strips.strip f ≡ Ok c.in-Ok.header) c.frames-item.is c.in-Ok.ensures in
    let items = c.in-Ok-push.ensures.items in
    record {
      so_far = c.strips.invariant.so_far ∙ headers-next c.strips.strip c.strips.headers.items c.in-Ok.header c.args.strips.now c.strips.frames-index c.frames-item.result (omega (arith, c.strips-test.true)) read
          ∙ ap (λ (l : List (Option Header)). headers_after l (headers_from (c.strips.strip + 1) (drop (c.strips.frames-index + 1) c.args.strips.now))) (sym items);
      many = omega (arith, c.strips.invariant.many, ap (λ (l : List (Option Header)). length l) items, length_push c.strips.headers.items c.in-Ok.header);
      here = omega (arith, c.strips.invariant.here);
      within = subst (AllByRecursion IsHeaderWithin) (sym items) (within-push c.strips.headers.items c.in-Ok.header c.strips.invariant.within (header_on-within c.strips.strip c.frames-item.result c.in-Ok.header c.in-Ok.ensures));
    }

pub returns-clause-exact : goal.returns-clause-exact
returns-clause-exact c = c.strips.invariant.so_far ∙ headers-end c.strips.strip c.strips.headers.items c.args.strips.now c.strips.frames-index (omega (arith, c.strips-test.false))
