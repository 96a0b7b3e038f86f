use Rattle.std.proofs.Common.{◌∙◌, ◌+◌, ◌++◌, ◌-◌, List, length, ap, sym, arith}
use Rattle.std.proofs.lemmas.List.{length_push}
use Rattle.disk_model.specs.declared.limits.TheConstants.{LOG_STRIPS}
use Rattle.entry_code.specs.Payloads.{Header}
use Rattle.wal_log.specs.Segments.{live_from}
use Rattle.wal_log.proofs.SegmentLemmas.{live-next, live-stop, live-end}
use Rattle.wal_log.proofs.live.live_segments.Goals as goal

pub returns-in-None-clause-exact : goal.returns-in-None-clause-exact
returns-in-None-clause-exact c = sym (c.segments.invariant.so_far ∙ live-stop c.args.headers.now LOG_STRIPS c.segments.count c.segments.segment c.segments.live.items c.segments-test.true (sym c.in-None.ensures.exact))

pub segments-preserved : goal.segments-preserved
segments-preserved c = record {
  so_far = c.segments.invariant.so_far ∙ live-next c.args.headers.now LOG_STRIPS c.segments.count c.segments.segment c.segments.live.items c.in-Some.header c.segments-test.true (sym c.in-Some.ensures.exact)
      ∙ ap (λ (l : List Header). l ++ live_from c.args.headers.now (LOG_STRIPS - (c.segments.count + 1)) (c.segments.segment + 1)) (sym c.in_ok-push-in-Some.ensures.items);
  next = omega (arith, c.segments.invariant.next, ap (λ (l : List Header). length l) c.in_ok-push-in-Some.ensures.items, length_push c.segments.live.items c.in-Some.header);
}

pub returns-clause-exact : goal.returns-clause-exact
returns-clause-exact c = sym (c.segments.invariant.so_far ∙ live-end c.args.headers.now LOG_STRIPS c.segments.count c.segments.segment c.segments.live.items c.segments-test.false)
