use Rattle.std.proofs.Common.{◌∙◌, ◌≤◌, ℕ, ap, sym, subst}
use Rattle.std.specs.List.{AllByRecursion}
use Rattle.rdb_base.specs.declared.limits.TheConstants.{NUMBER_MAX}
use Rattle.disk_model.specs.declared.limits.TheConstants.{LOG_STRIPS}
use Rattle.wal_log.specs.Segments.{IsHeaderWithin, contents_from, start_of}
use Rattle.wal_log.proofs.SegmentLemmas.{start-within, contents-placed, live-contents_numbered, numbered-from}
use Rattle.wal_log.proofs.contents.log_of.Goals as goal

pub contents_of-requires-clause-most : goal.contents_of-requires-clause-most
contents_of-requires-clause-most c =
    let within = subst (AllByRecursion IsHeaderWithin) (sym c.deref.ensures.value) c.in_ok-headers.ensures.within in
    let start = c.start_of-start.ensures ∙ ap start_of (c.deref-2.ensures.value ∙ c.in-Ok.ensures.exact) in
    subst (λ (n : ℕ). n ≤ NUMBER_MAX) (sym start) (start-within c.deref.result.now LOG_STRIPS c.args.first within)

pub returns-clause-numbered : goal.returns-clause-numbered
returns-clause-numbered c =
    let read = sym (ap (contents_from c.args.strips.now c.start_of-start.result) (c.deref-3.ensures.value ∙ c.in-Ok.ensures.exact)) ∙ c.in_ok-segments.ensures.exact in
    live-contents_numbered c.args.strips.now c.deref.result.now c.start_of-start.result LOG_STRIPS c.args.first c.in_ok-segments.segments.items read

pub returns-clause-content : goal.returns-clause-content
returns-clause-content c = record {
  numbered = numbered-from c.args.first c.in_ok-segments.segments.items (returns-clause-numbered c);
  placed = contents-placed c.args.strips.now c.start_of-start.result c.deref-3.result.now c.in_ok-segments.segments.items c.in_ok-segments.ensures.exact;
  end = c.in_ok-segments.ensures.end;
  most = c.in_ok-segments.ensures.most;
}
