use Rattle.std.proofs.Common.{◌≡◌, ◌∙◌, ℕ, Ok, List, length, ap, arith}
use Rattle.std.proofs.lemmas.List.{length-append}
use Rattle.frame_journal.specs.FrameValue.{FrameValue}
use Rattle.wal_log.specs.Logs.{joined, entries_in}
use Rattle.wal_log.proofs.LogLemmas.{joined-next, joined-gap, joined-stop, joined-end}
use Rattle.wal_log.proofs.reading.entries_after.Goals as goal

pub returns-then-first-end-clause-exact : goal.returns-then-first-end-clause-exact
returns-then-first-end-clause-exact c =
    let at_front = ap (λ (l : List FrameValue). joined c.loop-frame.entries.items (entries_in c.args.strip c.loop-frame.end l)) c.in-Some.ensures.some in
    c.loop-frame.invariant.so_far ∙ at_front ∙ joined-gap c.args.strip c.loop-frame.end c.in-Ok.first c.loop-frame.entries.items _ _ _ c.in-Ok.ensures.exact c.if-first-end.true

pub returns-in-Err-clause-exact : goal.returns-in-Err-clause-exact
returns-in-Err-clause-exact c =
    let at_front = ap (λ (l : List FrameValue). joined c.loop-frame.entries.items (entries_in c.args.strip c.loop-frame.end l)) c.in-Some.ensures.some in
    joined-stop c.in-Err.error c.args.strip c.loop-frame.end c.loop-frame.entries.items _ _ _ c.in-Err.ensures.exact (c.loop-frame.invariant.so_far ∙ at_front)

pub returns-clause-exact : goal.returns-clause-exact
returns-clause-exact c = c.loop-frame.invariant.so_far ∙ ap (λ (l : List FrameValue). joined c.loop-frame.entries.items (entries_in c.args.strip c.loop-frame.end l)) (c.split.ensures.none c.in_default.is) ∙ joined-end c.args.strip c.loop-frame.end c.loop-frame.entries.items

pub loop-frame-preserved : goal.loop-frame-preserved
loop-frame-preserved c =
    let at_front = ap (λ (l : List FrameValue). joined c.loop-frame.entries.items (entries_in c.args.strip c.loop-frame.end l)) c.in-Some.ensures.some in
    let more : c.len.result ≡ length c.in-Ok.found.items = omega (arith, c.len.ensures) in
    let found = c.in-Ok.ensures.exact ∙ ap (λ (k : ℕ). Ok (record { first = k; entries = c.in-Ok.found.items })) c.if-first-end.false in
    record {
      so_far = rw (c.in-Ok-append.ensures.items, more) (c.loop-frame.invariant.so_far ∙ at_front ∙ joined-next c.args.strip c.loop-frame.end c.loop-frame.entries.items c.in-Ok.found.items _ _ found);
      ends = omega (arith, more, c.loop-frame.invariant.ends, ap (λ l. length l) c.in-Ok-append.ensures.items, length-append c.loop-frame.entries.items c.in-Ok.found.items);
      most = omega (arith, more, c.in-Ok.ensures.within, c.if-first-end.false);
    }
