use Rattle.std.proofs.Common.{◌∙◌, ap, sym, arith}
use Rattle.wal_log.specs.Logs.{alone}
use Rattle.wal_log.proofs.KeptLemmas.{kept-opened, counted-opened}
use Rattle.wal_log.proofs.segment.Segment.open.Goals as goal

pub invariant_of-segment : goal.invariant_of-segment
invariant_of-segment g c =
    let told = c.told_entries-all.ensures ∙ c.deref-in-Ok-entries_alone.ensures.value in
    let seen = c.of.ensures ∙ told in
    let found = c.in-Ok-entries_alone.entries.items in
    let read = ap (alone c.args.number c.args.first) (sym c.deref.ensures.value) ∙ c.in-Ok-entries_alone.ensures.exact in
    let kept = kept-opened g.S.Strip c.args.number c.args.first c.args.strip c.in-Ok.journal c.in-Ok.frames.items found c.ready-headed.result c.in-Ok.ensures.strip.tells c.in-Ok.ensures.frames c.in-Ok.ensures.standing c.in-Ok.ensures.survivors c.in-Ok.ensures.ready c.in-Ok.ensures.idle.0
    c.in-Ok.ensures.content c.in-Ok.ensures.synced read (c.ready-headed.ensures ∙ c.in-Ok.ensures.ready) in
    rw (seen, told) (kept, counted-opened c.args.number c.args.first found c.new.result c.ready-headed.result c.requires.least c.requires.most (omega (arith, c.new.ensures.first, c.len-len.ensures)) c.new.ensures.entries c.new.ensures.here (λ h. (kept.none h).0))
