use Rattle.std.proofs.Common.{ℕ, List, length, ap, sym, subst, ◌∙◌, arith}
use Rattle.rdb_base.specs.declared.entry.Entry.{Entry}
use Rattle.frame_journal.specs.Devices.{OfBytes, OfImages}
use Rattle.wal_log.specs.Calls.{HasFront}
use Rattle.store_run.specs.Openings.{IsRefused}
use Rattle.store_run.proofs.OpenLemmas.{WasStarted, start_refused, is_opened}
use Rattle.store_run.proofs.store_pass.StorePass.open.Goals as goal

pub returns-in_default-start-clause-opened : goal.returns-in_default-start-clause-opened
returns-in_default-start-clause-opened g c =
    let entries = c.in-Ok.entries.items in
    let was : WasStarted g.S.Strip c.args.strip c.in-Ok.log c.start.new.self entries = record {
      read = c.in-Ok.ensures.read;
      all = c.in-Ok.ensures.entries;
      synced = c.in-Ok.ensures.synced;
      number = c.in-Ok.ensures.same.0;
      first = c.in-Ok.ensures.same.1;
      same = c.in-Ok.ensures.kept.0;
      no_more = c.in-Ok.ensures.crash;
      time = c.in-Ok.ensures.time;
      kept = c.in_default-start.ensures.same;
      calls = c.in_default-start.ensures.calls;
      content = c.tell_images.ensures.content;
      images = c.tell_images.ensures.images;
      earlier = g.met.S.Strip.counts_earlier c.start.new.self.journal.strip;
    } in
    is_opened g.S.Strip c.args.strip c.in-Ok.log c.start.new.self entries c.of.result.value c.new.result was (c.of.ensures ∙ c.in-Ok-map_after.ensures.told) c.new.ensures (c.in_default-start.ensures.cause.kept ∙ c.in-Ok.ensures.count)
    (omega (arith, c.end-begun.ensures.number, c.end-begun.ensures.most, c.in-Ok.ensures.same.1, ap (λ (es : List Entry). length es) c.in-Ok.ensures.entries))

pub returns-in-Err-start-clause-refused : goal.returns-in-Err-start-clause-refused
returns-in-Err-start-clause-refused g c =
    let entries = c.in-Ok.entries.items in
    let strip = c.into_strip-in-Err-start.ensures.strip in
    let was : WasStarted g.S.Strip c.args.strip c.in-Ok.log c.start.new.self entries = record {
      read = c.in-Ok.ensures.read;
      all = c.in-Ok.ensures.entries;
      synced = c.in-Ok.ensures.synced;
      number = c.in-Ok.ensures.same.0;
      first = c.in-Ok.ensures.same.1;
      same = c.in-Ok.ensures.kept.0;
      no_more = c.in-Ok.ensures.crash;
      time = c.in-Ok.ensures.time;
      kept = c.in-Err-start.ensures.same;
      calls = c.in-Err-start.ensures.calls;
      content = subst (λ s. OfBytes g.S.Strip s (HasFront c.start.new.self)) strip c.into_strip-in-Err-start.ensures.content;
      images = subst (λ s. OfImages g.S.Strip s (HasFront c.start.new.self)) strip c.into_strip-in-Err-start.ensures.images;
      earlier = g.met.S.Strip.counts_earlier c.start.new.self.journal.strip;
    } in
    subst (λ s. IsRefused g.S.Strip c.from.result c.args.strip s) (sym strip) (start_refused g.S.Strip c.args.strip c.in-Ok.log c.start.new.self entries c.in-Err-start.error c.from.result was c.from.ensures c.in-Err-start.ensures.cause.failed c.in-Ok.ensures.count)
