use Rattle.std.proofs.Common.{length, ◌∙◌}
use Rattle.disk_model.specs.Strips.{Torn}
use Rattle.disk_model.specs.FileLaws.{torn_same}
use Rattle.frame_journal.proofs.CrashLemmas.{spans-call, spans-both, step-call, step-calls, torn-holds}
use Rattle.frame_journal.proofs.synced.write_synced.Goals as goal

pub returns-clause-torn : goal.returns-clause-torn
returns-clause-torn g c = λ told. rw (c.sync.ensures.content (c.write_at.ensures.call.tells ∙ told)) (torn-holds c.args.at c.args.bytes.now _ _ (c.requires told) (c.in_ok-write_at.ensures.written told))

pub returns-in_err-write_at-clause-crash : goal.returns-in_err-write_at-clause-crash
returns-in_err-write_at-clause-crash g c =
    step-call g.S.Strip (Torn c.args.at (length c.args.bytes.now)) (torn_same c.args.at (length c.args.bytes.now)) c.args.strip.now c.write_at.new.self (g.met.S.Strip.only_now c.args.strip.now) c.write_at.ensures.call.time c.write_at.ensures.images

pub returns-clause-crash : goal.returns-clause-crash
returns-clause-crash g c =
    step-calls g.S.Strip (Torn c.args.at (length c.args.bytes.now)) (torn_same c.args.at (length c.args.bytes.now)) c.args.strip.now c.write_at.new.self c.sync.new.self (g.met.S.Strip.only_now c.args.strip.now) c.write_at.ensures.call.time c.sync.ensures.call.time c.write_at.ensures.images c.sync.ensures.images

pub returns-in_err-write_at-clause-time : goal.returns-in_err-write_at-clause-time
returns-in_err-write_at-clause-time g c = spans-call g.S.Strip c.args.strip.now c.write_at.new.self (g.met.S.Strip.counts_now c.write_at.new.self) c.write_at.ensures.call.time

pub returns-clause-time : goal.returns-clause-time
returns-clause-time g c =
    spans-both g.S.Strip c.args.strip.now c.write_at.new.self c.sync.new.self (g.met.S.Strip.counts_earlier c.sync.new.self)
    (spans-call g.S.Strip c.args.strip.now c.write_at.new.self (g.met.S.Strip.counts_now c.write_at.new.self) c.write_at.ensures.call.time)
    (spans-call g.S.Strip c.write_at.new.self c.sync.new.self (g.met.S.Strip.counts_now c.sync.new.self) c.sync.ensures.call.time)
