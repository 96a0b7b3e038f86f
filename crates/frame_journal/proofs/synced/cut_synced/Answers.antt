use Rattle.std.proofs.Common.{◌∙◌}
use Rattle.disk_model.specs.Strips.{Cut}
use Rattle.disk_model.specs.FileLaws.{cut_same, cut_taken}
use Rattle.frame_journal.proofs.CrashLemmas.{spans-call, spans-both, step-call, step-calls}
use Rattle.frame_journal.proofs.synced.cut_synced.Goals as goal

pub returns-clause-torn : goal.returns-clause-torn
returns-clause-torn g c = λ told. rw (c.sync.ensures.content (c.cut.ensures.call.tells ∙ told), c.in_ok-cut.ensures.cut told) (cut_taken c.args.at (g.S.Strip.content c.args.strip.now))

pub returns-in_err-cut-clause-crash : goal.returns-in_err-cut-clause-crash
returns-in_err-cut-clause-crash g c =
    step-call g.S.Strip (Cut c.args.at) (cut_same c.args.at) c.args.strip.now c.cut.new.self (g.met.S.Strip.only_now c.args.strip.now) c.cut.ensures.call.time c.cut.ensures.images

pub returns-clause-crash : goal.returns-clause-crash
returns-clause-crash g c =
    step-calls g.S.Strip (Cut c.args.at) (cut_same c.args.at) c.args.strip.now c.cut.new.self c.sync.new.self (g.met.S.Strip.only_now c.args.strip.now) c.cut.ensures.call.time c.sync.ensures.call.time c.cut.ensures.images c.sync.ensures.images

pub returns-in_err-cut-clause-time : goal.returns-in_err-cut-clause-time
returns-in_err-cut-clause-time g c = spans-call g.S.Strip c.args.strip.now c.cut.new.self (g.met.S.Strip.counts_now c.cut.new.self) c.cut.ensures.call.time

pub returns-clause-time : goal.returns-clause-time
returns-clause-time g c =
    spans-both g.S.Strip c.args.strip.now c.cut.new.self c.sync.new.self (g.met.S.Strip.counts_earlier c.sync.new.self)
    (spans-call g.S.Strip c.args.strip.now c.cut.new.self (g.met.S.Strip.counts_now c.cut.new.self) c.cut.ensures.call.time)
    (spans-call g.S.Strip c.cut.new.self c.sync.new.self (g.met.S.Strip.counts_now c.sync.new.self) c.sync.ensures.call.time)
