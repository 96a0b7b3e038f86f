use Rattle.std.proofs.Common.{◌∙◌, List, length, ap, sym, subst}
use Rattle.frame_journal.specs.FrameValue.{FrameValue}
use Rattle.frame_journal.specs.JournalState.{JournalState}
use Rattle.wal_log.specs.Answers.{FailsLog}
use Rattle.wal_log.specs.Segments.{log_of}
use Rattle.wal_log.specs.Strips.{AreOpened}
use Rattle.wal_log.proofs.StripLemmas.{read-length, read-refused, read-only, read-synced, read-counts, read-log, read-opened, fails-cause, fails-synced}
use Rattle.wal_log.proofs.log.Log.open.Goals as goal

pub log_of-requires : goal.log_of-requires
log_of-requires g c = record { eight = ap (λ (l : List (List FrameValue)). length l) c.deref.ensures.value ∙ read-length g.S.Strip c.args.strips.items c.in_ok-strips.strips c.in_ok-strips.frames.items c.in_ok-strips.ensures.read ∙ c.requires.eight }

pub returns-in-Err-clause-refused : goal.returns-in-Err-clause-refused
returns-in-Err-clause-refused g c = read-refused g.S.Strip c.args.first c.in-Err.error c.args.strips.items c.in_ok-strips.strips c.in_ok-strips.frames.items c.in_ok-strips.ensures.read
    (subst (λ (l : List (List FrameValue)). FailsLog c.in-Err.error (log_of c.args.first l)) c.deref.ensures.value c.in-Err.ensures.exact)

pub returns-in-Err-clause-back : goal.returns-in-Err-clause-back
returns-in-Err-clause-back g c = read-only g.S.Strip c.args.strips.items c.in_ok-strips.strips c.in_ok-strips.frames.items c.into_strips.result.items c.into_strips.ensures c.in_ok-strips.ensures.read

pub returns-in-Err-clause-synced : goal.returns-in-Err-clause-synced
returns-in-Err-clause-synced g c = fails-synced g.S.Strip c.in-Err.error c.into_strips.result.items (log_of c.args.first c.deref.result.now) c.in-Err.ensures.exact
    (λ many. read-synced g.S.Strip many c.args.strips.items c.in_ok-strips.strips c.in_ok-strips.frames.items c.into_strips.result.items c.into_strips.ensures c.in_ok-strips.ensures.read)

pub returns-in-Err-clause-cause : goal.returns-in-Err-clause-cause
returns-in-Err-clause-cause g c = fails-cause g.S.Strip c.in-Err.error c.args.strips.items c.into_strips.result.items (log_of c.args.first c.deref.result.now) c.in-Err.ensures.exact
    (read-counts g.S.Strip c.args.strips.items c.in_ok-strips.strips c.in_ok-strips.frames.items c.into_strips.result.items c.into_strips.ensures c.in_ok-strips.ensures.read)

pub returns-in-Ok-numbers_of-clause-read : goal.returns-in-Ok-numbers_of-clause-read
returns-in-Ok-numbers_of-clause-read g c = read-log g.S.Strip c.args.first c.in-Ok.content c.args.strips.items c.in_ok-strips.strips c.in_ok-strips.frames.items c.in_ok-strips.ensures.read
    (ap (log_of c.args.first) (sym c.deref.ensures.value) ∙ c.in-Ok.ensures.exact)

pub returns-in-Ok-numbers_of-clause-opened : goal.returns-in-Ok-numbers_of-clause-opened
returns-in-Ok-numbers_of-clause-opened g c = subst (λ (l : List (JournalState g.row.S.Denot)). AreOpened g.S.Strip c.args.strips.items l) (sym c.of-raw.ensures.journals)
    (read-opened g.S.Strip c.args.strips.items c.in_ok-strips.strips c.in_ok-strips.frames.items c.in_ok-strips.ensures.read)

pub returns-clause-back : goal.returns-clause-back
returns-clause-back g c = read-only g.S.Strip c.args.strips.items c.in_ok-strips.strips c.in_ok-strips.frames.items c.into_strips-in-Err-numbers_of.result.items c.into_strips-in-Err-numbers_of.ensures c.in_ok-strips.ensures.read

pub returns-clause-cause : goal.returns-clause-cause
returns-clause-cause g c = read-counts g.S.Strip c.args.strips.items c.in_ok-strips.strips c.in_ok-strips.frames.items c.into_strips-in-Err-numbers_of.result.items c.into_strips-in-Err-numbers_of.ensures c.in_ok-strips.ensures.read
