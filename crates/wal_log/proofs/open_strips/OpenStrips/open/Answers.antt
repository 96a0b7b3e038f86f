use Rattle.std.proofs.Common.{◌≡◌, ◌∙◌, ◌++◌, List, ◌∷◌, length, map, ap, sym, subst, arith}
use Rattle.std.specs.Prelude.{reverse}
use Rattle.wal_log.specs.Answers.{LogErrorOf}
use Rattle.wal_log.specs.Openings.{AreOfSynced, OpenCause}
use Rattle.wal_log.specs.Strips.{IsOnlyRead, AreOnlyRead, IsRead, HasRead, strip_in}
use Rattle.wal_log.proofs.StripLemmas.{reverse-pop, read-next, back-none, counts-none, back-at, cause-at, torn-at, synced-at, small-strip}
use Rattle.wal_log.proofs.open_strips.OpenStrips.open.Goals as goal

pub returns-in_default-clause-back : goal.returns-in_default-clause-back
returns-in_default-clause-back g c = back-none g.S.Strip g.met.S.Strip.only_now c.args.strips.items c.room_for.new.strips.items c.room_for.ensures.same

pub returns-in_default-clause-cause : goal.returns-in_default-clause-cause
returns-in_default-clause-cause g c = counts-none g.S.Strip c.args.strips.items c.room_for.new.strips.items c.room_for.ensures.same

pub strips-preserved : goal.strips-preserved
strips-preserved g c =
    let e = c.in-Ok-open.ensures in
    let has = subst (λ (l : List g.row.S.Denot). HasRead g.S.Strip c.args.strips.items l c.strips.journals.items c.strips.frames.items) (reverse-pop c.strips.strips.items c.pop.new.self.items c.in-Some.strip c.in-Some.ensures.items) c.strips.invariant.read in
    let one : IsRead g.S.Strip c.in-Some.strip c.in-Ok-open.journal c.in-Ok-open.found.items = record {
      opened = record { only = record { same = e.strip; content = e.content; images = e.images; crash = e.crash; time = e.time }; count = e.kept; synced = e.synced; idle = e.idle.0 };
      whole = e.whole;
      stands = λ told. (e.frames told).whole;
    } in
    record {
      read = rw (c.push_reserved.ensures.items, c.push_reserved-in-Ok-open.ensures.items) (read-next g.S.Strip c.args.strips.items c.in-Some.strip (reverse c.pop.new.self.items) c.strips.journals.items c.in-Ok-open.journal c.strips.frames.items c.in-Ok-open.found.items has one);
      eight = omega (arith, c.strips.invariant.eight, c.in-Some.ensures.len, c.push_reserved.ensures.len);
      room = omega (arith, c.strips.invariant.room, c.pop.ensures.capacity);
      journals_room = omega (arith, c.strips.invariant.journals_room, c.push_reserved.ensures.capacity);
      frames_room = omega (arith, c.strips.invariant.frames_room, c.in-Some.ensures.len, c.push_reserved-in-Ok-open.ensures.len, c.push_reserved-in-Ok-open.ensures.capacity);
    }

pub returns-in-Err-clause-torn : goal.returns-in-Err-clause-torn
returns-in-Err-clause-torn g c =
    let e = c.in-Err.ensures in
    let has = subst (λ (l : List g.row.S.Denot). HasRead g.S.Strip c.args.strips.items l c.strips.journals.items c.strips.frames.items) (reverse-pop c.strips.strips.items c.pop.new.self.items c.in-Some.strip c.in-Some.ensures.items) c.strips.invariant.read in
    let number : c.len.result ≡ length c.strips.journals.items = omega (arith, c.len.ensures, c.strips.journals.ok.0) in
    let small = small-strip (length c.strips.journals.items) (omega (arith, c.strips.invariant.eight, c.in-Some.ensures.len, c.strips.journals.ok.0)) in
    let told = subst (λ n. LogErrorOf n c.in-Err.error c.told_of-error.result) number c.told_of-error.ensures in
    torn-at g.S.Strip c.args.strips.items c.strips.journals.items c.strips.frames.items c.in-Some.strip (reverse c.pop.new.self.items) c.in-Err.error c.told_of-error.result has small e.torn told

pub returns-in-Err-clause-back : goal.returns-in-Err-clause-back
returns-in-Err-clause-back g c =
    let e = c.in-Err.ensures in
    let has = subst (λ (l : List g.row.S.Denot). HasRead g.S.Strip c.args.strips.items l c.strips.journals.items c.strips.frames.items) (reverse-pop c.strips.strips.items c.pop.new.self.items c.in-Some.strip c.in-Some.ensures.items) c.strips.invariant.read in
    let given : c.given_back.result.items ≡ map strip_in c.strips.journals.items ++ c.in-Err.strip ∷ reverse c.pop.new.self.items = c.given_back.ensures ∙ ap (λ (l : List g.row.S.Denot). map strip_in c.strips.journals.items ++ l) (reverse-pop c.push_reserved-in-Err.new.self.items c.pop.new.self.items c.in-Err.strip c.push_reserved-in-Err.ensures.items) in
    let one : IsOnlyRead g.S.Strip c.in-Some.strip c.in-Err.strip = record { same = e.strip; content = e.content; images = e.images; crash = e.crash; time = e.time } in
    subst (λ (l : List g.row.S.Denot). AreOnlyRead g.S.Strip c.args.strips.items l) (sym given) (back-at g.S.Strip g.met.S.Strip.only_now c.args.strips.items c.strips.journals.items c.strips.frames.items c.in-Some.strip c.in-Err.strip (reverse c.pop.new.self.items) has one)

pub returns-in-Err-clause-synced : goal.returns-in-Err-clause-synced
returns-in-Err-clause-synced g c =
    let e = c.in-Err.ensures in
    let has = subst (λ (l : List g.row.S.Denot). HasRead g.S.Strip c.args.strips.items l c.strips.journals.items c.strips.frames.items) (reverse-pop c.strips.strips.items c.pop.new.self.items c.in-Some.strip c.in-Some.ensures.items) c.strips.invariant.read in
    let given : c.given_back.result.items ≡ map strip_in c.strips.journals.items ++ c.in-Err.strip ∷ reverse c.pop.new.self.items = c.given_back.ensures ∙ ap (λ (l : List g.row.S.Denot). map strip_in c.strips.journals.items ++ l) (reverse-pop c.push_reserved-in-Err.new.self.items c.pop.new.self.items c.in-Err.strip c.push_reserved-in-Err.ensures.items) in
    let number : c.len.result ≡ length c.strips.journals.items = omega (arith, c.len.ensures, c.strips.journals.ok.0) in
    let small = small-strip (length c.strips.journals.items) (omega (arith, c.strips.invariant.eight, c.in-Some.ensures.len, c.strips.journals.ok.0)) in
    let told = subst (λ n. LogErrorOf n c.in-Err.error c.told_of-error.result) number c.told_of-error.ensures in
    subst (λ (l : List g.row.S.Denot). AreOfSynced g.S.Strip l c.told_of-error.result) (sym given) (synced-at g.S.Strip c.args.strips.items c.strips.journals.items c.strips.frames.items c.in-Some.strip c.in-Err.strip (reverse c.pop.new.self.items) c.in-Err.error c.told_of-error.result has small e.torn_synced told)

pub returns-in-Err-clause-cause : goal.returns-in-Err-clause-cause
returns-in-Err-clause-cause g c =
    let has = subst (λ (l : List g.row.S.Denot). HasRead g.S.Strip c.args.strips.items l c.strips.journals.items c.strips.frames.items) (reverse-pop c.strips.strips.items c.pop.new.self.items c.in-Some.strip c.in-Some.ensures.items) c.strips.invariant.read in
    let given : c.given_back.result.items ≡ map strip_in c.strips.journals.items ++ c.in-Err.strip ∷ reverse c.pop.new.self.items = c.given_back.ensures ∙ ap (λ (l : List g.row.S.Denot). map strip_in c.strips.journals.items ++ l) (reverse-pop c.push_reserved-in-Err.new.self.items c.pop.new.self.items c.in-Err.strip c.push_reserved-in-Err.ensures.items) in
    subst (λ (l : List g.row.S.Denot). OpenCause g.S.Strip c.args.strips.items l c.told_of-error.result) (sym given) (cause-at g.S.Strip c.args.strips.items c.strips.journals.items c.strips.frames.items c.in-Some.strip c.in-Err.strip (reverse c.pop.new.self.items) c.len.result c.in-Err.error c.told_of-error.result has c.in-Err.ensures.cause c.told_of-error.ensures)
