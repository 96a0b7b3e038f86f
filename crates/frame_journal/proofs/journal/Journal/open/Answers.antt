use Rattle.std.proofs.Common.{arith, ap, sym, ◌∙◌, length}
use Rattle.frame_journal.specs.Frames.{end_of}
use Rattle.frame_journal.specs.Journals.{standing_to}
use Rattle.frame_journal.proofs.OpeningLemmas.{holds-found, left-found, stages-found, standing-found, survivors-found, shut-found}
use Rattle.frame_journal.proofs.StandingLemmas.{stands-sound}
use Rattle.frame_journal.proofs.journal.Journal.open.Goals as goal

pub invariant_of-journal : goal.invariant_of-journal
invariant_of-journal g c =
    let numbers = c.in-Ok.ensures.numbers in
    record {
      below = omega (arith, numbers.below, ap length c.new-staged.ensures.items);
      begins = numbers.begins;
      stages = stages-found _ _ numbers.idle c.new-staged.ensures.items;
      holds = λ told.
          let told_first = sym c.found_on.ensures.strip.tells ∙ told in
          let found = c.in-Ok.ensures.found told_first in
          rw (c.found_on.ensures.content told_first, c.new-staged.ensures.items)
          (holds-found c.in-Ok.found.phase (g.S.Strip.content c.args.strip) c.in-Ok.found.end found.phase (numbers.end ∙ ap end_of found.frames));
      leaves = λ told image left.
          let told_first = sym c.found_on.ensures.strip.tells ∙ told in
          let found = c.in-Ok.ensures.found told_first in
          rw (c.found_on.ensures.content told_first)
          (left-found c.in-Ok.found.phase (g.S.Strip.content c.args.strip) c.in-Ok.found.end image found.phase (c.in-Ok.ensures.synced told_first image left));
    }

pub returns-in-Ok-clause-standing : goal.returns-in-Ok-clause-standing
returns-in-Ok-clause-standing g c = λ told_after.
    let told = sym c.found_on.ensures.strip.tells ∙ told_after in
    let found = c.in-Ok.ensures.found told in
    ap (standing_to c.in-Ok.found.end) (c.found_on.ensures.content told)
    ∙ standing-found c.in-Ok.found.phase (g.S.Strip.content c.args.strip) c.in-Ok.found.end found.phase (c.in-Ok.ensures.numbers.end ∙ ap end_of found.frames)
    ∙ sym found.frames

pub returns-in-Ok-clause-survivors : goal.returns-in-Ok-clause-survivors
returns-in-Ok-clause-survivors g c = λ told_after.
    let told = sym c.found_on.ensures.strip.tells ∙ told_after in
    let found = c.in-Ok.ensures.found told in
    rw (c.found_on.ensures.content told)
    (survivors-found c.in-Ok.found.phase (g.S.Strip.content c.args.strip) c.in-Ok.found.end found.phase (c.in-Ok.ensures.numbers.end ∙ ap end_of found.frames) ∙ sym found.frames)

pub returns-in-Ok-clause-shut : goal.returns-in-Ok-clause-shut
returns-in-Ok-clause-shut g c = λ told.
    let found = c.in-Ok.ensures.found told in
    shut-found c.in-Ok.found.phase (g.S.Strip.content c.args.strip) c.in-Ok.found.end found.phase (c.in-Ok.ensures.numbers.end ∙ ap end_of found.frames)

pub returns-in-Ok-clause-leaves : goal.returns-in-Ok-clause-leaves
returns-in-Ok-clause-leaves g c = stands-sound g.S.Strip c.found_on.new.strip c.in-Ok.found.phase c.in-Ok.found.end c.new-staged.result.items (invariant_of-journal g c)
