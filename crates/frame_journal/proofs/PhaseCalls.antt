-- What the device calls of a phase leave, whatever they answer. To know: body-content, body-crash, body-doubted, body-gated,
-- gate-content, gate-crash, first_gate-content, first_gate-crash, cut-content, cut-crash.
use Rattle.std.proofs.Common.{◌≡◌, ℕ, ◌+◌, ◌<◌, true, false, List, [], length, sym, subst, ◌∙◌, arith}
use Rattle.disk_model.specs.declared.strip.Strip.{Ghosts}
use Rattle.disk_model.specs.Calls.{IfTold}
use Rattle.disk_model.specs.Crashes.{Follows}
use Rattle.disk_model.specs.Strips.{Holds, Torn, Cut}
use Rattle.disk_model.specs.FileLaws.{torn_same}
use Rattle.frame_journal.specs.Devices.{OfBytes, IsSynced, OfCrashes}
use Rattle.frame_journal.specs.Frames.{IsClosedAt, StandsFor}
use Rattle.frame_journal.specs.declared.phase.Phase.{Phase}
use Rattle.frame_journal.specs.declared.phase.Phase.TheVariants.{Fresh, Shut, Body, Gate}
use Rattle.frame_journal.specs.JournalState.{staged_in, opening_in}
use Rattle.frame_journal.specs.Journals.{unframed, standing_to, covered, EndsAt, IsWrittenAt, HoldsIn, LeftIn, IsSound, StandsForNoneOr, StandsWithOr}
use Rattle.frame_journal.proofs.JournalLemmas.{closed_stands_none}
use Rattle.frame_journal.proofs.FrameLemmas.{take_shorter}
use Rattle.frame_journal.proofs.PhaseLemmas.{before_end, body-written, closed_in, cut-torn, framed_in, gate-either, gate_stays}
use Rattle.frame_journal.proofs.CrashLemmas.{front-left, front-stands, first-stands, torn-twice}
use Rattle.frame_journal.proofs.StandingLemmas.{left-own}

-- What holds after a step from each image that agrees with the bytes as the phase says holds of the bytes after the call
-- and at each moment within it.
module _ {S : Type 0} (strip : Ghosts S) (old new : S) (phase : Phase) (end : ℕ) (staged : List ℕ) (sound : IsSound (strip.tells old) (strip.content old) (strip.may_leave old) phase end staged) (step : List ℕ → List ℕ → Type 0) (P : List ℕ → Type 0) (after : (from image : List ℕ) → HoldsIn phase (strip.content old) end staged → LeftIn phase (strip.content old) end from → step from image → P image) where
  phase-content : strip.tells new ≡ strip.tells old → IfTold (strip.tells old) (step (strip.content old) (strip.content new)) → OfBytes strip new P
  phase-content same stepped told_after =
      let told = sym same ∙ told_after in
      after (strip.content old) (strip.content new) (sound.holds told) (left-own phase (strip.content old) end staged (sound.holds told)) (stepped told)

  phase-crash : Follows step (strip.may_leave old) (strip.left_since new (strip.moment old)) → OfCrashes strip old new P
  phase-crash follows told image since = let from = follows image since in after from.0 image (sound.holds told) (sound.leaves told from.0 from.1) from.2

module _ {S : Type 0} (strip : Ghosts S) (old new : S) (phase : Phase) (end : ℕ) (staged : List ℕ) where
  -- the body is being written: the frames from before stand
  module _ (n : ℕ) (some : staged_in phase ≡ true) (unwritten : opening_in phase ≡ false) (sound : IsSound (strip.tells old) (strip.content old) (strip.may_leave old) phase end staged) where
    body-after : (from image : List ℕ) → HoldsIn phase (strip.content old) end staged → LeftIn phase (strip.content old) end from → Torn (end + 1) n from image → StandsFor (standing_to end (strip.content old)) image
    body-after from image holds left torn =
        let ends = closed_in phase (strip.content old) end staged some unwritten holds in
        front-stands end (strip.content old) image ends.0 ends.1 (torn.before ∙ front-left phase (strip.content old) end from some unwritten left)

    pub body-content : strip.tells new ≡ strip.tells old → IfTold (strip.tells old) (Torn (end + 1) n (strip.content old) (strip.content new)) → OfBytes strip new (StandsFor (standing_to end (strip.content old)))
    body-content = phase-content strip old new phase end staged sound (Torn (end + 1) n) (StandsFor (standing_to end (strip.content old))) body-after

    body-front : strip.tells new ≡ strip.tells old → IfTold (strip.tells old) (Torn (end + 1) n (strip.content old) (strip.content new)) → strip.tells new ≡ true
        → EndsAt (strip.content new) end × IsClosedAt (strip.content new) end × (standing_to end (strip.content new) ≡ standing_to end (strip.content old))
    body-front same stepped told_after =
        let told = sym same ∙ told_after in
        let torn = stepped told in
        let ends = closed_in phase (strip.content old) end staged some unwritten (sound.holds told) in
        let inside : end < length (strip.content new) = omega (arith, torn.no_shorter, ends.0.inside) in
        let before = before_end (strip.content old) (strip.content new) end (take_shorter end (end + 1) (strip.content new) (strip.content old) (omega arith) torn.before) inside ends.0 in
        (before.0, gate_stays (strip.content old) (strip.content new) end torn.before inside ends.1, before.1)

    -- the frames from before are those that stand
    pub body-before : strip.tells new ≡ strip.tells old → IfTold (strip.tells old) (Torn (end + 1) n (strip.content old) (strip.content new)) → IfTold (strip.tells new) (standing_to end (strip.content new) ≡ standing_to end (strip.content old))
    body-before same stepped told = (body-front same stepped told).2

    -- after a failure the frame is in doubt
    pub body-doubted : strip.tells new ≡ strip.tells old → IfTold (strip.tells old) (Torn (end + 1) n (strip.content old) (strip.content new)) → Follows (Torn (end + 1) n) (strip.may_leave old) (strip.may_leave new)
        → IsSound (strip.tells new) (strip.content new) (strip.may_leave new) Body end staged
    body-doubted same stepped follows = record {
      below = sound.below;
      begins = λ not_ready. absurd cc;
      stages = framed_in phase staged some sound.stages;
      holds = λ told. let front = body-front same stepped told in (front.0, front.1);
      leaves = λ told_after image left.
          let told = sym same ∙ told_after in
          let from = follows image left in
          from.2.before ∙ front-left phase (strip.content old) end from.0 some unwritten (sound.leaves told from.0 from.1) ∙ sym (stepped told).before;
    }

    -- after a success its gate is to be opened
    pub body-gated : (piece : List ℕ) → piece ≡ staged → strip.tells new ≡ strip.tells old → IfTold (strip.tells old) (Holds (strip.content old) (end + 1) piece (strip.content new)) → IsSynced strip new
        → IfTold (strip.tells old) (Torn (end + 1) n (strip.content old) (strip.content new)) → IsSound (strip.tells new) (strip.content new) (strip.may_leave new) Gate end staged
    body-gated piece is same holds synced stepped = record {
      below = sound.below;
      begins = λ not_ready. absurd cc;
      stages = framed_in phase staged some sound.stages;
      holds = λ told_after.
          let told = sym same ∙ told_after in
          let front = body-front same stepped told_after in
          let ends = closed_in phase (strip.content old) end staged some unwritten (sound.holds told) in
          let written = body-written (strip.content old) piece (strip.content new) end ends.0.inside (holds told) in
          (front.0, subst (IsWrittenAt (strip.content new) end) is written.1);
      leaves = λ told image left. subst (Torn end 1 (strip.content new)) (sym (synced told image left)) (torn_same end 1 (strip.content new));
    }

    pub body-crash : Follows (Torn (end + 1) n) (strip.may_leave old) (strip.left_since new (strip.moment old)) → OfCrashes strip old new (StandsFor (standing_to end (strip.content old)))
    body-crash = phase-crash strip old new phase end staged sound (Torn (end + 1) n) (StandsFor (standing_to end (strip.content old))) body-after

  -- the gate of a written frame is being opened: the frames from before stand, with the new one or without
  module _ (is : phase ≡ Gate) (sound : IsSound (strip.tells old) (strip.content old) (strip.may_leave old) phase end staged) where
    gate-is : IsSound (strip.tells old) (strip.content old) (strip.may_leave old) Gate end staged
    gate-is = subst (λ (p : Phase). IsSound (strip.tells old) (strip.content old) (strip.may_leave old) p end staged) is sound

    gate-after : (from image : List ℕ) → HoldsIn Gate (strip.content old) end staged → LeftIn Gate (strip.content old) end from → Torn end 1 from image
        → StandsWithOr (standing_to end (strip.content old)) (record { at = end; payload = unframed staged }) image
    gate-after from image holds left torn = gate-either (strip.content old) staged image end holds.0 holds.1 gate-is.stages (torn-twice end 1 (strip.content old) from image left torn)

    pub gate-content : strip.tells new ≡ strip.tells old → IfTold (strip.tells old) (Torn end 1 (strip.content old) (strip.content new))
        → OfBytes strip new (StandsWithOr (standing_to end (strip.content old)) (record { at = end; payload = unframed staged }))
    gate-content = phase-content strip old new Gate end staged gate-is (Torn end 1) (StandsWithOr (standing_to end (strip.content old)) (record { at = end; payload = unframed staged })) gate-after

    pub gate-crash : Follows (Torn end 1) (strip.may_leave old) (strip.left_since new (strip.moment old))
        → OfCrashes strip old new (StandsWithOr (standing_to end (strip.content old)) (record { at = end; payload = unframed staged }))
    gate-crash = phase-crash strip old new Gate end staged gate-is (Torn end 1) (StandsWithOr (standing_to end (strip.content old)) (record { at = end; payload = unframed staged })) gate-after

  -- the gate at place 0 is being closed: no frame stands, or those that are covered
  module _ (is : phase ≡ Fresh) (sound : IsSound (strip.tells old) (strip.content old) (strip.may_leave old) phase end staged) where
    fresh-is : IsSound (strip.tells old) (strip.content old) (strip.may_leave old) Fresh end staged
    fresh-is = subst (λ (p : Phase). IsSound (strip.tells old) (strip.content old) (strip.may_leave old) p end staged) is sound

    first_gate-after : (from image : List ℕ) → HoldsIn Fresh (strip.content old) end staged → LeftIn Fresh (strip.content old) end from → Torn 0 1 from image → StandsForNoneOr (covered (strip.content old)) image
    first_gate-after from image holds left torn = first-stands (strip.content old) image holds (torn.after ∙ left)

    pub first_gate-content : strip.tells new ≡ strip.tells old → IfTold (strip.tells old) (Torn 0 1 (strip.content old) (strip.content new)) → OfBytes strip new (StandsForNoneOr (covered (strip.content old)))
    first_gate-content = phase-content strip old new Fresh end staged fresh-is (Torn 0 1) (StandsForNoneOr (covered (strip.content old))) first_gate-after

    pub first_gate-crash : Follows (Torn 0 1) (strip.may_leave old) (strip.left_since new (strip.moment old)) → OfCrashes strip old new (StandsForNoneOr (covered (strip.content old)))
    first_gate-crash = phase-crash strip old new Fresh end staged fresh-is (Torn 0 1) (StandsForNoneOr (covered (strip.content old))) first_gate-after

  -- what is after the closed gate is being cut off: no frame stands
  module _ (is : phase ≡ Shut) (sound : IsSound (strip.tells old) (strip.content old) (strip.may_leave old) phase end staged) where
    shut-is : IsSound (strip.tells old) (strip.content old) (strip.may_leave old) Shut end staged
    shut-is = subst (λ (p : Phase). IsSound (strip.tells old) (strip.content old) (strip.may_leave old) p end staged) is sound

    cut-after : (from image : List ℕ) → HoldsIn Shut (strip.content old) end staged → LeftIn Shut (strip.content old) end from → Cut 1 from image → StandsFor [] image
    cut-after from image holds left cut = closed_stands_none image (cut-torn from image left cut)

    pub cut-content : strip.tells new ≡ strip.tells old → IfTold (strip.tells old) (Cut 1 (strip.content old) (strip.content new)) → OfBytes strip new (StandsFor [])
    cut-content = phase-content strip old new Shut end staged shut-is (Cut 1) (StandsFor []) cut-after

    pub cut-crash : Follows (Cut 1) (strip.may_leave old) (strip.left_since new (strip.moment old)) → OfCrashes strip old new (StandsFor [])
    cut-crash = phase-crash strip old new Shut end staged shut-is (Cut 1) (StandsFor []) cut-after
