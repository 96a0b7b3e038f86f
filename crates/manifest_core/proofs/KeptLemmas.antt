-- What a manifest keeps, through the calls of its journals: `kept-settled`, `kept-doubted`, `kept-staged`, `kept-turned`,
-- `kept-uncleared`, `kept-opened`; and what crashes leave within them: `pair-now`, `pair-settle`, `pair-clear`.
use Rattle.std.proofs.Common.{◌≡◌, inl, inr, ◌⊎◌, ℕ, ◌+◌, ◌<◌, ◌≤◌, Bool, true, false, List, [], ◌∷◌, ◌++◌, length, Option, Some, None, Result, Ok, Err, refl, sym, ap, subst, ◌∙◌, arith}
use Rattle.std.specs.Prelude.{nat_lt, if◌then◌else◌}
use Rattle.disk_model.specs.declared.strip.Strip.{Ghosts}
use Rattle.disk_model.specs.Calls.{IfTold}
use Rattle.frame_journal.specs.FrameValue.{FrameValue}
use Rattle.frame_journal.specs.Frames.{StandsFor, frame_size}
use Rattle.frame_journal.specs.Devices.{OfBytes, OfImages, OfCrashes}
use Rattle.frame_journal.specs.declared.phase.Phase.{Phase}
use Rattle.frame_journal.specs.declared.phase.Phase.TheVariants.{Fresh, Shut, Ready, Staged, Body, Gate}
use Rattle.frame_journal.specs.JournalState.{JournalState, ready_in, staged_in, closing_in, is_ready, has_staged, closes_gate, staged_frame}
use Rattle.frame_journal.specs.Journals.{standing, standing_to, covered, with_staged, HasStanding, survivors, HasSurvivors, StandsForNoneOr, StandsWithOr, StandsWithOrWithout, StandsBy, StandsIn, Leaves}
use Rattle.edition_code.specs.Values.{EditionValue}
use Rattle.edition_code.specs.Editions.{initial_edition}
use Rattle.edition_code.specs.Reading.{edition_of}
use Rattle.manifest_core.specs.Manifests.{on_strip}
use Rattle.manifest_core.specs.Pairs.{IfBoth}
use Rattle.manifest_core.specs.Kept.{kept_frames, Leads, Reads, IsKept}
use Rattle.manifest_core.proofs.ReadLemmas.{on_strip-none, on_strip-more, Shows, shows_of, Newest, EitherWay, both_ways, OneWay}

pub not_both : (b : Bool) → b ≡ true → b ≡ false → ⊥
not_both true e f = absurd cc
not_both false e f = absurd cc

-- ---- which edition two readings give

leads-newest : (stands : EditionValue) (here there : Option EditionValue) → Leads stands here there → Newest stands here there
leads-newest stands None None leads = leads
leads-newest stands None (Some there) leads = leads
leads-newest stands (Some here) None leads = leads
leads-newest stands (Some here) (Some there) leads = inl leads

-- the other strip may be empty where the current one has an edition, or neither has any
leads-alone : (stands : EditionValue) (here there : Option EditionValue) → Leads stands here there → (here ≡ None → there ≡ None) → Leads stands here None
leads-alone stands None None leads none = leads
leads-alone stands None (Some there) leads none = absurd (some_not there (none refl))
  where
    some_not : (edition : EditionValue) → Some edition ≡ None → ⊥
    some_not edition e = absurd cc
leads-alone stands (Some here) None leads none = leads
leads-alone stands (Some here) (Some there) leads none = leads.0

-- the same strip, as the other one beside an empty one
leads-turned : (stands : EditionValue) (here there : Option EditionValue) → Leads stands here there → (here ≡ None → there ≡ None) → Leads stands None here
leads-turned stands None there leads none = leads-alone stands None there leads none
leads-turned stands (Some here) there leads none = leads-alone stands (Some here) there leads none

-- a new edition leads
leads-new : (stands newest : EditionValue) (here there : Option EditionValue) → Leads stands here there → stands.number < newest.number → Leads newest (Some newest) there
leads-new stands newest here None leads above = refl
leads-new stands newest None (Some there) leads above = (refl, subst (λ (e : EditionValue). e.number < newest.number) leads above)
leads-new stands newest (Some here) (Some there) leads above = (refl, omega (arith, leads.1, above, ap (λ (e : EditionValue). e.number) leads.0))

some_none : (edition : EditionValue) → Some edition ≡ None → ⊥
some_none edition e = absurd cc

-- ---- what images show

ready_of : (phase : Phase) → staged_in phase ≡ true → ready_in phase ≡ true
ready_of Fresh e = absurd cc
ready_of Shut e = absurd cc
ready_of Ready e = absurd cc
ready_of Staged e = refl
ready_of Body e = refl
ready_of Gate e = refl

module _ {S : Type 0} (strip : Ghosts S) where
  pub staged_ready : (journal : JournalState S) → has_staged journal ≡ true → is_ready journal ≡ true
  staged_ready journal e = ready_of journal.phase e

  pub kept_ready : (journal : JournalState S) → is_ready journal ≡ true → kept_frames strip journal ≡ standing strip journal
  kept_ready journal e = rw e refl

  pub kept_waiting : (journal : JournalState S) → is_ready journal ≡ false → kept_frames strip journal ≡ survivors strip journal
  kept_waiting journal e = rw e refl

idle_by : (phase : Phase) (bytes : List ℕ) (end : ℕ) (payload image : List ℕ) (edition : Option EditionValue) → staged_in phase ≡ false → on_strip (if ready_in phase then standing_to end bytes else (if closing_in phase end then covered bytes else [])) ≡ Ok edition → StandsBy phase bytes end payload image → Shows edition image ⊎ ((ready_in phase ≡ false) × Shows None image)
idle_by Fresh bytes end payload image edition idle read (inl stands) = inr (refl, shows_of [] None image on_strip-none stands)
idle_by Fresh bytes end payload image edition idle read (inr stands) = inl (shows_of (covered bytes) edition image read stands)
idle_by Shut bytes end payload image edition idle read (inl stands) = inr (refl, shows_of [] None image on_strip-none stands)
idle_by Shut bytes end payload image edition idle read (inr stands) = inl (shows_of [] edition image read stands)
idle_by Ready bytes end payload image edition idle read stands = inl (shows_of (standing_to end bytes) edition image read stands)
idle_by Staged bytes end payload image edition idle read stands = absurd cc
idle_by Body bytes end payload image edition idle read stands = absurd cc
idle_by Gate bytes end payload image edition idle read stands = absurd cc

staged_by : (phase : Phase) (bytes : List ℕ) (end : ℕ) (payload image : List ℕ) → staged_in phase ≡ true → StandsBy phase bytes end payload image → StandsWithOr (standing_to end bytes) (record { at = end; payload = payload }) image
staged_by Fresh bytes end payload image staged stands = absurd cc
staged_by Shut bytes end payload image staged stands = absurd cc
staged_by Ready bytes end payload image staged stands = absurd cc
staged_by Staged bytes end payload image staged stands = inl stands
staged_by Body bytes end payload image staged stands = inl stands
staged_by Gate bytes end payload image staged stands = stands

module _ {S : Type 0} (strip : Ghosts S) (current other : JournalState S) (stands newest : EditionValue) (reads : Reads strip current other stands) where
  -- what may be read of the other strip
  abbrev There : List ℕ → Type 0
  There y = Shows reads.there y ⊎ ((reads.here ≡ None → reads.there ≡ None) × Shows None y)

  other_shows : (y : List ℕ) → has_staged other ≡ false → StandsIn strip other y → There y
  other_shows y idle stood = elim (idle_by other.phase (strip.content other.strip) other.end other.payload y reads.there idle reads.other_has stood) [
    | inl shows ↦ inl shows
    | inr none ↦ inr (reads.guards none.0, none.1)
  ]

  cleared_shows : (y : List ℕ) → survivors strip other ≡ kept_frames strip other → (reads.here ≡ None → reads.there ≡ None) → StandsForNoneOr (survivors strip other) y → There y
  cleared_shows y same none (inl stood) = inr (none, shows_of [] None y on_strip-none stood)
  cleared_shows y same none (inr stood) = inl (shows_of (survivors strip other) reads.there y (ap on_strip same ∙ reads.other_has) stood)

  -- what may be read of the current strip with nothing staged
  idle_shows : (x : List ℕ) → has_staged current ≡ false → StandsIn strip current x → Shows reads.here x
  idle_shows x idle stood = elim (idle_by current.phase (strip.content current.strip) current.end current.payload x reads.here idle reads.current_has stood) [
    | inl shows ↦ shows
    | inr none ↦ subst (λ (o : Option EditionValue). Shows o x) (sym (reads.waits none.0).0) none.1
  ]

  -- with a frame staged
  abbrev Here : List ℕ → Type 0
  Here x = Shows reads.here x ⊎ Shows (Some newest) x

  written_shows : (x : List ℕ) → is_ready current ≡ true → edition_of current.payload ≡ Ok newest → StandsWithOrWithout strip current x → Here x
  written_shows x ready read (inl stood) = inl (shows_of (standing strip current) reads.here x (ap on_strip (sym (kept_ready strip current ready)) ∙ reads.current_has) stood)
  written_shows x ready read (inr stood) = inr (shows_of (with_staged strip current) (Some newest) x (on_strip-more (standing strip current) (staged_frame current) newest read) stood)

  pair_idle : (x y : List ℕ) → Shows reads.here x → There y → EitherWay stands x y
  pair_idle x y here (inl there) = both_ways stands reads.here reads.there x y (leads-newest stands reads.here reads.there reads.leads) here there
  pair_idle x y here (inr none) = both_ways stands reads.here None x y (leads-newest stands reads.here None (leads-alone stands reads.here reads.there reads.leads none.0)) here none.1

  pair_staged : (x y : List ℕ) → stands.number < newest.number → Here x → There y → OneWay stands newest x y
  pair_staged x y above (inl here) there = inl (pair_idle x y here there)
  pair_staged x y above (inr new) (inl there) = inr (both_ways newest (Some newest) reads.there x y (leads-newest newest (Some newest) reads.there (leads-new stands newest reads.here reads.there reads.leads above)) new there)
  pair_staged x y above (inr new) (inr none) = inr (both_ways newest (Some newest) None x y refl new none.1)

-- ---- what crashes leave

module _ {S : Type 0} (strip : Ghosts S) where
  -- with these images of the two strips
  pub one_now : (current other : JournalState S) (stands newest : EditionValue) (x y : List ℕ) → IsKept strip current other stands newest → Reads strip current other stands → StandsIn strip current x → StandsIn strip other y → OneWay stands newest x y
  one_now current other stands newest x y kept reads stood_x stood_y = by_staged (has_staged current) refl
    where
      by_staged : (b : Bool) → has_staged current ≡ b → OneWay stands newest x y
      by_staged true staged = pair_staged strip current other stands newest reads x y (kept.staged staged).1
          (written_shows strip current other stands newest reads x (staged_ready strip current staged) (kept.staged staged).0 (staged_by current.phase (strip.content current.strip) current.end current.payload x staged stood_x))
          (other_shows strip current other stands newest reads y kept.idle stood_y)
      by_staged false idle = inl (pair_idle strip current other stands newest reads x y (idle_shows strip current other stands newest reads x idle stood_x) (other_shows strip current other stands newest reads y kept.idle stood_y))

  -- within a settle of the current journal
  pub one_settling : (current other : JournalState S) (stands newest : EditionValue) (x y : List ℕ) → IsKept strip current other stands newest → Reads strip current other stands → has_staged current ≡ true → StandsWithOrWithout strip current x → StandsIn strip other y → OneWay stands newest x y
  one_settling current other stands newest x y kept reads staged stood_x stood_y = pair_staged strip current other stands newest reads x y (kept.staged staged).1
      (written_shows strip current other stands newest reads x (staged_ready strip current staged) (kept.staged staged).0 stood_x)
      (other_shows strip current other stands newest reads y kept.idle stood_y)

  -- the other strip may be cleared where the current one is full or not ready
  none_there : (current other : JournalState S) (stands : EditionValue) (reads : Reads strip current other stands) → (is_ready current ≡ true → 0 < current.end) → reads.here ≡ None → reads.there ≡ None
  none_there current other stands reads full none = by_ready (is_ready current) refl
    where
      by_ready : (b : Bool) → is_ready current ≡ b → reads.there ≡ None
      by_ready true ready = absurd (omega (arith, full ready, reads.empty none))
      by_ready false waits = (reads.waits waits).1

  -- what a clear may leave is what was kept
  kept_survivors : (journal : JournalState S) → strip.tells journal.strip ≡ true → (is_ready journal ≡ true → HasSurvivors strip journal (standing strip journal)) → survivors strip journal ≡ kept_frames strip journal
  kept_survivors journal told own = by_ready (is_ready journal) refl
    where
      by_ready : (b : Bool) → is_ready journal ≡ b → survivors strip journal ≡ kept_frames strip journal
      by_ready true ready = own ready told ∙ sym (kept_ready strip journal ready)
      by_ready false waits = sym (kept_waiting strip journal waits)

  -- within a clear of the other journal
  pub one_clearing : (current other : JournalState S) (stands : EditionValue) (x y : List ℕ) → Reads strip current other stands → has_staged current ≡ false → (is_ready current ≡ true → 0 < current.end) → strip.tells other.strip ≡ true → (is_ready other ≡ true → HasSurvivors strip other (standing strip other))
      → StandsIn strip current x → StandsForNoneOr (survivors strip other) y → EitherWay stands x y
  one_clearing current other stands x y reads idle full told own stood_x stood_y = pair_idle strip current other stands stands reads x y
      (idle_shows strip current other stands stands reads x idle stood_x)
      (cleared_shows strip current other stands stands reads y (kept_survivors other told own) (none_there current other stands reads full) stood_y)

  -- ---- what is kept after a call

  both_told : (a b c d : S) (P Q : Type 0) → strip.tells c ≡ strip.tells a → strip.tells d ≡ strip.tells b → (strip.tells c ≡ true → strip.tells d ≡ true → P → Q) → IfBoth strip a b P → IfBoth strip c d Q
  both_told a b c d P Q same_a same_b f has = λ told_c told_d. f told_c told_d (has (sym same_a ∙ told_c) (sym same_b ∙ told_d))

  some_not : (edition : EditionValue) → Some edition ≡ None → ⊥
  some_not edition e = absurd cc

  -- a settle that succeeded
  pub kept-settled : (old new other : JournalState S) (stands newest : EditionValue) → IsKept strip old other stands newest → has_staged old ≡ true → strip.tells new.strip ≡ strip.tells old.strip → HasStanding strip new (with_staged strip old) → has_staged new ≡ false → is_ready new ≡ is_ready old → IsKept strip new other newest newest
  kept-settled old new other stands newest kept staged same stood idle ready =
      let is : is_ready new ≡ true = ready ∙ staged_ready strip old staged in
      record {
        idle = kept.idle;
        settled = λ h. refl;
        staged = λ h. absurd (not_both (has_staged new) h idle);
        reads = both_told old.strip other.strip new.strip other.strip (Reads strip old other stands) (Reads strip new other newest) same refl (λ told told_other reads. record {
          here = Some newest;
          there = reads.there;
          current_has = ap on_strip (kept_ready strip new is ∙ stood told) ∙ on_strip-more (standing strip old) (staged_frame old) newest (kept.staged staged).0;
          other_has = reads.other_has;
          leads = leads-new stands newest reads.here reads.there reads.leads (kept.staged staged).1;
          waits = λ h. absurd (not_both (is_ready new) is h);
          guards = λ h none. absurd (some_not newest none);
          empty = λ none. absurd (some_not newest none);
        }) kept.reads;
      }

  -- a settle that failed
  pub kept-doubted : (old new other : JournalState S) (stands newest : EditionValue) → IsKept strip old other stands newest → has_staged old ≡ true → strip.tells new.strip ≡ strip.tells old.strip → staged_frame new ≡ staged_frame old → HasStanding strip new (standing strip old) → has_staged new ≡ true → is_ready new ≡ is_ready old → IsKept strip new other stands newest
  kept-doubted old new other stands newest kept staged same frame stood doubt ready =
      let was : is_ready old ≡ true = staged_ready strip old staged in
      let is : is_ready new ≡ true = ready ∙ was in
      record {
        idle = kept.idle;
        settled = λ h. absurd (not_both (has_staged new) doubt h);
        staged = λ h. (ap (λ (f : FrameValue). edition_of f.payload) frame ∙ (kept.staged staged).0, (kept.staged staged).1);
        reads = both_told old.strip other.strip new.strip other.strip (Reads strip old other stands) (Reads strip new other stands) same refl (λ told told_other reads. record {
          here = reads.here;
          there = reads.there;
          current_has = ap on_strip (kept_ready strip new is ∙ stood told ∙ sym (kept_ready strip old was)) ∙ reads.current_has;
          other_has = reads.other_has;
          leads = reads.leads;
          waits = λ h. absurd (not_both (is_ready new) is h);
          guards = reads.guards;
          empty = λ none. ap (λ (f : FrameValue). f.at) frame ∙ reads.empty none;
        }) kept.reads;
      }

  -- an edition that was staged
  pub kept-staged : (old new other : JournalState S) (stands newest next : EditionValue) → IsKept strip old other stands newest → new.strip ≡ old.strip → new.end ≡ old.end → is_ready old ≡ true → is_ready new ≡ true → has_staged new ≡ true → edition_of new.payload ≡ Ok next → stands.number < next.number → IsKept strip new other stands next
  kept-staged old new other stands newest next kept same end was is staged read above =
      let stand : standing strip new ≡ standing strip old = λ i. standing strip (record { strip = same i; phase = old.phase; end = end i; payload = old.payload }) in
      record {
        idle = kept.idle;
        settled = λ h. absurd (not_both (has_staged new) staged h);
        staged = λ h. (read, above);
        reads = both_told old.strip other.strip new.strip other.strip (Reads strip old other stands) (Reads strip new other stands) (ap strip.tells same) refl (λ told told_other reads. record {
          here = reads.here;
          there = reads.there;
          current_has = ap on_strip (kept_ready strip new is ∙ stand ∙ sym (kept_ready strip old was)) ∙ reads.current_has;
          other_has = reads.other_has;
          leads = reads.leads;
          waits = λ h. absurd (not_both (is_ready new) is h);
          guards = reads.guards;
          empty = λ none. end ∙ reads.empty none;
        }) kept.reads;
      }

  -- a clear of the other strip that succeeded, which then is the current one
  pub kept-turned : (current old new : JournalState S) (stands newest : EditionValue) → IsKept strip current old stands newest → has_staged current ≡ false → (is_ready current ≡ true → 0 < current.end) → strip.tells new.strip ≡ strip.tells old.strip → HasStanding strip new [] → is_ready new ≡ true → has_staged new ≡ false → new.end ≡ 0 → IsKept strip new current stands newest
  kept-turned current old new stands newest kept idle full same stood ready none_staged end = record {
    idle = idle;
    settled = λ h. kept.settled idle;
    staged = λ h. absurd (not_both (has_staged new) h none_staged);
    reads = λ told told_current. turned_reads told (kept.reads told_current (sym same ∙ told));
  }
    where
      turned_reads : strip.tells new.strip ≡ true → Reads strip current old stands → Reads strip new current stands
      turned_reads told reads = record {
        here = None;
        there = reads.here;
        current_has = ap on_strip (kept_ready strip new ready ∙ stood told) ∙ on_strip-none;
        other_has = reads.current_has;
        leads = leads-turned stands reads.here reads.there reads.leads (none_there current old stands reads full);
        waits = λ h. absurd (not_both (is_ready new) ready h);
        guards = λ h none. (reads.waits h).0;
        empty = λ none. end;
      }

  -- a clear of the other strip that failed
  pub kept-uncleared : (current old new : JournalState S) (stands newest : EditionValue) → IsKept strip current old stands newest → has_staged current ≡ false → (is_ready current ≡ true → 0 < current.end) → strip.tells new.strip ≡ strip.tells old.strip → is_ready new ≡ false → has_staged new ≡ false
      → (is_ready old ≡ true → HasSurvivors strip old (standing strip old)) → (closes_gate new ≡ true → HasSurvivors strip new (survivors strip old)) → IsKept strip current new stands newest
  kept-uncleared current old new stands newest kept idle full same waits none_staged own survive = record {
    idle = none_staged;
    settled = kept.settled;
    staged = kept.staged;
    reads = λ told_current told. left_reads told (kept.reads told_current (sym same ∙ told));
  }
    where
      by_gate : (b : Bool) → closes_gate new ≡ b → strip.tells new.strip ≡ true → Reads strip current old stands → Reads strip current new stands
      by_gate true closes told reads = record {
        here = reads.here;
        there = reads.there;
        current_has = reads.current_has;
        other_has = ap on_strip (kept_waiting strip new waits ∙ survive closes told ∙ kept_survivors old (sym same ∙ told) own) ∙ reads.other_has;
        leads = reads.leads;
        waits = reads.waits;
        guards = λ h none. none_there current old stands reads full none;
        empty = reads.empty;
      }
      by_gate false closed told reads = record {
        here = reads.here;
        there = None;
        current_has = reads.current_has;
        other_has = ap on_strip (kept_waiting strip new waits ∙ no_survivors closed) ∙ on_strip-none;
        leads = leads-alone stands reads.here reads.there reads.leads (none_there current old stands reads full);
        waits = λ h. ((reads.waits h).0, refl);
        guards = λ h none. refl;
        empty = reads.empty;
      }
        where
          no_survivors : closes_gate new ≡ false → survivors strip new ≡ []
          no_survivors e = rw e refl

      left_reads : strip.tells new.strip ≡ true → Reads strip current old stands → Reads strip current new stands
      left_reads told reads = by_gate (closes_gate new) refl told reads
