-- What a segment keeps, through the calls of its journal.
use Rattle.std.proofs.Common.{◌≡◌, inl, inr, ◌⊎◌, ℕ, ◌+◌, ◌<◌, ◌≤◌, Bool, true, false, List, [], ◌∷◌, ◌++◌, length, drop, Result, Ok, refl, sym, ap, subst, ◌∙◌, append_assoc, arith}
use Rattle.std.proofs.lemmas.List.{length-append, append-nil, drop_at}
use Rattle.disk_model.specs.declared.strip.Strip.{Ghosts}
use Rattle.disk_model.specs.Calls.{IfTold}
use Rattle.frame_journal.specs.FrameValue.{FrameValue}
use Rattle.frame_journal.specs.Frames.{StandsFor}
use Rattle.frame_journal.specs.Devices.{SameStrip, OfBytes, OfImages, OfCrashes, Spans, KeepsBytes, IsSynced}
use Rattle.frame_journal.specs.declared.phase.Phase.{Phase}
use Rattle.frame_journal.specs.declared.phase.Phase.TheVariants.{Fresh, Shut, Ready, Staged, Body, Gate}
use Rattle.frame_journal.specs.JournalState.{JournalState, ready_in, staged_in, is_ready, has_staged, closes_gate, staged_frame}
use Rattle.frame_journal.specs.Journals.{standing, standing_to, with_staged, HasStanding, survivors, HasSurvivors, StandsForNoneOr, StandsWithOr, StandsWithOrWithout, StandsBy, Leaves}
use Rattle.rdb_base.specs.declared.entry.Entry.{Entry}
use Rattle.entry_code.specs.Payloads.{header_payload, entries_of, entry_fields}
use Rattle.entry_code.specs.Batches.{BatchState}
use Rattle.entry_code.proofs.BatchLemmas.{fields_none}
use Rattle.std.specs.Prelude.{nat_lt}
use Rattle.std.proofs.lemmas.Bool.{lt-ltb}
use Rattle.rdb_base.specs.declared.limits.TheConstants.{NUMBER_MAX}
use Rattle.entry_code.specs.declared.format.TheConstants.{ENTRY_MAX}
use Rattle.wal_log.specs.declared.limits.TheConstants.{PENDING_MAX}
use Rattle.wal_log.specs.declared.log_error.LogError.{LogError}
use Rattle.wal_log.specs.Logs.{alone, HasEntries, HasFrontOf, HasHeader}
use Rattle.wal_log.specs.SegmentState.{SegmentState}
use Rattle.wal_log.specs.Calls.{HasFront, StripCalls}
use Rattle.wal_log.specs.Kept.{HasEither, IsKept, IsCounted}
use Rattle.wal_log.proofs.LogLemmas.{has_of, alone_none, alone_header, alone-more, front_of}

ready_of : (phase : Phase) → staged_in phase ≡ true → ready_in phase ≡ true
ready_of Fresh e = absurd cc
ready_of Shut e = absurd cc
ready_of Ready e = absurd cc
ready_of Staged e = refl
ready_of Body e = refl
ready_of Gate e = refl

pub staged_ready : {S : Type 0} (journal : JournalState S) → has_staged journal ≡ true → is_ready journal ≡ true
staged_ready journal e = ready_of journal.phase e

drop_all : (xs : List Entry) → drop (length xs) xs ≡ []
drop_all [] = refl
drop_all (x ∷ xs) = drop_all xs

pub not_both : (b : Bool) → b ≡ true → b ≡ false → ⊥
not_both true e f = absurd cc
not_both false e f = absurd cc

abbrev good : List Entry → Result (List Entry) LogError
good xs = Ok xs

ok_is : (xs ys : List Entry) → good xs ≡ good ys → xs ≡ ys
ok_is xs ys e = cc

nil_of : (frames : List FrameValue) → nat_lt 0 (length frames) ≡ false → frames ≡ []
nil_of [] e = refl
nil_of (frame ∷ frames) e = absurd (not_both (nat_lt 0 (length (frame ∷ frames))) (lt-ltb _ _ (omega arith)) e)

some_of : (frames : List FrameValue) → nat_lt 0 (length frames) ≡ true → 0 < length frames
some_of [] e = absurd cc
some_of (frame ∷ frames) e = omega arith

some_whole : (frames : List FrameValue) (bytes : List ℕ) → 0 < length frames → StandsFor frames bytes → HasHeader bytes
some_whole frames bytes some stands = subst (λ (l : List FrameValue). 0 < length l) (sym stands.whole) some

more_whole : (frames : List FrameValue) (frame : FrameValue) (bytes : List ℕ) → 0 < length frames → StandsWithOr frames frame bytes → HasHeader bytes
more_whole frames frame bytes some (inl stands) = some_whole frames bytes some stands
more_whole frames frame bytes some (inr stands) = some_whole (frames ++ frame ∷ []) bytes (omega (arith, some, length-append frames (frame ∷ []))) stands

-- where frames stand in a ready journal, they stand in what its strip may be after a crash
header_by : (phase : Phase) (bytes : List ℕ) (end : ℕ) (payload image : List ℕ) → ready_in phase ≡ true → 0 < length (standing_to end bytes) → StandsBy phase bytes end payload image → HasHeader image
header_by Fresh bytes end payload image ready some stands = absurd cc
header_by Shut bytes end payload image ready some stands = absurd cc
header_by Ready bytes end payload image ready some stands = some_whole (standing_to end bytes) image some stands
header_by Staged bytes end payload image ready some stands = some_whole (standing_to end bytes) image some stands
header_by Body bytes end payload image ready some stands = some_whole (standing_to end bytes) image some stands
header_by Gate bytes end payload image ready some stands = more_whole (standing_to end bytes) (record { at = end; payload = payload }) image some stands

pub header_stands : {S : Type 0} (strip : Ghosts S) (journal : JournalState S) → Leaves strip journal → is_ready journal ≡ true → IfTold (strip.tells journal.strip) (0 < length (standing strip journal)) → OfBytes strip journal.strip HasHeader × OfImages strip journal.strip HasHeader
header_stands strip journal left ready some = (
  λ told. header_by journal.phase (strip.content journal.strip) journal.end journal.payload (strip.content journal.strip) ready (some told) (left.content told),
  λ told c may. header_by journal.phase (strip.content journal.strip) journal.end journal.payload c ready (some told) (left.images told c may),
)

module _ {S : Type 0} (strip : Ghosts S) (number first : ℕ) where
  -- the frames that stand, with the staged one or without, have either list
  pub either_of : (old : JournalState S) (synced written : List Entry) (headed : Bool) (bytes : List ℕ) → IsKept strip old number first synced written headed → has_staged old ≡ true → strip.tells old.strip ≡ true → StandsWithOrWithout strip old bytes → HasEither number first synced written bytes
  either_of old synced written headed bytes kept staged told (inl stands) = inl (has_of number first (standing strip old) synced bytes stands (kept.stands (staged_ready old staged) told))
  either_of old synced written headed bytes kept staged told (inr stands) = inr (has_of number first (with_staged strip old) written bytes stands (kept.stages staged told))

  -- a settle that answered Ok
  pub kept-settled : (old new : JournalState S) (synced written : List Entry) (headed : Bool) → IsKept strip old number first synced written headed → has_staged old ≡ true → strip.tells new.strip ≡ strip.tells old.strip
      → OfBytes strip new.strip (StandsFor (with_staged strip old)) → HasStanding strip new (with_staged strip old) → has_staged new ≡ false → is_ready new ≡ is_ready old → OfImages strip new.strip (StandsFor (with_staged strip old))
      → IsKept strip new number first written written true
  kept-settled old new synced written headed kept staged same settled stands idle ready left = record {
    stands = λ r told. ap (alone number first) (stands told) ∙ kept.stages staged (sym same ∙ told);
    stages = λ s. absurd (not_both (has_staged new) s idle);
    idle = λ s. refl;
    waits = λ r. absurd (not_both (is_ready new) (ready ∙ staged_ready old staged) r);
    none = λ h. absurd cc;
    ready = λ h. ready ∙ staged_ready old staged;
    heads = λ h told. omega (arith, ap (λ (l : List FrameValue). length l) (stands told), length-append (standing strip old) (staged_frame old ∷ []));
    bare = λ h. absurd cc;
    bytes = λ told. inl (has_of number first (with_staged strip old) written (strip.content new.strip) (settled told) (kept.stages staged (sym same ∙ told)));
    images = λ told c may. inl (has_of number first (with_staged strip old) written c (left told c may) (kept.stages staged (sym same ∙ told)));
  }

  -- the images that a crash may leave now are among those within the calls that led here
  images_now : (old new : S) (P : List ℕ → Type 0) → strip.tells new ≡ strip.tells old → strip.moment old ≤ strip.moment new → ((t : ℕ) (c : List ℕ) → t ≤ strip.moment new → strip.may_leave new c → strip.left_since new t c) → OfCrashes strip old new P → OfImages strip new P
  images_now old new P same later counts crash = λ told c may. crash (sym same ∙ told) c (counts (strip.moment old) c later may)

  -- a settle that was refused
  pub kept-doubted : (old new : JournalState S) (synced written : List Entry) (headed : Bool) → IsKept strip old number first synced written headed → has_staged old ≡ true → strip.tells new.strip ≡ strip.tells old.strip
      → staged_frame new ≡ staged_frame old → HasStanding strip new (standing strip old) → has_staged new ≡ true → is_ready new ≡ is_ready old → OfBytes strip new.strip (StandsWithOrWithout strip old)
      → OfCrashes strip old.strip new.strip (StandsWithOrWithout strip old) → strip.moment old.strip ≤ strip.moment new.strip → ((t : ℕ) (c : List ℕ) → t ≤ strip.moment new.strip → strip.may_leave new.strip c → strip.left_since new.strip t c)
      → IsKept strip new number first synced written headed
  kept-doubted old new synced written headed kept staged same frame stands doubt ready either crash later counts = record {
    stands = λ r told. ap (alone number first) (stands told) ∙ kept.stands (sym ready ∙ r) (sym same ∙ told);
    stages = λ s told. ap (alone number first) (ap (λ (l : List FrameValue). l ++ staged_frame new ∷ []) (stands told) ∙ ap (λ (f : FrameValue). standing strip old ++ f ∷ []) frame) ∙ kept.stages staged (sym same ∙ told);
    idle = λ s. absurd (not_both (has_staged new) doubt s);
    waits = λ r. absurd (not_both (is_ready new) (ready ∙ staged_ready old staged) r);
    none = kept.none;
    ready = λ h. ready ∙ kept.ready h;
    heads = λ h told. subst (λ (l : List FrameValue). 0 < length l) (sym (stands told)) (kept.heads h (sym same ∙ told));
    bare = λ h r told. stands told ∙ kept.bare h (sym ready ∙ r) (sym same ∙ told);
    bytes = λ told. either_of old synced written headed (strip.content new.strip) kept staged (sym same ∙ told) (either told);
    images = λ told c may. either_of old synced written headed c kept staged (sym same ∙ told) (images_now old.strip new.strip (StandsWithOrWithout strip old) same later counts crash told c may);
  }

  -- either list is a front of all
  pub front_either : (synced written entries : List Entry) (batch : BatchState) (headed : Bool) (bytes : List ℕ) → IsCounted number first synced written entries batch headed → HasEither number first synced written bytes → HasFrontOf number first entries (length synced) bytes
  front_either synced written entries batch headed bytes counted (inl has) =
      let whole : entries ≡ synced ++ (drop (length synced) written ++ batch.entries) = counted.whole ∙ ap (λ (l : List Entry). l ++ batch.entries) counted.front ∙ append_assoc synced (drop (length synced) written) batch.entries in
      subst (λ (l : List Entry). HasFrontOf number first l (length synced) bytes) (sym whole) (front_of number first synced (drop (length synced) written ++ batch.entries) (length synced) bytes (omega arith) has)
  front_either synced written entries batch headed bytes counted (inr has) =
      let least : length synced ≤ length written = omega (arith, ap (λ (l : List Entry). length l) counted.front, length-append synced (drop (length synced) written)) in
      subst (λ (l : List Entry). HasFrontOf number first l (length synced) bytes) (sym counted.whole) (front_of number first written batch.entries (length synced) bytes least has)

  -- at each moment within a settle each image has a front
  pub crash-settle : (old : JournalState S) (new : S) (synced written entries : List Entry) (batch : BatchState) (headed : Bool) → IsKept strip old number first synced written headed → IsCounted number first synced written entries batch headed → has_staged old ≡ true
      → OfCrashes strip old.strip new (StandsWithOrWithout strip old) → OfCrashes strip old.strip new (HasFrontOf number first entries (length synced))
  crash-settle old new synced written entries batch headed kept counted staged crash = λ told c since.
      front_either synced written entries batch headed c counted (either_of old synced written headed c kept staged told (crash told c since))

  pub counted-settled : (synced written entries : List Entry) (batch : BatchState) (headed : Bool) → IsCounted number first synced written entries batch headed → IsCounted number first written written entries batch true
  counted-settled synced written entries batch headed counted = record {
    front = sym (append-nil written) ∙ ap (λ (l : List Entry). written ++ l) (sym (drop_all written));
    whole = counted.whole;
    numbered = counted.numbered;
    here = counted.here;
    few = counted.few;
    least = counted.least;
    most = counted.most;
    empty = λ h. absurd cc;
  }

  -- the images that a segment has are fronts
  pub front_images : (journal : JournalState S) (synced written entries : List Entry) (batch : BatchState) (headed : Bool) → IsKept strip journal number first synced written headed → IsCounted number first synced written entries batch headed → OfImages strip journal.strip (HasFrontOf number first entries (length synced))
  front_images journal synced written entries batch headed kept counted = λ told c may. front_either synced written entries batch headed c counted (kept.images told c may)

  pub front_bytes : (journal : JournalState S) (synced written entries : List Entry) (batch : BatchState) (headed : Bool) → IsKept strip journal number first synced written headed → IsCounted number first synced written entries batch headed → OfBytes strip journal.strip (HasFrontOf number first entries (length synced))
  front_bytes journal synced written entries batch headed kept counted = λ told. front_either synced written entries batch headed (strip.content journal.strip) counted (kept.bytes told)

  -- no call was made
  pub crash-none : (s : S) (P : List ℕ → Type 0) → ((c : List ℕ) → strip.left_since s (strip.moment s) c → strip.may_leave s c) → OfImages strip s P → OfCrashes strip s s P
  crash-none s P only images = λ told c since. images told c (only c since)

  -- calls, and calls after them
  pub crash-both : (old mid new : S) (P Q : List ℕ → Type 0) → strip.tells mid ≡ strip.tells old → strip.moment old ≤ strip.moment mid
      → ((t : ℕ) (c : List ℕ) → t ≤ strip.moment mid → strip.left_since new t c → strip.left_since mid t c ⊎ strip.left_since new (strip.moment mid) c)
      → OfCrashes strip old mid P → OfCrashes strip mid new Q → ((c : List ℕ) → Q c → P c) → OfCrashes strip old new P
  crash-both old mid new P Q same later nothing_else first_crash second_crash weaker = λ told c since.
      elim (nothing_else (strip.moment old) c later since) [
        | inl past ↦ first_crash told c past
        | inr now ↦ weaker c (second_crash (same ∙ told) c now)
      ]

  -- the next entries are staged
  pub kept-staged : (old new : JournalState S) (synced written more entries : List Entry) (headed : Bool) → IsKept strip old number first synced written headed → headed ≡ true → has_staged old ≡ false → new.strip ≡ old.strip → new.end ≡ old.end → has_staged new ≡ true → is_ready new ≡ true
      → entries_of new.payload ≡ Ok (record { first = first + length written; entries = more }) → entries ≡ written ++ more → IsKept strip new number first synced entries headed
  kept-staged old new synced written more entries headed kept head idle same end staged ready reads whole =
      let is : written ≡ synced = kept.idle idle in
      let told_of : strip.tells new.strip ≡ strip.tells old.strip = ap strip.tells same in
      let stand : standing strip new ≡ standing strip old = λ i. standing strip (record { strip = same i; phase = old.phase; end = end i; payload = old.payload }) in
      let read : entries_of new.payload ≡ Ok (record { first = first + length synced; entries = more }) = reads ∙ ap (λ (l : List Entry). Ok (record { first = first + length l; entries = more })) is in
      let all : synced ++ more ≡ entries = ap (λ (l : List Entry). l ++ more) (sym is) ∙ sym whole in
      let only : (c : List ℕ) → HasEither number first synced written c → HasEntries number first synced c = λ c has. elim has [ inl h ↦ h | inr h ↦ subst (λ (l : List Entry). HasEntries number first l c) is h ] in
      record {
        stands = λ r told. ap (alone number first) stand ∙ kept.stands (kept.ready head) (sym told_of ∙ told);
        stages = λ s told. ap (alone number first) (ap (λ (l : List FrameValue). l ++ staged_frame new ∷ []) stand) ∙ alone-more number first (standing strip old) (staged_frame new) synced more (kept.heads head (sym told_of ∙ told)) (kept.stands (kept.ready head) (sym told_of ∙ told)) read ∙ ap (λ (l : List Entry). Ok l) all;
        idle = λ s. absurd (not_both (has_staged new) staged s);
        waits = λ r. absurd (not_both (is_ready new) ready r);
        none = λ h. absurd (not_both headed head h);
        ready = λ h. ready;
        heads = λ h told. subst (λ (l : List FrameValue). 0 < length l) (sym stand) (kept.heads head (sym told_of ∙ told));
        bare = λ h. absurd (not_both headed head h);
        bytes = subst (λ (s : S). OfBytes strip s (HasEither number first synced entries)) (sym same) (λ told. inl (only (strip.content old.strip) (kept.bytes told)));
        images = subst (λ (s : S). OfImages strip s (HasEither number first synced entries)) (sym same) (λ told c may. inl (only c (kept.images told c may)));
      }

  none_entries : (frames : List FrameValue) (synced : List Entry) (bytes : List ℕ) → frames ≡ [] → synced ≡ [] → StandsForNoneOr frames bytes → HasEntries number first synced bytes
  none_entries frames synced bytes none empty (inl stands) = has_of number first [] synced bytes stands (alone_none number first ∙ ap (λ (l : List Entry). Ok l) (sym empty))
  none_entries frames synced bytes none empty (inr stands) = has_of number first frames synced bytes stands (ap (alone number first) none ∙ alone_none number first ∙ ap (λ (l : List Entry). Ok l) (sym empty))

  -- what a refused clear may still leave is nothing
  pub survivors_of : (old new : JournalState S) (synced written : List Entry) (headed : Bool) → IsKept strip old number first synced written headed → is_ready old ≡ false → strip.tells new.strip ≡ strip.tells old.strip
      → (closes_gate new ≡ true → HasSurvivors strip new (survivors strip old)) → IfTold (strip.tells new.strip) (survivors strip new ≡ [])
  survivors_of old new synced written headed kept waits same survive = by_gate (closes_gate new) refl
    where
      by_gate : (b : Bool) → closes_gate new ≡ b → IfTold (strip.tells new.strip) (survivors strip new ≡ [])
      by_gate true e = λ told. survive e told ∙ kept.waits waits (sym same ∙ told)
      by_gate false e = λ told. rw e refl

  -- a clear, whatever it answered
  pub kept-cleared : (old new : JournalState S) (synced written : List Entry) (headed : Bool) → IsKept strip old number first synced written headed → headed ≡ false → is_ready old ≡ false → strip.tells new.strip ≡ strip.tells old.strip → has_staged new ≡ false
      → HasStanding strip new [] → (is_ready new ≡ false → IfTold (strip.tells new.strip) (survivors strip new ≡ [])) → OfBytes strip new.strip (StandsForNoneOr (survivors strip old)) → OfCrashes strip old.strip new.strip (StandsForNoneOr (survivors strip old))
      → strip.moment old.strip ≤ strip.moment new.strip → ((t : ℕ) (c : List ℕ) → t ≤ strip.moment new.strip → strip.may_leave new.strip c → strip.left_since new.strip t c) → IsKept strip new number first synced written headed
  kept-cleared old new synced written headed kept bare waits same idle stands survive either crash later counts = record {
    stands = λ r told. ap (alone number first) (stands told) ∙ alone_none number first ∙ ap (λ (l : List Entry). Ok l) (sym (kept.none bare).0);
    stages = λ s. absurd (not_both (has_staged new) s idle);
    idle = λ s. (kept.none bare).1 ∙ sym (kept.none bare).0;
    waits = survive;
    none = kept.none;
    ready = λ h. absurd (not_both headed h bare);
    heads = λ h. absurd (not_both headed h bare);
    bare = λ h r told. stands told;
    bytes = λ told. inl (none_entries (survivors strip old) synced (strip.content new.strip) (kept.waits waits (sym same ∙ told)) (kept.none bare).0 (either told));
    images = λ told c may. inl (none_entries (survivors strip old) synced c (kept.waits waits (sym same ∙ told)) (kept.none bare).0 (images_now old.strip new.strip (StandsForNoneOr (survivors strip old)) same later counts crash told c may));
  }

  pub crash-clear : (old : JournalState S) (new : S) (synced written entries : List Entry) (batch : BatchState) (headed : Bool) → IsKept strip old number first synced written headed → IsCounted number first synced written entries batch headed → headed ≡ false → is_ready old ≡ false
      → OfCrashes strip old.strip new (StandsForNoneOr (survivors strip old)) → OfCrashes strip old.strip new (HasFrontOf number first entries (length synced))
  crash-clear old new synced written entries batch headed kept counted bare waits crash = λ told c since.
      front_either synced written entries batch headed c counted (inl (none_entries (survivors strip old) synced c (kept.waits waits told) (kept.none bare).0 (crash told c since)))

  -- the header is staged
  pub kept-header : (old new : JournalState S) (synced written : List Entry) (headed : Bool) → IsKept strip old number first synced written headed → headed ≡ false → is_ready old ≡ true → number ≤ first → first ≤ NUMBER_MAX → new.strip ≡ old.strip → new.end ≡ old.end → has_staged new ≡ true → is_ready new ≡ true
      → new.payload ≡ header_payload number first → IsKept strip new number first synced written headed
  kept-header old new synced written headed kept bare was least most same end staged ready payload =
      let told_of : strip.tells new.strip ≡ strip.tells old.strip = ap strip.tells same in
      let stand : standing strip new ≡ standing strip old = λ i. standing strip (record { strip = same i; phase = old.phase; end = end i; payload = old.payload }) in
      record {
        stands = λ r told. ap (alone number first) stand ∙ kept.stands was (sym told_of ∙ told);
        stages = λ s told. ap (alone number first) (ap (λ (l : List FrameValue). l ++ staged_frame new ∷ []) (stand ∙ kept.bare bare was (sym told_of ∙ told)) ∙ ap (λ (p : List ℕ). record { at = new.end; payload = p } ∷ []) payload) ∙ alone_header number first new.end least most ∙ ap (λ (l : List Entry). Ok l) (sym (kept.none bare).1);
        idle = λ s. absurd (not_both (has_staged new) staged s);
        waits = λ r. absurd (not_both (is_ready new) ready r);
        none = kept.none;
        ready = λ h. ready;
        heads = λ h. absurd (not_both headed h bare);
        bare = λ h r told. stand ∙ kept.bare bare was (sym told_of ∙ told);
        bytes = subst (λ (s : S). OfBytes strip s (HasEither number first synced written)) (sym same) kept.bytes;
        images = subst (λ (s : S). OfImages strip s (HasEither number first synced written)) (sym same) kept.images;
      }

  -- a strip that was just opened
  pub kept-opened : (s : S) (journal : JournalState S) (frames : List FrameValue) (entries : List Entry) (headed : Bool) → strip.tells journal.strip ≡ strip.tells s → OfBytes strip s (StandsFor frames) → HasStanding strip journal frames → HasSurvivors strip journal frames → is_ready journal ≡ nat_lt 0 (length frames) → has_staged journal ≡ false
      → KeepsBytes strip s journal.strip → IsSynced strip journal.strip → alone number first frames ≡ Ok entries → headed ≡ nat_lt 0 (length frames) → IsKept strip journal number first entries entries headed
  kept-opened s journal frames entries headed same stands standing_is survive ready idle keeps synced read head =
      let bare : nat_lt 0 (length frames) ≡ false → frames ≡ [] = λ e. nil_of frames e in
      let here : (c : List ℕ) → strip.tells journal.strip ≡ true → c ≡ strip.content journal.strip → HasEntries number first entries c = λ c told e. has_of number first frames entries c (subst (λ (l : List ℕ). StandsFor frames l) (sym (e ∙ keeps told)) (stands (sym same ∙ told))) read in
      record {
        stands = λ r told. ap (alone number first) (standing_is told) ∙ read;
        stages = λ staged. absurd (not_both (has_staged journal) staged idle);
        idle = λ h. refl;
        waits = λ r told. survive told ∙ bare (sym ready ∙ r);
        none = λ h. let e = none_of (bare (sym head ∙ h)) in (e, e);
        ready = λ h. ready ∙ sym head ∙ h;
        heads = λ h told. subst (λ (l : List FrameValue). 0 < length l) (sym (standing_is told)) (some_of frames (sym head ∙ h));
        bare = λ h r told. standing_is told ∙ bare (sym head ∙ h);
        bytes = λ told. inl (here (strip.content journal.strip) told refl);
        images = λ told c may. inl (here c told (synced told c may));
      }
    where
      none_of : frames ≡ [] → entries ≡ []
      none_of e = ok_is entries [] (sym read ∙ ap (alone number first) e ∙ alone_none number first)

pub begins : (xs ys zs : List Entry) → xs ≡ ys ++ zs → xs ≡ ys ++ drop (length ys) xs
begins xs ys zs e =
    let rest : drop (length ys) xs ≡ zs = ap (drop (length ys)) e ∙ drop_at ys zs (length ys) refl in
    e ∙ ap (λ (l : List Entry). ys ++ l) (sym rest)

pub counted-staged : (number first : ℕ) (synced written entries : List Entry) (old new : BatchState) (headed : Bool) → IsCounted number first synced written entries old headed → new.first ≡ old.first + length old.entries → new.entries ≡ [] → new.lent ≡ false → IsCounted number first synced entries entries new headed
counted-staged number first synced written entries old new headed counted starts none here = record {
  front = begins entries synced (drop (length synced) written ++ old.entries) (counted.whole ∙ ap (λ (l : List Entry). l ++ old.entries) counted.front ∙ append_assoc synced (drop (length synced) written) old.entries);
  whole = sym (append-nil entries) ∙ ap (λ (l : List Entry). entries ++ l) (sym none);
  numbered = omega (arith, starts, counted.numbered, ap (λ (l : List Entry). length l) counted.whole, length-append written old.entries);
  here = here;
  few = omega (arith, ap (λ (l : List Entry). length (entry_fields l)) none, ap (λ (l : List ℕ). length l) fields_none);
  least = counted.least;
  most = counted.most;
  empty = counted.empty;
}

-- the batch is the same, but for its room
pub counted-batch : (number first : ℕ) (synced written entries : List Entry) (old new : BatchState) (headed : Bool) → IsCounted number first synced written entries old headed → new.first ≡ old.first → new.entries ≡ old.entries → new.lent ≡ false → IsCounted number first synced written entries new headed
counted-batch number first synced written entries old new headed counted starts same here = record {
  front = counted.front;
  whole = counted.whole ∙ ap (λ (l : List Entry). written ++ l) (sym same);
  numbered = starts ∙ counted.numbered;
  here = here;
  few = omega (arith, counted.few, ap (λ (l : List Entry). length (entry_fields l)) same);
  least = counted.least;
  most = counted.most;
  empty = counted.empty;
}

pub counted-pushed : (number first : ℕ) (synced written entries all : List Entry) (old new : BatchState) (entry : Entry) (headed : Bool) → IsCounted number first synced written entries old headed → headed ≡ true → length (entry_fields old.entries) < PENDING_MAX → new.first ≡ old.first → new.entries ≡ old.entries ++ entry ∷ [] → length (entry_fields new.entries) ≤ length (entry_fields old.entries) + ENTRY_MAX → new.lent ≡ false → all ≡ entries ++ entry ∷ [] → IsCounted number first synced written all new headed
counted-pushed number first synced written entries all old new entry headed counted head short starts more fields here is = record {
  front = counted.front;
  whole = is ∙ ap (λ (l : List Entry). l ++ entry ∷ []) counted.whole ∙ append_assoc written old.entries (entry ∷ []) ∙ ap (λ (l : List Entry). written ++ l) (sym more);
  numbered = starts ∙ counted.numbered;
  here = here;
  few = omega (arith, short, fields);
  least = counted.least;
  most = counted.most;
  empty = λ h. absurd (not_both headed head h);
}

pub counted-opened : (number first : ℕ) (entries : List Entry) (batch : BatchState) (headed : Bool) → number ≤ first → first ≤ NUMBER_MAX → batch.first ≡ first + length entries → batch.entries ≡ [] → batch.lent ≡ false → (headed ≡ false → entries ≡ []) → IsCounted number first entries entries entries batch headed
counted-opened number first entries batch headed least most starts none here empty = record {
  front = begins entries entries [] (sym (append-nil entries));
  whole = sym (append-nil entries) ∙ ap (λ (l : List Entry). entries ++ l) (sym none);
  numbered = starts;
  here = here;
  few = omega (arith, ap (λ (l : List Entry). length (entry_fields l)) none, ap (λ (l : List ℕ). length l) fields_none);
  least = least;
  most = most;
  empty = empty;
}

-- ---- what a call did on the strip

-- it made no call of the strip
pub calls-none : {S : Type 0} (strip : Ghosts S) (most : ℕ) (segment : SegmentState S) → ((c : List ℕ) → strip.left_since segment.journal.strip (strip.moment segment.journal.strip) c → strip.may_leave segment.journal.strip c)
    → OfImages strip segment.journal.strip (HasFront segment) → StripCalls strip most segment segment
calls-none strip most segment only images = record {
  crash = λ told c since. images told c (only c since);
  time = record { later = omega arith; nothing_else = λ t c le since. inl since; keeps = λ t c le past. past };
  same = record { book = refl; tells = refl; tells_images = refl; calls = omega arith };
}

-- it left the strip as it was
pub calls-same : {S : Type 0} (strip : Ghosts S) (most : ℕ) (old new : SegmentState S) → ((c : List ℕ) → strip.left_since old.journal.strip (strip.moment old.journal.strip) c → strip.may_leave old.journal.strip c)
    → OfImages strip old.journal.strip (HasFront old) → new.journal.strip ≡ old.journal.strip → StripCalls strip most old new
calls-same strip most old new only images same =
    let none = calls-none strip most old only images in
    record {
      crash = subst (λ s. OfCrashes strip old.journal.strip s (HasFront old)) (sym same) none.crash;
      time = subst (λ s. Spans strip old.journal.strip s) (sym same) none.time;
      same = subst (λ s. SameStrip strip most old.journal.strip s) (sym same) none.same;
    }
