-- What an opening leaves of a strip. To know: `WasStarted`, `calls-started`, `start_refused`, `is_opened`.
use Rattle.std.proofs.Common.{◌≡◌, ◌⊎◌, inl, inr, ℕ, ◌+◌, ◌≤◌, true, Bool, IsTrue, List, [], ◌∷◌, ◌++◌, length, Result, Ok, Err, refl, sym, ap, subst, ◌∙◌, arith}
use Rattle.rdb_base.specs.declared.entry.Entry.{Entry}
use Rattle.rdb_base.specs.declared.limits.TheConstants.{NUMBER_MAX}
use Rattle.rdb_base.specs.Maps.{applied_all}
use Rattle.fault_count.specs.Counts.{RoseByOne}
use Rattle.disk_model.specs.Causes.{CauseOf}
use Rattle.disk_model.specs.declared.device_error.DeviceError.{DeviceError}
use Rattle.disk_model.specs.declared.device_error.DeviceError.TheVariants as device
use Rattle.disk_model.specs.declared.strip.Strip.{Ghosts}
use Rattle.frame_journal.specs.Devices.{SameStrip, LeavesNoMore, OfBytes, OfImages, Spans}
use Rattle.frame_journal.specs.Frames.{frames_of}
use Rattle.wal_log.specs.SegmentState.{SegmentState}
use Rattle.wal_log.specs.Logs.{alone, HasEntries, HasFrontOf}
use Rattle.wal_log.specs.Calls.{SameEntries, HasFront, StripCalls}
use Rattle.wal_log.specs.declared.log_error.LogError.{LogError}
use Rattle.store_run.specs.Reopening.{ReopensTo, ReopensAlike}
use Rattle.store_run.specs.StoreState.{state_of}
use Rattle.store_run.specs.declared.open_error.OpenError.{OpenError}
use Rattle.store_run.specs.Openings.{IsAsBefore, OpeningCalls, IsOpened, IsRefused, IsDeviceErrorOf}
use Rattle.store_run.proofs.ReopenLemmas.{front_whole, front_is}

-- ---- bytes

ok_is : (xs ys : List Entry) → (let a : Result (List Entry) LogError = Ok xs in let b : Result (List Entry) LogError = Ok ys in a ≡ b) → xs ≡ ys
ok_is xs ys e = cc

-- bytes with the same entries reopen to the same
pub alike : (entries : List Entry) (old bytes : List ℕ) → HasEntries 0 0 entries old → HasEntries 0 0 entries bytes → ReopensAlike old bytes
alike entries old bytes was has rows number to =
    let same : to.entries ≡ entries = ok_is to.entries entries (sym to.has.read ∙ was.read) in
    record {
      entries = entries;
      has = has;
      rows_are = to.rows_are ∙ ap (λ (es : List Entry). applied_all [] es) same;
      number_is = to.number_is ∙ ap (λ (es : List Entry). length es) same;
    }

told_by : (a b : Bool) → a ≡ b → IsTrue a → IsTrue b
told_by a b e h = subst (λ (t : Bool). IsTrue t) e h

module _ {S : Type 0} (strip : Ghosts S) where
  -- a segment that was opened and of which a start was tried has all that it had, wherever it has the synced entries
  whole_front : (log : SegmentState S) (entries : List Entry) (bytes : List ℕ) → log.number ≡ 0 → log.first ≡ 0 → log.entries ≡ entries → length entries ≤ length log.synced → HasFront log bytes → HasEntries 0 0 entries bytes
  whole_front log entries bytes number first all least h = front_whole entries (length log.synced) bytes least (front_is log.number 0 log.first 0 log.entries entries (length log.synced) bytes number first all h)

  -- What is known of a segment when its start was tried: `old` is the strip from before the opening, `log` the segment
  -- that was opened, and `now` the segment after the start.
  pub record WasStarted (old : S) (log now : SegmentState S) (entries : List Entry) : Type 0 where
    pub read : OfBytes strip old (HasEntries 0 0 entries)
    pub all : log.entries ≡ entries
    pub synced : log.synced ≡ entries
    pub number : log.number ≡ 0
    pub first : log.first ≡ 0
    pub same : SameStrip strip 3 old log.journal.strip
    pub no_more : LeavesNoMore strip old log.journal.strip
    pub time : Spans strip old log.journal.strip
    pub kept : SameEntries log now
    pub calls : StripCalls strip 8 log now
    pub content : OfBytes strip now.journal.strip (HasFront now)
    pub images : OfImages strip now.journal.strip (HasFront now)
    pub earlier : (t u : ℕ) (c : List ℕ) → t ≤ u → strip.left_since now.journal.strip u c → strip.left_since now.journal.strip t c

  now_front : (old : S) (log now : SegmentState S) (entries : List Entry) (bytes : List ℕ) → WasStarted old log now entries → HasFront now bytes → HasEntries 0 0 entries bytes
  now_front old log now entries bytes w h =
      whole_front now entries bytes (w.kept.number ∙ w.number) (w.kept.first ∙ w.first) (w.kept.entries ∙ w.all) (omega (arith, w.kept.least, ap (λ (es : List Entry). length es) w.synced)) h

  log_front : (old : S) (log now : SegmentState S) (entries : List Entry) (bytes : List ℕ) → WasStarted old log now entries → HasFront log bytes → HasEntries 0 0 entries bytes
  log_front old log now entries bytes w h = whole_front log entries bytes w.number w.first w.all (omega (arith, ap (λ (es : List Entry). length es) w.synced)) h

  -- the strip told its bytes before, where it tells them now
  was_told : (old : S) (log now : SegmentState S) (entries : List Entry) → WasStarted old log now entries → IsTrue (strip.tells now.journal.strip) → IsTrue (strip.tells old)
  was_told old log now entries w told = told_by (strip.tells now.journal.strip) (strip.tells old) (w.calls.same.tells ∙ w.same.tells) told

  crash_case : (old : S) (log now : SegmentState S) (entries : List Entry) (c : List ℕ) → WasStarted old log now entries → IsTrue (strip.tells old) →
      strip.left_since log.journal.strip (strip.moment old) c ⊎ strip.left_since now.journal.strip (strip.moment log.journal.strip) c → IsAsBefore strip old c
  crash_case old log now entries c w told (inl past) = inl (w.no_more c past)
  crash_case old log now entries c w told (inr since) =
      inr (alike entries (strip.content old) c (w.read told) (log_front old log now entries c w (w.calls.crash (told_by (strip.tells old) (strip.tells log.journal.strip) (sym w.same.tells) told) c since)))

  pub spans-then : (a b c : S) → ((t u : ℕ) (x : List ℕ) → t ≤ u → strip.left_since c u x → strip.left_since c t x) → Spans strip a b → Spans strip b c → Spans strip a c
  spans-then a b c earlier first second = record {
    later = omega (arith, first.later, second.later);
    nothing_else = λ t x le since. after_first t x le (second.nothing_else t x (omega (arith, le, first.later)) since);
    keeps = λ t x le past. second.keeps t x (omega (arith, le, first.later)) (first.keeps t x le past);
  }
    where
      old_or_since : (t : ℕ) (x : List ℕ) → strip.left_since a t x ⊎ strip.left_since b (strip.moment a) x → strip.left_since a t x ⊎ strip.left_since c (strip.moment a) x
      old_or_since t x (inl past) = inl past
      old_or_since t x (inr since) = inr (second.keeps (strip.moment a) x first.later since)

      after_first : (t : ℕ) (x : List ℕ) → t ≤ strip.moment a → strip.left_since b t x ⊎ strip.left_since c (strip.moment b) x → strip.left_since a t x ⊎ strip.left_since c (strip.moment a) x
      after_first t x le (inl past) = old_or_since t x (first.nothing_else t x le past)
      after_first t x le (inr since) = inr (earlier (strip.moment a) (strip.moment b) x first.later since)

  -- whatever the start answered
  pub calls-started : (old : S) (log now : SegmentState S) (entries : List Entry) → WasStarted old log now entries → OpeningCalls strip old now.journal.strip
  calls-started old log now entries w = record {
    bytes = λ told. alike entries (strip.content old) (strip.content now.journal.strip) (w.read (was_told old log now entries w told)) (now_front old log now entries (strip.content now.journal.strip) w (w.content told));
    images = λ told c may. inr (alike entries (strip.content old) c (w.read (was_told old log now entries w told)) (now_front old log now entries c w (w.images told c may)));
    crash = λ told c since. crash_case old log now entries c w told (w.calls.time.nothing_else (strip.moment old) c w.time.later since);
    time = spans-then old log.journal.strip now.journal.strip w.earlier w.time w.calls.time;
    same = record {
      book = w.calls.same.book ∙ w.same.book;
      tells = w.calls.same.tells ∙ w.same.tells;
      tells_images = w.calls.same.tells_images ∙ w.same.tells_images;
      calls = omega (arith, w.same.calls, w.calls.same.calls);
    };
  }

  reopens_to : (entries : List Entry) (bytes : List ℕ) → HasEntries 0 0 entries bytes → ReopensTo (applied_all [] entries) (length entries) bytes
  reopens_to entries bytes h = record { entries = entries; has = h; rows_are = refl; number_is = refl }

  pub opened_read : (old : S) (entries : List Entry) → OfBytes strip old (HasEntries 0 0 entries) → OfBytes strip old (ReopensTo (applied_all [] entries) (length entries))
  opened_read old entries read = λ told. reopens_to entries (strip.content old) (read told)

  pub opened_whole : (old : S) (log now : SegmentState S) (entries : List Entry) → WasStarted old log now entries → OfImages strip now.journal.strip (ReopensTo (applied_all [] entries) (length entries))
  opened_whole old log now entries w = λ told c may. reopens_to entries c (now_front old log now entries c w (w.images told c may))

  -- the strip whose start failed, with the unit of its book or for memory
  pub start_refused : (old : S) (log now : SegmentState S) (entries : List Entry) (error : DeviceError) (refusal : OpenError) → WasStarted old log now entries → IsDeviceErrorOf error refusal → CauseOf (strip.book log.journal.strip) (strip.count log.journal.strip) (strip.count now.journal.strip) error →
      strip.count log.journal.strip ≡ strip.count old → IsRefused strip refusal old now.journal.strip
  start_refused old log now entries (device.Fault unit) refusal w is cause count = subst (λ (e : OpenError). IsRefused strip e old now.journal.strip) (sym is) (record {
    refused = λ told. tt;
    kept = λ told. inr (record { rows = applied_all [] entries; number = length entries; to = reopens_to entries (strip.content old) (w.read told) });
    cause = (cause.0 ∙ w.same.book, subst (λ (n : ℕ). RoseByOne n (strip.count now.journal.strip)) count cause.1);
    calls = calls-started old log now entries w;
  })
  start_refused old log now entries device.Memory refusal w is cause count = subst (λ (e : OpenError). IsRefused strip e old now.journal.strip) (sym is) (record {
    refused = λ told. tt;
    kept = λ told. inr (record { rows = applied_all [] entries; number = length entries; to = reopens_to entries (strip.content old) (w.read told) });
    cause = cause ∙ count;
    calls = calls-started old log now entries w;
  })

  -- the pass that was opened
  pub is_opened : (old : S) (log now : SegmentState S) (entries opened made : List Entry) → WasStarted old log now entries → opened ≡ entries → made ≡ [] → strip.count now.journal.strip ≡ strip.count old → length entries ≤ NUMBER_MAX → IsOpened strip old (state_of now opened made)
  is_opened old log now entries opened made w is none count most =
      let opens : IsOpened strip old (state_of now entries []) = record {
        fresh = record { caller = refl; ordinal = refl; none = refl; safe = omega (arith, w.kept.least, ap (λ (es : List Entry). length es) w.synced); within = most };
        reopened = opened_read old entries w.read;
        whole = opened_whole old log now entries w;
        count = count;
        calls = calls-started old log now entries w;
      } in
      subst (λ (o : List Entry). IsOpened strip old (state_of now o made)) (sym is) (subst (λ (m : List Entry). IsOpened strip old (state_of now entries m)) (sym none) opens)
