-- What the strip of a store reopens to, and what a call keeps. To know: `synced_front`, `all_synced`, `kept-flushed`,
-- `kept-entered`, `calls-flushed`, `calls-then`, `closing_calls`.
use Rattle.std.proofs.Common.{◌≡◌, ℕ, ◌+◌, ◌-◌, ◌<◌, ◌≤◌, true, List, [], ◌∷◌, ◌++◌, length, take, Result, Ok, Err, sym, ap, subst, ◌∙◌, append_assoc, arith}
use Rattle.std.specs.Prelude.{OnOk, OnErr}
use Rattle.std.specs.List.{AllByRecursion}
use Rattle.std.proofs.lemmas.List.{length-append, length-take-le, take_all}
use Rattle.std.proofs.Math.Seq.{take-append-add}
use Rattle.rdb_base.specs.declared.row.Row.{Row}
use Rattle.rdb_base.specs.declared.entry.Entry.{Entry}
use Rattle.rdb_base.specs.declared.limits.TheConstants.{NUMBER_MAX}
use Rattle.rdb_base.specs.Maps.{applied_all, changed}
use Rattle.rdb_base.proofs.HistoryLemmas.{applied_all-append}
use Rattle.rdb_base.proofs.Lists.{all-append}
use Rattle.disk_model.specs.declared.strip.Strip.{Ghosts}
use Rattle.frame_journal.specs.Devices.{SameStrip, OfBytes, OfImages, OfCrashes, Spans}
use Rattle.wal_log.specs.SegmentState.{SegmentState}
use Rattle.wal_log.specs.Logs.{HasEntries, HasFrontOf}
use Rattle.wal_log.specs.Calls.{SameEntries, HasFront, StripCalls}
use Rattle.store_run.specs.StoreState.{StoreState, state_of}
use Rattle.store_run.specs.Reopening.{ReopensTo, ReopensWithin}
use Rattle.store_run.specs.Stores.{ReopensSynced, ReopensWhole, CallsOf}
use Rattle.store_run.specs.Closing.{ClosingCalls, HasWhole}
use Rattle.store_run.specs.Kept.{IsStore}
use Rattle.store_run.specs.Appending.{Appends}

-- ---- from the entries of a log to the map

take_past : (opened made : List Entry) (n : ℕ) → length opened ≤ n → take n (opened ++ made) ≡ opened ++ take (n - length opened) made
take_past opened made n le =
    let sum : length opened + (n - length opened) ≡ n = omega (arith, le) in
    subst (λ (k : ℕ). take k (opened ++ made) ≡ opened ++ take (n - length opened) made) sum (take-append-add opened made (n - length opened))

pub reopens_front : (opened made : List Entry) (safe : ℕ) (bytes : List ℕ) → length opened ≤ safe → HasFrontOf 0 0 (opened ++ made) safe bytes → ReopensWithin (record { base = applied_all [] opened; first = length opened; entries = made }) safe bytes
reopens_front opened made safe bytes le h =
    let past : length opened ≤ h.many = omega (arith, le, h.enough) in
    record {
      number = h.many;
      enough = h.enough;
      within = omega (arith, h.within, length-append opened made);
      to = record {
        entries = take h.many (opened ++ made);
        has = h.has;
        rows_are = sym (ap (λ (es : List Entry). applied_all [] es) (take_past opened made h.many past) ∙ applied_all-append [] opened (take (h.many - length opened) made));
        number_is = sym (length-take-le h.many (opened ++ made) h.within);
      };
    }

pub reopens_all : (opened made : List Entry) (bytes : List ℕ) → HasEntries 0 0 (opened ++ made) bytes → ReopensTo (applied_all (applied_all [] opened) made) (length opened + length made) bytes
reopens_all opened made bytes h = record {
  entries = opened ++ made;
  has = h;
  rows_are = sym (applied_all-append [] opened made);
  number_is = sym (length-append opened made);
}

-- all entries, where no fewer are synced
pub front_whole : (entries : List Entry) (least : ℕ) (bytes : List ℕ) → length entries ≤ least → HasFrontOf 0 0 entries least bytes → HasEntries 0 0 entries bytes
front_whole entries least bytes le h = subst (λ (es : List Entry). HasEntries 0 0 es bytes) (take_all h.many entries (omega (arith, le, h.enough))) h.has

pub front_is : (n m f g : ℕ) (es fs : List Entry) (least : ℕ) (bytes : List ℕ) → n ≡ m → f ≡ g → es ≡ fs → HasFrontOf n f es least bytes → HasFrontOf m g fs least bytes
front_is n m f g es fs least bytes a b c h =
    subst (λ (k : ℕ). HasFrontOf k g fs least bytes) a (subst (λ (k : ℕ). HasFrontOf n k fs least bytes) b (subst (λ (l : List Entry). HasFrontOf n f l least bytes) c h))

-- ---- of a store

module _ {S : Type 0} (strip : Ghosts S) where
  pub synced_front : (log : SegmentState S) (rows : List Row) (begun : ℕ) (opened made : List Entry) → IsStore strip log rows begun opened made → (bytes : List ℕ) → HasFront log bytes → ReopensSynced (state_of log opened made) bytes
  synced_front log rows begun opened made kept bytes h = reopens_front opened made (length log.synced) bytes kept.found (front_is log.number 0 log.first 0 log.entries (opened ++ made) (length log.synced) bytes kept.number kept.first kept.entries h)

  pub all_synced : (log : SegmentState S) (rows : List Row) (begun : ℕ) (opened made : List Entry) → IsStore strip log rows begun opened made → log.synced ≡ log.entries → (bytes : List ℕ) → HasFront log bytes → ReopensWhole (state_of log opened made) bytes
  all_synced log rows begun opened made kept synced bytes h =
      let front = front_is log.number 0 log.first 0 log.entries (opened ++ made) (length log.synced) bytes kept.number kept.first kept.entries h in
      let whole : length (opened ++ made) ≤ length log.synced = omega (arith, ap (λ (es : List Entry). length es) synced, ap (λ (es : List Entry). length es) kept.entries) in
      reopens_all opened made bytes (front_whole (opened ++ made) (length log.synced) bytes whole front)

  -- what a flush leaves of a store
  pub kept-flushed : (log now : SegmentState S) (rows : List Row) (begun : ℕ) (opened made : List Entry) → IsStore strip log rows begun opened made → SameEntries log now → now.headed ≡ true → SameStrip strip 8 log.journal.strip now.journal.strip → IsStore strip now rows begun opened made
  kept-flushed log now rows begun opened made kept same headed strips = record {
    device = ap (λ book. book.device) strips.book ∙ kept.device;
    number = same.number ∙ kept.number;
    first = same.first ∙ kept.first;
    headed = headed;
    entries = same.entries ∙ kept.entries;
    begins = kept.begins;
    found = omega (arith, kept.found, same.least);
    most = kept.most;
    rows_are = kept.rows_are ∙ ap (λ (es : List Entry). applied_all [] es) (sym same.entries);
    own = kept.own;
  }

  -- what making room leaves of it
  pub kept-same : (log now : SegmentState S) (rows : List Row) (begun : ℕ) (opened made : List Entry) → IsStore strip log rows begun opened made →
      now.number ≡ log.number → now.first ≡ log.first → now.headed ≡ log.headed → now.journal ≡ log.journal → now.synced ≡ log.synced → now.entries ≡ log.entries → IsStore strip now rows begun opened made
  kept-same log now rows begun opened made kept number first headed journal synced entries = record {
    device = ap (λ j. (strip.book j.strip).device) journal ∙ kept.device;
    number = number ∙ kept.number;
    first = first ∙ kept.first;
    headed = headed ∙ kept.headed;
    entries = entries ∙ kept.entries;
    begins = kept.begins;
    found = omega (arith, kept.found, ap (λ (es : List Entry). length es) synced);
    most = kept.most;
    rows_are = kept.rows_are ∙ ap (λ (es : List Entry). applied_all [] es) (sym entries);
    own = kept.own;
  }

  -- what an update leaves of it
  pub kept-entered : (log now : SegmentState S) (rows new : List Row) (begun : ℕ) (opened made more : List Entry) (entry : Entry) → IsStore strip log rows begun opened made → length opened + length made < NUMBER_MAX →
      Appends log entry now → new ≡ changed rows entry.key entry.change → more ≡ made ++ entry ∷ [] → entry.caller ≡ 0 → IsStore strip now new begun opened more
  kept-entered log now rows new begun opened made more entry kept few appends map is caller = record {
    device = ap (λ j. (strip.book j.strip).device) appends.journal ∙ kept.device;
    number = appends.number ∙ kept.number;
    first = appends.first ∙ kept.first;
    headed = appends.headed;
    entries = appends.entries ∙ ap (λ (es : List Entry). es ++ entry ∷ []) kept.entries ∙ append_assoc opened made (entry ∷ []) ∙ ap (λ (es : List Entry). opened ++ es) (sym is);
    begins = kept.begins;
    found = omega (arith, kept.found, ap (λ (es : List Entry). length es) appends.synced);
    most = omega (arith, few, ap (λ (es : List Entry). length es) is, length-append made (entry ∷ []));
    rows_are = map ∙ ap (λ (m : List Row). changed m entry.key entry.change) kept.rows_are ∙ sym (applied_all-append [] log.entries (entry ∷ [])) ∙ ap (λ (es : List Entry). applied_all [] es) (sym appends.entries);
    own = subst (λ (es : List Entry). AllByRecursion (λ (e : Entry). e.caller ≡ 0) es) (sym is) (all-append (λ (e : Entry). e.caller ≡ 0) made (entry ∷ []) kept.own (caller, tt));
  }

  -- the same, whether the map had memory for it or not
  pub kept-appended : {E : Type 0} (result : Result ℕ E) (log now : SegmentState S) (rows new : List Row) (begun : ℕ) (opened made more : List Entry) (entry : Entry) → IsStore strip log rows begun opened made → length opened + length made < NUMBER_MAX → entry.caller ≡ 0 →
      OnOk result (new ≡ changed rows entry.key entry.change) → OnOk result (more ≡ made ++ entry ∷ []) → OnOk result (Appends log entry now) → OnErr result ((new ≡ rows) × (more ≡ made) × (now ≡ log)) → IsStore strip now new begun opened more
  kept-appended (Ok n) log now rows new begun opened made more entry kept few caller map is appends refused =
      kept-entered log now rows new begun opened made more entry kept few appends map is caller
  kept-appended (Err e) log now rows new begun opened made more entry kept few caller map is appends refused =
      subst (λ (m : List Row). IsStore strip now m begun opened more) (sym refused.0)
      (subst (λ (es : List Entry). IsStore strip now rows begun opened es) (sym refused.1) (subst (λ (l : SegmentState S). IsStore strip l rows begun opened made) (sym refused.2) kept))

  -- the calls of a flush are those of a store's call
  pub calls-flushed : (log now : SegmentState S) (rows : List Row) (begun : ℕ) (opened made : List Entry) → IsStore strip log rows begun opened made → StripCalls strip 8 log now → CallsOf strip 8 (state_of log opened made) (state_of now opened made)
  calls-flushed log now rows begun opened made kept calls = record {
    crash = λ told c since. synced_front log rows begun opened made kept c (calls.crash told c since);
    time = calls.time;
    same = calls.same;
  }

  -- it made no call after these
  pub calls-then : (old between new : StoreState S) → CallsOf strip 8 old between → new.log.journal ≡ between.log.journal → CallsOf strip 8 old new
  calls-then old between new calls same =
      let at = ap (λ j. j.strip) same in
      record {
        crash = subst (λ s. OfCrashes strip old.log.journal.strip s (ReopensSynced old)) (sym at) calls.crash;
        time = subst (λ s. Spans strip old.log.journal.strip s) (sym at) calls.time;
        same = subst (λ s. SameStrip strip 8 old.log.journal.strip s) (sym at) calls.same;
      }

  -- what the closing flush leaves of the strip
  pub closing_calls : (log now : SegmentState S) (rows : List Row) (begun : ℕ) (opened made : List Entry) → IsStore strip log rows begun opened made → SameEntries log now → StripCalls strip 8 log now →
      OfBytes strip now.journal.strip (HasFront now) → OfImages strip now.journal.strip (HasFront now) → ClosingCalls strip (state_of log opened made) now.journal.strip
  closing_calls log now rows begun opened made kept same calls content images =
      let fewer = λ (bytes : List ℕ) (h : HasFront now bytes).
      let all : HasFrontOf log.number log.first log.entries (length now.synced) bytes = front_is now.number log.number now.first log.first now.entries log.entries (length now.synced) bytes same.number same.first same.entries h in
      let front : HasFront log bytes = record { many = all.many; enough = omega (arith, all.enough, same.least); within = all.within; has = all.has } in
      synced_front log rows begun opened made kept bytes front in
      record {
        content = λ told. fewer (strip.content now.journal.strip) (content told);
        images = λ told c may. fewer c (images told c may);
        crash = λ told c since. synced_front log rows begun opened made kept c (calls.crash told c since);
        time = calls.time;
        same = calls.same;
      }

  -- after a closing flush that succeeded
  pub closing_whole : (log now : SegmentState S) (rows : List Row) (begun : ℕ) (opened made : List Entry) → IsStore strip log rows begun opened made → SameEntries log now → now.headed ≡ true → StripCalls strip 8 log now →
      OfBytes strip now.journal.strip (HasFront now) → OfImages strip now.journal.strip (HasFront now) → now.synced ≡ now.entries → HasWhole strip (state_of log opened made) now.journal.strip
  closing_whole log now rows begun opened made kept same headed calls content images synced =
      let after = kept-flushed log now rows begun opened made kept same headed calls.same in
      record {
        content = λ told. all_synced now rows begun opened made after synced (strip.content now.journal.strip) (content told);
        images = λ told c may. all_synced now rows begun opened made after synced c (images told c may);
      }

-- what follows where a call succeeded
pub on_ok-then : {A E : Type 0} (P Q : Type 0) (result : Result A E) → (P → Q) → OnOk result P → OnOk result Q
on_ok-then P Q (Ok x) f h = f h
on_ok-then P Q (Err e) f h = tt
