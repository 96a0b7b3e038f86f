-- What a script made of the bytes, by the steps of the call. To know: `run_ends`, `refused_ends`, `failed_ends`.
use Rattle.std.proofs.Common.{◌≡◌, ℕ, zero, suc, ◌+◌, ◌^◌, ◌<◌, ◌≤◌, Bool, true, false, cond, List, [], ◌∷◌, ◌++◌, length, Option, Some, None, refl, sym, ap, subst, ◌∙◌, arith, inl, inr, ◌⊎◌}
use Rattle.std.specs.Prelude.{IsTrue, IfSome, Result, Ok, Err, OnOk}
use Rattle.fault_count.specs.Counts.{Rose, one_more}
use Rattle.disk_model.specs.Books.{BookName}
use Rattle.host_model.proofs.HostLemmas.{first_risen-rose, first_risen-kept}
use Rattle.std.specs.List.{AllByRecursion}
use Rattle.rdb_base.specs.declared.row.Row.{Row}
use Rattle.rdb_base.specs.declared.entry.Entry.{Entry}
use Rattle.rdb_base.specs.Maps.{applied_all}
use Rattle.disk_model.specs.declared.strip.Strip.{Ghosts}
use Rattle.disk_model.specs.declared.device_error.DeviceError.{DeviceError}
use Rattle.disk_model.specs.declared.device_error.DeviceError.TheVariants as device
use Rattle.disk_model.specs.Piles.{Units, number_at, book_at}
use Rattle.frame_journal.specs.Devices.{OfBytes, OfImages as OfStripImages}
use Rattle.frame_journal.specs.Frames.{HasNoTorn, IsTornAt}
use Rattle.history_core.specs.declared.request.Request.{Request}
use Rattle.history_core.specs.declared.reply.Reply.{Reply}
use Rattle.history_core.specs.Passes.{PassState, front_of, map_of}
use Rattle.history_core.specs.PassLaws.{ArePlain}
use Rattle.session_core.specs.declared.session_end.SessionEnd.{SessionEnd}
use Rattle.session_core.specs.declared.session_end.SessionEnd.TheVariants.{End, Quit as Quitted, Bad, Cut, Spent, SourceFault, SinkFault, Memory}
use Rattle.session_core.specs.Answering.{PassAnswers, operations_of}
use Rattle.session_core.specs.Telling.{AreOf}
use Rattle.session_core.specs.Conversations.{SessionEnds, scene_of}
use Rattle.session_core.specs.Laws.{Begins}
use Rattle.session_core.proofs.SessionLemmas.{answers_give_session, answers_alone_are_session, answers_alone_are_plain, answers_know_synced}
use Rattle.store_run.specs.StoreState.{StoreState}
use Rattle.store_run.specs.Stores.{pass_of}
use Rattle.store_run.specs.Reopening.{Reopens, ReopensTo, ReopensWithin, ReopensAlike}
use Rattle.store_run.specs.Openings.{IsFresh, IsOpened, IsRefused, IsRefusedBy}
use Rattle.store_run.specs.Closing.{IsClosed, HasWhole}
use Rattle.store_run.specs.declared.open_error.OpenError.{OpenError}
use Rattle.store_run.specs.declared.open_error.OpenError.TheVariants as open_error
use Rattle.host_model.specs.HostState.{HostState, HandsOutNone, strip_bytes}
use Rattle.host_model.specs.Lent.{risen}
use Rattle.remixdb.specs.Outcomes.{status_of, outcome_of_end, outcome_of_run, outcome_of_refusal, outcome_of_failure, IsCleanOfDevices, IsOfSession}
use Rattle.remixdb.specs.Scripts.{HomeState, OfStrip, OfImages, OthersStay, IsSilent, IsIdle, NotServed, Served, IsOneSession, HasAll, HasCauses, ScriptEnds, IsWellFormed, home_of}
use Rattle.remixdb.proofs.Failing.{SessionTold, session_told, Least, CleanRun, failed_rose, clean_run, session_is_clean, all_told, told_counted}
use Rattle.remixdb.proofs.WellFormed.{never_badly}

-- ---- the first strip

some_is : {A : Type 0} (a b : A) → Some a ≡ Some b → a ≡ b
some_is a b e = cc

-- what a strip is known to be whose bytes contracts see
known_told : {S : Type 0} (strip : Ghosts S) (s : S) (bytes : List ℕ) → strip_bytes strip s ≡ Some bytes → IsTrue (strip.tells s) × (strip.content s ≡ bytes)
known_told strip s bytes e = by_told (strip.tells s) refl e
  where
    by_told : (told : Bool) → strip.tells s ≡ told → cond told (Some (strip.content s)) None ≡ Some bytes → IsTrue (strip.tells s) × (strip.content s ≡ bytes)
    by_told true t e = (t, some_is (strip.content s) bytes e)
    by_told false t e = absurd cc

of_strip : {S : Type 0} (strip : Ghosts S) (s : S) (home : HomeState) (P : List ℕ → Type 0) → home.strip ≡ strip_bytes strip s → OfBytes strip s P → OfStrip home P
of_strip strip s home P is holds = λ bytes at. let k = known_told strip s bytes (sym is ∙ at) in subst (λ (t : List ℕ). P t) k.1 (holds k.0)

of_images : {S : Type 0} (strip : Ghosts S) (s : S) (leaves : List ℕ → Type 0) (home : HomeState) (P : List ℕ → Type 0) → home.strip ≡ strip_bytes strip s → ((c : List ℕ) → leaves c → strip.may_leave s c) → OfBytes strip s P → OfStripImages strip s P → OfImages leaves home P
of_images strip s leaves home P is narrows holds images = λ bytes at. let k = known_told strip s bytes (sym is ∙ at) in (subst (λ (t : List ℕ). P t) k.1 (holds k.0), λ c left. images k.0 c (narrows c left))

-- ---- the session

begins_fresh : (pass : PassState) → IsFresh pass → Begins pass
begins_fresh pass fresh = record { caller = fresh.caller; ordinal = fresh.ordinal; nothing = fresh.none }

one_session : (pass now : PassState) → Begins pass → AllByRecursion (λ (entry : Entry). entry.caller ≡ 0) now.seen.entries → (asked : List Request) (answered : List Reply) → PassAnswers pass asked answered now → IsOneSession pass now asked answered
one_session pass now b own asked answered p =
    let operations = operations_of asked answered in
    let seen : now.seen.entries ≡ pass.seen.entries ++ now.seen.entries = ap (λ (es : List Entry). es ++ now.seen.entries) (sym b.nothing) in
    let callers : AllByRecursion (λ (entry : Entry). entry.caller ≡ pass.caller) now.seen.entries = subst (λ (n : ℕ). AllByRecursion (λ (entry : Entry). entry.caller ≡ n) now.seen.entries) (sym b.caller) own in
    let plain : ArePlain (map_of pass) (front_of pass) operations = answers_alone_are_plain pass now asked answered now.seen.entries p seen callers in
    let front : front_of pass ≡ pass.seen.first = omega (arith, ap (λ (es : List Entry). length es) b.nothing) in
    let rows : map_of pass ≡ pass.seen.base = ap (λ (es : List Entry). applied_all pass.seen.base es) b.nothing in
    record {
      session = answers_alone_are_session pass now asked answered p b own;
      replies = answers_give_session pass now asked answered p;
      plain = subst (λ (m : List Row). ArePlain m pass.seen.first operations) rows (subst (λ (n : ℕ). ArePlain (map_of pass) n operations) front plain);
      synced = answers_know_synced pass now asked answered p;
    }

-- ---- a script that served a session

-- the steps of the call
pub record Run {S : Type 0} (strip : Ghosts S) (leaves : List ℕ → Type 0) (old new : HomeState) : Type 0 where
  pub first : S
  pub last : S
  pub before : StoreState S
  pub after : StoreState S
  pub end : SessionEnd
  pub decided : ℕ
  pub units : List (Option Units)
  pub all : List (Option Units)
  pub short : Bool
  pub failed : Option ℕ
  pub opened : IsOpened strip first before
  pub ends : SessionEnds end 0 (scene_of old.input old.output (pass_of strip before) []) (scene_of new.input new.output (pass_of strip after) units) decided
  pub closed : IsClosed strip after units all short last
  pub own : AllByRecursion (λ (entry : Entry). entry.caller ≡ 0) after.made
  pub least : Least failed all
  pub was : old.strip ≡ strip_bytes strip first
  pub is : new.strip ≡ strip_bytes strip last
  pub narrows : (c : List ℕ) → leaves c → strip.may_leave last c
  pub within : strip.count first ≤ old.device_faults
  pub fits : strip.count first < 2 ^ 64
  pub faults : new.device_faults ≡ risen old.device_faults (strip.count first ∷ []) (strip.count last ∷ [])
  pub of_first : (device : ℕ) → IfSome (book_at units device) (λ (book : BookName). book.device ≡ 0)
  pub others : OthersStay old new

told_of : {S : Type 0} (strip : Ghosts S) (leaves : List ℕ → Type 0) (old new : HomeState) (r : Run strip leaves old new) → SessionTold (strip.count r.first) (strip.count r.after.log.journal.strip) r.units
told_of strip leaves old new r =
    subst (λ (n : ℕ). SessionTold n (strip.count r.after.log.journal.strip) r.units) r.opened.count
    (session_told r.end r.decided old.input old.output new.input new.output (pass_of strip r.before) (pass_of strip r.after) r.units r.ends)

served : {S : Type 0} (strip : Ghosts S) (leaves : List ℕ → Type 0) (old new : HomeState) (r : Run strip leaves old new) → Served leaves old new
served strip leaves old new r =
    let b = begins_fresh (pass_of strip r.before) r.opened.fresh in
    let told = told_of strip leaves old new r in
    record {
      end = r.end;
      decided = r.decided;
      pass = pass_of strip r.before;
      now = pass_of strip r.after;
      units = r.units;
      ends = r.ends;
      begins = b;
      begun = of_strip strip r.first old (ReopensTo (pass_of strip r.before).seen.base (pass_of strip r.before).seen.first) r.was r.opened.reopened;
      own = r.own;
      session = one_session (pass_of strip r.before) (pass_of strip r.after) b r.own;
      left = of_images strip r.last leaves new (ReopensWithin (pass_of strip r.after).seen (pass_of strip r.after).safe) r.is r.narrows r.closed.calls.content r.closed.calls.images;
      devices = r.of_first;
      counted = told_counted (strip.count r.first) (strip.count r.after.log.journal.strip) (strip.count r.last) old.device_faults new.device_faults (number_at r.units 0) r.within (told.each 0) r.closed.cause.later r.faults;
    }

all_left : {S : Type 0} (strip : Ghosts S) (leaves : List ℕ → Type 0) (old new : HomeState) (r : Run strip leaves old new) → HasWhole strip r.after r.last → HasAll leaves new (pass_of strip r.after)
all_left strip leaves old new r whole = of_images strip r.last leaves new (ReopensTo (map_of (pass_of strip r.after)) (front_of (pass_of strip r.after))) r.is r.narrows whole.content whole.images

clean_of : {S : Type 0} (strip : Ghosts S) (leaves : List ℕ → Type 0) (old new : HomeState) (r : Run strip leaves old new) → IsOfSession (status_of (outcome_of_run r.short r.failed r.end)) → CleanRun (HasWhole strip r.after r.last) r.short r.failed r.end (strip.count r.first) (strip.count r.last) r.units
clean_of strip leaves old new r is =
    clean_run (HasWhole strip r.after r.last) r.short r.failed r.closed.flushed r.end _ _ _ _ r.units r.all (told_of strip leaves old new r) r.closed.cause r.closed.units r.closed.whole r.least (session_is_clean (status_of (outcome_of_run r.short r.failed r.end)) is)

run_status : (short : Bool) (failed : Option ℕ) (end : SessionEnd) → IsOfSession (status_of (outcome_of_run short failed end)) ⊎ ((status_of (outcome_of_run short failed end) ≡ 4) ⊎ (status_of (outcome_of_run short failed end) ≡ 6))
run_status true failed end = inr (inr refl)
run_status false failed Memory = inr (inr refl)
run_status false (Some number) End = inr (inl refl)
run_status false (Some number) Quitted = inr (inl refl)
run_status false (Some number) (Bad at code) = inr (inl refl)
run_status false (Some number) (Cut at) = inr (inl refl)
run_status false (Some number) Spent = inr (inl refl)
run_status false (Some number) SourceFault = inr (inl refl)
run_status false (Some number) SinkFault = inr (inl refl)
run_status false None End = inl (inl refl)
run_status false None Quitted = inl (inl refl)
run_status false None (Bad at code) = inl (inr (inl refl))
run_status false None (Cut at) = inl (inr (inl refl))
run_status false None Spent = inl (inr (inl refl))
run_status false None SourceFault = inl (inr (inr refl))
run_status false None SinkFault = inl (inr (inr refl))

not_three : (short : Bool) (failed : Option ℕ) (end : SessionEnd) → status_of (outcome_of_run short failed end) ≡ 3 → ⊥
not_three short failed end e = omega (arith, e, run_status short failed end)

pub run_ends : {S : Type 0} (strip : Ghosts S) (left leaves : List ℕ → Type 0) (old new : HomeState) (r : Run strip leaves old new) (status : ℕ) → status ≡ status_of (outcome_of_run r.short r.failed r.end) → ScriptEnds status left leaves old new
unfolding served
run_ends strip left leaves old new r status e =
    let s = served strip leaves old new r in
    let here : IsOfSession status → CleanRun (HasWhole strip r.after r.last) r.short r.failed r.end (strip.count r.first) (strip.count r.last) r.units = λ is. clean_of strip leaves old new r (subst (λ (n : ℕ). IsOfSession n) e is) in
    record {
      ended = λ is. let clean = here is in (s, e ∙ ap status_of clean.outcome, clean.none, all_left strip leaves old new r clean.whole);
      refused = λ three. absurd (not_three r.short r.failed r.end (sym e ∙ three));
      failed = λ four. inr (s, λ all below. all_left strip leaves old new r (all_told (HasWhole strip r.after r.last) r.short r.failed r.closed.flushed r.end _ _ _ _ old.device_faults new.device_faults r.units r.all r.within (told_of strip leaves old new r) r.closed.cause r.closed.units r.closed.whole r.faults (sym e ∙ four) all below));
      short = λ six. inr s;
      idle = inl (of_strip strip r.first old Reopens r.was (λ told. record { rows = (pass_of strip r.before).seen.base; number = (pass_of strip r.before).seen.first; to = r.opened.reopened told }));
      others = r.others;
      complete = λ input is well few one. never_badly r.end r.decided input old.output new.input new.output (pass_of strip r.before) (pass_of strip r.after) r.units (subst (λ (o : Option (List ℕ)). SessionEnds r.end 0 (scene_of o old.output (pass_of strip r.before) []) (scene_of new.input new.output (pass_of strip r.after) r.units) r.decided) is r.ends) well few (sym (ap status_of (here (inr (inl one))).outcome) ∙ sym e ∙ one);
    }

-- status 4 is that of a run in which the host's count of device faults rose, and a status of lower rank that of none
pub run_failed : {S : Type 0} (strip : Ghosts S) (leaves : List ℕ → Type 0) (old new : HomeState) (r : Run strip leaves old new) → status_of (outcome_of_run r.short r.failed r.end) ≡ 4 → Rose old.device_faults new.device_faults
run_failed strip leaves old new r four =
    first_risen-rose old.device_faults (strip.count r.first) (strip.count r.last) new.device_faults [] r.within r.faults
    (failed_rose r.short r.failed r.closed.flushed r.end _ _ _ _ r.units r.all r.fits (told_of strip leaves old new r) r.closed.cause r.closed.units r.least four)

pub run_kept : {S : Type 0} (strip : Ghosts S) (leaves : List ℕ → Type 0) (old new : HomeState) (r : Run strip leaves old new) → IsCleanOfDevices (status_of (outcome_of_run r.short r.failed r.end)) → new.device_faults ≡ old.device_faults
run_kept strip leaves old new r clean =
    first_risen-kept old.device_faults (strip.count r.first) (strip.count r.last) new.device_faults [] r.faults
    (clean_run (HasWhole strip r.after r.last) r.short r.failed r.closed.flushed r.end _ _ _ _ r.units r.all (told_of strip leaves old new r) r.closed.cause r.closed.units r.closed.whole r.least clean).kept

-- a count that a session told of and a flush went on from never falls
pub told_later : (b c d : ℕ) (units : List (Option Units)) → b < 2 ^ 64 → SessionTold b c units → c ≤ d → b ≤ d
told_later b c d units fits told later = omega (arith, fits, told.each 0, later)

-- the same session, where its bytes are those of these streams
pub ends_at : (end : SessionEnd) (decided : ℕ) (i o l p input output left put : Option (List ℕ)) (pass now : PassState) (units : List (Option Units)) → i ≡ input → o ≡ output → l ≡ left → p ≡ put → SessionEnds end 0 (scene_of input output pass []) (scene_of left put now units) decided → SessionEnds end 0 (scene_of i o pass []) (scene_of l p now units) decided
ends_at end decided i o l p input output left put pass now units is_i is_o is_l is_p h =
    subst (λ (t : Option (List ℕ)). SessionEnds end 0 (scene_of t o pass []) (scene_of l p now units) decided) (sym is_i)
    (subst (λ (t : Option (List ℕ)). SessionEnds end 0 (scene_of input t pass []) (scene_of l p now units) decided) (sym is_o)
    (subst (λ (t : Option (List ℕ)). SessionEnds end 0 (scene_of input output pass []) (scene_of t p now units) decided) (sym is_l)
    (subst (λ (t : Option (List ℕ)). SessionEnds end 0 (scene_of input output pass []) (scene_of left t now units) decided) (sym is_p) h)))

-- the book of a device
abbrev book_named : ℕ → BookName
book_named device = record { device = device }

-- units of device 0's book are of the book of a strip that is device 0
pub of_its_book : (o : Option BookName) (b : BookName) → b.device ≡ 0 → IfSome o (λ (book : BookName). book ≡ book_named 0) → IfSome o (λ (book : BookName). book ≡ b)
of_its_book None b first is = tt
of_its_book (Some book) b first is = is ∙ sym (ap book_named first)

device_is : (o : Option BookName) → IfSome o (λ (book : BookName). book ≡ book_named 0) → IfSome o (λ (book : BookName). book.device ≡ 0)
device_is None is = tt
device_is (Some book) is = ap (λ (b : BookName). b.device) is

pub of_first : (units : List (Option Units)) → AreOf (λ (device : ℕ). book_named 0) units → (device : ℕ) → IfSome (book_at units device) (λ (book : BookName). book.device ≡ 0)
of_first units books device = device_is (book_at units device) (books device)

-- ---- a script that served none

-- such a status is 3, 4 or 6
not_served : (status : ℕ) → (status ≡ 3) ⊎ ((status ≡ 4) ⊎ (status ≡ 6)) → IsOfSession status → ⊥
not_served status is of_session = omega (arith, is, of_session)

refused_status : (error : OpenError) → (status_of (outcome_of_refusal error) ≡ 3) ⊎ ((status_of (outcome_of_refusal error) ≡ 4) ⊎ (status_of (outcome_of_refusal error) ≡ 6))
refused_status (open_error.Device unit) = inr (inl refl)
refused_status (open_error.TornHeader strip at) = inl refl
refused_status (open_error.BadEntry strip frame at) = inl refl
refused_status (open_error.LogGap want found) = inl refl
refused_status open_error.Memory = inr (inr refl)

-- bytes that are refused so reopen to no map
never_reopens : (error : OpenError) (bytes : List ℕ) → status_of (outcome_of_refusal error) ≡ 3 → IsRefusedBy error bytes → Reopens bytes → ⊥
never_reopens (open_error.TornHeader strip at) bytes three refused r = r.to.has.whole at refused.1
never_reopens (open_error.BadEntry strip frame at) bytes three refused r = let both = sym refused.1 ∙ r.to.has.read in cc
never_reopens (open_error.LogGap want found) bytes three refused r = let both = sym refused.1 ∙ r.to.has.read in cc
never_reopens (open_error.Device unit) bytes three refused r = omega (arith, three)
never_reopens open_error.Memory bytes three refused r = omega (arith, three)

-- the strip that came back from an opening
pub record Refused {S : Type 0} (strip : Ghosts S) (error : OpenError) (left leaves : List ℕ → Type 0) (old new : HomeState) : Type 0 where
  pub first : S
  pub last : S
  pub is_refused : IsRefused strip error first last
  pub was : old.strip ≡ strip_bytes strip first
  pub is : new.strip ≡ strip_bytes strip last
  pub widens : (c : List ℕ) → strip.may_leave first c → left c
  pub narrows : (c : List ℕ) → leaves c → strip.may_leave last c
  pub silent : IsSilent old new
  pub others : OthersStay old new

-- its bytes are as they were, or they reopen to a map
kept_or_reopens : {S : Type 0} (strip : Ghosts S) (error : OpenError) (left leaves : List ℕ → Type 0) (old new : HomeState) (r : Refused strip error left leaves old new) → OfStrip old Reopens ⊎ (new.strip ≡ old.strip)
kept_or_reopens strip error left leaves old new r = by_told (strip.tells r.first) refl
  where
    same_bytes : strip.tells r.first ≡ true → strip.content r.last ≡ strip.content r.first → new.strip ≡ old.strip
    same_bytes t same =
        let u : strip.tells r.last ≡ true = r.is_refused.calls.same.tells ∙ t in
        let one : strip_bytes strip r.last ≡ Some (strip.content r.last) = rw u refl in
        let two : strip_bytes strip r.first ≡ Some (strip.content r.first) = rw t refl in
        r.is ∙ one ∙ ap (λ (bytes : List ℕ). Some bytes) same ∙ sym two ∙ sym r.was

    by_told : (told : Bool) → strip.tells r.first ≡ told → OfStrip old Reopens ⊎ (new.strip ≡ old.strip)
    by_told false t =
        let none : strip_bytes strip r.first ≡ None = rw t refl in
        inl (λ bytes at. let nothing : None ≡ Some bytes = sym (r.was ∙ none) ∙ at in absurd cc)
    by_told true t = elim (r.is_refused.kept t) [ inl same ↦ inr (same_bytes t same) | inr reopens ↦ inl (of_strip strip r.first old Reopens r.was (λ told. reopens)) ]

not_served_at_all : {S : Type 0} (strip : Ghosts S) (error : OpenError) (left leaves : List ℕ → Type 0) (old new : HomeState) (r : Refused strip error left leaves old new) → NotServed left leaves old new
not_served_at_all strip error left leaves old new r = record {
  silent = r.silent;
  alike = λ before at. of_strip strip r.last new (ReopensAlike before) r.is (λ told.
      let k = known_told strip r.first before (sym r.was ∙ at) in
      subst (λ (bytes : List ℕ). ReopensAlike bytes (strip.content r.last)) k.1 (r.is_refused.calls.bytes told));
  images = λ before at now is image may.
      let k = known_told strip r.first before (sym r.was ∙ at) in
      let told = (known_told strip r.last now (sym r.is ∙ is)).0 in
      elim (r.is_refused.calls.images told image (r.narrows image may)) [
        | inl was ↦ inl (r.widens image was)
        | inr alike ↦ inr (subst (λ (bytes : List ℕ). ReopensAlike bytes image) k.1 alike)
      ];
}

pub refused_ends : {S : Type 0} (strip : Ghosts S) (error : OpenError) (left leaves : List ℕ → Type 0) (old new : HomeState) (r : Refused strip error left leaves old new) (status : ℕ) → status ≡ status_of (outcome_of_refusal error) → ScriptEnds status left leaves old new
refused_ends strip error left leaves old new r status e =
    let none : IsOfSession status → ⊥ = λ is. not_served (status_of (outcome_of_refusal error)) (refused_status error) (subst (λ (n : ℕ). IsOfSession n) e is) in
    let never : status ≡ 3 → OfStrip old (λ bytes. Reopens bytes → ⊥) = λ three. of_strip strip r.first old (λ (bytes : List ℕ). Reopens bytes → ⊥) r.was (λ told. never_reopens error (strip.content r.first) (sym e ∙ three) (r.is_refused.refused told)) in
    record {
      ended = λ is. absurd (none is);
      refused = λ three. (record { silent = r.silent; strip = strip_kept three }, never three);
      failed = λ four. inl (not_served_at_all strip error left leaves old new r);
      short = λ six. inl (not_served_at_all strip error left leaves old new r);
      idle = elim (kept_or_reopens strip error left leaves old new r) [ inl reopens ↦ inl reopens | inr same ↦ inr (record { silent = r.silent; strip = same }) ];
      others = r.others;
      complete = λ input is well few one. absurd (none (inr (inl one)));
    }
  where
    strip_kept : status ≡ 3 → new.strip ≡ old.strip
    strip_kept three = r.is ∙ same_bytes (strip.tells r.first) refl ∙ sym r.was
      where
        same_bytes : (told : Bool) → strip.tells r.first ≡ told → strip_bytes strip r.last ≡ strip_bytes strip r.first
        same_bytes false t = let u : strip.tells r.last ≡ false = r.is_refused.calls.same.tells ∙ t in rw (u, t) refl
        same_bytes true t =
            let u : strip.tells r.last ≡ true = r.is_refused.calls.same.tells ∙ t in
            let same : strip.content r.last ≡ strip.content r.first = elim (r.is_refused.kept t) [ inl same ↦ same | inr reopens ↦ absurd (never_reopens error (strip.content r.first) (sym e ∙ three) (r.is_refused.refused t) reopens) ] in
            rw (u, t) (ap (λ (bytes : List ℕ). Some bytes) same)

failed_status : (error : DeviceError) → (status_of (outcome_of_failure error) ≡ 3) ⊎ ((status_of (outcome_of_failure error) ≡ 4) ⊎ (status_of (outcome_of_failure error) ≡ 6))
failed_status (device.Fault unit) = inr (inl refl)
failed_status device.Memory = inr (inr refl)

failed_not_three : (error : DeviceError) → status_of (outcome_of_failure error) ≡ 3 → ⊥
failed_not_three (device.Fault unit) e = omega (arith, e)
failed_not_three device.Memory e = omega (arith, e)

-- devices that were not handed out: only a count may have changed
pub failed_ends : (error : DeviceError) (left leaves : List ℕ → Type 0) (old new : HomeState) (status : ℕ) → IsIdle old new → OthersStay old new → ((c : List ℕ) → leaves c → left c) → status ≡ status_of (outcome_of_failure error) → ScriptEnds status left leaves old new
failed_ends error left leaves old new status idle others narrows e =
    let none : IsOfSession status → ⊥ = λ is. not_served (status_of (outcome_of_failure error)) (failed_status error) (subst (λ (n : ℕ). IsOfSession n) e is) in
    let alike : NotServed left leaves old new = record {
      silent = idle.silent;
      alike = λ before at after is rows number to.
          let same : before ≡ after = some_is before after (sym at ∙ sym idle.strip ∙ is) in
          subst (λ (bytes : List ℕ). ReopensTo rows number bytes) same to;
      images = λ before at now is image may. inl (narrows image may);
    } in
    record {
      ended = λ is. absurd (none is);
      refused = λ three. absurd (failed_not_three error (sym e ∙ three));
      failed = λ four. inl alike;
      short = λ six. inl alike;
      idle = inr idle;
      others = others;
      complete = λ input is well few one. absurd (none (inr (inl one)));
    }

-- what such a host then is
pub failed_idle : (error : DeviceError) (old new : HostState) → HandsOutNone error old new → IsIdle (home_of old) (home_of new) × OthersStay (home_of old) (home_of new)
failed_idle (device.Fault unit) old new (of, is) = rw is (record { silent = record { input = refl; output = refl }; strip = refl }, record { strips = refl; files = refl })
failed_idle device.Memory old new is = rw is (record { silent = record { input = refl; output = refl }; strip = refl }, record { strips = refl; files = refl })

-- and what it counted
pub failed_causes : (error : DeviceError) (old new : HostState) (status : ℕ) → HandsOutNone error old new → status ≡ status_of (outcome_of_failure error) → HasCauses status old new
failed_causes (device.Fault unit) old new status (of, is) e = record {
  device_failed = λ four. let rose : new.devices.faults ≡ one_more old.devices.faults = ap (λ (h : HostState). h.devices.faults) is in omega (arith, rose);
  device_kept = λ clean. absurd (omega (arith, e, clean));
  stream_failed = λ five. absurd (omega (arith, e, five));
  stream_kept = λ clean. ap (λ (h : HostState). h.streams.faults) is;
}
failed_causes device.Memory old new status is e = record {
  device_failed = λ four. absurd (omega (arith, e, four));
  device_kept = λ clean. ap (λ (h : HostState). h.devices.faults) is;
  stream_failed = λ five. absurd (omega (arith, e, five));
  stream_kept = λ clean. ap (λ (h : HostState). h.streams.faults) is;
}

-- out of memory before any of it
pub short_ends : (leaves : List ℕ → Type 0) (home : HomeState) → ScriptEnds 6 leaves leaves home home
short_ends leaves home = failed_ends device.Memory leaves leaves home home 6 (record { silent = record { input = refl; output = refl }; strip = refl }) (record { strips = refl; files = refl }) (λ bytes may. may) refl

-- ---- what a crash may leave after a note

images_narrowed : (leaves fewer : List ℕ → Type 0) (home : HomeState) (P : List ℕ → Type 0) → ((c : List ℕ) → fewer c → leaves c) → OfImages leaves home P → OfImages fewer home P
images_narrowed leaves fewer home P narrows holds = λ bytes at. let h = holds bytes at in (h.0, λ c left. h.1 c (narrows c left))

served_narrowed : (leaves fewer : List ℕ → Type 0) (old new : HomeState) → ((c : List ℕ) → fewer c → leaves c) → Served leaves old new → Served fewer old new
served_narrowed leaves fewer old new narrows s = record {
  end = s.end;
  decided = s.decided;
  pass = s.pass;
  now = s.now;
  units = s.units;
  ends = s.ends;
  begins = s.begins;
  begun = s.begun;
  own = s.own;
  session = s.session;
  left = images_narrowed leaves fewer new _ narrows s.left;
  devices = s.devices;
  counted = s.counted;
}

not_served_narrowed : (left leaves fewer : List ℕ → Type 0) (old new : HomeState) → ((c : List ℕ) → fewer c → leaves c) → NotServed left leaves old new → NotServed left fewer old new
not_served_narrowed left leaves fewer old new narrows n = record {
  silent = n.silent;
  alike = n.alike;
  images = λ before at now is image may. n.images before at now is image (narrows image may);
}

-- the same, where a crash may leave no more
pub ends_narrowed : (status : ℕ) (left leaves fewer : List ℕ → Type 0) (old new : HomeState) → ((c : List ℕ) → fewer c → leaves c) → ScriptEnds status left leaves old new → ScriptEnds status left fewer old new
unfolding served_narrowed
ends_narrowed status left leaves fewer old new narrows e = record {
  ended = λ is. let h = e.ended is in (served_narrowed leaves fewer old new narrows h.0, h.1, h.2, images_narrowed leaves fewer new _ narrows h.3);
  refused = e.refused;
  failed = λ four. elim (e.failed four) [ inl none ↦ inl (not_served_narrowed left leaves fewer old new narrows none) | inr h ↦ inr (served_narrowed leaves fewer old new narrows h.0, λ all below. images_narrowed leaves fewer new _ narrows (h.1 all below)) ];
  short = λ six. elim (e.short six) [ inl none ↦ inl (not_served_narrowed left leaves fewer old new narrows none) | inr s ↦ inr (served_narrowed leaves fewer old new narrows s) ];
  idle = e.idle;
  others = e.others;
  complete = e.complete;
}

-- the same, by the status that was answered and the host after the note
pub ends_told : (status answered : ℕ) (left leaves fewer : List ℕ → Type 0) (old new other : HomeState) → answered ≡ status → other ≡ new → ((c : List ℕ) → fewer c → leaves c) → ScriptEnds status left leaves old new → ScriptEnds answered left fewer old other
ends_told status answered left leaves fewer old new other same is narrows e =
    subst (λ (h : HomeState). ScriptEnds answered left fewer old h) (sym is) (subst (λ (n : ℕ). ScriptEnds n left fewer old new) (sym same) (ends_narrowed status left leaves fewer old new narrows e))
