-- What the status of a script says of the counts of faults. To know: `session_told`, `failed_rose`, `clean_run`, `all_told`,
-- `told_counted`, `stream_ended`.
use Rattle.std.proofs.Common.{◌≡◌, ℕ, ◌+◌, ◌-◌, ◌^◌, ◌<◌, ◌≤◌, min, Bool, true, false, List, [], ◌∷◌, ◌++◌, Option, Some, None, refl, sym, subst, ◌∙◌, arith, inl, inr, ◌⊎◌}
use Rattle.std.specs.Prelude.{Result, Ok, Err, OnOk, MatchOption}
use Rattle.fault_count.specs.Counts.{Rose, RoseByOne, sum_of}
use Rattle.fault_count.specs.Causes.{HasCause}
use Rattle.disk_model.specs.Books.{BookName}
use Rattle.disk_model.specs.Causes.{CauseOf}
use Rattle.disk_model.specs.declared.device_error.DeviceError.{DeviceError}
use Rattle.disk_model.specs.declared.device_error.DeviceError.TheVariants as device
use Rattle.disk_model.specs.Piles.{Units, number_at}
use Rattle.history_core.specs.declared.request.Request.{Request}
use Rattle.history_core.specs.declared.request.Request.TheVariants.{Quit}
use Rattle.history_core.specs.declared.reply.Reply.{Reply}
use Rattle.history_core.specs.declared.reply.Reply.TheVariants.{Bye}
use Rattle.history_core.specs.Passes.{PassState}
use Rattle.session_core.specs.declared.session_end.SessionEnd.{SessionEnd}
use Rattle.session_core.specs.declared.session_end.SessionEnd.TheVariants.{End, Quit as Quitted, Bad, Cut, Spent, SourceFault, SinkFault, Memory}
use Rattle.session_core.specs.Answering.{PassAnswers}
use Rattle.session_core.specs.Telling.{told_by_all}
use Rattle.session_core.specs.Conversations.{Scene, Exchange, SessionEnds, scene_of, before_taking, with_put}
use Rattle.session_core.proofs.SessionLemmas.{answers_tell_failures}
use Rattle.wire_protocol.specs.Grammar.{spell_replies}
use Rattle.std.specs.Io.KnownBytes.{append_known}
use Rattle.store_run.specs.Closing.{FlushEnds}
use Rattle.store_run.specs.Openings.{OpenCause}
use Rattle.store_run.specs.declared.open_error.OpenError.{OpenError}
use Rattle.store_run.specs.declared.open_error.OpenError.TheVariants as open_error
use Rattle.host_model.specs.Lent.{risen}
use Rattle.remixdb.specs.Outcomes.{status_of, outcome_of_end, outcome_of_run, outcome_of_refusal, IsCleanOfDevices, IsCleanOfStreams, IsOfSession}

-- ---- what a session told

-- The count of failures that a pass was told rose by the units of each device at least, and only if there are any.
pub record SessionTold (before now : ℕ) (units : List (Option Units)) : Type 0 where
  pub each : (device : ℕ) → sum_of before (number_at units device) ≤ now
  pub none : ((device : ℕ) → number_at units device ≡ 0) → now ≡ before

-- the replies that were decided, and the units that they gave
record Moved (old new : Scene) : Type 0 where
  pub asked : List Request
  pub answered : List Reply
  pub answers : PassAnswers old.store.pass asked answered new.store.pass
  pub units : (device : ℕ) → number_at new.store.units device ≡ number_at old.store.units device + told_by_all device answered

moved_by : (old new : Scene) (asked : List Request) (answered : List Reply) → Exchange old new asked answered → Moved old new
moved_by old new asked answered e = record { asked = asked; answered = answered; answers = e.answers; units = e.units }

moved_from : (old between new : Scene) → between.store ≡ new.store → Moved old between → Moved old new
moved_from old between new same m = record {
  asked = m.asked;
  answered = m.answered;
  answers = subst (λ (s : _). PassAnswers old.store.pass m.asked m.answered s.pass) same m.answers;
  units = subst (λ (s : _). (device : ℕ) → number_at s.units device ≡ number_at old.store.units device + told_by_all device m.answered) same m.units;
}

moved : (end : SessionEnd) (from decided : ℕ) (old new : Scene) → SessionEnds end from old new decided → Moved old new
moved Quitted from decided old new (asked, answered, e, no_quit, counted, most) = moved_by old new (asked ++ Quit ∷ []) (answered ++ Bye ∷ []) e
moved End from decided old new (at, so, left, few) = moved_by old new so.asked so.answered so.exchange
moved (Cut at) from decided old new (held, so, some, lacks, left, few) = moved_from old (before_taking held new) new refl (moved_by old (before_taking held new) so.asked so.answered so.exchange)
moved (Bad at code) from decided old new (held, put, others, so, refused, put_is, counted, most) = moved_from old (with_put put (before_taking held new)) new refl (moved_by old (with_put put (before_taking held new)) so.asked so.answered so.exchange)
moved Spent from decided old new (held, at, so, full, lacks) = moved_from old (before_taking held new) new refl (moved_by old (before_taking held new) so.asked so.answered so.exchange)
moved SourceFault from decided old new (held, at, so, lacks, few) = moved_from old (before_taking held new) new refl (moved_by old (before_taking held new) so.asked so.answered so.exchange)
moved SinkFault from decided old new g = moved_from old (with_put (append_known old.put (spell_replies g.answered)) (before_taking g.held new)) new refl (moved_by old (with_put (append_known old.put (spell_replies g.answered)) (before_taking g.held new)) g.asked g.answered g.exchange)
moved Memory from decided old new (e, none) = moved_by old new [] [] e

number_none : (device : ℕ) → number_at [] device ≡ 0
number_none device = refl

told_by_answers : (old new : PassState) (asked : List Request) (answered : List Reply) (units : List (Option Units)) → PassAnswers old asked answered new → ((device : ℕ) → number_at units device ≡ number_at [] device + told_by_all device answered) → SessionTold old.told new.told units
told_by_answers old new asked answered units p adds =
    let told = answers_tell_failures old new asked answered p in
    record {
      each = λ device. let is : number_at units device ≡ told_by_all device answered = omega (arith, adds device, number_none device) in subst (λ (n : ℕ). sum_of old.told n ≤ new.told) (sym is) (told.0 device);
      none = λ zero. told.1 (λ device. omega (arith, zero device, adds device, number_none device));
    }

-- a session that began with no unit
pub session_told : (end : SessionEnd) (decided : ℕ) (input before left put : Option (List ℕ)) (old new : PassState) (units : List (Option Units)) → SessionEnds end 0 (scene_of input before old []) (scene_of left put new units) decided → SessionTold old.told new.told units
session_told end decided input before left put old new units h =
    let m = moved end 0 decided (scene_of input before old []) (scene_of left put new units) h in
    told_by_answers old new m.asked m.answered units m.answers m.units

-- ---- the devices

-- the least device of which there are units, where there are any
abbrev pub Least : Option ℕ → List (Option Units) → Type 0
Least failed units = MatchOption failed ((device : ℕ) → number_at units device ≡ 0) (λ least. (0 < number_at units least) × ((device : ℕ) → device < least → number_at units device ≡ 0))

not_four : (end : SessionEnd) → status_of (outcome_of_run false None end) ≡ 4 → ⊥
not_four Quitted e = omega (arith, e)
not_four End e = omega (arith, e)
not_four (Cut at) e = omega (arith, e)
not_four (Bad at code) e = omega (arith, e)
not_four Spent e = omega (arith, e)
not_four SourceFault e = omega (arith, e)
not_four SinkFault e = omega (arith, e)
not_four Memory e = omega (arith, e)

false_true : false ≡ true → ⊥
false_true e = cc

some_rose : (flushed : Result ℕ DeviceError) (number : ℕ) (book : BookName) (b c d : ℕ) (units after : List (Option Units)) → b < 2 ^ 64 → SessionTold b c units → HasCause (CauseOf book) c d flushed → FlushEnds flushed units after false → 0 < number_at after number → Rose b d
some_rose (Ok n) number book b c d units after fits told cause ends some =
    let here : 0 < number_at units number = subst (λ (us : List (Option Units)). 0 < number_at us number) ends.1 some in
    omega (arith, told.each number, here, cause.later)
some_rose (Err (device.Fault unit)) number book b c d units after fits told cause ends some = omega (arith, fits, told.each number, cause.failed.1)
some_rose (Err device.Memory) number book b c d units after fits told cause ends some = absurd (false_true ends.0)

-- status 4 is that of a run in which the count rose
pub failed_rose : (short : Bool) (failed : Option ℕ) (flushed : Result ℕ DeviceError) (end : SessionEnd) (book : BookName) (b c d : ℕ) (units after : List (Option Units)) → b < 2 ^ 64 → SessionTold b c units → HasCause (CauseOf book) c d flushed → FlushEnds flushed units after short → Least failed after → status_of (outcome_of_run short failed end) ≡ 4 → Rose b d
failed_rose true failed flushed end book b c d units after fits told cause ends least e = absurd (omega (arith, e))
failed_rose false (Some number) flushed end book b c d units after fits told cause ends least e = some_rose flushed number book b c d units after fits told cause ends least.0
failed_rose false None flushed end book b c d units after fits told cause ends least e = absurd (not_four end e)

not_clean : (status : ℕ) → (status ≡ 4) ⊎ (status ≡ 6) → IsCleanOfDevices status → ⊥
not_clean status is clean = omega (arith, is, clean)

some_not_clean : (number : ℕ) (end : SessionEnd) → IsCleanOfDevices (status_of (outcome_of_run false (Some number) end)) → ⊥
some_not_clean number Quitted h = not_clean 4 (inl refl) h
some_not_clean number End h = not_clean 4 (inl refl) h
some_not_clean number (Cut at) h = not_clean 4 (inl refl) h
some_not_clean number (Bad at code) h = not_clean 4 (inl refl) h
some_not_clean number Spent h = not_clean 4 (inl refl) h
some_not_clean number SourceFault h = not_clean 4 (inl refl) h
some_not_clean number SinkFault h = not_clean 4 (inl refl) h
some_not_clean number Memory h = not_clean 6 (inr refl) h

none_outcome : (end : SessionEnd) → outcome_of_run false None end ≡ outcome_of_end end
none_outcome Quitted = refl
none_outcome End = refl
none_outcome (Cut at) = refl
none_outcome (Bad at code) = refl
none_outcome Spent = refl
none_outcome SourceFault = refl
none_outcome SinkFault = refl
none_outcome Memory = refl

-- a run over devices that did not fail
pub record CleanRun (P : Type 0) (short : Bool) (failed : Option ℕ) (end : SessionEnd) (b d : ℕ) (units : List (Option Units)) : Type 0 where
  pub whole : P
  pub none : (device : ℕ) → number_at units device ≡ 0
  pub kept : d ≡ b
  pub outcome : outcome_of_run short failed end ≡ outcome_of_end end

flushed_clean : (P : Type 0) (flushed : Result ℕ DeviceError) (end : SessionEnd) (book : BookName) (b c d : ℕ) (units after : List (Option Units)) → SessionTold b c units → HasCause (CauseOf book) c d flushed → FlushEnds flushed units after false → OnOk flushed P → ((device : ℕ) → number_at after device ≡ 0) → CleanRun P false None end b d units
flushed_clean P (Ok n) end book b c d units after told cause ends whole none =
    let zero : (device : ℕ) → number_at units device ≡ 0 = subst (λ (us : List (Option Units)). (device : ℕ) → number_at us device ≡ 0) ends.1 none in
    record { whole = whole; none = zero; kept = cause.kept ∙ told.none zero; outcome = none_outcome end }
flushed_clean P (Err (device.Fault unit)) end book b c d units after told cause ends whole none = absurd (omega (arith, ends.1.number, none unit.device))
flushed_clean P (Err device.Memory) end book b c d units after told cause ends whole none = absurd (false_true ends.0)

pub clean_run : (P : Type 0) (short : Bool) (failed : Option ℕ) (flushed : Result ℕ DeviceError) (end : SessionEnd) (book : BookName) (b c d : ℕ) (units after : List (Option Units)) → SessionTold b c units → HasCause (CauseOf book) c d flushed → FlushEnds flushed units after short → OnOk flushed P → Least failed after → IsCleanOfDevices (status_of (outcome_of_run short failed end)) → CleanRun P short failed end b d units
clean_run P true failed flushed end book b c d units after told cause ends whole least h = absurd (not_clean 6 (inr refl) h)
clean_run P false (Some number) flushed end book b c d units after told cause ends whole least h = absurd (some_not_clean number end h)
clean_run P false None flushed end book b c d units after told cause ends whole least h = flushed_clean P flushed end book b c d units after told cause ends whole least

pub session_is_clean : (status : ℕ) → IsOfSession status → IsCleanOfDevices status
session_is_clean status (inl z) = inl z
session_is_clean status (inr (inl z)) = inr (inl z)
session_is_clean status (inr (inr z)) = inr (inr (inr z))

-- where every fault that the host counted was told, the closing flush succeeded
pub all_told : (P : Type 0) (short : Bool) (failed : Option ℕ) (flushed : Result ℕ DeviceError) (end : SessionEnd) (book : BookName) (b c d faults out : ℕ) (units after : List (Option Units)) → b ≤ faults → SessionTold b c units → HasCause (CauseOf book) c d flushed → FlushEnds flushed units after short → OnOk flushed P → out ≡ risen faults (b ∷ []) (d ∷ []) → status_of (outcome_of_run short failed end) ≡ 4 → out ≡ faults + number_at units 0 → out < 2 ^ 64 - 1 → P
all_told P true failed flushed end book b c d faults out units after within told cause ends whole is four all below = absurd (omega (arith, four))
all_told P false failed (Ok n) end book b c d faults out units after within told cause ends whole is four all below = whole
all_told P false failed (Err (device.Fault unit)) end book b c d faults out units after within told cause ends whole is four all below = absurd (omega (arith, is, within, told.each 0, cause.failed.1, cause.later, all, below))
all_told P false failed (Err device.Memory) end book b c d faults out units after within told cause ends whole is four all below = absurd (false_true ends.0)

-- each fault that was told is in the host's count
pub told_counted : (b c d faults out told : ℕ) → b ≤ faults → sum_of b told ≤ c → c ≤ d → out ≡ risen faults (b ∷ []) (d ∷ []) → sum_of faults told ≤ out
told_counted b c d faults out told within two three is = omega (arith, is, within, two, three)

-- an opening that was refused: status 4 is that of a fault, and a status of lower rank that of none
pub refused_rose : (error : OpenError) (book : BookName) (before now : ℕ) → OpenCause book before now error → status_of (outcome_of_refusal error) ≡ 4 → Rose before now
refused_rose (open_error.Device unit) book before now h four = omega (arith, h.1)
refused_rose (open_error.TornHeader strip at) book before now h four = absurd (omega (arith, four))
refused_rose (open_error.BadEntry strip frame at) book before now h four = absurd (omega (arith, four))
refused_rose (open_error.LogGap want found) book before now h four = absurd (omega (arith, four))
refused_rose open_error.Memory book before now h four = absurd (omega (arith, four))

pub refused_kept : (error : OpenError) (book : BookName) (before now : ℕ) → OpenCause book before now error → IsCleanOfDevices (status_of (outcome_of_refusal error)) → now ≡ before
refused_kept (open_error.Device unit) book before now h clean = absurd (not_clean 4 (inl refl) clean)
refused_kept (open_error.TornHeader strip at) book before now h clean = h
refused_kept (open_error.BadEntry strip frame at) book before now h clean = h
refused_kept (open_error.LogGap want found) book before now h clean = h
refused_kept open_error.Memory book before now h clean = h

pub refused_later : (error : OpenError) (book : BookName) (before now : ℕ) → before < 2 ^ 64 → OpenCause book before now error → before ≤ now
refused_later (open_error.Device unit) book before now fits h = omega (arith, h.1, fits)
refused_later (open_error.TornHeader strip at) book before now fits h = omega (arith, h)
refused_later (open_error.BadEntry strip frame at) book before now fits h = omega (arith, h)
refused_later (open_error.LogGap want found) book before now fits h = omega (arith, h)
refused_later open_error.Memory book before now fits h = omega (arith, h)

-- no status of a refused opening is that of a failed stream
pub refused_not_five : (error : OpenError) → status_of (outcome_of_refusal error) ≡ 5 → ⊥
refused_not_five (open_error.Device unit) five = omega (arith, five)
refused_not_five (open_error.TornHeader strip at) five = omega (arith, five)
refused_not_five (open_error.BadEntry strip frame at) five = omega (arith, five)
refused_not_five (open_error.LogGap want found) five = omega (arith, five)
refused_not_five open_error.Memory five = omega (arith, five)

-- ---- the streams

-- a count that rose by one rose
pub one_rose : (before now : ℕ) → RoseByOne before now → Rose before now
one_rose before now h = omega (arith, h)

-- status 5 is that of a session that a stream ended
pub stream_ended : (short : Bool) (failed : Option ℕ) (end : SessionEnd) → status_of (outcome_of_run short failed end) ≡ 5 → (end ≡ SourceFault) ⊎ (end ≡ SinkFault)
stream_ended true failed end e = absurd (omega (arith, e))
stream_ended false None Quitted e = absurd (omega (arith, e))
stream_ended false None End e = absurd (omega (arith, e))
stream_ended false None (Cut at) e = absurd (omega (arith, e))
stream_ended false None (Bad at code) e = absurd (omega (arith, e))
stream_ended false None Spent e = absurd (omega (arith, e))
stream_ended false None SourceFault e = inl refl
stream_ended false None SinkFault e = inr refl
stream_ended false None Memory e = absurd (omega (arith, e))
stream_ended false (Some number) Quitted e = absurd (omega (arith, e))
stream_ended false (Some number) End e = absurd (omega (arith, e))
stream_ended false (Some number) (Cut at) e = absurd (omega (arith, e))
stream_ended false (Some number) (Bad at code) e = absurd (omega (arith, e))
stream_ended false (Some number) Spent e = absurd (omega (arith, e))
stream_ended false (Some number) SourceFault e = absurd (omega (arith, e))
stream_ended false (Some number) SinkFault e = absurd (omega (arith, e))
stream_ended false (Some number) Memory e = absurd (omega (arith, e))

not_clean_of_streams : (status : ℕ) → (status ≡ 4) ⊎ ((status ≡ 5) ⊎ (status ≡ 6)) → IsCleanOfStreams status → ⊥
not_clean_of_streams status is clean = omega (arith, is, clean)

-- a status that yields to a failed stream is that of no session which one ended
pub source_unclean : (short : Bool) (failed : Option ℕ) → IsCleanOfStreams (status_of (outcome_of_run short failed SourceFault)) → ⊥
source_unclean true failed h = not_clean_of_streams 6 (inr (inr refl)) h
source_unclean false (Some number) h = not_clean_of_streams 4 (inl refl) h
source_unclean false None h = not_clean_of_streams 5 (inr (inl refl)) h

pub sink_unclean : (short : Bool) (failed : Option ℕ) → IsCleanOfStreams (status_of (outcome_of_run short failed SinkFault)) → ⊥
sink_unclean true failed h = not_clean_of_streams 6 (inr (inr refl)) h
sink_unclean false (Some number) h = not_clean_of_streams 4 (inl refl) h
sink_unclean false None h = not_clean_of_streams 5 (inr (inl refl)) h
