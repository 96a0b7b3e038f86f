-- One step of the machine: for each event where it has one, what changes, and what is answered.
use Rattle.std.specs.Prelude.{ℕ, ◌+◌, ◌-◌, ◌==◌, Bool, true, false, not, ◌&&◌, nat_le, nat_lt, List, [], ◌∷◌, ◌++◌, length, filter, take, Option, Some, None, is_some, slice_get, if◌then◌else◌}
use Rattle.std.specs.BTreeMap.{insert_entry, is_at}
use Rattle.std.specs.Map.{remove_entry}
use Rattle.std.specs.List.{list_any, list_all}
use Rattle.std.specs.Ordering.{is_eq, nat_cmp}
use Rattle.rdb_base.specs.Order.{key_cmp}
use Rattle.rdb_base.specs.Laws.{left_by}
use Rattle.rdb_base.specs.Maps.{value_at}
use Rattle.rdb_base.specs.Histories.{History, end}
use Rattle.rdb_base.specs.Levels.{live, newest}
use Rattle.rdb_base.specs.Pages.{page, rows_from}
use Rattle.rdb_base.specs.declared.entry.Entry.{Entry}
use Rattle.rdb_base.specs.declared.limits.TheConstants.{NUMBER_MAX}
use Rattle.rdb_base.specs.declared.pair.Pair.{Pair}
use Rattle.rdb_base.specs.declared.row.Row.{Row}
use Rattle.partition_plan.specs.declared.decision.Decision.{Decision}
use Rattle.partition_plan.specs.declared.decision.Decision.TheVariants.{Abort, Minor, Major, Split}
use Rattle.store_core.specs.Editions.{news_in, decisions_in, tasks_in, carried_in, files_of_all, first_needed, edition_of}
use Rattle.store_core.specs.Levels.{stacked, run_of}
use Rattle.store_core.specs.Worlds.{World, range, caller_in, with_caller, levels_of, memtable_in, memtables}
use Rattle.store_core.specs.declared.caller.Caller.{Caller}
use Rattle.store_core.specs.declared.draft.Draft.{Draft}
use Rattle.store_core.specs.declared.edition.Edition.{Edition}
use Rattle.store_core.specs.declared.edition_part.EditionPart.{EditionPart}
use Rattle.store_core.specs.declared.frame.Frame.{Frame}
use Rattle.store_core.specs.declared.limits.TheConstants.{SEGMENTS_MAX, PINS_MAX}
use Rattle.store_core.specs.declared.member.Member.{Member}
use Rattle.store_core.specs.declared.memtable.Memtable.{Memtable}
use Rattle.store_core.specs.declared.part_news.PartNews.{PartNews}
use Rattle.store_core.specs.declared.part_task.PartTask.{PartTask}
use Rattle.store_core.specs.declared.pin.Pin.{Pin}
use Rattle.store_core.specs.declared.run_file.RunFile.{RunFile}
use Rattle.store_core.specs.declared.segment.Segment.{Segment}
use Rattle.store_core.specs.declared.store_answer.StoreAnswer.{StoreAnswer}
use Rattle.store_core.specs.declared.store_answer.StoreAnswer.TheVariants as answers
use Rattle.store_core.specs.declared.store_event.StoreEvent.{StoreEvent}
use Rattle.store_core.specs.declared.store_event.StoreEvent.TheVariants as events
use Rattle.store_core.specs.declared.version.Version.{Version}

-- the world after an event and its answer, where it has a step
abbrev pub Stepped : Type 0
Stepped = Option (World × StoreAnswer)

-- a step to this world, where a test holds
abbrev pub when : Bool → World → StoreAnswer → Stepped
when true w a = Some (w, a)
when false w a = None

-- ---- append: the installed memtable is open, no start of a segment is under way, and a number is left

abbrev pub is_open : Memtable → Bool
is_open memtable = not (is_some memtable.ended)

abbrev pub may_append : World → Bool
may_append w = is_open w.installed && (not w.starting && nat_lt (end w.history) NUMBER_MAX)

-- the caller's next entry
abbrev pub entry_of : World → ℕ → Pair → Entry
entry_of w number pair = record { caller = number; ordinal = (caller_in w.callers number).calls; key = pair.key; change = pair.change }

abbrev pub grown_by : History → Entry → History
grown_by history entry = record { base = history.base; first = history.first; entries = history.entries ++ entry ∷ [] }

-- a caller that has an entry more, and has seen it
abbrev pub counted : Caller → ℕ → Caller
counted caller front = record { calls = caller.calls + 1; front = front; held = caller.held }

-- one entry more, in the log too
abbrev pub appended : World → ℕ → Pair → World
appended w number pair =
    record w {
      history = grown_by w.history (entry_of w number pair);
      log = w.log ++ entry_of w number pair ∷ [];
      callers = with_caller w.callers number (counted (caller_in w.callers number) (end w.history + 1));
    }

-- ---- take: always; the caller holds the installed memtable, and what lies below it, as they are now

abbrev pub version_of : World → Version
version_of w = record { memtable = w.installed.number; base = w.installed.base; below = levels_of w }

abbrev pub holding : Caller → Version → Caller
holding caller version = record { calls = caller.calls; front = caller.front; held = Some version }

abbrev pub took : World → ℕ → World
took w number = record w { callers = with_caller w.callers number (holding (caller_in w.callers number) (version_of w)) }

-- ---- look: the caller holds a version; the front is not below the caller's and the held memtable's base, and not above the end
-- of the history and that of the memtable

-- whether a number is not above where a memtable ended, if it did
abbrev pub is_upto : Option ℕ → ℕ → Bool
is_upto None number = true
is_upto (Some ended) number = nat_le number ended

abbrev pub is_within : Option Memtable → ℕ → Bool
is_within None number = true
is_within (Some memtable) number = is_upto memtable.ended number

abbrev pub may_look : World → ℕ → Version → ℕ → Bool
may_look w number version front =
    nat_le (caller_in w.callers number).front front && (nat_le version.base front
    && (nat_le front (end w.history) && is_within (memtable_in w version.memtable) front))

-- what entries leave at a key, above what was there
abbrev pub left_at : List Entry → List ℕ → Option (List ℕ) → Option (List ℕ)
left_at [] key found = found
left_at (entry ∷ entries) key found = left_at entries key (if is_eq (key_cmp entry.key key) then left_by entry.change else found)

-- what a version shows at a key: the entries of its memtable below the front, above its levels
abbrev pub shown : History → Version → List ℕ → ℕ → Option (List ℕ)
shown history version key front = left_at (range history version.base front) key (value_at (live (run_of version.below)) key)

abbrev pub seeing : Caller → ℕ → Caller
seeing caller front = record { calls = caller.calls; front = front; held = caller.held }

-- the caller's front is there
abbrev pub at_front : World → ℕ → ℕ → World
at_front w number front = record w { callers = with_caller w.callers number (seeing (caller_in w.callers number) front) }

abbrev pub looked : World → ℕ → List ℕ → ℕ → Option Version → Stepped
looked w number key front None = None
looked w number key front (Some version) = when (may_look w number version front) (at_front w number front) (answers.Found front (shown w.history version key front))

-- ---- the frame of the log: written where none is under way, its gate opened (again) where one is, settled where its gate was

abbrev pub body_written : World → World
body_written w = record w { frame = Some (record { upto = end w.history; gated = false }) }

abbrev pub gate_written : World → Option Frame → Stepped
gate_written w None = None
gate_written w (Some frame) = Some (record w { frame = Some (record { upto = frame.upto; gated = true }) }, answers.Done)

abbrev pub frame_settled : World → Option Frame → Stepped
frame_settled w None = None
frame_settled w (Some frame) = when frame.gated (record w { settled = frame.upto; frame = None }) answers.Done

-- ---- header: no start is under way, nothing is unsettled, a strip is free, and the last live segment holds an entry

-- whether all entries are settled
abbrev pub is_settled : World → Bool
is_settled w = w.settled == end w.history

abbrev pub last_of : List Segment → Option Segment
last_of [] = None
last_of (segment ∷ []) = Some segment
last_of (segment ∷ next ∷ segments) = last_of (next ∷ segments)

-- whether there is a segment that begins below a number
abbrev pub begins_below : ℕ → Option Segment → Bool
begins_below number None = false
begins_below number (Some segment) = nat_lt segment.first number

abbrev pub may_begin : World → Bool
may_begin w = not w.starting && (is_settled w && (nat_lt (length w.segments) SEGMENTS_MAX && begins_below (end w.history) (last_of w.segments)))

-- the next segment begins at the end, and its start is under way
abbrev pub begun_after : World → Option Segment → World
begun_after w None = w
begun_after w (Some segment) = record w { segments = w.segments ++ record { number = segment.number + 1; first = end w.history } ∷ []; starting = true }

-- ---- freeze: a start is under way, the installed memtable is open, and nothing is unsettled

abbrev pub may_freeze : World → Bool
may_freeze w = w.starting && (is_open w.installed && is_settled w)

-- the installed memtable ends, and the next one is open
abbrev pub frozen_now : World → World
frozen_now w =
    record w {
      installed = record { number = w.installed.number; base = w.installed.base; ended = Some (end w.history) };
      opened = Some (record { number = w.installed.number + 1; base = end w.history; ended = None });
    }

-- ---- install: there is an open memtable that is not; it is then, the one before is frozen, and the start is over

abbrev pub member_of : World → ℕ → Member
member_of w upto = record { number = w.installed.number; base = w.installed.base; upto = upto; run = newest [] (range w.history w.installed.base upto) }

abbrev pub installed_now : World → Option Memtable → Stepped
installed_now w None = None
installed_now w (Some memtable) =
    Some (record w { installed = memtable; opened = None; older = insert_entry nat_cmp w.older w.installed.number w.installed; frozen = member_of w memtable.base ∷ w.frozen; starting = false }, answers.Done)

-- ---- pin: the installed memtable's base is not below the caller's front, and a number is left

abbrev pub may_pin : World → ℕ → Bool
may_pin w number = nat_le (caller_in w.callers number).front w.installed.base && nat_lt (length w.pins) PINS_MAX

-- the levels below the installed memtable are kept, and the caller's front is its base
abbrev pub pinned : World → ℕ → World
pinned w number = record (at_front w number w.installed.base) { pins = w.pins ++ record { front = w.installed.base; below = levels_of w } ∷ [] }

-- ---- list: the pin is there

-- whether no row is left after a page
abbrev pub is_last : List Row → List ℕ → ℕ → Bool
is_last rows bound count = length (page rows bound count) == length (rows_from rows bound)

abbrev pub listed : World → List ℕ → ℕ → Option Pin → Stepped
listed w bound count None = None
listed w bound count (Some pin) = Some (w, answers.Rows (page (live (run_of pin.below)) bound count) (is_last (live (run_of pin.below)) bound count))

-- ---- plan: a member is frozen, there is no draft, and a number is left

abbrev pub may_plan : World → Bool
may_plan w = not (is_some w.draft) && (nat_lt 0 (length w.frozen) && nat_lt w.next NUMBER_MAX)

-- the new pairs: of the members, above what was carried on
abbrev pub new_pairs : World → List Pair
new_pairs w = stacked w.frozen w.carried

-- what is new in each partition
abbrev pub news_of : World → List PartNews
news_of w = news_in (memtables w) w.log w.used.parts (new_pairs w)

-- the decisions for the partitions with new pairs; the active segment is the installed memtable's
abbrev pub decisions_of : World → Bool → List Decision
decisions_of w may_abort = decisions_in may_abort w.installed.number (news_of w)

abbrev pub is_abort : Decision → Bool
is_abort Abort = true
is_abort Minor = false
is_abort Major = false
is_abort Split = false

-- whether there are decisions and all abort
abbrev pub are_aborts : List Decision → Bool
are_aborts decisions = nat_lt 0 (length decisions) && list_all is_abort decisions

-- what becomes of each partition
abbrev pub tasks_of : World → List Decision → List PartTask
tasks_of w decisions = tasks_in decisions (news_of w)

-- the first log segment that the edition needs, and where it begins
abbrev pub first_of : World → List Decision → ℕ
first_of w decisions = first_needed w.installed.number (tasks_of w decisions)

abbrev pub base_of : Option Memtable → ℕ
base_of None = 0
base_of (Some memtable) = memtable.base

abbrev pub begins_of : World → List Decision → ℕ
begins_of w decisions = base_of (memtable_in w (first_of w decisions))

abbrev pub draft_of : World → List Decision → Draft
draft_of w decisions =
    record {
      edition = edition_of w.next w.installed.base (first_of w decisions) (begins_of w decisions) (tasks_of w decisions);
      carried = carried_in (tasks_of w decisions);
      taken = length w.frozen;
      lacking = files_of_all w.next (tasks_of w decisions);
    }

-- where all abort, the new pairs are carried on, and no member is left
abbrev pub carried_on : World → World
carried_on w = record w { frozen = []; carried = new_pairs w }

-- else an edition is drafted, and its numbers are drawn
abbrev pub drafted : World → Draft → World
drafted w draft = record w { draft = Some draft; next = draft.edition.next }

abbrev pub planned : World → List Decision → World
planned w decisions = if are_aborts decisions then carried_on w else drafted w (draft_of w decisions)

-- ---- table: the draft lacks a file; its next one stands

abbrev pub run_put : World → Draft → List RunFile → Stepped
run_put w draft [] = None
run_put w draft (file ∷ lacking) =
    Some (record w { files = insert_entry nat_cmp w.files file.number file.run; draft = Some (record draft { lacking = lacking }) }, answers.Done)

abbrev pub file_put : World → Option Draft → Stepped
file_put w None = None
file_put w (Some draft) = run_put w draft draft.lacking

-- ---- the draft's edition: written where all its files stand and no other one is; settled where one is written

abbrev pub is_other : ℕ → Option Edition → Bool
is_other number None = false
is_other number (Some edition) = not (edition.number == number)

abbrev pub may_gate : World → Draft → Bool
may_gate w draft = not (nat_lt 0 (length draft.lacking)) && not (is_other draft.edition.number w.gated)

abbrev pub edition_gated : World → Option Draft → Stepped
edition_gated w None = None
edition_gated w (Some draft) = when (may_gate w draft) (record w { gated = Some draft.edition }) answers.Done

abbrev pub edition_settled : World → Option Edition → Stepped
edition_settled w None = None
edition_settled w (Some edition) = Some (record w { stands = edition; gated = None }, answers.Done)

-- ---- refuse: there is a draft; it is dropped, and an edition that is written stays so

abbrev pub refused : World → Option Draft → Stepped
refused w None = None
refused w (Some draft) = Some (record w { draft = None }, answers.Done)

-- ---- adopt: the draft is the settled edition; it is in use, its carried pairs too, and the members that it took are gone

abbrev pub adopt : World → Draft → World
adopt w draft = record w { used = draft.edition; carried = draft.carried; frozen = take (length w.frozen - draft.taken) w.frozen; draft = None }

abbrev pub adopted : World → Option Draft → Stepped
adopted w None = None
adopted w (Some draft) = when (draft.edition.number == w.stands.number) (adopt w draft) answers.Done

-- ---- release: the edition in use is the settled one; segments below its first are not live

abbrev pub released : World → World
released w = record w { segments = filter (λ (segment : Segment). nat_le w.used.first segment.number) w.segments }

-- ---- remove: no edition names the file; it is gone

abbrev pub is_in : ℕ → List EditionPart → Bool
is_in number parts = list_any (λ (part : EditionPart). list_any (λ (file : RunFile). file.number == number) part.runs) parts

abbrev pub is_in_edition : ℕ → Option Edition → Bool
is_in_edition number None = false
is_in_edition number (Some edition) = is_in number edition.parts

abbrev pub is_in_draft : ℕ → Option Draft → Bool
is_in_draft number None = false
is_in_draft number (Some draft) = is_in number draft.edition.parts

abbrev pub may_remove : World → ℕ → Bool
may_remove w number = not (is_in number w.used.parts) && (not (is_in number w.stands.parts) && (not (is_in_edition number w.gated) && not (is_in_draft number w.draft)))

abbrev pub removed : World → ℕ → World
removed w number = record w { files = remove_entry (is_at (nat_cmp number)) w.files }

-- ---- the step

abbrev pub step : World → StoreEvent → Stepped
step w (events.Append caller pair) = when (may_append w) (appended w caller pair) (answers.Number (end w.history))
step w (events.Take caller) = Some (took w caller, answers.Done)
step w (events.Look caller key front) = looked w caller key front (caller_in w.callers caller).held
step w (events.Note caller) = Some (at_front w caller (end w.history), answers.Done)
step w events.Body = when (not (is_some w.frame)) (body_written w) answers.Done
step w events.Gate = gate_written w w.frame
step w events.Settled = frame_settled w w.frame
step w events.Header = when (may_begin w) (begun_after w (last_of w.segments)) answers.Done
step w events.Freeze = when (may_freeze w) (frozen_now w) answers.Done
step w events.Install = installed_now w w.opened
step w (events.Pin caller) = when (may_pin w caller) (pinned w caller) (answers.Pinned (length w.pins) w.installed.base)
step w (events.List pin bound count) = listed w bound count (slice_get w.pins pin)
step w (events.Plan may_abort) = when (may_plan w) (planned w (decisions_of w may_abort)) answers.Done
step w events.Table = file_put w w.draft
step w events.EditionGate = edition_gated w w.draft
step w events.EditionSettled = edition_settled w w.gated
step w events.Refuse = refused w w.draft
step w events.Adopt = adopted w w.draft
step w events.Release = when (w.used.number == w.stands.number) (released w) answers.Done
step w (events.Remove number) = when (may_remove w number) (removed w number) answers.Done

-- ---- lists of events

-- a world, and the answers of the events that led to it
abbrev pub RunOf : Type 0
RunOf = Option (World × List StoreAnswer)

-- one answer more, where there was a step
abbrev pub answered : List StoreAnswer → Stepped → RunOf
answered told None = None
answered told (Some stepped) = Some (stepped.0, told ++ stepped.1 ∷ [])

-- where more events lead to, and all answers
abbrev pub run_from : RunOf → List StoreEvent → RunOf
run_from led [] = led
run_from None (event ∷ more) = None
run_from (Some led) (event ∷ more) = run_from (answered led.1 (step led.0 event)) more

-- where events lead to, one after the other, and their answers, where each has a step
abbrev pub run : World → List StoreEvent → RunOf
run w all = run_from (Some (w, [])) all
