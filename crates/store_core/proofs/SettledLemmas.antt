-- No edition and no member goes beyond what is settled. To know: `step-covered`, `run-covered`.
use Rattle.std.proofs.Common.{◌≡◌, ℕ, zero, suc, ◌≤◌, Bool, true, false, cond, not, max, List, [], ◌∷◌, ◌++◌, length, take, refl, subst, arith}
use Rattle.std.specs.Prelude.{◌==◌, Option, Some, None, is_some}
use Rattle.std.specs.BTreeMap.{insert_entry, is_at}
use Rattle.std.specs.List.{AllByRecursion}
use Rattle.std.specs.Map.{lookup}
use Rattle.std.specs.Ordering.{nat_cmp, match_ordering}
use Rattle.std.specs.declared.cmp.Ordering.{Ordering}
use Rattle.std.specs.declared.cmp.Ordering.TheVariants.{Less, Equal, Greater}
use Rattle.std.proofs.lemmas.Bool.Decides.{nat_tests}
use Rattle.std.proofs.lemmas.Option.{same_Some}
use Rattle.rdb_base.specs.Histories.{end}
use Rattle.rdb_base.specs.Pages.{pairs_from}
use Rattle.rdb_base.specs.declared.entry.Entry.{Entry}
use Rattle.rdb_base.specs.declared.pair.Pair.{Pair}
use Rattle.rdb_base.proofs.Lists.{all-weaker, all-append}
use Rattle.partition_plan.specs.declared.decision.Decision.{Decision}
use Rattle.partition_plan.specs.Pieces.{PieceState}
use Rattle.store_core.specs.Editions.{news_in, tasks_in, decisions_after, is_carried, base_after, next_after, next_after_pieces, pieces_in, parts_of_pieces, parts_of_all}
use Rattle.store_core.specs.SettledLaws.{BasesUpto, EditionUpto, DraftUpto, MemtablesUpto, OpenedUpto, MembersUpto, FrameWithin, Covered}
use Rattle.store_core.specs.Steps.{Stepped, answered, run_from, run, entry_of, may_append, may_look, shown, at_front, appended, looked, body_written, gate_written, frame_settled, is_settled, is_open, last_of, may_begin, begun_after, may_freeze, frozen_now, member_of, installed_now, may_pin, pinned, listed, may_plan, new_pairs, news_of, decisions_of, are_aborts, tasks_of, first_of, base_of, begins_of, draft_of, carried_on, drafted, planned, run_put, file_put, may_gate, edition_gated, edition_settled, refused, adopt, adopted, released, may_remove, removed, step}
use Rattle.store_core.specs.Worlds.{World, memtable_in, memtables, opening}
use Rattle.store_core.specs.declared.draft.Draft.{Draft}
use Rattle.store_core.specs.declared.edition.Edition.{Edition}
use Rattle.store_core.specs.declared.edition_part.EditionPart.{EditionPart}
use Rattle.store_core.specs.declared.frame.Frame.{Frame}
use Rattle.store_core.specs.declared.member.Member.{Member}
use Rattle.store_core.specs.declared.memtable.Memtable.{Memtable}
use Rattle.store_core.specs.declared.part_news.PartNews.{PartNews}
use Rattle.store_core.specs.declared.part_task.PartTask.{PartTask}
use Rattle.store_core.specs.declared.pin.Pin.{Pin}
use Rattle.store_core.specs.declared.run_file.RunFile.{RunFile}
use Rattle.store_core.specs.declared.segment.Segment.{Segment}
use Rattle.store_core.specs.declared.store_answer.StoreAnswer.{StoreAnswer}
use Rattle.store_core.specs.declared.store_answer.StoreAnswer.TheVariants as answers
use Rattle.store_core.specs.declared.store_event.StoreEvent.{StoreEvent}
use Rattle.store_core.specs.declared.store_event.StoreEvent.TheVariants as events
use Rattle.store_core.specs.declared.version.Version.{Version}
use Rattle.store_core.proofs.EventLemmas.{none_is, first_is, happens, and_second}
use Rattle.store_core.proofs.RangeLemmas.{end-grown}
use Rattle.store_core.proofs.RunLemmas.{none_from}

-- ---- more is settled

up : (a b n : ℕ) → a ≤ b → n ≤ a → n ≤ b
up a b n le h = omega (arith, le, h)

bases-up : (a b : ℕ) (parts : List EditionPart) → a ≤ b → BasesUpto a parts → BasesUpto b parts
bases-up a b parts le all = all-weaker (λ (part : EditionPart). part.base ≤ a) (λ (part : EditionPart). part.base ≤ b) (λ part h. up a b part.base le h) parts all

edition-up : (a b : ℕ) (edition : Option Edition) → a ≤ b → EditionUpto a edition → EditionUpto b edition
edition-up a b None le t = tt
edition-up a b (Some e) le all = bases-up a b e.parts le all

draft-up : (a b : ℕ) (draft : Option Draft) → a ≤ b → DraftUpto a draft → DraftUpto b draft
draft-up a b None le t = tt
draft-up a b (Some d) le all = bases-up a b d.edition.parts le all

opened-up : (a b : ℕ) (opened : Option Memtable) → a ≤ b → OpenedUpto a opened → OpenedUpto b opened
opened-up a b None le t = tt
opened-up a b (Some m) le h = up a b m.base le h

frame-up : (settled a b : ℕ) (frame : Option Frame) → a ≤ b → FrameWithin settled a frame → FrameWithin settled b frame
frame-up settled a b None le t = tt
frame-up settled a b (Some f) le h = (h.0, omega (arith, le, h.1))

-- ---- memtables

insert-upto : (n : ℕ) (older : List (ℕ × Memtable)) (k : ℕ) (m : Memtable) → m.base ≤ n → MemtablesUpto n older → MemtablesUpto n (insert_entry nat_cmp older k m)
insert-upto n [] k m h all = (h, tt)
insert-upto n (e ∷ es) k m h all = by_order (nat_cmp k e.0) (insert-upto n es k m h all.1)
  where
    by_order : (r : Ordering) → MemtablesUpto n (insert_entry nat_cmp es k m) → MemtablesUpto n (match_ordering r ((k, m) ∷ e ∷ es) ((e.0, m) ∷ es) (e ∷ insert_entry nat_cmp es k m))
    by_order Less rest = (h, all)
    by_order Equal rest = (h, all.1)
    by_order Greater rest = (all.0, rest)

lookup-upto : (n k : ℕ) (older : List (ℕ × Memtable)) → MemtablesUpto n older → base_of (lookup (is_at (nat_cmp k)) older) ≤ n
lookup-upto n k [] all = omega arith
lookup-upto n k (e ∷ es) all = by_test (is_at (nat_cmp k) e.0) (lookup-upto n k es all.1)
  where
    by_test : (b : Bool) → base_of (lookup (is_at (nat_cmp k)) es) ≤ n → base_of (cond b (Some e.1) (lookup (is_at (nat_cmp k)) es)) ≤ n
    by_test true rest = all.0
    by_test false rest = rest

begins-upto : (w : World) (k : ℕ) → Covered w → base_of (memtable_in w k) ≤ w.settled
begins-upto w k c = by_test (w.installed.number == k)
  where
    by_test : (b : Bool) → base_of (cond b (Some w.installed) (lookup (is_at (nat_cmp k)) w.older)) ≤ w.settled
    by_test true = c.base
    by_test false = lookup-upto w.settled k w.older c.older

-- ---- the bases of a draft

abbrev NewsUpto : ℕ → List PartNews → Type 0
NewsUpto n all = AllByRecursion (λ (one : PartNews). one.part.base ≤ n) all

abbrev TasksUpto : ℕ → List PartTask → Type 0
TasksUpto n tasks = AllByRecursion (λ (t : PartTask). t.part.base ≤ n) tasks

news-upto : (n : ℕ) (ms : List Memtable) (es : List Entry) (parts : List EditionPart) (new : List Pair) → BasesUpto n parts → NewsUpto n (news_in ms es parts new)
news-upto n ms es [] new all = tt
news-upto n ms es (part ∷ []) new all = (all.0, tt)
news-upto n ms es (part ∷ next ∷ parts) new all = (all.0, news-upto n ms es (next ∷ parts) (pairs_from new next.low) all.1)

tasks-upto : (n : ℕ) (ds : List Decision) (all : List PartNews) → NewsUpto n all → TasksUpto n (tasks_in ds all)
tasks-upto n ds [] h = tt
tasks-upto n ds (one ∷ others) h = (h.0, tasks-upto n (decisions_after ds one.new) others h.1)

pieces-upto : (n next base : ℕ) (old : List RunFile) (pieces : List PieceState) → base ≤ n → BasesUpto n (parts_of_pieces next base old pieces)
pieces-upto n next base old [] h = tt
pieces-upto n next base old (piece ∷ pieces) h = (h, pieces-upto n (next_after next piece.run) base old pieces h)

base_after-upto : (n upto begins : ℕ) (t : PartTask) → upto ≤ n → begins ≤ n → t.part.base ≤ n → base_after upto begins t ≤ n
base_after-upto n upto begins t u b h = by_test (is_carried t)
  where
    by_test : (carried : Bool) → cond carried (max t.part.base begins) upto ≤ n
    by_test true = omega (arith, b, h)
    by_test false = u

parts-upto : (n next upto begins : ℕ) (tasks : List PartTask) → upto ≤ n → begins ≤ n → TasksUpto n tasks → BasesUpto n (parts_of_all next upto begins tasks)
parts-upto n next upto begins [] u b all = tt
parts-upto n next upto begins (t ∷ ts) u b all =
    all-append (λ (part : EditionPart). part.base ≤ n) _ _
    (pieces-upto n next (base_after upto begins t) t.part.runs (pieces_in t) (base_after-upto n upto begins t u b all.0))
    (parts-upto n (next_after_pieces next (pieces_in t)) upto begins ts u b all.1)

draft-covered : (w : World) (ds : List Decision) → Covered w → BasesUpto w.settled (draft_of w ds).edition.parts
draft-covered w ds c =
    parts-upto w.settled w.next w.installed.base (begins_of w ds) (tasks_of w ds) c.base (begins-upto w (first_of w ds) c)
    (tasks-upto w.settled ds (news_of w) (news-upto w.settled (memtables w) w.log w.used.parts (new_pairs w) c.used))

-- ---- events

with_draft : (w : World) (d : Option Draft) → Covered w → DraftUpto w.settled d → Covered (record w { draft = d })
with_draft w d c h = record { within = c.within; frame = c.frame; base = c.base; opened = c.opened; older = c.older; frozen = c.frozen; used = c.used; stands = c.stands; gated = c.gated; draft = h }

append-covered : (w : World) (number : ℕ) (pair : Pair) → Covered w → Covered (appended w number pair)
append-covered w number pair c =
    let g = end-grown w.history (entry_of w number pair) in
    let within = c.within in
    record { within = omega (arith, g, within); frame = frame-up w.settled (end w.history) _ w.frame (omega (arith, g)) c.frame; base = c.base; opened = c.opened; older = c.older; frozen = c.frozen; used = c.used; stands = c.stands; gated = c.gated; draft = c.draft }

look-covered : (w v : World) (number : ℕ) (key : List ℕ) (front : ℕ) (held : Option Version) (a : StoreAnswer) → Covered w → looked w number key front held ≡ Some (v, a) → Covered v
look-covered w v number key front None a c e = absurd (none_is (v, a) e)
look-covered w v number key front (Some version) a c e =
    subst Covered (happens (may_look w number version front) (at_front w number front) v (answers.Found front (shown w.history version key front)) a e).world c

list-covered : (w v : World) (bound : List ℕ) (count : ℕ) (o : Option Pin) (a : StoreAnswer) → Covered w → listed w bound count o ≡ Some (v, a) → Covered v
list-covered w v bound count None a c e = absurd (none_is (v, a) e)
list-covered w v bound count (Some p) a c e = subst Covered (first_is _ (v, a) e) c

body-covered : (w : World) → Covered w → Covered (body_written w)
body-covered w c = record { within = c.within; frame = (c.within, omega arith); base = c.base; opened = c.opened; older = c.older; frozen = c.frozen; used = c.used; stands = c.stands; gated = c.gated; draft = c.draft }

gate-covered : (w v : World) (o : Option Frame) (a : StoreAnswer) → Covered w → FrameWithin w.settled (end w.history) o → gate_written w o ≡ Some (v, a) → Covered v
gate-covered w v None a c h e = absurd (none_is (v, a) e)
gate-covered w v (Some f) a c h e =
    let now : Covered (record w { frame = Some (record { upto = f.upto; gated = true }) }) = record { within = c.within; frame = h; base = c.base; opened = c.opened; older = c.older; frozen = c.frozen; used = c.used; stands = c.stands; gated = c.gated; draft = c.draft } in
    subst Covered (first_is _ (v, a) e) now

settled-covered : (w v : World) (o : Option Frame) (a : StoreAnswer) → Covered w → FrameWithin w.settled (end w.history) o → frame_settled w o ≡ Some (v, a) → Covered v
settled-covered w v None a c h e = absurd (none_is (v, a) e)
settled-covered w v (Some f) a c h e =
    let le = h.0 in
    let now : Covered (record w { settled = f.upto; frame = None }) = record {
      within = h.1;
      frame = tt;
      base = up w.settled f.upto w.installed.base le c.base;
      opened = opened-up w.settled f.upto w.opened le c.opened;
      older = all-weaker (λ (m : ℕ × Memtable). m.1.base ≤ w.settled) (λ (m : ℕ × Memtable). m.1.base ≤ f.upto) (λ m b. up w.settled f.upto m.1.base le b) w.older c.older;
      frozen = all-weaker (λ (m : Member). m.upto ≤ w.settled) (λ (m : Member). m.upto ≤ f.upto) (λ m b. up w.settled f.upto m.upto le b) w.frozen c.frozen;
      used = bases-up w.settled f.upto w.used.parts le c.used;
      stands = bases-up w.settled f.upto w.stands.parts le c.stands;
      gated = edition-up w.settled f.upto w.gated le c.gated;
      draft = draft-up w.settled f.upto w.draft le c.draft;
    } in
    subst Covered (happens f.gated _ v answers.Done a e).world now

begun-covered : (w : World) (o : Option Segment) → Covered w → Covered (begun_after w o)
begun-covered w None c = c
begun-covered w (Some segment) c = c

-- all is settled at a freeze
freeze-covered : (w : World) → may_freeze w ≡ true → Covered w → Covered (frozen_now w)
freeze-covered w may c =
    let test : is_settled w ≡ true = and_second (is_open w.installed) (is_settled w) (and_second w.starting _ may) in
    let all : end w.history ≤ w.settled = grind (arith, nat_tests) in
    record { within = c.within; frame = c.frame; base = c.base; opened = all; older = c.older; frozen = c.frozen; used = c.used; stands = c.stands; gated = c.gated; draft = c.draft }

install-covered : (w v : World) (o : Option Memtable) (a : StoreAnswer) → Covered w → OpenedUpto w.settled o → installed_now w o ≡ Some (v, a) → Covered v
install-covered w v None a c h e = absurd (none_is (v, a) e)
install-covered w v (Some m) a c h e =
    let now : Covered (record w { installed = m; opened = None; older = insert_entry nat_cmp w.older w.installed.number w.installed; frozen = member_of w m.base ∷ w.frozen; starting = false }) = record {
      within = c.within;
      frame = c.frame;
      base = h;
      opened = tt;
      older = insert-upto w.settled w.older w.installed.number w.installed c.base c.older;
      frozen = (h, c.frozen);
      used = c.used;
      stands = c.stands;
      gated = c.gated;
      draft = c.draft;
    } in
    subst Covered (first_is _ (v, a) e) now

plan-covered : (w : World) (ds : List Decision) → Covered w → Covered (planned w ds)
plan-covered w ds c = by_test (are_aborts ds)
  where
    by_test : (b : Bool) → Covered (cond b (carried_on w) (drafted w (draft_of w ds)))
    by_test true = record { within = c.within; frame = c.frame; base = c.base; opened = c.opened; older = c.older; frozen = tt; used = c.used; stands = c.stands; gated = c.gated; draft = c.draft }
    by_test false = record { within = c.within; frame = c.frame; base = c.base; opened = c.opened; older = c.older; frozen = c.frozen; used = c.used; stands = c.stands; gated = c.gated; draft = draft-covered w ds c }

run_put-covered : (w v : World) (d : Draft) (files : List RunFile) (a : StoreAnswer) → Covered w → BasesUpto w.settled d.edition.parts → run_put w d files ≡ Some (v, a) → Covered v
run_put-covered w v d [] a c h e = absurd (none_is (v, a) e)
run_put-covered w v d (file ∷ files) a c h e = subst Covered (first_is _ (v, a) e) (with_draft w (Some (record d { lacking = files })) c h)

table-covered : (w v : World) (o : Option Draft) (a : StoreAnswer) → Covered w → DraftUpto w.settled o → file_put w o ≡ Some (v, a) → Covered v
table-covered w v None a c h e = absurd (none_is (v, a) e)
table-covered w v (Some d) a c h e = run_put-covered w v d d.lacking a c h e

gated-covered : (w v : World) (o : Option Draft) (a : StoreAnswer) → Covered w → DraftUpto w.settled o → edition_gated w o ≡ Some (v, a) → Covered v
gated-covered w v None a c h e = absurd (none_is (v, a) e)
gated-covered w v (Some d) a c h e =
    let now : Covered (record w { gated = Some d.edition }) = record { within = c.within; frame = c.frame; base = c.base; opened = c.opened; older = c.older; frozen = c.frozen; used = c.used; stands = c.stands; gated = h; draft = c.draft } in
    subst Covered (happens (may_gate w d) _ v answers.Done a e).world now

stands-covered : (w v : World) (o : Option Edition) (a : StoreAnswer) → Covered w → EditionUpto w.settled o → edition_settled w o ≡ Some (v, a) → Covered v
stands-covered w v None a c h e = absurd (none_is (v, a) e)
stands-covered w v (Some d) a c h e =
    let now : Covered (record w { stands = d; gated = None }) = record { within = c.within; frame = c.frame; base = c.base; opened = c.opened; older = c.older; frozen = c.frozen; used = c.used; stands = h; gated = tt; draft = c.draft } in
    subst Covered (first_is _ (v, a) e) now

refuse-covered : (w v : World) (o : Option Draft) (a : StoreAnswer) → Covered w → refused w o ≡ Some (v, a) → Covered v
refuse-covered w v None a c e = absurd (none_is (v, a) e)
refuse-covered w v (Some d) a c e = subst Covered (first_is _ (v, a) e) (with_draft w None c tt)

take-upto : (n k : ℕ) (ms : List Member) → MembersUpto n ms → MembersUpto n (take k ms)
take-upto n zero ms all = tt
take-upto n (suc k) [] all = tt
take-upto n (suc k) (m ∷ ms) all = (all.0, take-upto n k ms all.1)

adopt-covered : (w v : World) (o : Option Draft) (a : StoreAnswer) → Covered w → DraftUpto w.settled o → adopted w o ≡ Some (v, a) → Covered v
adopt-covered w v None a c h e = absurd (none_is (v, a) e)
adopt-covered w v (Some d) a c h e =
    let now : Covered (adopt w d) = record { within = c.within; frame = c.frame; base = c.base; opened = c.opened; older = c.older; frozen = take-upto w.settled _ w.frozen c.frozen; used = h; stands = c.stands; gated = c.gated; draft = tt } in
    subst Covered (happens (d.edition.number == w.stands.number) (adopt w d) v answers.Done a e).world now

pub step-covered : (w v : World) (e : StoreEvent) (a : StoreAnswer) → Covered w → step w e ≡ Some (v, a) → Covered v
step-covered w v (events.Append caller pair) a c e = subst Covered (happens (may_append w) (appended w caller pair) v (answers.Number (end w.history)) a e).world (append-covered w caller pair c)
step-covered w v (events.Take caller) a c e = subst Covered (first_is _ (v, a) e) c
step-covered w v (events.Look caller key front) a c e = look-covered w v caller key front _ a c e
step-covered w v (events.Note caller) a c e = subst Covered (first_is _ (v, a) e) c
step-covered w v events.Body a c e = subst Covered (happens (not (is_some w.frame)) (body_written w) v answers.Done a e).world (body-covered w c)
step-covered w v events.Gate a c e = gate-covered w v w.frame a c c.frame e
step-covered w v events.Settled a c e = settled-covered w v w.frame a c c.frame e
step-covered w v events.Header a c e = subst Covered (happens (may_begin w) (begun_after w (last_of w.segments)) v answers.Done a e).world (begun-covered w (last_of w.segments) c)
step-covered w v events.Freeze a c e = let t = happens (may_freeze w) (frozen_now w) v answers.Done a e in subst Covered t.world (freeze-covered w t.test c)
step-covered w v events.Install a c e = install-covered w v w.opened a c c.opened e
step-covered w v (events.Pin caller) a c e = subst Covered (happens (may_pin w caller) (pinned w caller) v (answers.Pinned (length w.pins) w.installed.base) a e).world c
step-covered w v (events.List pin bound count) a c e = list-covered w v bound count _ a c e
step-covered w v (events.Plan may_abort) a c e = subst Covered (happens (may_plan w) (planned w (decisions_of w may_abort)) v answers.Done a e).world (plan-covered w (decisions_of w may_abort) c)
step-covered w v events.Table a c e = table-covered w v w.draft a c c.draft e
step-covered w v events.EditionGate a c e = gated-covered w v w.draft a c c.draft e
step-covered w v events.EditionSettled a c e = stands-covered w v w.gated a c c.gated e
step-covered w v events.Refuse a c e = refuse-covered w v w.draft a c e
step-covered w v events.Adopt a c e = adopt-covered w v w.draft a c c.draft e
step-covered w v events.Release a c e = subst Covered (happens (w.used.number == w.stands.number) (released w) v answers.Done a e).world c
step-covered w v (events.Remove number) a c e = subst Covered (happens (may_remove w number) (removed w number) v answers.Done a e).world c

opening-covered : Covered opening
opening-covered = record { within = omega arith; frame = tt; base = omega arith; opened = tt; older = tt; frozen = tt; used = (omega arith, tt); stands = (omega arith, tt); gated = tt; draft = tt }

from-covered : (es : List StoreEvent) (led last : World × List StoreAnswer) → Covered led.0 → run_from (Some led) es ≡ Some last → Covered last.0
from-covered [] led last c e = subst (λ (p : World × List StoreAnswer). Covered p.0) (same_Some led last e) c
from-covered (x ∷ xs) led last c e = by_step (λ next n t. from-covered xs next last n t) (step led.0 x) refl e
  where
    by_step : ((next : World × List StoreAnswer) → Covered next.0 → run_from (Some next) xs ≡ Some last → Covered last.0) → (o : Stepped) → step led.0 x ≡ o → run_from (answered led.1 o) xs ≡ Some last → Covered last.0
    by_step rest None is t = absurd (none_from xs last t)
    by_step rest (Some p) is t = rest (p.0, led.1 ++ p.1 ∷ []) (step-covered led.0 p.0 x p.1 c is) t

pub run-covered : (es : List StoreEvent) (told : List StoreAnswer) (w : World) → run opening es ≡ Some (w, told) → Covered w
run-covered es told w e = from-covered es (opening, []) (w, told) opening-covered e
