-- Each event keeps what holds of every world, and its answer tells of the history. To know: `step-holds`, `opening-holds`.
use Rattle.std.proofs.Common.{◌≡◌, ◌↔◌, ℕ, zero, suc, ◌+◌, ◌-◌, ◌≤◌, Bool, true, false, cond, ◌&&◌, not, nat_le, List, [], ◌∷◌, ◌++◌, length, take, Option, Some, None, is_some, IfSome, refl, sym, ap, subst, ◌∙◌, arith, length-append}
use Rattle.std.specs.Prelude.{◌==◌, slice_get}
use Rattle.std.specs.BTreeMap.{insert_entry}
use Rattle.std.specs.List.{AllByRecursion}
use Rattle.std.specs.Ordering.{nat_cmp}
use Rattle.std.proofs.lemmas.Bool.Decides.{nat_tests}
use Rattle.std.proofs.lemmas.List.{append-nil}
use Rattle.std.proofs.lemmas.Option.{same_Some}
use mathlib.Core.List.{IsPrefix}
use Rattle.rdb_base.specs.Histories.{end}
use Rattle.rdb_base.specs.Levels.{live}
use Rattle.rdb_base.specs.Pages.{page, rows_from, IsLastPage}
use Rattle.rdb_base.specs.declared.pair.Pair.{Pair}
use Rattle.rdb_base.specs.declared.row.Row.{Row}
use Rattle.rdb_base.proofs.Lists.{all-append}
use Rattle.rdb_base.proofs.PageLemmas.{page-front}
use Rattle.partition_plan.specs.declared.decision.Decision.{Decision}
use Rattle.store_core.specs.Claims.{IsMapAt, HeldHolds, PinHolds, DraftHolds, Core, core_of, IsSound, Sound, Counted}
use Rattle.store_core.specs.Laws.{Tells}
use Rattle.store_core.specs.Levels.{run_of}
use Rattle.store_core.specs.Steps.{when, last_of, may_append, may_look, shown, grown_by, entry_of, counted, holding, version_of, seeing, at_front, appended, took, looked, body_written, gate_written, frame_settled, may_begin, begun_after, may_freeze, frozen_now, member_of, installed_now, may_pin, pinned, is_last, listed, may_plan, decisions_of, are_aborts, draft_of, carried_on, drafted, planned, run_put, file_put, may_gate, edition_gated, edition_settled, refused, adopt, adopted, released, may_remove, removed, step}
use Rattle.store_core.specs.Worlds.{World, caller_in, with_caller, opening}
use Rattle.store_core.specs.declared.caller.Caller.{Caller}
use Rattle.store_core.specs.declared.draft.Draft.{Draft}
use Rattle.store_core.specs.declared.edition.Edition.{Edition}
use Rattle.store_core.specs.declared.frame.Frame.{Frame}
use Rattle.store_core.specs.declared.member.Member.{Member}
use Rattle.store_core.specs.declared.memtable.Memtable.{Memtable}
use Rattle.store_core.specs.declared.pin.Pin.{Pin}
use Rattle.store_core.specs.declared.run_file.RunFile.{RunFile}
use Rattle.store_core.specs.declared.segment.Segment.{Segment}
use Rattle.store_core.specs.declared.store_answer.StoreAnswer.{StoreAnswer}
use Rattle.store_core.specs.declared.store_answer.StoreAnswer.TheVariants as answers
use Rattle.store_core.specs.declared.store_event.StoreEvent.{StoreEvent}
use Rattle.store_core.specs.declared.store_event.StoreEvent.TheVariants as events
use Rattle.store_core.specs.declared.version.Version.{Version}
use Rattle.store_core.proofs.CallerLemmas.{callers-hold}
use Rattle.store_core.proofs.CountLemmas.{counted-more, counted-same}
use Rattle.store_core.proofs.GrownLemmas.{grown-sound}
use Rattle.store_core.proofs.PlanningLemmas.{map-now, carried-below, draft-below}
use Rattle.store_core.proofs.ShownLemmas.{shown-after}

-- what holds of every world
pub record Holds (w : World) : Type 0 where
  pub sound : Sound w
  pub counts : Counted w

-- and of the world after an event with its answer
abbrev pub Kept : World → StoreEvent → StoreAnswer → Type 0
Kept v e a = Holds v × Tells v e a

-- ---- steps that happen

pub none_is : {X : Type 0} (x : X) → None ≡ Some x → ⊥
none_is x e = absurd cc

pub first_is : {A B : Type 0} (p q : A × B) → Some p ≡ Some q → p.0 ≡ q.0
first_is {A = A} {B = B} p q e = ap (λ (r : A × B). r.0) (same_Some p q e)

pub record Happens (b : Bool) (w v : World) (x a : StoreAnswer) : Type 0 where
  pub test : b ≡ true
  pub world : w ≡ v
  pub answer : x ≡ a

pub happens : (b : Bool) (w v : World) (x a : StoreAnswer) → when b w x ≡ Some (v, a) → Happens b w v x a
happens true w v x a e = let p = same_Some (w, x) (v, a) e in record { test = refl; world = ap (λ (s : World × StoreAnswer). s.0) p; answer = ap (λ (s : World × StoreAnswer). s.1) p }
happens false w v x a e = absurd (none_is (v, a) e)

pub and_first : (a b : Bool) → (a && b) ≡ true → a ≡ true
and_first true b h = refl
and_first false b h = absurd cc

pub and_second : (a b : Bool) → (a && b) ≡ true → b ≡ true
and_second true b h = h
and_second false b h = absurd cc

le_from : (m n : ℕ) → nat_le m n ≡ true → m ≤ n
le_from m n h = grind (arith, nat_tests)

-- ---- callers

with_callers : (c : Core) (callers : List (ℕ × Caller)) → IsSound c → ((number : ℕ) → HeldHolds c.history (caller_in callers number)) → IsSound (record c { callers = callers })
with_callers c callers s held =
    record { upto = s.upto; newer = s.newer; taken = s.taken; frozen = s.frozen; from = s.from; covers = s.covers; below = s.below; base = s.base; opened = s.opened; draft = s.draft; held = held; pins = s.pins }

held-with : (c : Core) (number : ℕ) (caller : Caller) → IsSound c → HeldHolds c.history caller → (n : ℕ) → HeldHolds c.history (caller_in (with_caller c.callers number caller) n)
held-with c number caller s holds = callers-hold (λ n k. HeldHolds c.history k) c.callers number caller holds (λ m differ. s.held m)

front-holds : (w : World) (number front : ℕ) → Holds w → Holds (at_front w number front)
front-holds w number front h =
    let caller = seeing (caller_in w.callers number) front in
    record {
      sound = with_callers (core_of w) (with_caller w.callers number caller) h.sound (held-with (core_of w) number caller h.sound (h.sound.held number));
      counts = counted-same w.history.entries w.callers number caller h.counts refl;
    }

-- ---- one event each

append-holds : (w : World) (number : ℕ) (pair : Pair) → Holds w → Holds (appended w number pair)
append-holds w number pair h =
    let entry = entry_of w number pair in
    let caller = counted (caller_in w.callers number) (end w.history + 1) in
    let grown = record (core_of w) { history = grown_by w.history entry } in
    let g = grown-sound (core_of w) entry h.sound in
    record {
      sound = with_callers grown (with_caller w.callers number caller) g (held-with grown number caller g (g.held number));
      counts = counted-more w.history.entries w.callers entry caller h.counts refl refl;
    }

take-holds : (w : World) (number : ℕ) → Holds w → Holds (took w number)
take-holds w number h =
    let caller = holding (caller_in w.callers number) (version_of w) in
    record {
      sound = with_callers (core_of w) (with_caller w.callers number caller) h.sound (held-with (core_of w) number caller h.sound (map-now (core_of w) h.sound));
      counts = counted-same w.history.entries w.callers number caller h.counts refl;
    }

look-kept : (w v : World) (number : ℕ) (key : List ℕ) (front : ℕ) (held : Option Version) (a : StoreAnswer) → Holds w → IfSome held (λ version. IsMapAt w.history version.base version.below)
    → looked w number key front held ≡ Some (v, a) → Kept v (events.Look number key front) a
look-kept w v number key front None a h m e = absurd (none_is (v, a) e)
look-kept w v number key front (Some version) a h m e =
    let test = may_look w number version front in
    let found = answers.Found front (shown w.history version key front) in
    let s = happens test (at_front w number front) v found a e in
    let le = le_from version.base front (and_first (nat_le version.base front) _ (and_second (nat_le (caller_in w.callers number).front front) _ s.test)) in
    let kept : Kept (at_front w number front) (events.Look number key front) found = (front-holds w number front h, (refl, shown-after w.history version key front m le)) in
    subst (λ (p : World × StoreAnswer). Kept p.0 (events.Look number key front) p.1) (λ i. (s.world i, s.answer i)) kept

freeze-sound : (w : World) → Sound w → Sound (frozen_now w)
freeze-sound w s = record { upto = s.upto; newer = s.newer; taken = s.taken; frozen = s.frozen; from = s.from; covers = s.covers; below = s.below; base = s.base; opened = (s.base, omega arith); draft = s.draft; held = s.held; pins = s.pins }

install-holds : (w v : World) (opened : Option Memtable) (a : StoreAnswer) → Holds w → IfSome opened (λ m. (w.installed.base ≤ m.base) × (m.base ≤ end w.history)) → installed_now w opened ≡ Some (v, a) → Holds v
install-holds w v None a h up e = absurd (none_is (v, a) e)
install-holds w v (Some m) a h up e =
    let s = h.sound in
    let now : Sound (record w { installed = m; opened = None; older = insert_entry nat_cmp w.older w.installed.number w.installed; frozen = member_of w m.base ∷ w.frozen; starting = false }) = record {
      upto = s.upto;
      newer = member_of w m.base ∷ s.newer;
      taken = s.taken;
      frozen = ap (λ (ms : List Member). member_of w m.base ∷ ms) s.frozen;
      from = s.from;
      covers = (refl, up.0, refl, s.covers);
      below = s.below;
      base = up.1;
      opened = tt;
      draft = s.draft;
      held = s.held;
      pins = s.pins;
    } in
    subst Holds (first_is _ (v, a) e) (record { sound = now; counts = h.counts })

pin-holds : (w : World) (number : ℕ) → Holds w → Holds (pinned w number)
pin-holds w number h =
    let f = front-holds w number w.installed.base h in
    let s = f.sound in
    record {
      sound = record {
        upto = s.upto;
        newer = s.newer;
        taken = s.taken;
        frozen = s.frozen;
        from = s.from;
        covers = s.covers;
        below = s.below;
        base = s.base;
        opened = s.opened;
        draft = s.draft;
        held = s.held;
        pins = all-append (PinHolds w.history) w.pins _ h.sound.pins (map-now (core_of w) h.sound, tt);
      };
      counts = f.counts;
    }

-- ---- pages

get-holds : {X : Type 0} (P : X → Type 0) (xs : List X) (n : ℕ) (x : X) → AllByRecursion P xs → slice_get xs n ≡ Some x → P x
get-holds P [] n x all e = absurd cc
get-holds P (y ∷ ys) zero x all e = subst P (same_Some y x e) all.0
get-holds P (y ∷ ys) (suc n) x all e = get-holds P ys n x all.1 e

nothing_more : {X : Type 0} (xs : List X) → length xs ≡ 0 → xs ≡ []
nothing_more [] e = refl
nothing_more (x ∷ xs) e = absurd (omega arith)

-- a beginning that is as long is the whole
whole-prefix : (xs ys : List Row) → IsPrefix xs ys → length xs ≡ length ys → xs ≡ ys
whole-prefix xs ys p e =
    let l = length-append xs p.0 in
    let whole = ap length p.1 in
    let none : p.0 ≡ [] = nothing_more p.0 (omega (arith, l, whole, e)) in
    sym (append-nil xs) ∙ ap (λ (rest : List Row). xs ++ rest) (sym none) ∙ p.1

is_last-page : (rows : List Row) (bound : List ℕ) (count : ℕ) → (is_last rows bound count ≡ true) ↔ IsLastPage rows bound count
is_last-page rows bound count = (
  (λ same. whole-prefix (page rows bound count) (rows_from rows bound) (page-front rows bound count) (grind (arith, nat_tests))),
  (λ last. let e = ap length last in grind (arith, nat_tests)),
)

list-kept : (w v : World) (pin : ℕ) (bound : List ℕ) (count : ℕ) (o : Option Pin) (a : StoreAnswer) → slice_get w.pins pin ≡ o → Holds w → listed w bound count o ≡ Some (v, a) → Kept v (events.List pin bound count) a
list-kept w v pin bound count None a found h e = absurd (none_is (v, a) e)
list-kept w v pin bound count (Some p) a found h e =
    let m = get-holds (PinHolds w.history) w.pins pin p h.sound.pins found in
    let rows = live (run_of p.below) in
    let told = answers.Rows (page rows bound count) (is_last rows bound count) in
    let kept : Kept w (events.List pin bound count) told = (h, (p, found, ap (λ (rs : List Row). page rs bound count) m.rows, subst (λ (rs : List Row). (is_last rows bound count ≡ true) ↔ IsLastPage rs bound count) m.rows (is_last-page rows bound count))) in
    subst (λ (r : World × StoreAnswer). Kept r.0 (events.List pin bound count) r.1) (same_Some (w, told) (v, a) e) kept

-- ---- compactions

none_there : {X : Type 0} (o : Option X) → not (is_some o) ≡ true → o ≡ None
none_there None h = refl
none_there (Some x) h = absurd cc

carried-sound : (w : World) → w.draft ≡ None → Sound w → Sound (carried_on w)
carried-sound w none s =
    let now = map-now (core_of w) s in
    record {
      upto = w.installed.base;
      newer = [];
      taken = [];
      frozen = refl;
      from = now.from;
      covers = refl;
      below = carried-below (core_of w) s;
      base = s.base;
      opened = s.opened;
      draft = subst (λ (o : Option Draft). IfSome o (λ d. DraftHolds w.history w.installed.base [] d)) (sym none) tt;
      held = s.held;
      pins = s.pins;
    }

drafted-sound : (w : World) (decisions : List Decision) → Sound w → Sound (drafted w (draft_of w decisions))
drafted-sound w decisions s =
    let now = map-now (core_of w) s in
    record {
      upto = w.installed.base;
      newer = [];
      taken = w.frozen;
      frozen = refl;
      from = now.from;
      covers = refl;
      below = record { rows = now.rows; rises = s.below.rises; all = s.below.all };
      base = s.base;
      opened = s.opened;
      draft = record { taken = refl; below = draft-below w decisions s };
      held = s.held;
      pins = s.pins;
    }

plan-holds : (w : World) (decisions : List Decision) → w.draft ≡ None → Holds w → Holds (planned w decisions)
plan-holds w decisions none h = by_test (are_aborts decisions)
  where
    by_test : (b : Bool) → Holds (cond b (carried_on w) (drafted w (draft_of w decisions)))
    by_test true = record { sound = carried-sound w none h.sound; counts = h.counts }
    by_test false = record { sound = drafted-sound w decisions h.sound; counts = h.counts }

with_draft : (w : World) (d : Option Draft) (h : Holds w) → IfSome d (λ d. DraftHolds w.history h.sound.upto h.sound.taken d) → Holds (record w { draft = d })
with_draft w d h holds =
    let s = h.sound in
    record {
      sound = record { upto = s.upto; newer = s.newer; taken = s.taken; frozen = s.frozen; from = s.from; covers = s.covers; below = s.below; base = s.base; opened = s.opened; draft = holds; held = s.held; pins = s.pins };
      counts = h.counts;
    }

run_put-holds : (w v : World) (d : Draft) (files : List RunFile) (a : StoreAnswer) → (h : Holds w) → DraftHolds w.history h.sound.upto h.sound.taken d → run_put w d files ≡ Some (v, a) → Holds v
run_put-holds w v d [] a h holds e = absurd (none_is (v, a) e)
run_put-holds w v d (file ∷ files) a h holds e =
    let n = with_draft w (Some (record d { lacking = files })) h (record { taken = holds.taken; below = holds.below }) in
    subst Holds (first_is _ (v, a) e) (record { sound = n.sound; counts = n.counts })

table-holds : (w v : World) (o : Option Draft) (a : StoreAnswer) → (h : Holds w) → IfSome o (λ d. DraftHolds w.history h.sound.upto h.sound.taken d) → file_put w o ≡ Some (v, a) → Holds v
table-holds w v None a h holds e = absurd (none_is (v, a) e)
table-holds w v (Some d) a h holds e = run_put-holds w v d d.lacking a h holds e

refuse-holds : (w v : World) (o : Option Draft) (a : StoreAnswer) → Holds w → refused w o ≡ Some (v, a) → Holds v
refuse-holds w v None a h e = absurd (none_is (v, a) e)
refuse-holds w v (Some d) a h e = subst Holds (first_is _ (v, a) e) (with_draft w None h tt)

take-newer : {X : Type 0} (xs ys : List X) → take (length xs) (xs ++ ys) ≡ xs ++ []
take-newer [] ys = refl
take-newer (x ∷ xs) ys = ap (λ t. x ∷ t) (take-newer xs ys)

-- without the members that were taken the newer ones are left
newer-left : (newer taken ms : List Member) (n : ℕ) → ms ≡ newer ++ taken → n ≡ length taken → take (length ms - n) ms ≡ newer ++ []
newer-left newer taken ms n is e =
    let l = length-append newer taken in
    let k : length (newer ++ taken) - length taken ≡ length newer = omega (arith, l) in
    (λ i. take (length (is i) - e i) (is i)) ∙ ap (λ (k : ℕ). take k (newer ++ taken)) k ∙ take-newer newer taken

adopt-holds : (w v : World) (o : Option Draft) (a : StoreAnswer) → (h : Holds w) → IfSome o (λ d. DraftHolds w.history h.sound.upto h.sound.taken d) → adopted w o ≡ Some (v, a) → Holds v
adopt-holds w v None a h holds e = absurd (none_is (v, a) e)
adopt-holds w v (Some d) a h holds e =
    let s = h.sound in
    let t = happens (d.edition.number == w.stands.number) (adopt w d) v answers.Done a e in
    let now : Sound (adopt w d) = record {
      upto = s.upto;
      newer = s.newer;
      taken = [];
      frozen = newer-left s.newer s.taken w.frozen d.taken s.frozen holds.taken;
      from = s.from;
      covers = s.covers;
      below = holds.below;
      base = s.base;
      opened = s.opened;
      draft = tt;
      held = s.held;
      pins = s.pins;
    } in
    subst Holds t.world (record { sound = now; counts = h.counts })

-- ---- events that the claims do not read

gate-holds : (w v : World) (o : Option Frame) (a : StoreAnswer) → Holds w → gate_written w o ≡ Some (v, a) → Holds v
gate-holds w v None a h e = absurd (none_is (v, a) e)
gate-holds w v (Some f) a h e = subst Holds (first_is _ (v, a) e) (record { sound = h.sound; counts = h.counts })

settled-holds : (w v : World) (o : Option Frame) (a : StoreAnswer) → Holds w → frame_settled w o ≡ Some (v, a) → Holds v
settled-holds w v None a h e = absurd (none_is (v, a) e)
settled-holds w v (Some f) a h e = subst Holds (happens f.gated _ v answers.Done a e).world (record { sound = h.sound; counts = h.counts })

begun-holds : (w : World) (o : Option Segment) → Holds w → Holds (begun_after w o)
begun-holds w None h = h
begun-holds w (Some segment) h = record { sound = h.sound; counts = h.counts }

gated-holds : (w v : World) (o : Option Draft) (a : StoreAnswer) → Holds w → edition_gated w o ≡ Some (v, a) → Holds v
gated-holds w v None a h e = absurd (none_is (v, a) e)
gated-holds w v (Some d) a h e = subst Holds (happens (may_gate w d) _ v answers.Done a e).world (record { sound = h.sound; counts = h.counts })

stands-holds : (w v : World) (o : Option Edition) (a : StoreAnswer) → Holds w → edition_settled w o ≡ Some (v, a) → Holds v
stands-holds w v None a h e = absurd (none_is (v, a) e)
stands-holds w v (Some d) a h e = subst Holds (first_is _ (v, a) e) (record { sound = h.sound; counts = h.counts })

-- ---- all events

pub step-holds : (w v : World) (e : StoreEvent) (a : StoreAnswer) → Holds w → step w e ≡ Some (v, a) → Kept v e a
step-holds w v (events.Append caller pair) a h e = (subst Holds (happens (may_append w) (appended w caller pair) v (answers.Number (end w.history)) a e).world (append-holds w caller pair h), tt)
step-holds w v (events.Take caller) a h e = (subst Holds (first_is _ (v, a) e) (take-holds w caller h), tt)
step-holds w v (events.Look caller key front) a h e = look-kept w v caller key front (caller_in w.callers caller).held a h (h.sound.held caller) e
step-holds w v (events.Note caller) a h e = (subst Holds (first_is _ (v, a) e) (front-holds w caller (end w.history) h), tt)
step-holds w v events.Body a h e = (subst Holds (happens (not (is_some w.frame)) (body_written w) v answers.Done a e).world (record { sound = h.sound; counts = h.counts }), tt)
step-holds w v events.Gate a h e = (gate-holds w v w.frame a h e, tt)
step-holds w v events.Settled a h e = (settled-holds w v w.frame a h e, tt)
step-holds w v events.Header a h e = (subst Holds (happens (may_begin w) (begun_after w (last_of w.segments)) v answers.Done a e).world (begun-holds w (last_of w.segments) h), tt)
step-holds w v events.Freeze a h e = (subst Holds (happens (may_freeze w) (frozen_now w) v answers.Done a e).world (record { sound = freeze-sound w h.sound; counts = h.counts }), tt)
step-holds w v events.Install a h e = (install-holds w v w.opened a h h.sound.opened e, tt)
step-holds w v (events.Pin caller) a h e = (subst Holds (happens (may_pin w caller) (pinned w caller) v (answers.Pinned (length w.pins) w.installed.base) a e).world (pin-holds w caller h), tt)
step-holds w v (events.List pin bound count) a h e = list-kept w v pin bound count (slice_get w.pins pin) a refl h e
step-holds w v (events.Plan may_abort) a h e =
    let t = happens (may_plan w) (planned w (decisions_of w may_abort)) v answers.Done a e in
    (subst Holds t.world (plan-holds w (decisions_of w may_abort) (none_there w.draft (and_first (not (is_some w.draft)) _ t.test)) h), tt)
step-holds w v events.Table a h e = (table-holds w v w.draft a h h.sound.draft e, tt)
step-holds w v events.EditionGate a h e = (gated-holds w v w.draft a h e, tt)
step-holds w v events.EditionSettled a h e = (stands-holds w v w.gated a h e, tt)
step-holds w v events.Refuse a h e = (refuse-holds w v w.draft a h e, tt)
step-holds w v events.Adopt a h e = (adopt-holds w v w.draft a h h.sound.draft e, tt)
step-holds w v events.Release a h e = (subst Holds (happens (w.used.number == w.stands.number) (released w) v answers.Done a e).world (record { sound = h.sound; counts = h.counts }), tt)
step-holds w v (events.Remove number) a h e = (subst Holds (happens (may_remove w number) (removed w number) v answers.Done a e).world (record { sound = h.sound; counts = h.counts }), tt)

pub opening-holds : Holds opening
opening-holds =
    record {
      sound = record {
        upto = 0;
        newer = [];
        taken = [];
        frozen = refl;
        from = omega arith;
        covers = refl;
        below = record { rows = refl; rises = tt; all = record { first = refl; each = (record { rise = tt; inside = tt }, tt, tt) } };
        base = omega arith;
        opened = tt;
        draft = tt;
        held = λ number. tt;
        pins = tt;
      };
      counts = record { fair = λ caller. tt; counts = λ number. refl };
    }
