-- Segments before an edition's first one are not needed. To know: `last_from-mono`, `draft-needs`, `step-needed`, `run-needed`.
use Rattle.std.proofs.Common.{◌≡◌, ◌⊎◌, inl, inr, ℕ, zero, suc, ◌+◌, ◌≤◌, ◌<◌, Bool, true, false, cond, max, min, List, [], ◌∷◌, ◌++◌, length, refl, sym, ap, subst, ◌∙◌, arith, length-append}
use Rattle.std.specs.Prelude.{◌==◌, ◌&&◌, Option, Some, None, IfSome, is_some, not, nat_le, nat_lt, slice_get}
use Rattle.std.specs.BTreeMap.{insert_entry}
use Rattle.std.specs.List.{AllByRecursion}
use Rattle.std.specs.Map.{values_of}
use Rattle.std.specs.Ordering.{nat_cmp, match_ordering}
use Rattle.std.specs.declared.cmp.Ordering.{Ordering}
use Rattle.std.specs.declared.cmp.Ordering.TheVariants.{Greater}
use Rattle.std.specs.Cmp.{nat_cmp_is}
use Rattle.std.proofs.lemmas.Bool.{true≢false}
use Rattle.std.proofs.lemmas.Bool.Decides.{nat_tests}
use Rattle.std.proofs.lemmas.Option.{same_Some}
use Rattle.rdb_base.specs.Histories.{end}
use Rattle.rdb_base.specs.Levels.{merged}
use Rattle.rdb_base.specs.Pages.{pairs_from, row_size}
use Rattle.rdb_base.specs.Ranges.{in_range}
use Rattle.rdb_base.specs.declared.entry.Entry.{Entry}
use Rattle.rdb_base.specs.declared.pair.Pair.{Pair}
use Rattle.rdb_base.specs.declared.row.Row.{Row}
use Rattle.rdb_base.proofs.Lists.{all-weaker, all-append, all-front, all-back}
use Rattle.partition_plan.specs.Cuts.{cut_rows, cut_after, onto_first}
use Rattle.partition_plan.specs.declared.limits.TheConstants.{PART_MAX}
use Rattle.partition_plan.specs.declared.decision.Decision.{Decision}
use Rattle.partition_plan.specs.declared.decision.Decision.TheVariants.{Abort, Minor, Major, Split}
use Rattle.partition_plan.specs.Compactions.{is_aborted}
use Rattle.partition_plan.specs.Pieces.{PieceState, pieces_of, pieces_from}
use Rattle.store_core.specs.Editions.{runs_in, last_from, segment_with, segment_with_some, first_inside, oldest_of, high_of, news_in, decisions_after, tasks_in, pieces_in, next_after, next_after_pieces, least, is_carried, first_needed, base_after, parts_of_pieces, parts_of_all}
use Rattle.store_core.specs.SegmentLaws.{PartNeeds, PartsNeed, EditionNeeds, NumbersRise, Tail, tail_of, OpensNext, Needed, SegmentsNeeded}
use Rattle.store_core.specs.Steps.{Stepped, answered, run_from, run, entry_of, may_append, may_look, shown, at_front, appended, looked, body_written, gate_written, frame_settled, last_of, may_begin, begun_after, may_freeze, frozen_now, member_of, installed_now, may_pin, pinned, listed, may_plan, new_pairs, news_of, decisions_of, are_aborts, tasks_of, first_of, begins_of, draft_of, carried_on, drafted, planned, run_put, file_put, may_gate, edition_gated, edition_settled, refused, adopt, adopted, released, may_remove, removed, step}
use Rattle.store_core.specs.Worlds.{World, memtables, opening}
use Rattle.store_core.specs.declared.draft.Draft.{Draft}
use Rattle.store_core.specs.declared.edition.Edition.{Edition}
use Rattle.store_core.specs.declared.edition_part.EditionPart.{EditionPart}
use Rattle.store_core.specs.declared.frame.Frame.{Frame}
use Rattle.store_core.specs.declared.memtable.Memtable.{Memtable}
use Rattle.store_core.specs.declared.part_news.PartNews.{PartNews}
use Rattle.store_core.specs.declared.part_task.PartTask.{PartTask}
use Rattle.store_core.specs.declared.pin.Pin.{Pin}
use Rattle.store_core.specs.declared.run_file.RunFile.{RunFile}
use Rattle.store_core.specs.declared.segment.Segment.{Segment}
use Rattle.store_core.specs.declared.store_answer.StoreAnswer.{StoreAnswer}
use Rattle.store_core.specs.declared.store_answer.StoreAnswer.TheVariants as answers
use Rattle.store_core.specs.declared.store_event.StoreEvent.{StoreEvent}
use Rattle.store_core.specs.declared.store_event.StoreEvent.TheVariants as events
use Rattle.store_core.specs.declared.version.Version.{Version}
use Rattle.store_core.proofs.EventLemmas.{none_is, first_is, happens}
use Rattle.store_core.proofs.RangeLemmas.{end-grown}
use Rattle.store_core.proofs.RunLemmas.{none_from}

le_test : (a b : ℕ) → a ≤ b → nat_le a b ≡ true
le_test a b h = grind (arith, nat_tests)

le_from : (a b : ℕ) → nat_le a b ≡ true → a ≤ b
le_from a b h = grind (arith, nat_tests)

not_le : (a b : ℕ) → nat_le a b ≡ false → b < a
not_le a b h = grind (arith, nat_tests)

-- ---- the segment of a number

-- a later number lies in no earlier segment
pub last_from-mono : (found more : ℕ) (ms : List Memtable) (n k : ℕ) → n ≤ k → found ≤ more → AllByRecursion (λ (m : Memtable). found ≤ m.number) ms → NumbersRise ms → last_from found ms n ≤ last_from more ms k
last_from-mono found more [] n k le lower all rise = lower
last_from-mono found more (m ∷ ms) n k le lower all rise = by_tests (λ f g low each. last_from-mono f g ms n k le low each rise.1) (nat_le m.base n) (nat_le m.base k) refl refl
  where
    by_tests : ((f g : ℕ) → f ≤ g → AllByRecursion (λ (o : Memtable). f ≤ o.number) ms → last_from f ms n ≤ last_from g ms k) → (a b : Bool) → nat_le m.base n ≡ a → nat_le m.base k ≡ b → last_from (cond a m.number found) ms n ≤ last_from (cond b m.number more) ms k
    by_tests rest true true s t = rest m.number m.number (omega arith) rise.0
    by_tests rest true false s t = let x = le_from m.base n s in let y = not_le m.base k t in absurd (omega (arith, x, y, le))
    by_tests rest false true s t = rest found m.number all.0 all.1
    by_tests rest false false s t = rest found more lower all.1

last_from-append : (found : ℕ) (ms : List Memtable) (m : Memtable) (n : ℕ) → last_from found (ms ++ m ∷ []) n ≡ cond (nat_le m.base n) m.number (last_from found ms n)
last_from-append found [] m n = refl
last_from-append found (x ∷ xs) m n = last_from-append (cond (nat_le x.base n) x.number found) xs m n

-- the last memtable has all from its base on
segment-last : (ms : List Memtable) (m : Memtable) (n : ℕ) → m.base ≤ n → segment_with (ms ++ m ∷ []) n ≡ m.number
segment-last ms m n le = last_from-append 0 ms m n ∙ ap (λ (b : Bool). cond b m.number (last_from 0 ms n)) (le_test m.base n le)

segment-mono : (ms : List Memtable) (n k : ℕ) → n ≤ k → NumbersRise ms → segment_with ms n ≤ segment_with ms k
segment-mono ms n k le rise = last_from-mono 0 0 ms n k le (omega arith) (all_from ms) rise
  where
    all_from : (ms : List Memtable) → AllByRecursion (λ (m : Memtable). 0 ≤ m.number) ms
    all_from [] = tt
    all_from (m ∷ ms) = (omega arith, all_from ms)

-- ---- the first entry of a range

first_inside-found : (low : List ℕ) (high : Option (List ℕ)) (base number : ℕ) (es : List Entry) (n : ℕ) (e : Entry) → slice_get es n ≡ Some e → base ≤ number + n → in_range low high e.key ≡ true
    → (k : ℕ) × (first_inside low high base number es ≡ Some k) × (k ≤ number + n)
first_inside-found low high base number [] n e at le inside = absurd cc
first_inside-found low high base number (x ∷ xs) n e at le inside = by_test (λ m there up. first_inside-found low high base (number + 1) xs m e there up inside) (nat_le base number && in_range low high x.key) refl n at le
  where
    by_test : ((m : ℕ) → slice_get xs m ≡ Some e → base ≤ (number + 1) + m → (k : ℕ) × (first_inside low high base (number + 1) xs ≡ Some k) × (k ≤ (number + 1) + m))
        → (b : Bool) → (nat_le base number && in_range low high x.key) ≡ b → (m : ℕ) → slice_get (x ∷ xs) m ≡ Some e → base ≤ number + m
        → (k : ℕ) × (cond b (Some number) (first_inside low high base (number + 1) xs) ≡ Some k) × (k ≤ number + m)
    by_test rest true t m there up = (number, refl, omega arith)
    by_test rest false t zero there up =
        let same : x ≡ e = same_Some x e there in
        let first : nat_le base number ≡ true = le_test base number (omega (arith, up)) in
        let both : (nat_le base number && in_range low high x.key) ≡ true = (λ i. first i && in_range low high (same i).key) ∙ inside in
        absurd (true≢false (sym both ∙ t))
    by_test rest false t (suc m) there up =
        let found = rest m there (omega (arith, up)) in
        let k = found.2 in
        (found.0, found.1, omega (arith, k))

-- ---- what an edition needs while log and memtables grow

-- each entry of the new log was there, in no later segment, or lies in a segment from the active one on
abbrev Carries : List Memtable → List Entry → List Memtable → List Entry → ℕ → Type 0
Carries ms log more longer active =
    (n : ℕ) (e : Entry) → slice_get longer n ≡ Some e → ((slice_get log n ≡ Some e) × (segment_with ms n ≤ segment_with more n)) ⊎ (active ≤ segment_with more n)

parts-carried : (ms : List Memtable) (log : List Entry) (more : List Memtable) (longer : List Entry) (active first : ℕ) (parts : List EditionPart) → Carries ms log more longer active → first ≤ active
    → PartsNeed first ms log parts → PartsNeed first more longer parts
parts-carried ms log more longer active first [] carries le h = tt
parts-carried ms log more longer active first (part ∷ parts) carries le h = (one, parts-carried ms log more longer active first parts carries le h.1)
  where
    by_case : (n : ℕ) (e : Entry) → part.base ≤ n → in_range part.low (high_of parts) e.key ≡ true → ((slice_get log n ≡ Some e) × (segment_with ms n ≤ segment_with more n)) ⊎ (active ≤ segment_with more n) → first ≤ segment_with more n
    by_case n e base inside (inl old) = let was = h.0 n e old.0 base inside in let up = old.1 in omega (arith, was, up)
    by_case n e base inside (inr new) = omega (arith, le, new)

    one : PartNeeds first more longer (high_of parts) part
    one n e at base inside = by_case n e base inside (carries n e at)

needs-carried : (ms : List Memtable) (log : List Entry) (more : List Memtable) (longer : List Entry) (active next : ℕ) (edition : Edition) → Carries ms log more longer active → active ≤ next
    → EditionNeeds ms log active edition → EditionNeeds more longer next edition
needs-carried ms log more longer active next edition carries le h =
    let first = h.first in
    record { parts = parts-carried ms log more longer active edition.first edition.parts carries h.first h.parts; first = omega (arith, le, first) }

gated-carried : (ms : List Memtable) (log : List Entry) (more : List Memtable) (longer : List Entry) (active next : ℕ) (edition : Option Edition) → Carries ms log more longer active → active ≤ next
    → IfSome edition (EditionNeeds ms log active) → IfSome edition (EditionNeeds more longer next)
gated-carried ms log more longer active next None carries le t = tt
gated-carried ms log more longer active next (Some e) carries le h = needs-carried ms log more longer active next e carries le h

draft-carried : (ms : List Memtable) (log : List Entry) (more : List Memtable) (longer : List Entry) (active next : ℕ) (draft : Option Draft) → Carries ms log more longer active → active ≤ next
    → IfSome draft (λ d. EditionNeeds ms log active d.edition) → IfSome draft (λ d. EditionNeeds more longer next d.edition)
draft-carried ms log more longer active next None carries le t = tt
draft-carried ms log more longer active next (Some d) carries le h = needs-carried ms log more longer active next d.edition carries le h

-- ---- append

get-front : (es more : List Entry) (n : ℕ) → n < length es → slice_get (es ++ more) n ≡ slice_get es n
get-front [] more n lt = absurd (omega (arith, lt))
get-front (x ∷ xs) more zero lt = refl
get-front (x ∷ xs) more (suc n) lt = get-front xs more n (omega (arith, lt))

append-carries : (ms : List Memtable) (m : Memtable) (log : List Entry) (entry : Entry) → m.base ≤ length log → Carries (ms ++ m ∷ []) log (ms ++ m ∷ []) (log ++ entry ∷ []) m.number
append-carries ms m log entry base n e at = by_test (nat_lt n (length log)) refl
  where
    by_test : (b : Bool) → nat_lt n (length log) ≡ b → ((slice_get log n ≡ Some e) × (segment_with (ms ++ m ∷ []) n ≤ segment_with (ms ++ m ∷ []) n)) ⊎ (m.number ≤ segment_with (ms ++ m ∷ []) n)
    by_test true t = let lt : n < length log = grind (arith, nat_tests) in inl (sym (get-front log (entry ∷ []) n lt) ∙ at, omega arith)
    by_test false t =
        let from : length log ≤ n = grind (arith, nat_tests) in
        let is = segment-last ms m n (omega (arith, base, from)) in
        inr (omega (arith, is))

opened-longer : (t : Tail) (entry : Entry) (opened : Option Memtable) → IfSome opened (OpensNext t) → IfSome opened (OpensNext (record t { log = t.log ++ entry ∷ [] }))
opened-longer t entry None h = tt
opened-longer t entry (Some m) h = let len = length-append t.log (entry ∷ []) in let base = h.0 in (omega (arith, len, base), h.1)

append-needed : (w : World) (number : ℕ) (pair : Pair) → Needed w → Needed (appended w number pair)
append-needed w number pair h =
    let entry = entry_of w number pair in
    let ms = memtables w in
    let carries = append-carries (values_of w.older) w.installed w.log entry h.base in
    let len = length-append w.log (entry ∷ []) in
    let base = h.base in
    let whole = h.whole in
    let grown = end-grown w.history entry in
    let same : w.installed.number ≤ w.installed.number = omega arith in
    record {
      whole = omega (arith, len, grown, whole);
      rise = h.rise;
      keys = h.keys;
      base = omega (arith, len, base);
      opened = opened-longer (tail_of w) entry w.opened h.opened;
      used = needs-carried ms w.log ms (w.log ++ entry ∷ []) w.installed.number w.installed.number w.used carries same h.used;
      stands = needs-carried ms w.log ms (w.log ++ entry ∷ []) w.installed.number w.installed.number w.stands carries same h.stands;
      gated = gated-carried ms w.log ms (w.log ++ entry ∷ []) w.installed.number w.installed.number w.gated carries same h.gated;
      draft = draft-carried ms w.log ms (w.log ++ entry ∷ []) w.installed.number w.installed.number w.draft carries same h.draft;
    }

-- ---- freeze and install

rise-last : (ms : List Memtable) (m k : Memtable) → m.number ≤ k.number → NumbersRise (ms ++ m ∷ []) → NumbersRise (ms ++ k ∷ [])
rise-last [] m k le rise = (tt, tt)
rise-last (x ∷ xs) m k le rise =
    let last = (all-back (λ (o : Memtable). x.number ≤ o.number) xs (m ∷ []) rise.0).0 in
    (all-append (λ (o : Memtable). x.number ≤ o.number) xs (k ∷ []) (all-front (λ (o : Memtable). x.number ≤ o.number) xs (m ∷ []) rise.0) (omega (arith, le, last), tt), rise-last xs m k le rise.1)

rise-more : (ms : List Memtable) (m k : Memtable) → m.number ≤ k.number → NumbersRise (ms ++ m ∷ []) → NumbersRise ((ms ++ m ∷ []) ++ k ∷ [])
rise-more [] m k le rise = ((le, tt), (tt, tt))
rise-more (x ∷ xs) m k le rise =
    let last = (all-back (λ (o : Memtable). x.number ≤ o.number) xs (m ∷ []) rise.0).0 in
    (all-append (λ (o : Memtable). x.number ≤ o.number) (xs ++ m ∷ []) (k ∷ []) rise.0 (omega (arith, le, last), tt), rise-more xs m k le rise.1)

-- a memtable that ends has the entries that it had
ended-carries : (ms : List Memtable) (m : Memtable) (ended : Option ℕ) (log : List Entry)
    → Carries (ms ++ m ∷ []) log (ms ++ record { number = m.number; base = m.base; ended = ended } ∷ []) log m.number
ended-carries ms m ended log n e at =
    let same = last_from-append 0 ms m n ∙ sym (last_from-append 0 ms (record { number = m.number; base = m.base; ended = ended }) n) in
    inl (at, omega (arith, same))

freeze-needed : (w : World) → Needed w → Needed (frozen_now w)
freeze-needed w h =
    let whole = h.whole in
    let before = values_of w.older in
    let now : Memtable = record { number = w.installed.number; base = w.installed.base; ended = Some (end w.history) } in
    let carries = ended-carries before w.installed (Some (end w.history)) w.log in
    let same : w.installed.number ≤ w.installed.number = omega arith in
    record {
      whole = h.whole;
      rise = rise-last before w.installed now same h.rise;
      keys = h.keys;
      base = h.base;
      opened = (omega (arith, whole), omega arith);
      used = needs-carried (memtables w) w.log (before ++ now ∷ []) w.log w.installed.number w.installed.number w.used carries same h.used;
      stands = needs-carried (memtables w) w.log (before ++ now ∷ []) w.log w.installed.number w.installed.number w.stands carries same h.stands;
      gated = gated-carried (memtables w) w.log (before ++ now ∷ []) w.log w.installed.number w.installed.number w.gated carries same h.gated;
      draft = draft-carried (memtables w) w.log (before ++ now ∷ []) w.log w.installed.number w.installed.number w.draft carries same h.draft;
    }

-- a memtable more, with a higher number
more-carries : (ms : List Memtable) (m : Memtable) (log : List Entry) (active : ℕ) → active ≤ m.number → Carries ms log (ms ++ m ∷ []) log active
more-carries ms m log active le n e at = by_test (nat_le m.base n) refl
  where
    is : (b : Bool) → nat_le m.base n ≡ b → segment_with (ms ++ m ∷ []) n ≡ cond b m.number (segment_with ms n)
    is b t = last_from-append 0 ms m n ∙ ap (λ (c : Bool). cond c m.number (segment_with ms n)) t

    by_test : (b : Bool) → nat_le m.base n ≡ b → ((slice_get log n ≡ Some e) × (segment_with ms n ≤ segment_with (ms ++ m ∷ []) n)) ⊎ (active ≤ segment_with (ms ++ m ∷ []) n)
    by_test true t = let same = is true t in inr (omega (arith, le, same))
    by_test false t = let same = is false t in inl (at, omega (arith, same))

insert-last : (es : List (ℕ × Memtable)) (n : ℕ) (m : Memtable) → AllByRecursion (λ (e : ℕ × Memtable). e.0 < n) es → insert_entry nat_cmp es n m ≡ es ++ (n, m) ∷ []
insert-last [] n m all = refl
insert-last (e ∷ es) n m all =
    ap (λ (r : Ordering). match_ordering r ((n, m) ∷ e ∷ es) ((e.0, m) ∷ es) (e ∷ insert_entry nat_cmp es n m)) (sym (nat_cmp_is n e.0 Greater all.0))
    ∙ ap (λ (rest : List (ℕ × Memtable)). e ∷ rest) (insert-last es n m all.1)

values-last : (es : List (ℕ × Memtable)) (n : ℕ) (m : Memtable) → values_of (es ++ (n, m) ∷ []) ≡ values_of es ++ m ∷ []
values-last [] n m = refl
values-last (e ∷ es) n m = ap (λ (rest : List Memtable). e.1 ∷ rest) (values-last es n m)

install-needed : (w v : World) (o : Option Memtable) (a : StoreAnswer) → Needed w → IfSome o (OpensNext (tail_of w)) → installed_now w o ≡ Some (v, a) → Needed v
install-needed w v None a h opens e = absurd (none_is (v, a) e)
install-needed w v (Some m) a h opens e =
    let inst = w.installed in
    let older = insert_entry nat_cmp w.older inst.number inst in
    let last = insert-last w.older inst.number inst h.keys in
    let whole : memtables w ++ m ∷ [] ≡ values_of older ++ m ∷ [] = ap (λ (vs : List Memtable). vs ++ m ∷ []) (sym (ap values_of last ∙ values-last w.older inst.number inst)) in
    let lt = opens.1 in
    let le : inst.number ≤ m.number = omega (arith, lt) in
    let carries = more-carries (memtables w) m w.log inst.number le in
    let longer = memtables w ++ m ∷ [] in
    let now : Needed (record w { installed = m; opened = None; older = older; frozen = member_of w m.base ∷ w.frozen; starting = false }) = record {
      whole = h.whole;
      rise = subst NumbersRise whole (rise-more (values_of w.older) inst m le h.rise);
      keys = subst (λ (es : List (ℕ × Memtable)). AllByRecursion (λ (x : ℕ × Memtable). x.0 < m.number) es) (sym last)
          (all-append (λ (x : ℕ × Memtable). x.0 < m.number) w.older ((inst.number, inst) ∷ [])
          (all-weaker (λ (x : ℕ × Memtable). x.0 < inst.number) (λ (x : ℕ × Memtable). x.0 < m.number) (λ x b. omega (arith, b, le)) w.older h.keys) (lt, tt));
      base = opens.0;
      opened = tt;
      used = subst (λ (ms : List Memtable). EditionNeeds ms w.log m.number w.used) whole (needs-carried (memtables w) w.log longer w.log inst.number m.number w.used carries le h.used);
      stands = subst (λ (ms : List Memtable). EditionNeeds ms w.log m.number w.stands) whole (needs-carried (memtables w) w.log longer w.log inst.number m.number w.stands carries le h.stands);
      gated = subst (λ (ms : List Memtable). IfSome w.gated (EditionNeeds ms w.log m.number)) whole (gated-carried (memtables w) w.log longer w.log inst.number m.number w.gated carries le h.gated);
      draft = subst (λ (ms : List Memtable). IfSome w.draft (λ d. EditionNeeds ms w.log m.number d.edition)) whole (draft-carried (memtables w) w.log longer w.log inst.number m.number w.draft carries le h.draft);
    } in
    subst Needed (first_is _ (v, a) e) now

-- ---- plan: the first segment needed

least-below : (oldest : Option ℕ) (first : ℕ) → least oldest first ≤ first
least-below None first = omega arith
least-below (Some o) first = omega arith

next_first-below : (t : PartTask) (first : ℕ) → cond (is_carried t) (least t.oldest first) first ≤ first
next_first-below t first = by_test (is_carried t)
  where
    by_test : (b : Bool) → cond b (least t.oldest first) first ≤ first
    by_test true = least-below t.oldest first
    by_test false = omega arith

first_needed-below : (first : ℕ) (ts : List PartTask) → first_needed first ts ≤ first
first_needed-below first [] = omega arith
first_needed-below first (t ∷ ts) =
    let rest = first_needed-below (cond (is_carried t) (least t.oldest first) first) ts in
    let one = next_first-below t first in
    omega (arith, rest, one)

-- it is not after the oldest segment of a task that carries pairs on
abbrev FromOldest : ℕ → PartTask → Type 0
FromOldest first t = is_carried t ≡ true → (o : ℕ) → t.oldest ≡ Some o → first ≤ o

first_needed-oldest : (first : ℕ) (ts : List PartTask) → AllByRecursion (FromOldest (first_needed first ts)) ts
first_needed-oldest first [] = tt
first_needed-oldest first (t ∷ ts) = (one, first_needed-oldest (cond (is_carried t) (least t.oldest first) first) ts)
  where
    one : FromOldest (first_needed (cond (is_carried t) (least t.oldest first) first) ts) t
    one carried o is =
        let below = first_needed-below (cond (is_carried t) (least t.oldest first) first) ts in
        let value : cond (is_carried t) (least t.oldest first) first ≡ min o first = (λ i. cond (carried i) (least (is i) first) first) in
        omega (arith, below, value)

-- ---- plan: what tasks know of their oldest segments

abbrev high_task : List PartTask → Option (List ℕ)
high_task [] = None
high_task (t ∷ ts) = Some t.part.low

abbrev high_news : List PartNews → Option (List ℕ)
high_news [] = None
high_news (one ∷ others) = Some one.part.low

abbrev NewsOldest : List Memtable → List Entry → List PartNews → Type 0
NewsOldest ms log [] = Unit {0}
NewsOldest ms log (one ∷ others) = (one.oldest ≡ oldest_of ms log (high_news others) one.part) × NewsOldest ms log others

abbrev TasksOldest : List Memtable → List Entry → List PartTask → Type 0
TasksOldest ms log [] = Unit {0}
TasksOldest ms log (t ∷ ts) = (t.oldest ≡ oldest_of ms log (high_task ts) t.part) × TasksOldest ms log ts

high-news : (ms : List Memtable) (log : List Entry) (part : EditionPart) (parts : List EditionPart) (new : List Pair) → high_news (news_in ms log (part ∷ parts) new) ≡ Some part.low
high-news ms log part [] new = refl
high-news ms log part (next ∷ parts) new = refl

news-oldest : (ms : List Memtable) (log : List Entry) (parts : List EditionPart) (new : List Pair) → NewsOldest ms log (news_in ms log parts new)
news-oldest ms log [] new = tt
news-oldest ms log (part ∷ []) new = (refl, tt)
news-oldest ms log (part ∷ next ∷ parts) new =
    let rest = pairs_from new next.low in
    (ap (λ (high : Option (List ℕ)). oldest_of ms log high part) (sym (high-news ms log next parts rest)), news-oldest ms log (next ∷ parts) rest)

high-tasks : (ds : List Decision) (all : List PartNews) → high_task (tasks_in ds all) ≡ high_news all
high-tasks ds [] = refl
high-tasks ds (one ∷ others) = refl

tasks-oldest : (ms : List Memtable) (log : List Entry) (ds : List Decision) (all : List PartNews) → NewsOldest ms log all → TasksOldest ms log (tasks_in ds all)
tasks-oldest ms log ds [] h = tt
tasks-oldest ms log ds (one ∷ others) h =
    (h.0 ∙ ap (λ (high : Option (List ℕ)). oldest_of ms log high one.part) (sym (high-tasks (decisions_after ds one.new) others)), tasks-oldest ms log (decisions_after ds one.new) others h.1)

-- ---- plan: the pieces

onto-low : (low : List ℕ) (next base : ℕ) (old : List RunFile) (rows : List Row) (parts : List (List Row)) (rest : List EditionPart)
    → high_of (parts_of_pieces next base old (pieces_from low (onto_first rows parts)) ++ rest) ≡ Some low
onto-low low next base old rows [] rest = refl
onto-low low next base old rows (part ∷ parts) rest = refl

cut-low : (low : List ℕ) (next base : ℕ) (old : List RunFile) (most : ℕ) (rows : List Row) (rest : List EditionPart) → high_of (parts_of_pieces next base old (pieces_from low (cut_rows most rows)) ++ rest) ≡ Some low
cut-low low next base old most [] rest = refl
cut-low low next base old most (row ∷ rows) rest = onto-low low next base old (row ∷ []) (cut_after most (row_size row) rows) rest

-- the first piece has the partition's bound
pieces-low : (d : Decision) (low : List ℕ) (runs : List (List Pair)) (new : List Pair) (next base : ℕ) (old : List RunFile) (rest : List EditionPart) → high_of (parts_of_pieces next base old (pieces_of d low runs new) ++ rest) ≡ Some low
pieces-low Abort low runs new next base old rest = refl
pieces-low Minor low runs new next base old rest = refl
pieces-low Major low runs new next base old rest = refl
pieces-low Split low runs new next base old rest = cut-low low next base old PART_MAX (merged (new ∷ runs)) rest

carried-abort : (d : Decision) (new : List Pair) → is_aborted d new ≡ true → d ≡ Abort
carried-abort Abort new h = refl
carried-abort Minor [] h = absurd cc
carried-abort Minor (p ∷ new) h = absurd cc
carried-abort Major [] h = absurd cc
carried-abort Major (p ∷ new) h = absurd cc
carried-abort Split [] h = absurd cc
carried-abort Split (p ∷ new) h = absurd cc

-- pieces whose base is so late that all entries from it on lie late enough
late : (first : ℕ) (ms : List Memtable) (log : List Entry) (next base : ℕ) (old : List RunFile) (pieces : List PieceState) (rest : List EditionPart) → ((n : ℕ) → base ≤ n → first ≤ segment_with ms n)
    → PartsNeed first ms log rest → PartsNeed first ms log (parts_of_pieces next base old pieces ++ rest)
late first ms log next base old [] rest from h = h
late first ms log next base old (piece ∷ pieces) rest from h = ((λ n e at le inside. from n le), late first ms log (next_after next piece.run) base old pieces rest from h)

-- the partitions after those of the first task
abbrev parts_after : ℕ → ℕ → ℕ → PartTask → List PartTask → List EditionPart
parts_after next upto begins t ts = parts_of_all (next_after_pieces next (pieces_in t)) upto begins ts

record TasksNeed (first next upto begins : ℕ) (ms : List Memtable) (log : List Entry) (ts : List PartTask) : Type 0 where
  parts : PartsNeed first ms log (parts_of_all next upto begins ts)
  high : high_of (parts_of_all next upto begins ts) ≡ high_task ts

tasks-need : (first next upto begins : ℕ) (ms : List Memtable) (log : List Entry) (ts : List PartTask) → NumbersRise ms → ((n : ℕ) → upto ≤ n → first ≤ segment_with ms n) → TasksOldest ms log ts → AllByRecursion (FromOldest first) ts
    → TasksNeed first next upto begins ms log ts
tasks-need first next upto begins ms log [] rise from oldest all = record { parts = tt; high = refl }
tasks-need first next upto begins ms log (t ∷ ts) rise from oldest all =
    let after = next_after_pieces next (pieces_in t) in
    let rest = tasks-need first after upto begins ms log ts rise from oldest.1 all.1 in
    record {
      parts = by_test (is_carried t) refl rest;
      high = pieces-low t.decision t.part.low (runs_in t.part.runs) t.new next (base_after upto begins t) t.part.runs (parts_of_all after upto begins ts);
    }
  where
    stays : is_carried t ≡ true → high_of (parts_after next upto begins t ts) ≡ high_task ts → (n : ℕ) (e : Entry) → slice_get log n ≡ Some e → max t.part.base begins ≤ n → in_range t.part.low (high_of (parts_after next upto begins t ts)) e.key ≡ true → first ≤ segment_with ms n
    stays carried high n e at le inside =
        let range : in_range t.part.low (high_task ts) e.key ≡ true = subst (λ (h : Option (List ℕ)). in_range t.part.low h e.key ≡ true) high inside in
        let found = first_inside-found t.part.low (high_task ts) t.part.base 0 log n e at (omega (arith, le)) range in
        let o : t.oldest ≡ Some (segment_with ms found.0) = oldest.0 ∙ ap (segment_with_some ms) found.1 in
        let low = all.0 carried (segment_with ms found.0) o in
        let k = found.2 in
        let up = segment-mono ms found.0 n (omega (arith, k)) rise in
        omega (arith, low, up)

    by_test : (b : Bool) → is_carried t ≡ b → TasksNeed first (next_after_pieces next (pieces_in t)) upto begins ms log ts → PartsNeed first ms log (parts_of_pieces next (cond b (max t.part.base begins) upto) t.part.runs (pieces_in t) ++ (parts_after next upto begins t ts))
    by_test false is rest = late first ms log next upto t.part.runs (pieces_in t) (parts_after next upto begins t ts) from rest.parts
    by_test true is rest =
        subst (λ (d : Decision). PartsNeed first ms log (parts_of_pieces next (max t.part.base begins) t.part.runs (pieces_of d t.part.low (runs_in t.part.runs) t.new) ++ (parts_after next upto begins t ts))) (sym (carried-abort t.decision t.new is))
        (stays is rest.high, rest.parts)

pub draft-needs : (w : World) (ds : List Decision) → Needed w → EditionNeeds (memtables w) w.log w.installed.number (draft_of w ds).edition
draft-needs w ds h =
    let below = first_needed-below w.installed.number (tasks_of w ds) in
    let need = tasks-need (first_of w ds) w.next w.installed.base (begins_of w ds) (memtables w) w.log (tasks_of w ds) h.rise
    (λ n le. let is = segment-last (values_of w.older) w.installed n le in omega (arith, below, is))
    (tasks-oldest (memtables w) w.log ds (news_of w) (news-oldest (memtables w) w.log w.used.parts (new_pairs w)))
    (first_needed-oldest w.installed.number (tasks_of w ds)) in
    record { parts = need.parts; first = below }

plan-needed : (w : World) (ds : List Decision) → Needed w → Needed (planned w ds)
plan-needed w ds h = by_test (are_aborts ds)
  where
    by_test : (b : Bool) → Needed (cond b (carried_on w) (drafted w (draft_of w ds)))
    by_test true = h
    by_test false = record { whole = h.whole; rise = h.rise; keys = h.keys; base = h.base; opened = h.opened; used = h.used; stands = h.stands; gated = h.gated; draft = draft-needs w ds h }

-- ---- the other events

abbrev DraftNeeds : World → Draft → Type 0
DraftNeeds w d = EditionNeeds (memtables w) w.log w.installed.number d.edition

with_draft : (w : World) (d : Option Draft) → Needed w → IfSome d (DraftNeeds w) → Needed (record w { draft = d })
with_draft w d h needs = record { whole = h.whole; rise = h.rise; keys = h.keys; base = h.base; opened = h.opened; used = h.used; stands = h.stands; gated = h.gated; draft = needs }

run_put-needed : (w v : World) (d : Draft) (files : List RunFile) (a : StoreAnswer) → Needed w → DraftNeeds w d → run_put w d files ≡ Some (v, a) → Needed v
run_put-needed w v d [] a h needs e = absurd (none_is (v, a) e)
run_put-needed w v d (file ∷ files) a h needs e = subst Needed (first_is _ (v, a) e) (with_draft w (Some (record d { lacking = files })) h needs)

table-needed : (w v : World) (o : Option Draft) (a : StoreAnswer) → Needed w → IfSome o (DraftNeeds w) → file_put w o ≡ Some (v, a) → Needed v
table-needed w v None a h needs e = absurd (none_is (v, a) e)
table-needed w v (Some d) a h needs e = run_put-needed w v d d.lacking a h needs e

gate-edition : (w v : World) (o : Option Draft) (a : StoreAnswer) → Needed w → IfSome o (DraftNeeds w) → edition_gated w o ≡ Some (v, a) → Needed v
gate-edition w v None a h needs e = absurd (none_is (v, a) e)
gate-edition w v (Some d) a h needs e =
    let now : Needed (record w { gated = Some d.edition }) = record { whole = h.whole; rise = h.rise; keys = h.keys; base = h.base; opened = h.opened; used = h.used; stands = h.stands; gated = needs; draft = h.draft } in
    subst Needed (happens (may_gate w d) _ v answers.Done a e).world now

settle-edition : (w v : World) (o : Option Edition) (a : StoreAnswer) → Needed w → IfSome o (EditionNeeds (memtables w) w.log w.installed.number) → edition_settled w o ≡ Some (v, a) → Needed v
settle-edition w v None a h needs e = absurd (none_is (v, a) e)
settle-edition w v (Some g) a h needs e =
    let now : Needed (record w { stands = g; gated = None }) = record { whole = h.whole; rise = h.rise; keys = h.keys; base = h.base; opened = h.opened; used = h.used; stands = needs; gated = tt; draft = h.draft } in
    subst Needed (first_is _ (v, a) e) now

refuse-needed : (w v : World) (o : Option Draft) (a : StoreAnswer) → Needed w → refused w o ≡ Some (v, a) → Needed v
refuse-needed w v None a h e = absurd (none_is (v, a) e)
refuse-needed w v (Some d) a h e = subst Needed (first_is _ (v, a) e) (with_draft w None h tt)

adopt-needed : (w v : World) (o : Option Draft) (a : StoreAnswer) → Needed w → IfSome o (DraftNeeds w) → adopted w o ≡ Some (v, a) → Needed v
adopt-needed w v None a h needs e = absurd (none_is (v, a) e)
adopt-needed w v (Some d) a h needs e =
    let now : Needed (adopt w d) = record { whole = h.whole; rise = h.rise; keys = h.keys; base = h.base; opened = h.opened; used = needs; stands = h.stands; gated = h.gated; draft = tt } in
    subst Needed (happens (d.edition.number == w.stands.number) (adopt w d) v answers.Done a e).world now

look-needed : (w v : World) (number : ℕ) (key : List ℕ) (front : ℕ) (held : Option Version) (a : StoreAnswer) → Needed w → looked w number key front held ≡ Some (v, a) → Needed v
look-needed w v number key front None a h e = absurd (none_is (v, a) e)
look-needed w v number key front (Some version) a h e =
    subst Needed (happens (may_look w number version front) (at_front w number front) v (answers.Found front (shown w.history version key front)) a e).world h

list-needed : (w v : World) (bound : List ℕ) (count : ℕ) (o : Option Pin) (a : StoreAnswer) → Needed w → listed w bound count o ≡ Some (v, a) → Needed v
list-needed w v bound count None a h e = absurd (none_is (v, a) e)
list-needed w v bound count (Some p) a h e = subst Needed (first_is _ (v, a) e) h

gate-needed : (w v : World) (o : Option Frame) (a : StoreAnswer) → Needed w → gate_written w o ≡ Some (v, a) → Needed v
gate-needed w v None a h e = absurd (none_is (v, a) e)
gate-needed w v (Some f) a h e = subst Needed (first_is _ (v, a) e) h

settled-needed : (w v : World) (o : Option Frame) (a : StoreAnswer) → Needed w → frame_settled w o ≡ Some (v, a) → Needed v
settled-needed w v None a h e = absurd (none_is (v, a) e)
settled-needed w v (Some f) a h e = subst Needed (happens f.gated _ v answers.Done a e).world h

begun-needed : (w : World) (o : Option Segment) → Needed w → Needed (begun_after w o)
begun-needed w None h = h
begun-needed w (Some segment) h = h

-- ---- all events

pub step-needed : (w v : World) (e : StoreEvent) (a : StoreAnswer) → Needed w → step w e ≡ Some (v, a) → Needed v
step-needed w v (events.Append caller pair) a h e = subst Needed (happens (may_append w) (appended w caller pair) v (answers.Number (end w.history)) a e).world (append-needed w caller pair h)
step-needed w v (events.Take caller) a h e = subst Needed (first_is _ (v, a) e) h
step-needed w v (events.Look caller key front) a h e = look-needed w v caller key front _ a h e
step-needed w v (events.Note caller) a h e = subst Needed (first_is _ (v, a) e) h
step-needed w v events.Body a h e = subst Needed (happens (not (is_some w.frame)) (body_written w) v answers.Done a e).world h
step-needed w v events.Gate a h e = gate-needed w v w.frame a h e
step-needed w v events.Settled a h e = settled-needed w v w.frame a h e
step-needed w v events.Header a h e = subst Needed (happens (may_begin w) (begun_after w (last_of w.segments)) v answers.Done a e).world (begun-needed w (last_of w.segments) h)
step-needed w v events.Freeze a h e = subst Needed (happens (may_freeze w) (frozen_now w) v answers.Done a e).world (freeze-needed w h)
step-needed w v events.Install a h e = install-needed w v w.opened a h h.opened e
step-needed w v (events.Pin caller) a h e = subst Needed (happens (may_pin w caller) (pinned w caller) v (answers.Pinned (length w.pins) w.installed.base) a e).world h
step-needed w v (events.List pin bound count) a h e = list-needed w v bound count _ a h e
step-needed w v (events.Plan may_abort) a h e = subst Needed (happens (may_plan w) (planned w (decisions_of w may_abort)) v answers.Done a e).world (plan-needed w (decisions_of w may_abort) h)
step-needed w v events.Table a h e = table-needed w v w.draft a h h.draft e
step-needed w v events.EditionGate a h e = gate-edition w v w.draft a h h.draft e
step-needed w v events.EditionSettled a h e = settle-edition w v w.gated a h h.gated e
step-needed w v events.Refuse a h e = refuse-needed w v w.draft a h e
step-needed w v events.Adopt a h e = adopt-needed w v w.draft a h h.draft e
step-needed w v events.Release a h e = subst Needed (happens (w.used.number == w.stands.number) (released w) v answers.Done a e).world h
step-needed w v (events.Remove number) a h e = subst Needed (happens (may_remove w number) (removed w number) v answers.Done a e).world h

none_there : (n : ℕ) (e : Entry) → slice_get [] n ≡ Some e → ⊥
none_there n e at = absurd cc

opening-needed : Needed opening
opening-needed =
    let first : EditionNeeds (memtables opening) [] 0 opening.used = record { parts = ((λ n e at le inside. absurd (none_there n e at)), tt); first = omega arith } in
    record { whole = refl; rise = (tt, tt); keys = tt; base = omega arith; opened = tt; used = first; stands = first; gated = tt; draft = tt }

from-needed : (es : List StoreEvent) (led last : World × List StoreAnswer) → Needed led.0 → run_from (Some led) es ≡ Some last → Needed last.0
from-needed [] led last h e = subst (λ (p : World × List StoreAnswer). Needed p.0) (same_Some led last e) h
from-needed (x ∷ xs) led last h e = by_step (λ next n t. from-needed xs next last n t) (step led.0 x) refl e
  where
    by_step : ((next : World × List StoreAnswer) → Needed next.0 → run_from (Some next) xs ≡ Some last → Needed last.0) → (o : Stepped) → step led.0 x ≡ o → run_from (answered led.1 o) xs ≡ Some last → Needed last.0
    by_step rest None is t = absurd (none_from xs last t)
    by_step rest (Some p) is t = rest (p.0, led.1 ++ p.1 ∷ []) (step-needed led.0 p.0 x p.1 h is) t

pub run-needed : (es : List StoreEvent) (told : List StoreAnswer) (w : World) → run opening es ≡ Some (w, told) → SegmentsNeeded w
run-needed es told w e = let h = from-needed es (opening, []) (w, told) opening-needed e in record { used = h.used; stands = h.stands; gated = h.gated }
