-- Files that editions name stand. To know: `run_at-insert`, `run_at-remove`, `step-shelved`, `run-shelved`.
use Rattle.std.proofs.Common.{◌≡◌, ◌≢◌, inl, inr, ℕ, ◌+◌, ◌≤◌, ◌<◌, Bool, true, false, cond, ◌||◌, not, List, [], ◌∷◌, ◌++◌, length, refl, sym, ap, subst, ◌∙◌, arith, eq-eqb}
use Rattle.std.specs.Prelude.{◌==◌, Option, Some, None, IfSome, is_some, nat_lt}
use Rattle.std.specs.BTreeMap.{insert_entry, is_at}
use Rattle.std.specs.List.{AllByRecursion, list_any}
use Rattle.std.specs.Map.{remove_entry}
use Rattle.std.specs.Ordering.{is_eq, nat_cmp, match_ordering}
use Rattle.std.specs.declared.cmp.Ordering.{Ordering}
use Rattle.std.specs.declared.cmp.Ordering.TheVariants.{Less, Equal, Greater}
use Rattle.std.specs.FinMap.{nat_cmp-IsAntisymmetric}
use Rattle.std.proofs.lemmas.Bool.{true≢false}
use Rattle.std.proofs.lemmas.Bool.Decides.{nat_tests}
use Rattle.std.proofs.lemmas.Cmp.{nat_cmp_total, tied_itself}
use Rattle.std.proofs.lemmas.Option.{same_Some}
use Rattle.rdb_base.specs.Histories.{end}
use Rattle.rdb_base.specs.Pages.{pairs_from}
use Rattle.rdb_base.specs.declared.entry.Entry.{Entry}
use Rattle.rdb_base.specs.declared.pair.Pair.{Pair}
use Rattle.rdb_base.proofs.Lists.{all-weaker, all-append}
use Rattle.partition_plan.specs.declared.decision.Decision.{Decision}
use Rattle.partition_plan.specs.Pieces.{PieceState}
use Rattle.store_core.specs.EditionLaws.{AreNumberedFrom}
use Rattle.store_core.specs.Editions.{news_in, tasks_in, decisions_after, base_after, with_file, next_after, next_after_pieces, pieces_in, files_of_pieces, files_of_all, parts_of_pieces, parts_of_all}
use Rattle.store_core.specs.ShelfLaws.{run_at, StandsBelow, PartsStand, EditionStands, IsAmong, IsKnown, Shelf, shelf_of, DraftIsShelved, Shelved, FilesStand}
use Rattle.store_core.specs.Steps.{Stepped, answered, run_from, run, may_append, may_look, shown, at_front, appended, looked, body_written, gate_written, frame_settled, last_of, may_begin, begun_after, may_freeze, frozen_now, installed_now, may_pin, pinned, listed, may_plan, new_pairs, news_of, decisions_of, are_aborts, tasks_of, draft_of, carried_on, drafted, planned, run_put, file_put, may_gate, edition_gated, edition_settled, refused, adopt, adopted, released, is_in, is_in_edition, is_in_draft, may_remove, removed, step}
use Rattle.store_core.specs.Worlds.{World, memtables, opening}
use Rattle.store_core.specs.declared.draft.Draft.{Draft}
use Rattle.store_core.specs.declared.edition.Edition.{Edition}
use Rattle.store_core.specs.declared.edition_part.EditionPart.{EditionPart}
use Rattle.store_core.specs.declared.frame.Frame.{Frame}
use Rattle.store_core.specs.declared.memtable.Memtable.{Memtable}
use Rattle.store_core.specs.declared.part_news.PartNews.{PartNews}
use Rattle.store_core.specs.declared.part_task.PartTask.{PartTask}
use Rattle.store_core.specs.declared.pin.Pin.{Pin}
use Rattle.store_core.specs.declared.run_file.RunFile.{RunFile}
use Rattle.store_core.specs.declared.segment.Segment.{Segment}
use Rattle.store_core.specs.declared.store_answer.StoreAnswer.{StoreAnswer}
use Rattle.store_core.specs.declared.store_answer.StoreAnswer.TheVariants as answers
use Rattle.store_core.specs.declared.store_event.StoreEvent.{StoreEvent}
use Rattle.store_core.specs.declared.store_event.StoreEvent.TheVariants as events
use Rattle.store_core.specs.declared.version.Version.{Version}
use Rattle.store_core.proofs.DraftLemmas.{files-drawn}
use Rattle.store_core.proofs.EventLemmas.{none_is, first_is, happens, and_first, and_second}
use Rattle.store_core.proofs.RunLemmas.{none_from}

-- ---- numbers

same_number : (n : ℕ) → is_eq (nat_cmp n n) ≡ true
same_number n = ap is_eq (tied_itself nat_cmp_total n)

other_number : (m n : ℕ) → m ≢ n → is_eq (nat_cmp m n) ≡ false
other_number m n differ = by_order (nat_cmp m n) refl
  where
    by_order : (r : Ordering) → nat_cmp m n ≡ r → is_eq r ≡ false
    by_order Less h = refl
    by_order Greater h = refl
    by_order Equal h = absurd (differ (nat_cmp-IsAntisymmetric m n h))

below-other : (m n : ℕ) → m < n → m ≢ n
below-other m n lt same = omega (arith, lt, same)

-- ---- files with one more, and with one less

run_at-same : (files : List (ℕ × List Pair)) (n : ℕ) (run : List Pair) → run_at (insert_entry nat_cmp files n run) n ≡ Some run
run_at-same [] n run = rw (same_number n) refl
run_at-same (e ∷ es) n run = by_order (nat_cmp n e.0) refl (run_at-same es n run)
  where
    by_order : (r : Ordering) → nat_cmp n e.0 ≡ r → run_at (insert_entry nat_cmp es n run) n ≡ Some run → run_at (match_ordering r ((n, run) ∷ e ∷ es) ((e.0, run) ∷ es) (e ∷ insert_entry nat_cmp es n run)) n ≡ Some run
    by_order Less h rest = rw (same_number n) refl
    by_order Equal h rest = rw h refl
    by_order Greater h rest = rw h rest

pub run_at-insert : (files : List (ℕ × List Pair)) (n : ℕ) (run : List Pair) (m : ℕ) → m ≢ n → run_at (insert_entry nat_cmp files n run) m ≡ run_at files m
run_at-insert [] n run m differ = rw (other_number m n differ) refl
run_at-insert (e ∷ es) n run m differ = by_order (nat_cmp n e.0) refl (run_at-insert es n run m differ)
  where
    by_order : (r : Ordering) → nat_cmp n e.0 ≡ r → run_at (insert_entry nat_cmp es n run) m ≡ run_at es m → run_at (match_ordering r ((n, run) ∷ e ∷ es) ((e.0, run) ∷ es) (e ∷ insert_entry nat_cmp es n run)) m ≡ run_at (e ∷ es) m
    by_order Less h rest = rw (other_number m n differ) refl
    by_order Equal h rest =
        let other : is_eq (nat_cmp m e.0) ≡ false = other_number m e.0 (λ same. differ (same ∙ sym (nat_cmp-IsAntisymmetric n e.0 h))) in
        rw other refl
    by_order Greater h rest = ap (cond (is_eq (nat_cmp m e.0)) (Some e.1)) rest

pub run_at-remove : (files : List (ℕ × List Pair)) (n m : ℕ) → m ≢ n → run_at (remove_entry (is_at (nat_cmp n)) files) m ≡ run_at files m
run_at-remove [] n m differ = refl
run_at-remove (e ∷ es) n m differ = by_order (nat_cmp n e.0) refl (run_at-remove es n m differ)
  where
    by_order : (r : Ordering) → nat_cmp n e.0 ≡ r → run_at (remove_entry (is_at (nat_cmp n)) es) m ≡ run_at es m → run_at (cond (is_eq r) es (e ∷ remove_entry (is_at (nat_cmp n)) es)) m ≡ run_at (e ∷ es) m
    by_order Less h rest = ap (cond (is_eq (nat_cmp m e.0)) (Some e.1)) rest
    by_order Greater h rest = ap (cond (is_eq (nat_cmp m e.0)) (Some e.1)) rest
    by_order Equal h rest =
        let other : is_eq (nat_cmp m e.0) ≡ false = other_number m e.0 (λ same. differ (same ∙ sym (nat_cmp-IsAntisymmetric n e.0 h))) in
        rw other refl

-- ---- each file of partitions

abbrev EachFile : (RunFile → Type 0) → List EditionPart → Type 0
EachFile P parts = AllByRecursion (λ (part : EditionPart). AllByRecursion P part.runs) parts

each-weaker : (P Q : RunFile → Type 0) → ((file : RunFile) → P file → Q file) → (parts : List EditionPart) → EachFile P parts → EachFile Q parts
each-weaker P Q f parts all = all-weaker (λ (part : EditionPart). AllByRecursion P part.runs) (λ (part : EditionPart). AllByRecursion Q part.runs) (λ part h. all-weaker P Q f part.runs h) parts all

stands-up : (files : List (ℕ × List Pair)) (a b : ℕ) (file : RunFile) → a ≤ b → StandsBelow files a file → StandsBelow files b file
stands-up files a b file le h = (h.0, omega (arith, le, h.1))

parts-up : (files : List (ℕ × List Pair)) (a b : ℕ) (parts : List EditionPart) → a ≤ b → PartsStand files a parts → PartsStand files b parts
parts-up files a b parts le all = each-weaker (StandsBelow files a) (StandsBelow files b) (λ file h. stands-up files a b file le h) parts all

edition-up : (files : List (ℕ × List Pair)) (a b : ℕ) (edition : Option Edition) → a ≤ b → EditionStands files a edition → EditionStands files b edition
edition-up files a b None le t = tt
edition-up files a b (Some e) le h = (parts-up files a b e.parts le h.0, omega (arith, le, h.1))

-- a file with a number from `n` on changes none below it
parts-insert : (files : List (ℕ × List Pair)) (n : ℕ) (run : List Pair) (parts : List EditionPart) → PartsStand files n parts → PartsStand (insert_entry nat_cmp files n run) n parts
parts-insert files n run parts all = each-weaker (StandsBelow files n) (StandsBelow (insert_entry nat_cmp files n run) n) (λ file h. (run_at-insert files n run file.number (below-other file.number n h.1) ∙ h.0, h.1)) parts all

gated-insert : (files : List (ℕ × List Pair)) (n : ℕ) (run : List Pair) (gated : Option Edition) → IfSome gated (λ e. PartsStand files n e.parts) → IfSome gated (λ e. PartsStand (insert_entry nat_cmp files n run) n e.parts)
gated-insert files n run None t = tt
gated-insert files n run (Some e) h = parts-insert files n run e.parts h

gated-up : (files : List (ℕ × List Pair)) (a b : ℕ) (gated : Option Edition) → a ≤ b → IfSome gated (λ e. PartsStand files a e.parts) → IfSome gated (λ e. PartsStand files b e.parts)
gated-up files a b None le t = tt
gated-up files a b (Some e) le h = parts-up files a b e.parts le h

gated-stands : (files : List (ℕ × List Pair)) (n next : ℕ) (gated : Option Edition) → n ≤ next → IfSome gated (λ e. PartsStand files n e.parts) → (old : List (ℕ × List Pair)) → EditionStands old next gated → EditionStands files next gated
gated-stands files n next None le t old o = tt
gated-stands files n next (Some e) le h old o = (parts-up files n next e.parts le h, o.1)

-- ---- a draft's files

among-append_front : (file : RunFile) (xs ys : List RunFile) → IsAmong file xs → IsAmong file (xs ++ ys)
among-append_front file [] ys h = absurd h
among-append_front file (x ∷ xs) ys (inl same) = inl same
among-append_front file (x ∷ xs) ys (inr later) = inr (among-append_front file xs ys later)

among-append_back : (file : RunFile) (xs ys : List RunFile) → IsAmong file ys → IsAmong file (xs ++ ys)
among-append_back file [] ys h = h
among-append_back file (x ∷ xs) ys h = inr (among-append_back file xs ys h)

-- a new run's file is among the new files, and the old ones stand
module _ (files : List (ℕ × List Pair)) (at : ℕ) where
  with_file-known : (lacking : List RunFile) (next : ℕ) (run : Option (List Pair)) (rest : List RunFile) (keeps : Bool) (old : List RunFile)
      → ((file : RunFile) → IsAmong file (with_file next run rest) → IsAmong file lacking) → AllByRecursion (StandsBelow files at) old
      → AllByRecursion (IsKnown files at lacking) (with_file next run (cond keeps old []))
  with_file-known lacking next None rest true old sub all = all-weaker (StandsBelow files at) (IsKnown files at lacking) (λ file h. inl h) old all
  with_file-known lacking next None rest false old sub all = tt
  with_file-known lacking next (Some run) rest true old sub all = (inr (sub _ (inl refl)), all-weaker (StandsBelow files at) (IsKnown files at lacking) (λ file h. inl h) old all)
  with_file-known lacking next (Some run) rest false old sub all = (inr (sub _ (inl refl)), tt)

  rest-among : (next : ℕ) (run : Option (List Pair)) (rest : List RunFile) (file : RunFile) → IsAmong file rest → IsAmong file (with_file next run rest)
  rest-among next None rest file h = h
  rest-among next (Some run) rest file h = inr h

  pieces-known : (lacking : List RunFile) (next base : ℕ) (old : List RunFile) (pieces : List PieceState)
      → ((file : RunFile) → IsAmong file (files_of_pieces next pieces) → IsAmong file lacking) → AllByRecursion (StandsBelow files at) old
      → EachFile (IsKnown files at lacking) (parts_of_pieces next base old pieces)
  pieces-known lacking next base old [] sub all = tt
  pieces-known lacking next base old (piece ∷ pieces) sub all = (
    with_file-known lacking next piece.run (files_of_pieces (next_after next piece.run) pieces) piece.keeps_old old sub all,
    pieces-known lacking (next_after next piece.run) base old pieces (λ file h. sub file (rest-among next piece.run (files_of_pieces (next_after next piece.run) pieces) file h)) all,
  )

  tasks-known : (lacking : List RunFile) (next upto begins : ℕ) (tasks : List PartTask)
      → ((file : RunFile) → IsAmong file (files_of_all next tasks) → IsAmong file lacking) → AllByRecursion (λ (t : PartTask). AllByRecursion (StandsBelow files at) t.part.runs) tasks
      → EachFile (IsKnown files at lacking) (parts_of_all next upto begins tasks)
  tasks-known lacking next upto begins [] sub all = tt
  tasks-known lacking next upto begins (t ∷ ts) sub all =
      let after = next_after_pieces next (pieces_in t) in
      all-append (λ (part : EditionPart). AllByRecursion (IsKnown files at lacking) part.runs) (parts_of_pieces next (base_after upto begins t) t.part.runs (pieces_in t)) (parts_of_all after upto begins ts)
      (pieces-known lacking next (base_after upto begins t) t.part.runs (pieces_in t) (λ file h. sub file (among-append_front file (files_of_pieces next (pieces_in t)) (files_of_all after ts) h)) all.0)
      (tasks-known lacking after upto begins ts (λ file h. sub file (among-append_back file (files_of_pieces next (pieces_in t)) (files_of_all after ts) h)) all.1)

  news-stand : (ms : List Memtable) (es : List Entry) (parts : List EditionPart) (new : List Pair) → PartsStand files at parts → AllByRecursion (λ (one : PartNews). AllByRecursion (StandsBelow files at) one.part.runs) (news_in ms es parts new)
  news-stand ms es [] new all = tt
  news-stand ms es (part ∷ []) new all = (all.0, tt)
  news-stand ms es (part ∷ next ∷ parts) new all = (all.0, news-stand ms es (next ∷ parts) (pairs_from new next.low) all.1)

  tasks-stand : (ds : List Decision) (all : List PartNews) → AllByRecursion (λ (one : PartNews). AllByRecursion (StandsBelow files at) one.part.runs) all → AllByRecursion (λ (t : PartTask). AllByRecursion (StandsBelow files at) t.part.runs) (tasks_in ds all)
  tasks-stand ds [] h = tt
  tasks-stand ds (one ∷ others) h = (h.0, tasks-stand (decisions_after ds one.new) others h.1)

lower : (a b : ℕ) → a < b → a ≡ b → ⊥
lower a b lt same = omega (arith, lt, same)

gated-lower : (next n : ℕ) (lacking : List RunFile) (files : List (ℕ × List Pair)) (gated : Option Edition) → next ≤ n → EditionStands files next gated → IfSome gated (λ e. e.number ≡ n → lacking ≡ [])
gated-lower next n lacking files None le t = tt
gated-lower next n lacking files (Some e) le h = λ same. absurd (lower e.number n (omega (arith, le, h.1)) same)

gated-parts : (files : List (ℕ × List Pair)) (n : ℕ) (gated : Option Edition) → EditionStands files n gated → IfSome gated (λ e. PartsStand files n e.parts)
gated-parts files n None t = tt
gated-parts files n (Some e) h = h.0

draft-shelved : (w : World) (ds : List Decision) → Shelved w → Shelved (drafted w (draft_of w ds))
draft-shelved w ds s =
    let tasks = tasks_of w ds in
    let drawn = files-drawn w.next tasks in
    let own = drawn.own in
    let number = s.number in
    let le : w.next ≤ (draft_of w ds).edition.next = omega (arith, own) in
    record {
      used = parts-up w.files w.next _ w.used.parts le s.used;
      stands = parts-up w.files w.next _ w.stands.parts le s.stands;
      number = omega (arith, own, number);
      gated = edition-up w.files w.next _ w.gated le s.gated;
      draft = record {
        at = w.next;
        numbered = drawn.files;
        upto = omega (arith, own);
        drawn = omega arith;
        files = tasks-known w.files w.next (files_of_all w.next tasks) w.next _ _ tasks (λ file h. h) (tasks-stand w.files w.next ds (news_of w) (news-stand w.files w.next (memtables w) w.log w.used.parts (new_pairs w) s.used));
        used = s.used;
        stands = s.stands;
        gated = gated-parts w.files w.next w.gated s.gated;
        settled = λ same. absurd (lower w.stands.number (draft_of w ds).edition.number (omega (arith, own, number)) same);
        written = gated-lower w.next (draft_of w ds).edition.number (files_of_all w.next tasks) w.files w.gated (omega (arith, own)) s.gated;
      };
    }

plan-shelved : (w : World) (ds : List Decision) → Shelved w → Shelved (planned w ds)
plan-shelved w ds s = by_test (are_aborts ds)
  where
    by_test : (b : Bool) → Shelved (cond b (carried_on w) (drafted w (draft_of w ds)))
    by_test true = s
    by_test false = draft-shelved w ds s

-- ---- the next file

-- after the first lacking file stands, the draft's others do as before
known-next : (files : List (ℕ × List Pair)) (at : ℕ) (first : RunFile) (lacking : List RunFile) (file : RunFile) → first.number ≡ at → IsKnown files at (first ∷ lacking) file
    → IsKnown (insert_entry nat_cmp files first.number first.run) (at + 1) lacking file
known-next files at first lacking file is (inl h) = inl (run_at-insert files first.number first.run file.number (below-other file.number first.number (omega (arith, is, h.1))) ∙ h.0, omega (arith, h.1))
known-next files at first lacking file is (inr (inl same)) =
    inl (subst (λ (f : RunFile). StandsBelow (insert_entry nat_cmp files first.number first.run) (at + 1) f) (sym same) (run_at-same files first.number first.run, omega (arith, is)))
known-next files at first lacking file is (inr (inr later)) = inr later

no_files : (file : RunFile) (files : List RunFile) → file ∷ files ≡ [] → ⊥
no_files file files e = absurd cc

gated-none : (n : ℕ) (first : RunFile) (lacking : List RunFile) (gated : Option Edition) → IfSome gated (λ e. e.number ≡ n → first ∷ lacking ≡ []) → IfSome gated (λ e. e.number ≡ n → lacking ≡ [])
gated-none n first lacking None t = tt
gated-none n first lacking (Some e) h = λ same. absurd (no_files first lacking (h same))

run_put-shelved : (w v : World) (d : Draft) (lacking : List RunFile) (a : StoreAnswer) → Shelved w → d.lacking ≡ lacking → DraftIsShelved (shelf_of w) d → run_put w d lacking ≡ Some (v, a) → Shelved v
run_put-shelved w v d [] a s is h e = absurd (none_is (v, a) e)
run_put-shelved w v d (file ∷ lacking) a s is h e =
    let at = h.at in
    let numbered : AreNumberedFrom at (file ∷ lacking) = subst (AreNumberedFrom at) is h.numbered in
    let n : file.number ≡ at = numbered.0 in
    let files = insert_entry nat_cmp w.files file.number file.run in
    let upto = h.upto in
    let drawn = h.drawn in
    let len : length d.lacking ≡ length (file ∷ lacking) = ap length is in
    let le : at + 1 ≤ w.next = omega (arith, upto, drawn, len) in
    let up : file.number ≤ at + 1 = omega (arith, n) in
    let back : at ≤ file.number = omega (arith, n) in
    let used = parts-up files file.number (at + 1) w.used.parts up (parts-insert w.files file.number file.run w.used.parts (parts-up w.files at file.number w.used.parts back h.used)) in
    let stands = parts-up files file.number (at + 1) w.stands.parts up (parts-insert w.files file.number file.run w.stands.parts (parts-up w.files at file.number w.stands.parts back h.stands)) in
    let gated = gated-up files file.number (at + 1) w.gated up (gated-insert w.files file.number file.run w.gated (gated-up w.files at file.number w.gated back h.gated)) in
    let now : Shelved (record w { files = files; draft = Some (record d { lacking = lacking }) }) = record {
      used = parts-up files (at + 1) w.next w.used.parts le used;
      stands = parts-up files (at + 1) w.next w.stands.parts le stands;
      number = s.number;
      gated = gated-stands files (at + 1) w.next w.gated le gated w.files s.gated;
      draft = record {
        at = at + 1;
        numbered = numbered.1;
        upto = omega (arith, upto, len);
        drawn = h.drawn;
        files = each-weaker (IsKnown w.files at (file ∷ lacking)) (IsKnown files (at + 1) lacking) (λ f k. known-next w.files at file lacking f n k) d.edition.parts
            (subst (λ (l : List RunFile). EachFile (IsKnown w.files at l) d.edition.parts) is h.files);
        used = used;
        stands = stands;
        gated = gated;
        settled = λ same. absurd (no_files file lacking (sym is ∙ h.settled same));
        written = gated-none d.edition.number file lacking w.gated (subst (λ (l : List RunFile). IfSome w.gated (λ e. e.number ≡ d.edition.number → l ≡ [])) is h.written);
      };
    } in
    subst Shelved (first_is _ (v, a) e) now

table-shelved : (w v : World) (o : Option Draft) (a : StoreAnswer) → Shelved w → IfSome o (λ d. DraftIsShelved (shelf_of w) d) → file_put w o ≡ Some (v, a) → Shelved v
table-shelved w v None a s h e = absurd (none_is (v, a) e)
table-shelved w v (Some d) a s h e = run_put-shelved w v d d.lacking a s refl h e

-- ---- a draft that lacks nothing

from_not : (b : Bool) → not b ≡ true → b ≡ false
from_not true h = absurd cc
from_not false h = refl

nothing_lacking : (lacking : List RunFile) → not (nat_lt 0 (length lacking)) ≡ true → lacking ≡ []
nothing_lacking [] h = refl
nothing_lacking (file ∷ lacking) h =
    let some : nat_lt 0 (length (file ∷ lacking)) ≡ false = from_not (nat_lt 0 (length (file ∷ lacking))) h in
    let none : length (file ∷ lacking) ≤ 0 = grind (arith, nat_tests) in
    absurd (omega (arith, none))

stands-whole : (files : List (ℕ × List Pair)) (at : ℕ) (file : RunFile) → IsKnown files at [] file → StandsBelow files at file
stands-whole files at file (inl h) = h
stands-whole files at file (inr among) = absurd among

draft-stands : (s : Shelf) (d : Draft) → d.lacking ≡ [] → (h : DraftIsShelved s d) → PartsStand s.files h.at d.edition.parts
draft-stands s d none h =
    each-weaker (IsKnown s.files h.at []) (StandsBelow s.files h.at) (λ f k. stands-whole s.files h.at f k) d.edition.parts
    (subst (λ (l : List RunFile). EachFile (IsKnown s.files h.at l) d.edition.parts) none h.files)

at-next : (s : Shelf) (d : Draft) (h : DraftIsShelved s d) → h.at ≤ s.next
at-next s d h = let upto = h.upto in let drawn = h.drawn in omega (arith, upto, drawn)

gate-edition : (w v : World) (o : Option Draft) (a : StoreAnswer) → w.draft ≡ o → Shelved w → IfSome o (λ d. DraftIsShelved (shelf_of w) d) → edition_gated w o ≡ Some (v, a) → Shelved v
gate-edition w v None a is s h e = absurd (none_is (v, a) e)
gate-edition w v (Some d) a is s h e =
    let t = happens (may_gate w d) (record w { gated = Some d.edition }) v answers.Done a e in
    let none = nothing_lacking d.lacking (and_first (not (nat_lt 0 (length d.lacking))) _ t.test) in
    let parts = draft-stands (shelf_of w) d none h in
    let le = at-next (shelf_of w) d h in
    let held : DraftIsShelved (record (shelf_of w) { gated = Some d.edition }) d =
    record { at = h.at; numbered = h.numbered; upto = h.upto; drawn = h.drawn; files = h.files; used = h.used; stands = h.stands; gated = parts; settled = h.settled; written = λ same. none } in
    let now : Shelved (record w { gated = Some d.edition }) = record {
      used = s.used;
      stands = s.stands;
      number = s.number;
      gated = (parts-up w.files h.at w.next d.edition.parts le parts, h.drawn);
      draft = subst (λ (o : Option Draft). IfSome o (λ d2. DraftIsShelved (record (shelf_of w) { gated = Some d.edition }) d2)) (sym is) held;
    } in
    subst Shelved t.world now

settled-draft : (s : Shelf) (g : Edition) (o : Option Draft) → s.gated ≡ Some g → IfSome o (λ d. DraftIsShelved s d) → IfSome o (λ d. DraftIsShelved (record s { stands = g; gated = None }) d)
settled-draft s g None is t = tt
settled-draft s g (Some d) is h =
    let parts : PartsStand s.files h.at g.parts = subst (λ (o : Option Edition). IfSome o (λ e. PartsStand s.files h.at e.parts)) is h.gated in
    let written : g.number ≡ d.edition.number → d.lacking ≡ [] = subst (λ (o : Option Edition). IfSome o (λ e. e.number ≡ d.edition.number → d.lacking ≡ [])) is h.written in
    record { at = h.at; numbered = h.numbered; upto = h.upto; drawn = h.drawn; files = h.files; used = h.used; stands = parts; gated = tt; settled = written; written = tt }

settle-edition : (w v : World) (o : Option Edition) (a : StoreAnswer) → w.gated ≡ o → Shelved w → EditionStands w.files w.next o → edition_settled w o ≡ Some (v, a) → Shelved v
settle-edition w v None a is s h e = absurd (none_is (v, a) e)
settle-edition w v (Some g) a is s h e =
    let now : Shelved (record w { stands = g; gated = None }) = record { used = s.used; stands = h.0; number = h.1; gated = tt; draft = settled-draft (shelf_of w) g w.draft is s.draft } in
    subst Shelved (first_is _ (v, a) e) now

refuse-shelved : (w v : World) (o : Option Draft) (a : StoreAnswer) → Shelved w → refused w o ≡ Some (v, a) → Shelved v
refuse-shelved w v None a s e = absurd (none_is (v, a) e)
refuse-shelved w v (Some d) a s e =
    let now : Shelved (record w { draft = None }) = record { used = s.used; stands = s.stands; number = s.number; gated = s.gated; draft = tt } in
    subst Shelved (first_is _ (v, a) e) now

same_from_test : (m n : ℕ) → (m == n) ≡ true → n ≡ m
same_from_test m n h = grind (arith, nat_tests)

adopt-shelved : (w v : World) (o : Option Draft) (a : StoreAnswer) → Shelved w → IfSome o (λ d. DraftIsShelved (shelf_of w) d) → adopted w o ≡ Some (v, a) → Shelved v
adopt-shelved w v None a s h e = absurd (none_is (v, a) e)
adopt-shelved w v (Some d) a s h e =
    let t = happens (d.edition.number == w.stands.number) (adopt w d) v answers.Done a e in
    let none = h.settled (same_from_test d.edition.number w.stands.number t.test) in
    let parts = parts-up w.files h.at w.next d.edition.parts (at-next (shelf_of w) d h) (draft-stands (shelf_of w) d none h) in
    let now : Shelved (adopt w d) = record { used = parts; stands = s.stands; number = s.number; gated = s.gated; draft = tt } in
    subst Shelved t.world now

-- ---- a file that is not named

not_or : (a b : Bool) → (a || b) ≡ false → (a ≡ false) × (b ≡ false)
not_or true b h = absurd cc
not_or false b h = (refl, h)

differs : (m n : ℕ) → (m == n) ≡ false → m ≢ n
differs m n h = λ same. true≢false (sym (eq-eqb m n same) ∙ h)

-- what a test of numbers does not find
files-differ : (n : ℕ) (files : List RunFile) → list_any (λ (file : RunFile). file.number == n) files ≡ false → AllByRecursion (λ (file : RunFile). file.number ≢ n) files
files-differ n [] h = tt
files-differ n (f ∷ fs) h = let two = not_or (f.number == n) _ h in (differs f.number n two.0, files-differ n fs two.1)

parts-differ : (n : ℕ) (parts : List EditionPart) → is_in n parts ≡ false → EachFile (λ file. file.number ≢ n) parts
parts-differ n [] h = tt
parts-differ n (part ∷ parts) h = let two = not_or (list_any (λ (file : RunFile). file.number == n) part.runs) _ h in (files-differ n part.runs two.0, parts-differ n parts two.1)

both-files : (P Q R : RunFile → Type 0) → ((file : RunFile) → P file → Q file → R file) → (files : List RunFile) → AllByRecursion P files → AllByRecursion Q files → AllByRecursion R files
both-files P Q R f [] p q = tt
both-files P Q R f (x ∷ xs) p q = (f x p.0 q.0, both-files P Q R f xs p.1 q.1)

both-parts : (P Q R : RunFile → Type 0) → ((file : RunFile) → P file → Q file → R file) → (parts : List EditionPart) → EachFile P parts → EachFile Q parts → EachFile R parts
both-parts P Q R f [] p q = tt
both-parts P Q R f (x ∷ xs) p q = (both-files P Q R f x.runs p.0 q.0, both-parts P Q R f xs p.1 q.1)

abbrev without : List (ℕ × List Pair) → ℕ → List (ℕ × List Pair)
without files n = remove_entry (is_at (nat_cmp n)) files

stands-without : (files : List (ℕ × List Pair)) (n at : ℕ) (file : RunFile) → file.number ≢ n → StandsBelow files at file → StandsBelow (without files n) at file
stands-without files n at file differ h = (run_at-remove files n file.number differ ∙ h.0, h.1)

parts-without : (files : List (ℕ × List Pair)) (n at : ℕ) (parts : List EditionPart) → is_in n parts ≡ false → PartsStand files at parts → PartsStand (without files n) at parts
parts-without files n at parts none all =
    both-parts (λ file. file.number ≢ n) (StandsBelow files at) (StandsBelow (without files n) at) (λ file d h. stands-without files n at file d h) parts (parts-differ n parts none) all

edition-without : (files : List (ℕ × List Pair)) (n at : ℕ) (o : Option Edition) → is_in_edition n o ≡ false → EditionStands files at o → EditionStands (without files n) at o
edition-without files n at None none t = tt
edition-without files n at (Some e) none h = (parts-without files n at e.parts none h.0, h.1)

gated-without : (files : List (ℕ × List Pair)) (n at : ℕ) (o : Option Edition) → is_in_edition n o ≡ false → IfSome o (λ e. PartsStand files at e.parts) → IfSome o (λ e. PartsStand (without files n) at e.parts)
gated-without files n at None none t = tt
gated-without files n at (Some e) none h = parts-without files n at e.parts none h

known-without : (files : List (ℕ × List Pair)) (n at : ℕ) (lacking : List RunFile) (file : RunFile) → file.number ≢ n → IsKnown files at lacking file → IsKnown (without files n) at lacking file
known-without files n at lacking file differ (inl h) = inl (stands-without files n at file differ h)
known-without files n at lacking file differ (inr among) = inr among

draft-without : (s : Shelf) (n : ℕ) (o : Option Draft) → is_in n s.used ≡ false → is_in n s.stands.parts ≡ false → is_in_edition n s.gated ≡ false → is_in_draft n o ≡ false
    → IfSome o (λ d. DraftIsShelved s d) → IfSome o (λ d. DraftIsShelved (record s { files = without s.files n }) d)
draft-without s n None u t g none h = tt
draft-without s n (Some d) u t g none h =
    record {
      at = h.at;
      numbered = h.numbered;
      upto = h.upto;
      drawn = h.drawn;
      files = both-parts (λ file. file.number ≢ n) (IsKnown s.files h.at d.lacking) (IsKnown (without s.files n) h.at d.lacking) (λ file x k. known-without s.files n h.at d.lacking file x k) d.edition.parts (parts-differ n d.edition.parts none) h.files;
      used = parts-without s.files n h.at s.used u h.used;
      stands = parts-without s.files n h.at s.stands.parts t h.stands;
      gated = gated-without s.files n h.at s.gated g h.gated;
      settled = h.settled;
      written = h.written;
    }

remove-shelved : (w : World) (n : ℕ) → may_remove w n ≡ true → Shelved w → Shelved (removed w n)
remove-shelved w n may s =
    let used = from_not (is_in n w.used.parts) (and_first (not (is_in n w.used.parts)) _ may) in
    let rest = and_second (not (is_in n w.used.parts)) _ may in
    let stands = from_not (is_in n w.stands.parts) (and_first (not (is_in n w.stands.parts)) _ rest) in
    let last = and_second (not (is_in n w.stands.parts)) _ rest in
    let gated = from_not (is_in_edition n w.gated) (and_first (not (is_in_edition n w.gated)) _ last) in
    let draft = from_not (is_in_draft n w.draft) (and_second (not (is_in_edition n w.gated)) _ last) in
    record {
      used = parts-without w.files n w.next w.used.parts used s.used;
      stands = parts-without w.files n w.next w.stands.parts stands s.stands;
      number = s.number;
      gated = edition-without w.files n w.next w.gated gated s.gated;
      draft = draft-without (shelf_of w) n w.draft used stands gated draft s.draft;
    }

-- ---- events that the claim does not read

look-shelved : (w v : World) (number : ℕ) (key : List ℕ) (front : ℕ) (held : Option Version) (a : StoreAnswer) → Shelved w → looked w number key front held ≡ Some (v, a) → Shelved v
look-shelved w v number key front None a s e = absurd (none_is (v, a) e)
look-shelved w v number key front (Some version) a s e =
    subst Shelved (happens (may_look w number version front) (at_front w number front) v (answers.Found front (shown w.history version key front)) a e).world s

list-shelved : (w v : World) (bound : List ℕ) (count : ℕ) (o : Option Pin) (a : StoreAnswer) → Shelved w → listed w bound count o ≡ Some (v, a) → Shelved v
list-shelved w v bound count None a s e = absurd (none_is (v, a) e)
list-shelved w v bound count (Some p) a s e = subst Shelved (first_is _ (v, a) e) s

gate-shelved : (w v : World) (o : Option Frame) (a : StoreAnswer) → Shelved w → gate_written w o ≡ Some (v, a) → Shelved v
gate-shelved w v None a s e = absurd (none_is (v, a) e)
gate-shelved w v (Some f) a s e = subst Shelved (first_is _ (v, a) e) s

settled-shelved : (w v : World) (o : Option Frame) (a : StoreAnswer) → Shelved w → frame_settled w o ≡ Some (v, a) → Shelved v
settled-shelved w v None a s e = absurd (none_is (v, a) e)
settled-shelved w v (Some f) a s e = subst Shelved (happens f.gated _ v answers.Done a e).world s

begun-shelved : (w : World) (o : Option Segment) → Shelved w → Shelved (begun_after w o)
begun-shelved w None s = s
begun-shelved w (Some segment) s = s

install-shelved : (w v : World) (o : Option Memtable) (a : StoreAnswer) → Shelved w → installed_now w o ≡ Some (v, a) → Shelved v
install-shelved w v None a s e = absurd (none_is (v, a) e)
install-shelved w v (Some m) a s e = subst Shelved (first_is _ (v, a) e) s

pub step-shelved : (w v : World) (e : StoreEvent) (a : StoreAnswer) → Shelved w → step w e ≡ Some (v, a) → Shelved v
step-shelved w v (events.Append caller pair) a s e = subst Shelved (happens (may_append w) (appended w caller pair) v (answers.Number (end w.history)) a e).world s
step-shelved w v (events.Take caller) a s e = subst Shelved (first_is _ (v, a) e) s
step-shelved w v (events.Look caller key front) a s e = look-shelved w v caller key front _ a s e
step-shelved w v (events.Note caller) a s e = subst Shelved (first_is _ (v, a) e) s
step-shelved w v events.Body a s e = subst Shelved (happens (not (is_some w.frame)) (body_written w) v answers.Done a e).world s
step-shelved w v events.Gate a s e = gate-shelved w v w.frame a s e
step-shelved w v events.Settled a s e = settled-shelved w v w.frame a s e
step-shelved w v events.Header a s e = subst Shelved (happens (may_begin w) (begun_after w (last_of w.segments)) v answers.Done a e).world (begun-shelved w (last_of w.segments) s)
step-shelved w v events.Freeze a s e = subst Shelved (happens (may_freeze w) (frozen_now w) v answers.Done a e).world s
step-shelved w v events.Install a s e = install-shelved w v w.opened a s e
step-shelved w v (events.Pin caller) a s e = subst Shelved (happens (may_pin w caller) (pinned w caller) v (answers.Pinned (length w.pins) w.installed.base) a e).world s
step-shelved w v (events.List pin bound count) a s e = list-shelved w v bound count _ a s e
step-shelved w v (events.Plan may_abort) a s e = subst Shelved (happens (may_plan w) (planned w (decisions_of w may_abort)) v answers.Done a e).world (plan-shelved w (decisions_of w may_abort) s)
step-shelved w v events.Table a s e = table-shelved w v w.draft a s s.draft e
step-shelved w v events.EditionGate a s e = gate-edition w v w.draft a refl s s.draft e
step-shelved w v events.EditionSettled a s e = settle-edition w v w.gated a refl s s.gated e
step-shelved w v events.Refuse a s e = refuse-shelved w v w.draft a s e
step-shelved w v events.Adopt a s e = adopt-shelved w v w.draft a s s.draft e
step-shelved w v events.Release a s e = subst Shelved (happens (w.used.number == w.stands.number) (released w) v answers.Done a e).world s
step-shelved w v (events.Remove number) a s e = let t = happens (may_remove w number) (removed w number) v answers.Done a e in subst Shelved t.world (remove-shelved w number t.test s)

opening-shelved : Shelved opening
opening-shelved = record { used = (tt, tt); stands = (tt, tt); number = omega arith; gated = tt; draft = tt }

from-shelved : (es : List StoreEvent) (led last : World × List StoreAnswer) → Shelved led.0 → run_from (Some led) es ≡ Some last → Shelved last.0
from-shelved [] led last s e = subst (λ (p : World × List StoreAnswer). Shelved p.0) (same_Some led last e) s
from-shelved (x ∷ xs) led last s e = by_step (λ next n t. from-shelved xs next last n t) (step led.0 x) refl e
  where
    by_step : ((next : World × List StoreAnswer) → Shelved next.0 → run_from (Some next) xs ≡ Some last → Shelved last.0) → (o : Stepped) → step led.0 x ≡ o → run_from (answered led.1 o) xs ≡ Some last → Shelved last.0
    by_step rest None is t = absurd (none_from xs last t)
    by_step rest (Some p) is t = rest (p.0, led.1 ++ p.1 ∷ []) (step-shelved led.0 p.0 x p.1 s is) t

pub run-shelved : (es : List StoreEvent) (told : List StoreAnswer) (w : World) → run opening es ≡ Some (w, told) → FilesStand w
run-shelved es told w e = let s = from-shelved es (opening, []) (w, told) opening-shelved e in record { used = s.used; stands = s.stands; gated = s.gated }
