-- What the replies of a session come to. To know: `answers_give_session`, `answers_add_updates`, `answers_tell_failures`,
-- `answers_alone_are_session`.
use Rattle.std.proofs.Common.{◌≡◌, ℕ, ◌+◌, ◌≤◌, ◌<◌, List, [], ◌∷◌, ◌++◌, length, Some, None, refl, sym, ap, subst, ◌∙◌, arith}
use Rattle.std.specs.Prelude.{◌==◌}
use Rattle.std.specs.List.{AllByRecursion}
use Rattle.rdb_base.specs.declared.row.Row.{Row}
use Rattle.rdb_base.specs.declared.entry.Entry.{Entry}
use Rattle.rdb_base.specs.declared.change.Change.TheVariants as changes
use Rattle.rdb_base.specs.Histories.{History, AreNumbered, calls_of}
use Rattle.fault_count.specs.Counts.{sum_of}
use Rattle.history_core.specs.declared.request.Request.{Request}
use Rattle.history_core.specs.declared.request.Request.TheVariants.{Put, Delete, Get, Sync, Quit}
use Rattle.history_core.specs.declared.reply.Reply.{Reply}
use Rattle.history_core.specs.declared.reply.Reply.TheVariants.{Done, Value, Absent, Synced, Bye, DeviceFault, OutOfMemory, HistorySpent, NumbersSpent}
use Rattle.history_core.specs.Sessions.{SessionState, ReplaysAll, IsSession, begun}
use Rattle.history_core.specs.Operations.{Operation, updated, looked, synced, history_spent, numbers_spent, device_failed, no_memory, left, operation_of, AreOperations}
use Rattle.history_core.specs.Passes.{PassState, Grows, front_of, map_of, added, added_by}
use Rattle.history_core.specs.PassLaws.{session_of, SyncedWithin, ArePlain, failures_in}
use Rattle.history_core.proofs.OperationLemmas.{replies_from_operations}
use Rattle.history_core.proofs.PassLemmas.{session_from_pass, pass_adds_its_updates, pass_knows_synced, pass_counts_failures, pass_alone_is_plain, more-own}
use Rattle.session_core.specs.Answering.{PassAnswers, operations_of}
use Rattle.session_core.specs.Telling.{told_by, told_by_all}
use Rattle.session_core.specs.Laws.{AreRepliesOf, Begins}
use Rattle.session_core.proofs.AnswerLemmas.{operations_are}

pub answers_give_session : (old new : PassState) (asked : List Request) (answered : List Reply) → PassAnswers old asked answered new → AreRepliesOf old new asked answered
answers_give_session old new asked answered p =
    let s = session_from_pass old new p.operations p.moves in
    record {
      last = s.last;
      replays = replies_from_operations new.seen (session_of old (front_of old)) s.last asked answered p.operations p.told s.session;
      caller = s.caller;
      ordinal = s.ordinal;
      least = s.least;
    }

pub answers_add_updates : (old new : PassState) (asked : List Request) (answered : List Reply) → PassAnswers old asked answered new → Grows old new (added old.caller old.ordinal (operations_of asked answered))
answers_add_updates old new asked answered p =
    subst (λ (os : List Operation). Grows old new (added old.caller old.ordinal os)) (operations_are asked answered p.operations p.told) (pass_adds_its_updates old new p.operations p.moves)

pub answers_know_synced : (old new : PassState) (asked : List Request) (answered : List Reply) → PassAnswers old asked answered new → SyncedWithin new.safe (operations_of asked answered)
answers_know_synced old new asked answered p =
    subst (λ (os : List Operation). SyncedWithin new.safe os) (operations_are asked answered p.operations p.told) (pass_knows_synced old new p.operations p.moves)

pub answers_alone_are_plain : (old new : PassState) (asked : List Request) (answered : List Reply) (more : List Entry) → PassAnswers old asked answered new → new.seen.entries ≡ old.seen.entries ++ more → AllByRecursion (λ (entry : Entry). entry.caller ≡ old.caller) more → ArePlain (map_of old) (front_of old) (operations_of asked answered)
answers_alone_are_plain old new asked answered more p seen own =
    subst (λ (os : List Operation). ArePlain (map_of old) (front_of old) os) (operations_are asked answered p.operations p.told) (pass_alone_is_plain old new p.operations more p.moves seen own)

-- ---- failures

-- a reply tells a failure of one device where its operation is one, and else none
record TellsFailure (operation : Operation) (reply : Reply) : Type 0 where
  pub device : ℕ
  pub counted : told_by device reply ≡ failures_in (operation ∷ [])
  pub most : (d : ℕ) → told_by d reply ≤ failures_in (operation ∷ [])

some_is : (a b : Operation) → Some a ≡ Some b → a ≡ b
some_is a b e = cc

none_is : (a : Operation) → None ≡ Some a → ⊥
none_is a e = absurd cc

no_fault : (reply : Reply) (is operation : Operation) → Some is ≡ Some operation → failures_in (is ∷ []) ≡ 0 → ((d : ℕ) → told_by d reply ≡ 0) → TellsFailure operation reply
no_fault reply is operation e none untold = subst (λ (o : Operation). TellsFailure o reply) (some_is is operation e) (record { device = 0; counted = untold 0 ∙ sym none; most = λ d. omega (arith, untold d) })

told_once : (d device : ℕ) → told_by d (DeviceFault device) ≤ 1
told_once d device = grind arith

told_itself : (device : ℕ) → told_by device (DeviceFault device) ≡ 1
told_itself device = grind arith

one_fault : (device : ℕ) (operation : Operation) → Some (device_failed device) ≡ Some operation → TellsFailure operation (DeviceFault device)
one_fault device operation e = subst (λ (o : Operation). TellsFailure o (DeviceFault device)) (some_is (device_failed device) operation e) (record { device = device; counted = told_itself device; most = λ d. told_once d device })

faults_one : (request : Request) (reply : Reply) (operation : Operation) → operation_of request reply ≡ Some operation → TellsFailure operation reply
faults_one (Put row) (Done number) operation e = no_fault (Done number) (updated row.key (changes.Put row.value) number) operation e refl (λ d. refl)
faults_one (Delete key) (Done number) operation e = no_fault (Done number) (updated key changes.Del number) operation e refl (λ d. refl)
faults_one (Get key) (Value front value) operation e = no_fault (Value front value) (looked key front (Some value)) operation e refl (λ d. refl)
faults_one (Get key) (Absent front) operation e = no_fault (Absent front) (looked key front None) operation e refl (λ d. refl)
faults_one Sync (Synced number) operation e = no_fault (Synced number) (synced number) operation e refl (λ d. refl)
faults_one Quit Bye operation e = no_fault Bye left operation e refl (λ d. refl)
faults_one (Put row) (HistorySpent number) operation e = no_fault (HistorySpent number) (history_spent number) operation e refl (λ d. refl)
faults_one (Delete key) (HistorySpent number) operation e = no_fault (HistorySpent number) (history_spent number) operation e refl (λ d. refl)
faults_one (Put row) (NumbersSpent number) operation e = no_fault (NumbersSpent number) (numbers_spent number) operation e refl (λ d. refl)
faults_one (Delete key) (NumbersSpent number) operation e = no_fault (NumbersSpent number) (numbers_spent number) operation e refl (λ d. refl)
faults_one (Put row) OutOfMemory operation e = no_fault OutOfMemory no_memory operation e refl (λ d. refl)
faults_one (Delete key) OutOfMemory operation e = no_fault OutOfMemory no_memory operation e refl (λ d. refl)
faults_one (Get key) OutOfMemory operation e = no_fault OutOfMemory no_memory operation e refl (λ d. refl)
faults_one Sync OutOfMemory operation e = no_fault OutOfMemory no_memory operation e refl (λ d. refl)
faults_one (Put row) (DeviceFault device) operation e = one_fault device operation e
faults_one (Delete key) (DeviceFault device) operation e = one_fault device operation e
faults_one Sync (DeviceFault device) operation e = one_fault device operation e
faults_one request reply operation e = absurd (none_is operation e)

failures_in-cons : (operation : Operation) (operations : List Operation) → failures_in (operation ∷ operations) ≡ failures_in (operation ∷ []) + failures_in operations
failures_in-cons (device_failed device) operations = refl
failures_in-cons (updated key change number) operations = omega arith
failures_in-cons (looked key front found) operations = omega arith
failures_in-cons (synced number) operations = omega arith
failures_in-cons (history_spent number) operations = omega arith
failures_in-cons (numbers_spent number) operations = omega arith
failures_in-cons no_memory operations = omega arith
failures_in-cons left operations = omega arith

-- a device's failures are among all of them
told_most : (asked : List Request) (answered : List Reply) (operations : List Operation) → AreOperations asked answered operations → (d : ℕ) → told_by_all d answered ≤ failures_in operations
told_most [] [] [] h d = omega arith
told_most (q ∷ qs) (r ∷ rs) (o ∷ os) h d = omega (arith, (faults_one q r o h.0).most d, told_most qs rs os h.1 d, failures_in-cons o os)
told_most qs rs os h d = absurd h

-- where there are none of any device there are none
told_none : (asked : List Request) (answered : List Reply) (operations : List Operation) → AreOperations asked answered operations → ((d : ℕ) → told_by_all d answered ≡ 0) → failures_in operations ≡ 0
told_none [] [] [] h none = refl
told_none (q ∷ qs) (r ∷ rs) (o ∷ os) h none =
    let one = faults_one q r o h.0 in
    let rest = told_none qs rs os h.1 (λ d. omega (arith, none d)) in
    omega (arith, failures_in-cons o os, rest, one.counted, none one.device)
told_none qs rs os h none = absurd h

pub answers_tell_failures : (old new : PassState) (asked : List Request) (answered : List Reply) → PassAnswers old asked answered new → ((d : ℕ) → sum_of old.told (told_by_all d answered) ≤ new.told) × (((d : ℕ) → told_by_all d answered ≡ 0) → new.told ≡ old.told)
answers_tell_failures old new asked answered p =
    let counted = pass_counts_failures old new p.operations p.moves in
    ((λ d. omega (arith, counted.0, told_most asked answered p.operations p.told d)), λ none. counted.1 (told_none asked answered p.operations p.told none))

-- ---- the only caller

numbered_here : (ordinal : ℕ) (entries : List Entry) → AreNumbered (ordinal + 0) entries → AreNumbered ordinal entries
numbered_here ordinal entries h = let same : ordinal + 0 ≡ ordinal = omega arith in subst (λ (n : ℕ). AreNumbered n entries) same h

-- the entries that operations add are numbered on
added_by-numbered : (caller ordinal : ℕ) (operation : Operation) (entries : List Entry) → AreNumbered (ordinal + length (added_by caller ordinal operation)) entries → AreNumbered ordinal (added_by caller ordinal operation ++ entries)
added_by-numbered caller ordinal (updated key change number) entries h = (refl, h)
added_by-numbered caller ordinal (looked key front found) entries h = numbered_here ordinal entries h
added_by-numbered caller ordinal (synced number) entries h = numbered_here ordinal entries h
added_by-numbered caller ordinal (history_spent number) entries h = numbered_here ordinal entries h
added_by-numbered caller ordinal (numbers_spent number) entries h = numbered_here ordinal entries h
added_by-numbered caller ordinal (device_failed device) entries h = numbered_here ordinal entries h
added_by-numbered caller ordinal no_memory entries h = numbered_here ordinal entries h
added_by-numbered caller ordinal left entries h = numbered_here ordinal entries h

added-numbered : (caller ordinal : ℕ) (operations : List Operation) → AreNumbered ordinal (added caller ordinal operations)
added-numbered caller ordinal [] = tt
added-numbered caller ordinal (operation ∷ operations) =
    let own = added_by caller ordinal operation in
    added_by-numbered caller ordinal operation (added caller (ordinal + length own) operations) (added-numbered caller (ordinal + length own) operations)

history_is : (b d : List Row) (f g : ℕ) (e m : List Entry) → b ≡ d → f ≡ g → e ≡ m → let h : History = record { base = b; first = f; entries = e } in let k : History = record { base = d; first = g; entries = m } in h ≡ k
history_is b d f g e m x y z = cc

state_is : (c d o p l k : ℕ) → c ≡ d → o ≡ p → l ≡ k → let one : SessionState = record { caller = c; ordinal = o; least = l } in let two : SessionState = record { caller = d; ordinal = p; least = k } in one ≡ two
state_is c d o p l k e f g = cc

pub answers_alone_are_session : (old new : PassState) (asked : List Request) (answered : List Reply) → PassAnswers old asked answered new → Begins old → AllByRecursion (λ (entry : Entry). entry.caller ≡ 0) new.seen.entries → IsSession old.seen.base old.seen.first asked answered
answers_alone_are_session old new asked answered p b all =
    let own = added old.caller old.ordinal p.operations in
    let g = pass_adds_its_updates old new p.operations p.moves in
    let s = answers_give_session old new asked answered p in
    let seen : new.seen.entries ≡ g.more = g.entries ∙ ap (λ (es : List Entry). es ++ g.more) b.nothing in
    let callers : AllByRecursion (λ (entry : Entry). entry.caller ≡ old.caller) g.more = subst (λ (n : ℕ). AllByRecursion (λ (entry : Entry). entry.caller ≡ n) g.more) (sym b.caller) (subst (λ (es : List Entry). AllByRecursion (λ (entry : Entry). entry.caller ≡ 0) es) seen all) in
    let made : new.seen.entries ≡ own = seen ∙ more-own old new own g callers in
    let numbered : AreNumbered 0 new.seen.entries = subst (λ (es : List Entry). AreNumbered 0 es) (sym made) (subst (λ (n : ℕ). AreNumbered n own) b.ordinal (added-numbered old.caller old.ordinal p.operations)) in
    let history = history_is new.seen.base old.seen.base new.seen.first old.seen.first new.seen.entries new.seen.entries g.base g.first refl in
    let front : front_of old ≡ old.seen.first = omega (arith, ap (λ (es : List Entry). length es) b.nothing) in
    let first : session_of old (front_of old) ≡ begun old.seen.first = state_is old.caller 0 old.ordinal 0 (front_of old) old.seen.first b.caller b.ordinal front in
    record {
      entries = new.seen.entries;
      last = s.last;
      callers = all;
      numbered = numbered;
      all = omega (arith, s.ordinal, g.ordinal, b.ordinal, ap (λ (es : List Entry). length es) made);
      replays = subst (λ (h : History). ReplaysAll h (begun old.seen.first) asked answered s.last) history (subst (λ (t : SessionState). ReplaysAll new.seen t asked answered s.last) first s.replays);
    }
