-- What a pass does is one session over what it has seen at last. To know: `Grows-none`, `Grows-then`, `seen-grown`,
-- `PassMoves-after`, `session_from_pass`, `more-own`.
use Rattle.std.proofs.Common.{◌≡◌, ℕ, ◌+◌, ◌-◌, ◌≤◌, Bool, true, false, cond, List, [], ◌∷◌, ◌++◌, length, refl, sym, ap, subst, ◌∙◌, append_assoc, arith}
use Rattle.std.specs.Prelude.{◌==◌}
use Rattle.std.specs.List.{AllByRecursion}
use Rattle.std.proofs.lemmas.List.{length-append, append-nil, append_cancel_left, take_all}
use Rattle.std.proofs.lemmas.List.Elements.{filter-append}
use Rattle.std.proofs.lemmas.Bool.{eq-eqb}
use Rattle.std.proofs.lemmas.Option.{slice_get_within}
use Rattle.rdb_base.specs.declared.row.Row.{Row}
use Rattle.rdb_base.specs.declared.entry.Entry.{Entry}
use Rattle.rdb_base.specs.declared.limits.TheConstants.{NUMBER_MAX}
use Rattle.rdb_base.specs.Maps.{applied_all, value_at}
use Rattle.rdb_base.specs.Histories.{History, IsEntry, calls_of, after, end}
use Rattle.rdb_base.proofs.HistoryLemmas.{applied_all-append}
use Rattle.rdb_base.proofs.Lists.{all-front, all-back}
use Rattle.fault_count.specs.Counts.{sum_of}
use Rattle.history_core.specs.Sessions.{SessionState, updated_at}
use Rattle.history_core.specs.Laws.{grown}
use Rattle.history_core.specs.Operations.{Operation, updated, looked, synced, history_spent, numbers_spent, device_failed, no_memory, left, Operates, OperatesAll}
use Rattle.history_core.specs.Passes.{PassState, Grows, Fits, Tells, PassMoves, PassMovesAll, front_of, map_of, entry_of, added_by, added}
use Rattle.history_core.specs.PassLaws.{session_of, IsSessionOf, SyncedWithin, failures_in, ArePlain}
use Rattle.history_core.proofs.OperationLemmas.{Operates-grown}

-- ---- what a pass sees

calls_of-append : (xs ys : List Entry) (caller : ℕ) → calls_of (xs ++ ys) caller ≡ calls_of xs caller ++ calls_of ys caller
calls_of-append xs ys caller = filter-append (λ (entry : Entry). entry.caller == caller) xs ys

pub Grows-none : (pass : PassState) → Grows pass pass []
Grows-none pass = record { caller = refl; ordinal = omega arith; base = refl; first = refl; more = []; entries = sym (append-nil pass.seen.entries); calls = refl; safe = omega arith; next = omega arith; within = λ le. le }

pub Grows-then : (a b c : PassState) (xs ys : List Entry) → Grows a b xs → Grows b c ys → Grows a c (xs ++ ys)
Grows-then a b c xs ys g h = record {
  caller = h.caller ∙ g.caller;
  ordinal = omega (arith, g.ordinal, h.ordinal, length-append xs ys);
  base = h.base ∙ g.base;
  first = h.first ∙ g.first;
  more = g.more ++ h.more;
  entries = h.entries ∙ ap (λ (es : List Entry). es ++ h.more) g.entries ∙ append_assoc a.seen.entries g.more h.more;
  calls = calls_of-append g.more h.more a.caller ∙ ap (λ (es : List Entry). es ++ calls_of h.more a.caller) g.calls ∙ ap (λ (es : List Entry). xs ++ es) (subst (λ (n : ℕ). calls_of h.more n ≡ ys) g.caller h.calls);
  safe = omega (arith, g.safe, h.safe);
  next = omega (arith, g.next, h.next);
  within = λ le. h.within (g.within le);
}

history_is : (b d : List Row) (f g : ℕ) (e m : List Entry) → b ≡ d → f ≡ g → e ≡ m → let h : History = record { base = b; first = f; entries = e } in let k : History = record { base = d; first = g; entries = m } in h ≡ k
history_is b d f g e m x y z = cc

pub seen-grown : (a b : PassState) (own : List Entry) (g : Grows a b own) → b.seen ≡ grown a.seen g.more
seen-grown a b own g = history_is b.seen.base a.seen.base b.seen.first a.seen.first b.seen.entries (a.seen.entries ++ g.more) g.base g.first g.entries

pub front_of-grows : (a b : PassState) (own : List Entry) → Grows a b own → front_of a ≤ front_of b
front_of-grows a b own g = omega (arith, g.first, ap (λ (es : List Entry). length es) g.entries, length-append a.seen.entries g.more)

-- ---- what a pass adds

added-same : (a b c d : ℕ) (operations : List Operation) → a ≡ c → b ≡ d → added a b operations ≡ added c d operations
added-same a b c d operations e f = ap (λ (n : ℕ). added n b operations) e ∙ ap (λ (n : ℕ). added c n operations) f

pub pass_adds_its_updates : (a b : PassState) (operations : List Operation) → PassMovesAll a operations b → Grows a b (added a.caller a.ordinal operations)
pass_adds_its_updates a b [] h = subst (λ (p : PassState). Grows a p []) (sym h) (Grows-none a)
pass_adds_its_updates a b (operation ∷ operations) h =
    let between = h.0 in
    let own = added_by a.caller a.ordinal operation in
    let rest = pass_adds_its_updates between b operations h.2 in
    let same = added-same between.caller between.ordinal a.caller (a.ordinal + length own) operations h.1.grows.caller h.1.grows.ordinal in
    Grows-then a between b own (added a.caller (a.ordinal + length own) operations) h.1.grows (subst (λ (es : List Entry). Grows between b es) same rest)

-- ---- the session of a pass

state_is : (c d o p l : ℕ) → c ≡ d → o ≡ p → let one : SessionState = record { caller = c; ordinal = o; least = l } in let two : SessionState = record { caller = d; ordinal = p; least = l } in one ≡ two
state_is c d o p l e f = cc

-- the session's state after an operation that is no update
session_of-same : (a b : PassState) (least : ℕ) → Grows a b [] → session_of b least ≡ session_of a least
session_of-same a b least g = state_is b.caller a.caller b.ordinal a.ordinal least g.caller (omega (arith, g.ordinal))

session_of-updated : (a b : PassState) (entry : Entry) (least number : ℕ) → Grows a b (entry ∷ []) → session_of b (number + 1) ≡ updated_at (session_of a least) number
session_of-updated a b entry least number g = state_is b.caller a.caller b.ordinal (a.ordinal + 1) (number + 1) g.caller (omega (arith, g.ordinal))

IsEntry-within : (history : History) (number : ℕ) (entry : Entry) → IsEntry history number entry → number + 1 ≤ end history
IsEntry-within history number entry is = omega (arith, is.0, slice_get_within history.entries (number - history.first) entry is.1)

-- where an operation leaves the session of a pass
record Goes (a b : PassState) (least : ℕ) (operation : Operation) : Type 0 where
  pub behind : ℕ
  pub operates : Operates b.seen (session_of a least) operation (session_of b behind)
  pub within : behind ≤ front_of b

pass_goes : (a b : PassState) (least : ℕ) (operation : Operation) → least ≤ front_of a → PassMoves a operation b → Goes a b least operation
pass_goes a b least (updated key change number) le h =
    let entry = entry_of a.caller a.ordinal key change in
    record { behind = number + 1; operates = (omega (arith, le, h.fits.0), h.fits.1, session_of-updated a b entry least number h.grows); within = IsEntry-within b.seen number entry h.fits.1 }
pass_goes a b least (looked key front found) le h =
    record { behind = front; operates = (omega (arith, le, h.fits.0), h.fits.1, h.fits.2, session_of-same a b front h.grows); within = h.fits.1 }
pass_goes a b least (synced number) le h =
    record { behind = number; operates = (omega (arith, le, h.fits.0), h.fits.1, session_of-same a b number h.grows); within = h.fits.1 }
pass_goes a b least (history_spent number) le h = record { behind = least; operates = (h.fits, session_of-same a b least h.grows); within = omega (arith, le, front_of-grows a b [] h.grows) }
pass_goes a b least (numbers_spent number) le h = record { behind = least; operates = (h.fits.0, session_of-same a b least h.grows); within = omega (arith, le, front_of-grows a b [] h.grows) }
pass_goes a b least (device_failed device) le h = record { behind = least; operates = (h.fits, session_of-same a b least h.grows); within = omega (arith, le, front_of-grows a b [] h.grows) }
pass_goes a b least no_memory le h = record { behind = least; operates = session_of-same a b least h.grows; within = omega (arith, le, front_of-grows a b [] h.grows) }
pass_goes a b least left le h = record { behind = least; operates = session_of-same a b least h.grows; within = omega (arith, le, front_of-grows a b [] h.grows) }

-- where all operations leave it
record GoesAll (a b : PassState) (least : ℕ) (operations : List Operation) : Type 0 where
  pub behind : ℕ
  pub operates : OperatesAll b.seen (session_of a least) operations (session_of b behind)
  pub within : behind ≤ front_of b

pass_goes_all : (a b : PassState) (least : ℕ) (operations : List Operation) → least ≤ front_of a → PassMovesAll a operations b → GoesAll a b least operations
pass_goes_all a b least [] le h = subst (λ (p : PassState). GoesAll a p least []) (sym h) (record { behind = least; operates = refl; within = le })
pass_goes_all a b least (operation ∷ operations) le h =
    let between = h.0 in
    let one = pass_goes a between least operation le h.1 in
    let rest = pass_goes_all between b one.behind operations one.within h.2 in
    let more = pass_adds_its_updates between b operations h.2 in
    let seen = seen-grown between b (added between.caller between.ordinal operations) more in
    let most : (end between.seen ≤ NUMBER_MAX → end (grown between.seen more.more) ≤ NUMBER_MAX) = subst (λ (s : History). end between.seen ≤ NUMBER_MAX → end s ≤ NUMBER_MAX) seen more.within in
    let first = subst (λ (s : History). Operates s (session_of a least) operation (session_of between one.behind)) (sym seen) (Operates-grown between.seen more.more (session_of a least) operation (session_of between one.behind) most one.operates) in
    record { behind = rest.behind; operates = (session_of between one.behind, first, rest.operates); within = rest.within }

pub session_from_pass : (a b : PassState) (operations : List Operation) → PassMovesAll a operations b → IsSessionOf a b operations
session_from_pass a b operations h =
    let all = pass_goes_all a b (front_of a) operations (omega arith) h in
    record { last = session_of b all.behind; session = all.operates; caller = refl; ordinal = refl; least = all.within }

-- ---- a pass that first sees more, and then moves

Fits-after : (a b c : PassState) (operation : Operation) → Grows a b [] → Fits b operation c → Fits a operation c
Fits-after a b c (updated key change number) g f =
    let ordinal : b.ordinal ≡ a.ordinal = omega (arith, g.ordinal) in
    let own = subst (λ (n : ℕ). IsEntry c.seen number (entry_of n b.ordinal key change)) g.caller f.1 in (
      omega (arith, front_of-grows a b [] g, f.0),
      subst (λ (n : ℕ). IsEntry c.seen number (entry_of a.caller n key change)) ordinal own,
    )
Fits-after a b c (looked key front found) g f = (omega (arith, front_of-grows a b [] g, f.0), f.1, f.2)
Fits-after a b c (synced number) g f = (omega (arith, front_of-grows a b [] g, f.0), f.1, f.2)
Fits-after a b c (history_spent number) g f = f
Fits-after a b c (numbers_spent number) g f = f
Fits-after a b c (device_failed device) g f = f
Fits-after a b c no_memory g f = f
Fits-after a b c left g f = f

added_by-same : (a b c d : ℕ) (operation : Operation) → a ≡ c → b ≡ d → added_by a b operation ≡ added_by c d operation
added_by-same a b c d operation e f = ap (λ (n : ℕ). added_by n b operation) e ∙ ap (λ (n : ℕ). added_by c n operation) f

-- a call that first lets the pass see more, and tells it of no failure meanwhile, moves it as its operation says
pub PassMoves-after : (a b c : PassState) (operation : Operation) → Grows a b [] → b.told ≡ a.told → PassMoves b operation c → PassMoves a operation c
PassMoves-after a b c operation g same h =
    let ordinal : b.ordinal ≡ a.ordinal = omega (arith, g.ordinal) in
    let own = added_by-same b.caller b.ordinal a.caller a.ordinal operation g.caller ordinal in
    let grows = Grows-then a b c [] (added_by b.caller b.ordinal operation) g h.grows in
    record {
      grows = subst (λ (es : List Entry). Grows a c es) own grows;
      fits = Fits-after a b c operation g h.fits;
      told = subst (λ (n : ℕ). Tells operation n c.told) same h.told;
    }

-- ---- what a pass knows

-- what it knows to be synced never falls
safe-moves : (a b : PassState) (operations : List Operation) → PassMovesAll a operations b → a.safe ≤ b.safe
safe-moves a b [] h = omega (arith, ap (λ (p : PassState). p.safe) h)
safe-moves a b (operation ∷ operations) h = omega (arith, h.1.grows.safe, safe-moves h.0 b operations h.2)

synced_one : (a b : PassState) (most : ℕ) (operation : Operation) (operations : List Operation) → PassMoves a operation b → b.safe ≤ most → SyncedWithin most operations → SyncedWithin most (operation ∷ operations)
synced_one a b most (synced number) operations h le rest = (omega (arith, h.fits.2, le), rest)
synced_one a b most (updated key change number) operations h le rest = rest
synced_one a b most (looked key front found) operations h le rest = rest
synced_one a b most (history_spent number) operations h le rest = rest
synced_one a b most (numbers_spent number) operations h le rest = rest
synced_one a b most (device_failed device) operations h le rest = rest
synced_one a b most no_memory operations h le rest = rest
synced_one a b most left operations h le rest = rest

pub pass_knows_synced : (a b : PassState) (operations : List Operation) → PassMovesAll a operations b → SyncedWithin b.safe operations
pass_knows_synced a b [] h = tt
pass_knows_synced a b (operation ∷ operations) h =
    synced_one a h.0 b.safe operation operations h.1 (safe-moves h.0 b operations h.2) (pass_knows_synced h.0 b operations h.2)

-- the number of failures told counts each of these operations, and stands where there is none
abbrev Counts : ℕ → ℕ → List Operation → Type 0
Counts before now operations = (sum_of before (failures_in operations) ≤ now) × (failures_in operations ≡ 0 → now ≡ before)

counts_same : (before between now : ℕ) (operations : List Operation) → between ≡ before → Counts between now operations → Counts before now operations
counts_same before between now operations e c = subst (λ (n : ℕ). Counts n now operations) e c

counts_one : (a b : PassState) (now : ℕ) (operation : Operation) (operations : List Operation) → PassMoves a operation b → Counts b.told now operations → Counts a.told now (operation ∷ operations)
counts_one a b now (device_failed device) operations h c = (omega (arith, h.told, c.0), λ none. absurd (omega (arith, none)))
counts_one a b now (synced number) operations h c = counts_same a.told b.told now operations h.told c
counts_one a b now (updated key change number) operations h c = counts_same a.told b.told now operations h.told c
counts_one a b now (looked key front found) operations h c = counts_same a.told b.told now operations h.told c
counts_one a b now (history_spent number) operations h c = counts_same a.told b.told now operations h.told c
counts_one a b now (numbers_spent number) operations h c = counts_same a.told b.told now operations h.told c
counts_one a b now no_memory operations h c = counts_same a.told b.told now operations h.told c
counts_one a b now left operations h c = counts_same a.told b.told now operations h.told c

pub pass_counts_failures : (a b : PassState) (operations : List Operation) → PassMovesAll a operations b → Counts a.told b.told operations
pass_counts_failures a b [] h = let e : b.told ≡ a.told = ap (λ (p : PassState). p.told) h in (omega (arith, e), λ none. e)
pass_counts_failures a b (operation ∷ operations) h = counts_one a h.0 b.told operation operations h.1 (pass_counts_failures h.0 b operations h.2)

-- ---- a pass that is alone

-- entries that are all of one caller are this caller's calls
calls_of-own : (entries : List Entry) (caller : ℕ) → AllByRecursion (λ (entry : Entry). entry.caller ≡ caller) entries → calls_of entries caller ≡ entries
calls_of-own [] caller all = refl
calls_of-own (entry ∷ entries) caller all = by_test (calls_of-own entries caller all.1) (entry.caller == caller) (eq-eqb entry.caller caller all.0)
  where
    by_test : calls_of entries caller ≡ entries → (b : Bool) → b ≡ true → cond b (entry ∷ calls_of entries caller) (calls_of entries caller) ≡ entry ∷ entries
    by_test rest true e = ap (λ (es : List Entry). entry ∷ es) rest
    by_test rest false e = absurd cc

-- where all that came is the pass's own, just what the operation added came
pub more-own : (a b : PassState) (own : List Entry) (g : Grows a b own) → AllByRecursion (λ (entry : Entry). entry.caller ≡ a.caller) g.more → g.more ≡ own
more-own a b own g all = sym (calls_of-own g.more a.caller all) ∙ g.calls

entries-alone : (a b : PassState) (own : List Entry) (g : Grows a b own) → g.more ≡ own → b.seen.entries ≡ a.seen.entries ++ own
entries-alone a b own g e = g.entries ∙ ap (λ (es : List Entry). a.seen.entries ++ es) e

front_of-alone : (a b : PassState) (own : List Entry) (g : Grows a b own) → g.more ≡ own → front_of b ≡ front_of a + length own
front_of-alone a b own g e = omega (arith, g.first, ap (λ (es : List Entry). length es) (entries-alone a b own g e), length-append a.seen.entries own)

map_of-alone : (a b : PassState) (own : List Entry) (g : Grows a b own) → g.more ≡ own → map_of b ≡ applied_all (map_of a) own
map_of-alone a b own g e =
    ap (λ (rows : List Row). applied_all rows b.seen.entries) g.base
    ∙ ap (λ (es : List Entry). applied_all a.seen.base es) (entries-alone a b own g e)
    ∙ applied_all-append a.seen.base a.seen.entries own

-- the map at a pass's front is the map after all that it has seen
after-front : (pass : PassState) (front : ℕ) → front ≡ front_of pass → after pass.seen front ≡ map_of pass
after-front pass front e = ap (λ (es : List Entry). applied_all pass.seen.base es) (take_all (front - pass.seen.first) pass.seen.entries (omega (arith, e)))

abbrev IsPlainFrom : PassState → List Operation → Type 0
IsPlainFrom pass operations = ArePlain (map_of pass) (front_of pass) operations

plain_same : (a b : PassState) (operations : List Operation) (g : Grows a b []) → g.more ≡ [] → IsPlainFrom b operations → IsPlainFrom a operations
plain_same a b operations g e plain =
    let front : front_of b ≡ front_of a + 0 = front_of-alone a b [] g e in
    let same : front_of b ≡ front_of a = omega (arith, front) in
    subst (λ (rows : List Row). ArePlain rows (front_of a) operations) (map_of-alone a b [] g e)
    (subst (λ (n : ℕ). ArePlain (map_of b) n operations) same plain)

plain_one : (a b : PassState) (operation : Operation) (operations : List Operation) (h : PassMoves a operation b) → h.grows.more ≡ added_by a.caller a.ordinal operation → IsPlainFrom b operations → IsPlainFrom a (operation ∷ operations)
plain_one a b (updated key change number) operations h e plain =
    let entry = entry_of a.caller a.ordinal key change in
    let front : front_of b ≡ front_of a + 1 = front_of-alone a b (entry ∷ []) h.grows e in
    let within = IsEntry-within b.seen number entry h.fits.1 in (
      omega (arith, h.fits.0, front, within),
      subst (λ (rows : List Row). ArePlain rows (front_of a + 1) operations) (map_of-alone a b (entry ∷ []) h.grows e)
          (subst (λ (n : ℕ). ArePlain (map_of b) n operations) front plain),
    )
plain_one a b (looked key front found) operations h e plain =
    let same : front_of b ≡ front_of a + 0 = front_of-alone a b [] h.grows e in
    let is : front ≡ front_of b = omega (arith, h.fits.0, h.fits.1, same) in
    let rows : map_of a ≡ after b.seen front = sym (after-front b front is ∙ map_of-alone a b [] h.grows e) in (
      omega (arith, is, same),
      ap (λ (m : List Row). value_at m key) rows ∙ h.fits.2,
      plain_same a b operations h.grows e plain,
    )
plain_one a b (synced number) operations h e plain =
    let same : front_of b ≡ front_of a + 0 = front_of-alone a b [] h.grows e in
    (omega (arith, h.fits.0, h.fits.1, same), plain_same a b operations h.grows e plain)
plain_one a b (history_spent number) operations h e plain = plain_same a b operations h.grows e plain
plain_one a b (numbers_spent number) operations h e plain = plain_same a b operations h.grows e plain
plain_one a b (device_failed device) operations h e plain = plain_same a b operations h.grows e plain
plain_one a b no_memory operations h e plain = plain_same a b operations h.grows e plain
plain_one a b left operations h e plain = plain_same a b operations h.grows e plain

pub pass_alone_is_plain : (a b : PassState) (operations : List Operation) (more : List Entry) → PassMovesAll a operations b → b.seen.entries ≡ a.seen.entries ++ more → AllByRecursion (λ (entry : Entry). entry.caller ≡ a.caller) more → ArePlain (map_of a) (front_of a) operations
pass_alone_is_plain a b [] more h e all = tt
pass_alone_is_plain a b (operation ∷ operations) more h e all =
    let between = h.0 in
    let g = h.1.grows in
    let own = added between.caller between.ordinal operations in
    let rest = pass_adds_its_updates between b operations h.2 in
    let whole : a.seen.entries ++ (g.more ++ rest.more) ≡ a.seen.entries ++ more =
    sym (append_assoc a.seen.entries g.more rest.more) ∙ ap (λ (es : List Entry). es ++ rest.more) (sym g.entries) ∙ sym rest.entries ∙ e in
    let parts : g.more ++ rest.more ≡ more = append_cancel_left a.seen.entries (g.more ++ rest.more) more whole in
    let each = subst (λ (es : List Entry). AllByRecursion (λ (entry : Entry). entry.caller ≡ a.caller) es) (sym parts) all in
    let first = all-front (λ (entry : Entry). entry.caller ≡ a.caller) g.more rest.more each in
    let later = all-back (λ (entry : Entry). entry.caller ≡ a.caller) g.more rest.more each in
    let later_own = subst (λ (n : ℕ). AllByRecursion (λ (entry : Entry). entry.caller ≡ n) rest.more) (sym g.caller) later in
    plain_one a between operation operations h.1
    (more-own a between (added_by a.caller a.ordinal operation) g first)
    (pass_alone_is_plain between b operations rest.more h.2 rest.entries later_own)
