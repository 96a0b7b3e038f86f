-- Sessions over histories that grow. To know: `ReplaysAll-grown`, `ReplaysAll-last`, `least-forward`,
-- `names-forward`.
use Rattle.std.proofs.Common.{◌≡◌, ℕ, zero, suc, ◌-◌, ◌≤◌, List, [], ◌∷◌, ◌++◌, Some, refl, ap, subst, ◌∙◌, arith}
use Rattle.std.specs.Prelude.{slice_get, IfSome, None, Option}
use Rattle.std.proofs.lemmas.List.{take-append-le, length-append}
use Rattle.rdb_base.specs.declared.row.Row.{Row}
use Rattle.rdb_base.specs.declared.entry.Entry.{Entry}
use Rattle.rdb_base.specs.declared.change.Change.TheVariants as changes
use Rattle.rdb_base.specs.declared.limits.TheConstants.{NUMBER_MAX}
use Rattle.rdb_base.specs.Maps.{applied_all, value_at}
use Rattle.rdb_base.specs.Histories.{History, IsEntry, after, end}
use Rattle.history_core.specs.declared.request.Request.{Request}
use Rattle.history_core.specs.declared.request.Request.TheVariants.{Put, Delete, Get, Sync, Quit}
use Rattle.history_core.specs.declared.reply.Reply.{Reply}
use Rattle.history_core.specs.declared.reply.Reply.TheVariants.{Done, Value, Absent, Synced, Bye, DeviceFault, OutOfMemory, HistorySpent, NumbersSpent}
use Rattle.history_core.specs.Sessions.{SessionState, Replays, ReplaysAll, IsSpent, entry_by}
use Rattle.history_core.specs.Laws.{grown, named_by, least_after, NameFrom, NeverFall}

slice_get-grown : (entries more : List Entry) (n : ℕ) (entry : Entry) → slice_get entries n ≡ Some entry → slice_get (entries ++ more) n ≡ Some entry
slice_get-grown [] more n entry e = absurd cc
slice_get-grown (x ∷ xs) more zero entry e = e
slice_get-grown (x ∷ xs) more (suc n) entry e = slice_get-grown xs more n entry e

pub IsEntry-grown : (history : History) (more : List Entry) (number : ℕ) (entry : Entry) → IsEntry history number entry → IsEntry (grown history more) number entry
IsEntry-grown history more number entry is = (is.0, slice_get-grown history.entries more (number - history.first) entry is.1)

-- the map at a front within the history has nothing of what comes later
pub after-grown : (history : History) (more : List Entry) (front : ℕ) → front ≤ end history → after (grown history more) front ≡ after history front
after-grown history more front le = ap (applied_all history.base) (take-append-le (front - history.first) history.entries more (omega arith))

pub end-grown : (history : History) (more : List Entry) (front : ℕ) → front ≤ end history → front ≤ end (grown history more)
end-grown history more front le = omega (arith, length-append history.entries more)

-- a history that has no number left does not grow
pub IsSpent-grown : (history : History) (more : List Entry) (number : ℕ) → (end history ≤ NUMBER_MAX → end (grown history more) ≤ NUMBER_MAX) → IsSpent history number → IsSpent (grown history more) number
IsSpent-grown history more number most is = (is.0, omega (arith, length-append history.entries more, most (omega (arith, is.0, is.1)), is.0, is.1))

pub Replays-grown : (history : History) (more : List Entry) (state : SessionState) (request : Request) (reply : Reply) (next : SessionState) → (end history ≤ NUMBER_MAX → end (grown history more) ≤ NUMBER_MAX) → Replays history state request reply next → Replays (grown history more) state request reply next
Replays-grown history more state (Put row) (Done number) next most r = (r.0, IsEntry-grown history more number (entry_by state row.key (changes.Put row.value)) r.1, r.2)
Replays-grown history more state (Delete key) (Done number) next most r = (r.0, IsEntry-grown history more number (entry_by state key changes.Del) r.1, r.2)
Replays-grown history more state (Get key) (Value front value) next most r =
    (r.0, end-grown history more front r.1, ap (λ (rows : List Row). value_at rows key) (after-grown history more front r.1) ∙ r.2, r.3)
Replays-grown history more state (Get key) (Absent front) next most r =
    (r.0, end-grown history more front r.1, ap (λ (rows : List Row). value_at rows key) (after-grown history more front r.1) ∙ r.2, r.3)
Replays-grown history more state Sync (Synced number) next most r = (r.0, end-grown history more number r.1, r.2)
Replays-grown history more state Quit Bye next most r = r
Replays-grown history more state (Put row) (HistorySpent number) next most r = (IsSpent-grown history more number most r.0, r.1)
Replays-grown history more state (Delete key) (HistorySpent number) next most r = (IsSpent-grown history more number most r.0, r.1)
Replays-grown history more state (Put row) (NumbersSpent number) next most r = r
Replays-grown history more state (Delete key) (NumbersSpent number) next most r = r
Replays-grown history more state (Put row) (DeviceFault device) next most r = r
Replays-grown history more state (Delete key) (DeviceFault device) next most r = r
Replays-grown history more state Sync (DeviceFault device) next most r = r
Replays-grown history more state (Put row) OutOfMemory next most r = r
Replays-grown history more state (Delete key) OutOfMemory next most r = r
Replays-grown history more state (Get key) OutOfMemory next most r = r
Replays-grown history more state Sync OutOfMemory next most r = r
Replays-grown history more state request reply next most r = absurd r

pub ReplaysAll-grown : (history : History) (more : List Entry) (state : SessionState) (requests : List Request) (replies : List Reply) (next : SessionState) → (end history ≤ NUMBER_MAX → end (grown history more) ≤ NUMBER_MAX) → ReplaysAll history state requests replies next → ReplaysAll (grown history more) state requests replies next
ReplaysAll-grown history more state [] [] next most r = r
ReplaysAll-grown history more state (request ∷ requests) (reply ∷ replies) next most r = (r.0, Replays-grown history more state request reply r.0 most r.1, ReplaysAll-grown history more r.0 requests replies next most r.2)
ReplaysAll-grown history more state [] (reply ∷ replies) next most r = absurd r
ReplaysAll-grown history more state (request ∷ requests) [] next most r = absurd r

-- one request more
pub ReplaysAll-last : (history : History) (state : SessionState) (requests : List Request) (replies : List Reply) (between next : SessionState) (request : Request) (reply : Reply) → ReplaysAll history state requests replies between → Replays history between request reply next → ReplaysAll history state (requests ++ request ∷ []) (replies ++ reply ∷ []) next
ReplaysAll-last history state [] [] between next request reply r step = (next, subst (λ (s : SessionState). Replays history s request reply next) r step, refl)
ReplaysAll-last history state (q ∷ qs) (a ∷ rs) between next request reply r step = (r.0, r.1, ReplaysAll-last history r.0 qs rs between next request reply r.2 step)
ReplaysAll-last history state [] (a ∷ rs) between next request reply r step = absurd r
ReplaysAll-last history state (q ∷ qs) [] between next request reply r step = absurd r

-- the least number never falls
least-step : (history : History) (state : SessionState) (request : Request) (reply : Reply) (next : SessionState) → Replays history state request reply next → state.least ≤ next.least
least-step history state (Put row) (Done number) next r = omega (arith, r.0, ap (λ (s : SessionState). s.least) r.2)
least-step history state (Delete key) (Done number) next r = omega (arith, r.0, ap (λ (s : SessionState). s.least) r.2)
least-step history state (Get key) (Value front value) next r = omega (arith, r.0, ap (λ (s : SessionState). s.least) r.3)
least-step history state (Get key) (Absent front) next r = omega (arith, r.0, ap (λ (s : SessionState). s.least) r.3)
least-step history state Sync (Synced number) next r = omega (arith, r.0, ap (λ (s : SessionState). s.least) r.2)
least-step history state Quit Bye next r = omega (arith, ap (λ (s : SessionState). s.least) r)
least-step history state (Put row) (HistorySpent number) next r = omega (arith, ap (λ (s : SessionState). s.least) r.1)
least-step history state (Delete key) (HistorySpent number) next r = omega (arith, ap (λ (s : SessionState). s.least) r.1)
least-step history state (Put row) (NumbersSpent number) next r = omega (arith, ap (λ (s : SessionState). s.least) r.1)
least-step history state (Delete key) (NumbersSpent number) next r = omega (arith, ap (λ (s : SessionState). s.least) r.1)
least-step history state (Put row) (DeviceFault device) next r = omega (arith, ap (λ (s : SessionState). s.least) r.1)
least-step history state (Delete key) (DeviceFault device) next r = omega (arith, ap (λ (s : SessionState). s.least) r.1)
least-step history state Sync (DeviceFault device) next r = omega (arith, ap (λ (s : SessionState). s.least) r.1)
least-step history state (Put row) OutOfMemory next r = omega (arith, ap (λ (s : SessionState). s.least) r)
least-step history state (Delete key) OutOfMemory next r = omega (arith, ap (λ (s : SessionState). s.least) r)
least-step history state (Get key) OutOfMemory next r = omega (arith, ap (λ (s : SessionState). s.least) r)
least-step history state Sync OutOfMemory next r = omega (arith, ap (λ (s : SessionState). s.least) r)
least-step history state request reply next r = absurd r

pub least-forward : (history : History) (state next : SessionState) (requests : List Request) (replies : List Reply) → ReplaysAll history state requests replies next → state.least ≤ next.least
least-forward history state next [] [] r = omega (arith, ap (λ (s : SessionState). s.least) r)
least-forward history state next (request ∷ requests) (reply ∷ replies) r =
    let first = least-step history state request reply r.0 r.1 in
    let rest = least-forward history r.0 next requests replies r.2 in
    omega (arith, first, rest)
least-forward history state next [] (reply ∷ replies) r = absurd r
least-forward history state next (request ∷ requests) [] r = absurd r

-- ---- the numbers that replies name

-- a reply names no number below the session's least, and the next least is not below what may be named after it
record Names (least next : ℕ) (reply : Reply) : Type 0 where
  pub from : IfSome (named_by reply) (λ number. least ≤ number)
  pub then : least_after reply ≤ next

names-step : (history : History) (state : SessionState) (request : Request) (reply : Reply) (next : SessionState) → Replays history state request reply next → Names state.least next.least reply
names-step history state (Put row) (Done number) next r = record { from = r.0; then = omega (arith, ap (λ (s : SessionState). s.least) r.2) }
names-step history state (Delete key) (Done number) next r = record { from = r.0; then = omega (arith, ap (λ (s : SessionState). s.least) r.2) }
names-step history state (Get key) (Value front value) next r = record { from = r.0; then = omega (arith, ap (λ (s : SessionState). s.least) r.3) }
names-step history state (Get key) (Absent front) next r = record { from = r.0; then = omega (arith, ap (λ (s : SessionState). s.least) r.3) }
names-step history state Sync (Synced number) next r = record { from = r.0; then = omega (arith, ap (λ (s : SessionState). s.least) r.2) }
names-step history state Quit Bye next r = record { from = tt; then = omega arith }
names-step history state (Put row) (HistorySpent number) next r = record { from = tt; then = omega arith }
names-step history state (Delete key) (HistorySpent number) next r = record { from = tt; then = omega arith }
names-step history state (Put row) (NumbersSpent number) next r = record { from = tt; then = omega arith }
names-step history state (Delete key) (NumbersSpent number) next r = record { from = tt; then = omega arith }
names-step history state (Put row) (DeviceFault device) next r = record { from = tt; then = omega arith }
names-step history state (Delete key) (DeviceFault device) next r = record { from = tt; then = omega arith }
names-step history state Sync (DeviceFault device) next r = record { from = tt; then = omega arith }
names-step history state (Put row) OutOfMemory next r = record { from = tt; then = omega arith }
names-step history state (Delete key) OutOfMemory next r = record { from = tt; then = omega arith }
names-step history state (Get key) OutOfMemory next r = record { from = tt; then = omega arith }
names-step history state Sync OutOfMemory next r = record { from = tt; then = omega arith }
names-step history state request reply next r = absurd r

-- replies that name nothing below a number name nothing below a lower one
NameFrom-lower : (low high : ℕ) (replies : List Reply) → low ≤ high → NameFrom high replies → NameFrom low replies
NameFrom-lower low high [] le names = tt
NameFrom-lower low high (reply ∷ replies) le names = (lower (named_by reply) names.0, NameFrom-lower low high replies le names.1)
  where
    lower : (named : Option ℕ) → IfSome named (λ number. high ≤ number) → IfSome named (λ number. low ≤ number)
    lower None h = tt
    lower (Some number) h = omega (arith, le, h)

pub names-forward : (history : History) (state next : SessionState) (requests : List Request) (replies : List Reply) → ReplaysAll history state requests replies next → NameFrom state.least replies × NeverFall replies
names-forward history state next [] [] r = (tt, tt)
names-forward history state next (request ∷ requests) (reply ∷ replies) r =
    let one = names-step history state request reply r.0 r.1 in
    let least = least-step history state request reply r.0 r.1 in
    let rest = names-forward history r.0 next requests replies r.2 in
    ((one.from, NameFrom-lower state.least r.0.least replies least rest.0), (NameFrom-lower (least_after reply) r.0.least replies one.then rest.0, rest.1))
names-forward history state next [] (reply ∷ replies) r = absurd r
names-forward history state next (request ∷ requests) [] r = absurd r
