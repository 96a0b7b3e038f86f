-- Operations over histories that grow, and as replies. To know: `Operates-grown`, `OperatesAll-grown`,
-- `operations_from_replies`, `replies_from_operations`.
use Rattle.std.proofs.Common.{◌≡◌, ◌≤◌, List, [], ◌∷◌, Some, None, refl, sym, ap, subst, ◌∙◌}
use Rattle.rdb_base.specs.declared.change.Change.TheVariants as changes
use Rattle.rdb_base.specs.declared.row.Row.{Row}
use Rattle.rdb_base.specs.declared.entry.Entry.{Entry}
use Rattle.rdb_base.specs.declared.limits.TheConstants.{NUMBER_MAX}
use Rattle.rdb_base.specs.Maps.{value_at}
use Rattle.rdb_base.specs.Histories.{History, end}
use Rattle.history_core.specs.declared.request.Request.{Request}
use Rattle.history_core.specs.declared.request.Request.TheVariants.{Put, Delete, Get, Sync, Quit}
use Rattle.history_core.specs.declared.reply.Reply.{Reply}
use Rattle.history_core.specs.declared.reply.Reply.TheVariants.{Done, Value, Absent, Synced, Bye, DeviceFault, OutOfMemory, HistorySpent, NumbersSpent}
use Rattle.history_core.specs.Sessions.{SessionState, Replays, ReplaysAll, entry_by}
use Rattle.history_core.specs.Laws.{grown}
use Rattle.history_core.specs.Operations.{Operation, updated, looked, synced, history_spent, numbers_spent, device_failed, no_memory, left, operation_of, AreOperations, Operates, OperatesAll}
use Rattle.history_core.proofs.SessionLemmas.{IsEntry-grown, IsSpent-grown, after-grown, end-grown}

-- ---- histories that grow

pub Operates-grown : (history : History) (more : List Entry) (state : SessionState) (operation : Operation) (next : SessionState) → (end history ≤ NUMBER_MAX → end (grown history more) ≤ NUMBER_MAX) → Operates history state operation next → Operates (grown history more) state operation next
Operates-grown history more state (updated key change number) next most h = (h.0, IsEntry-grown history more number (entry_by state key change) h.1, h.2)
Operates-grown history more state (looked key front found) next most h =
    (h.0, end-grown history more front h.1, ap (λ (rows : List Row). value_at rows key) (after-grown history more front h.1) ∙ h.2, h.3)
Operates-grown history more state (synced number) next most h = (h.0, end-grown history more number h.1, h.2)
Operates-grown history more state (history_spent number) next most h = (IsSpent-grown history more number most h.0, h.1)
Operates-grown history more state (numbers_spent number) next most h = h
Operates-grown history more state (device_failed device) next most h = h
Operates-grown history more state no_memory next most h = h
Operates-grown history more state left next most h = h

pub OperatesAll-grown : (history : History) (more : List Entry) (state next : SessionState) (operations : List Operation) → (end history ≤ NUMBER_MAX → end (grown history more) ≤ NUMBER_MAX) → OperatesAll history state operations next → OperatesAll (grown history more) state operations next
OperatesAll-grown history more state next [] most h = h
OperatesAll-grown history more state next (operation ∷ operations) most h =
    (h.0, Operates-grown history more state operation h.0 most h.1, OperatesAll-grown history more h.0 next operations most h.2)

-- ---- operations as replies

-- the operation of one reply
record IsOperation (history : History) (state next : SessionState) (request : Request) (reply : Reply) : Type 0 where
  pub operation : Operation
  pub is : operation_of request reply ≡ Some operation
  pub operates : Operates history state operation next

operation_from_reply : (history : History) (state next : SessionState) (request : Request) (reply : Reply) → Replays history state request reply next → IsOperation history state next request reply
operation_from_reply history state next (Put row) (Done number) h = record { operation = updated row.key (changes.Put row.value) number; is = refl; operates = h }
operation_from_reply history state next (Delete key) (Done number) h = record { operation = updated key changes.Del number; is = refl; operates = h }
operation_from_reply history state next (Get key) (Value front value) h = record { operation = looked key front (Some value); is = refl; operates = h }
operation_from_reply history state next (Get key) (Absent front) h = record { operation = looked key front None; is = refl; operates = h }
operation_from_reply history state next Sync (Synced number) h = record { operation = synced number; is = refl; operates = h }
operation_from_reply history state next Quit Bye h = record { operation = left; is = refl; operates = h }
operation_from_reply history state next (Put row) (HistorySpent number) h = record { operation = history_spent number; is = refl; operates = h }
operation_from_reply history state next (Delete key) (HistorySpent number) h = record { operation = history_spent number; is = refl; operates = h }
operation_from_reply history state next (Put row) (NumbersSpent number) h = record { operation = numbers_spent number; is = refl; operates = h }
operation_from_reply history state next (Delete key) (NumbersSpent number) h = record { operation = numbers_spent number; is = refl; operates = h }
operation_from_reply history state next (Put row) (DeviceFault device) h = record { operation = device_failed device; is = refl; operates = h }
operation_from_reply history state next (Delete key) (DeviceFault device) h = record { operation = device_failed device; is = refl; operates = h }
operation_from_reply history state next Sync (DeviceFault device) h = record { operation = device_failed device; is = refl; operates = h }
operation_from_reply history state next (Put row) OutOfMemory h = record { operation = no_memory; is = refl; operates = h }
operation_from_reply history state next (Delete key) OutOfMemory h = record { operation = no_memory; is = refl; operates = h }
operation_from_reply history state next (Get key) OutOfMemory h = record { operation = no_memory; is = refl; operates = h }
operation_from_reply history state next Sync OutOfMemory h = record { operation = no_memory; is = refl; operates = h }
operation_from_reply history state next request reply h = absurd h

pub operations_from_replies : (history : History) (state next : SessionState) (requests : List Request) (replies : List Reply) → ReplaysAll history state requests replies next → (operations : List Operation) × AreOperations requests replies operations × OperatesAll history state operations next
operations_from_replies history state next [] [] r = ([], tt, r)
operations_from_replies history state next (request ∷ requests) (reply ∷ replies) r =
    let one = operation_from_reply history state r.0 request reply r.1 in
    let rest = operations_from_replies history r.0 next requests replies r.2 in
    (one.operation ∷ rest.0, (one.is, rest.1), (r.0, one.operates, rest.2))
operations_from_replies history state next [] (reply ∷ replies) r = absurd r
operations_from_replies history state next (request ∷ requests) [] r = absurd r

some_is : (a b : Operation) → Some a ≡ Some b → a ≡ b
some_is a b e = cc

none_is : (a : Operation) → None ≡ Some a → ⊥
none_is a e = absurd cc

reply_from_operation : (history : History) (state next : SessionState) (request : Request) (reply : Reply) (operation : Operation) → operation_of request reply ≡ Some operation → Operates history state operation next → Replays history state request reply next
reply_from_operation history state next (Put row) (Done number) operation e h = subst (λ (o : Operation). Operates history state o next) (sym (some_is (updated row.key (changes.Put row.value) number) operation e)) h
reply_from_operation history state next (Delete key) (Done number) operation e h = subst (λ (o : Operation). Operates history state o next) (sym (some_is (updated key changes.Del number) operation e)) h
reply_from_operation history state next (Get key) (Value front value) operation e h = subst (λ (o : Operation). Operates history state o next) (sym (some_is (looked key front (Some value)) operation e)) h
reply_from_operation history state next (Get key) (Absent front) operation e h = subst (λ (o : Operation). Operates history state o next) (sym (some_is (looked key front None) operation e)) h
reply_from_operation history state next Sync (Synced number) operation e h = subst (λ (o : Operation). Operates history state o next) (sym (some_is (synced number) operation e)) h
reply_from_operation history state next Quit Bye operation e h = subst (λ (o : Operation). Operates history state o next) (sym (some_is left operation e)) h
reply_from_operation history state next (Put row) (HistorySpent number) operation e h = subst (λ (o : Operation). Operates history state o next) (sym (some_is (history_spent number) operation e)) h
reply_from_operation history state next (Delete key) (HistorySpent number) operation e h = subst (λ (o : Operation). Operates history state o next) (sym (some_is (history_spent number) operation e)) h
reply_from_operation history state next (Put row) (NumbersSpent number) operation e h = subst (λ (o : Operation). Operates history state o next) (sym (some_is (numbers_spent number) operation e)) h
reply_from_operation history state next (Delete key) (NumbersSpent number) operation e h = subst (λ (o : Operation). Operates history state o next) (sym (some_is (numbers_spent number) operation e)) h
reply_from_operation history state next (Put row) (DeviceFault device) operation e h = subst (λ (o : Operation). Operates history state o next) (sym (some_is (device_failed device) operation e)) h
reply_from_operation history state next (Delete key) (DeviceFault device) operation e h = subst (λ (o : Operation). Operates history state o next) (sym (some_is (device_failed device) operation e)) h
reply_from_operation history state next Sync (DeviceFault device) operation e h = subst (λ (o : Operation). Operates history state o next) (sym (some_is (device_failed device) operation e)) h
reply_from_operation history state next (Put row) OutOfMemory operation e h = subst (λ (o : Operation). Operates history state o next) (sym (some_is no_memory operation e)) h
reply_from_operation history state next (Delete key) OutOfMemory operation e h = subst (λ (o : Operation). Operates history state o next) (sym (some_is no_memory operation e)) h
reply_from_operation history state next (Get key) OutOfMemory operation e h = subst (λ (o : Operation). Operates history state o next) (sym (some_is no_memory operation e)) h
reply_from_operation history state next Sync OutOfMemory operation e h = subst (λ (o : Operation). Operates history state o next) (sym (some_is no_memory operation e)) h
reply_from_operation history state next request reply operation e h = absurd (none_is operation e)

pub replies_from_operations : (history : History) (state next : SessionState) (requests : List Request) (replies : List Reply) (operations : List Operation) → AreOperations requests replies operations → OperatesAll history state operations next → ReplaysAll history state requests replies next
replies_from_operations history state next [] [] [] are h = h
replies_from_operations history state next (request ∷ requests) (reply ∷ replies) (operation ∷ operations) are h = (
  h.0,
  reply_from_operation history state h.0 request reply operation are.0 h.1,
  replies_from_operations history h.0 next requests replies operations are.1 h.2,
)
replies_from_operations history state next requests replies operations are h = absurd are
