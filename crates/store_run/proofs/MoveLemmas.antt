-- What a store's calls make of what its caller knows. To know: `update_enters`, `update_failed`, `update_is_spent`,
-- `update_lacks_memory`, `sync_done`, `sync_failed`, `kept_found`.
use Rattle.std.proofs.Common.{◌≡◌, ℕ, ◌+◌, ◌-◌, ◌<◌, ◌≤◌, List, [], ◌∷◌, ◌++◌, length, Option, Some, Result, Ok, Err, refl, sym, ap, subst, ◌∙◌, arith}
use Rattle.std.specs.Prelude.{slice_get}
use Rattle.std.proofs.lemmas.List.{length-append, append-nil, take_all}
use Rattle.rdb_base.specs.declared.row.Row.{Row}
use Rattle.rdb_base.specs.declared.entry.Entry.{Entry}
use Rattle.rdb_base.specs.declared.change.Change.{Change}
use Rattle.rdb_base.specs.declared.limits.TheConstants.{NUMBER_MAX}
use Rattle.rdb_base.specs.Maps.{applied_all, value_at}
use Rattle.rdb_base.specs.Histories.{end}
use Rattle.rdb_base.proofs.HistoryLemmas.{applied_all-append}
use Rattle.fault_count.specs.Counts.{RoseByOne}
use Rattle.disk_model.specs.Causes.{CauseOf}
use Rattle.disk_model.specs.declared.device_error.DeviceError.{DeviceError}
use Rattle.disk_model.specs.declared.device_error.DeviceError.TheVariants as device
use Rattle.disk_model.specs.declared.strip.Strip.{Ghosts}
use Rattle.history_core.specs.declared.limits.TheConstants.{DEVICE_MAX}
use Rattle.history_core.specs.Operations.{updated, looked, synced, history_spent, device_failed, no_memory}
use Rattle.history_core.specs.Passes.{Grows, PassMoves, entry_of}
use Rattle.session_core.specs.declared.update_error.UpdateError.{UpdateError}
use Rattle.session_core.specs.declared.update_error.UpdateError.TheVariants as updates
use Rattle.session_core.specs.declared.sync_error.SyncError.{SyncError}
use Rattle.session_core.specs.declared.sync_error.SyncError.TheVariants as syncs
use Rattle.session_core.specs.Refusals.{IsUpdateErrorOf, IsSyncErrorOf}
use Rattle.session_core.specs.StoreCalls.{UpdateMoves, SyncMoves}
use Rattle.wal_log.specs.SegmentState.{SegmentState}
use Rattle.store_run.specs.StoreState.{StoreState, state_of}
use Rattle.store_run.specs.Kept.{IsStore}
use Rattle.store_run.specs.Stores.{pass_of, history_of, safe_of, Stays}

-- the element after a list
slice_get-last : {X : Type 0} (xs : List X) (x : X) → slice_get (xs ++ x ∷ []) (length xs) ≡ Some x
slice_get-last [] x = refl
slice_get-last (y ∷ ys) x = slice_get-last ys x

-- ---- one call after another

pub Stays-same : {S : Type 0} (s : StoreState S) → Stays s s
Stays-same s = record { opened = refl; made = refl; safe = omega arith }

module _ {S : Type 0} (strip : Ghosts S) where
  -- the pass has then seen nothing more
  pass_stays : (old new : StoreState S) → Stays old new → Grows (pass_of strip old) (pass_of strip new) []
  pass_stays old new stays =
      let first : length new.opened ≡ length old.opened = ap (λ (es : List Entry). length es) stays.opened in
      let made : length new.made ≡ length old.made = ap (λ (es : List Entry). length es) stays.made in
      record {
        caller = refl;
        ordinal = omega (arith, made);
        base = ap (λ (es : List Entry). applied_all [] es) stays.opened;
        first = first;
        more = [];
        entries = stays.made ∙ sym (append-nil old.made);
        calls = refl;
        safe = stays.safe;
        next = omega arith;
        within = λ few. omega (arith, first, made, few);
      }

  -- ---- updates

  -- what was entered after a flush
  pub update_enters : (old between new : StoreState S) (key : List ℕ) (change : Change) (number : ℕ) → number < NUMBER_MAX → Stays old between →
      number ≡ end (history_of between) → new.opened ≡ between.opened → new.made ≡ between.made ++ entry_of 0 (length between.made) key change ∷ [] → safe_of between ≤ safe_of new → strip.count new.log.journal.strip ≡ strip.count old.log.journal.strip →
      UpdateMoves (pass_of strip old) key change (Ok number) (pass_of strip new)
  update_enters old between new key change number few stays is opened made safe count =
      let entry = entry_of 0 (length old.made) key change in
      let was : length between.made ≡ length old.made = ap (λ (es : List Entry). length es) stays.made in
      let first : length new.opened ≡ length old.opened = ap (λ (es : List Entry). length es) (opened ∙ stays.opened) in
      let all : new.made ≡ old.made ++ entry ∷ [] = made ∙ ap (λ (es : List Entry). es ++ entry_of 0 (length es) key change ∷ []) stays.made in
      let more : length new.made ≡ length old.made + 1 = omega (arith, ap (λ (es : List Entry). length es) all, length-append old.made (entry ∷ [])) in
      let front : number ≡ length old.opened + length old.made = omega (arith, is, was, ap (λ (es : List Entry). length es) stays.opened) in
      record {
        grows = record {
          caller = refl;
          ordinal = omega (arith, more);
          base = ap (λ (es : List Entry). applied_all [] es) (opened ∙ stays.opened);
          first = first;
          more = entry ∷ [];
          entries = all;
          calls = refl;
          safe = omega (arith, stays.safe, safe);
          next = omega arith;
          within = λ most. omega (arith, more, first, few, front);
        };
        fits = (
          omega (arith, front),
          (
            omega (arith, first, front),
            subst (λ (es : List Entry). slice_get es (number - length new.opened) ≡ Some entry) (sym all)
                (subst (λ (n : ℕ). slice_get (old.made ++ entry ∷ []) n ≡ Some entry) (omega (arith, first, front)) (slice_get-last old.made entry)),
          ),
        );
        told = count;
      }

  pub update_lacks_memory : (old new : StoreState S) (key : List ℕ) (change : Change) → Stays old new → strip.count new.log.journal.strip ≡ strip.count old.log.journal.strip → UpdateMoves (pass_of strip old) key change (Err updates.Memory) (pass_of strip new)
  update_lacks_memory old new key change stays count = record { grows = pass_stays old new stays; fits = tt; told = count }

  pub update_is_spent : (old new : StoreState S) (key : List ℕ) (change : Change) (number : ℕ) → Stays old new → number ≡ NUMBER_MAX → number ≡ length new.opened + length new.made → strip.count new.log.journal.strip ≡ strip.count old.log.journal.strip → UpdateMoves (pass_of strip old) key change (Err (updates.HistorySpent number)) (pass_of strip new)
  update_is_spent old new key change number stays is front count = record { grows = pass_stays old new stays; fits = (is, sym front); told = count }

  -- the cause of a device's error, as the failure that the pass was told
  pub update_failed : (old new : StoreState S) (key : List ℕ) (change : Change) (error : DeviceError) (told : UpdateError) → IsUpdateErrorOf error told → Stays old new → (strip.book old.log.journal.strip).device ≡ 0 →
      CauseOf (strip.book old.log.journal.strip) (strip.count old.log.journal.strip) (strip.count new.log.journal.strip) error → UpdateMoves (pass_of strip old) key change (Err told) (pass_of strip new)
  update_failed old new key change (device.Fault unit) told is stays first cause =
      let le : unit.device ≤ DEVICE_MAX = omega (arith, ap (λ b. b.device) cause.0, first) in
      let moves : PassMoves (pass_of strip old) (device_failed unit.device) (pass_of strip new) = record { grows = pass_stays old new stays; fits = le; told = omega (arith, cause.1) } in
      subst (λ (e : UpdateError). UpdateMoves (pass_of strip old) key change (Err e) (pass_of strip new)) (sym is) moves
  update_failed old new key change device.Memory told is stays first cause =
      subst (λ (e : UpdateError). UpdateMoves (pass_of strip old) key change (Err e) (pass_of strip new)) (sym is) (update_lacks_memory old new key change stays cause)

  -- ---- syncs and gets

  pub sync_done : (old new : StoreState S) (number : ℕ) → Stays old new → number ≡ length old.opened + length old.made → length new.log.synced ≡ number → strip.count new.log.journal.strip ≡ strip.count old.log.journal.strip → SyncMoves (pass_of strip old) (Ok number) (pass_of strip new)
  sync_done old new number stays is safe count =
      let first : length new.opened ≡ length old.opened = ap (λ (es : List Entry). length es) stays.opened in
      let made : length new.made ≡ length old.made = ap (λ (es : List Entry). length es) stays.made in
      record { grows = pass_stays old new stays; fits = (omega (arith, is), omega (arith, is, first, made), omega (arith, safe)); told = count }

  pub sync_failed : (old new : StoreState S) (error : DeviceError) (told : SyncError) → IsSyncErrorOf error told → Stays old new → (strip.book old.log.journal.strip).device ≡ 0 →
      CauseOf (strip.book old.log.journal.strip) (strip.count old.log.journal.strip) (strip.count new.log.journal.strip) error → SyncMoves (pass_of strip old) (Err told) (pass_of strip new)
  sync_failed old new (device.Fault unit) told is stays first cause =
      let le : unit.device ≤ DEVICE_MAX = omega (arith, ap (λ b. b.device) cause.0, first) in
      let moves : PassMoves (pass_of strip old) (device_failed unit.device) (pass_of strip new) = record { grows = pass_stays old new stays; fits = le; told = omega (arith, cause.1) } in
      subst (λ (e : SyncError). SyncMoves (pass_of strip old) (Err e) (pass_of strip new)) (sym is) moves
  sync_failed old new device.Memory told is stays first cause =
      let moves : PassMoves (pass_of strip old) no_memory (pass_of strip new) = record { grows = pass_stays old new stays; fits = tt; told = cause } in
      subst (λ (e : SyncError). SyncMoves (pass_of strip old) (Err e) (pass_of strip new)) (sym is) moves

  pub get_lacks_memory : (s : StoreState S) → PassMoves (pass_of strip s) no_memory (pass_of strip s)
  get_lacks_memory s = record { grows = pass_stays s s (Stays-same s); fits = tt; told = refl }

  -- a get finds what the map has
  pub get_found : (s : StoreState S) (key : List ℕ) (front : ℕ) (found : Option (List ℕ)) → front ≡ length s.opened + length s.made → value_at (applied_all [] (s.opened ++ s.made)) key ≡ found → PassMoves (pass_of strip s) (looked key front found) (pass_of strip s)
  get_found s key front found is value =
      let all = take_all (front - length s.opened) s.made (omega (arith, is)) in
      let rows = ap (λ (es : List Entry). applied_all (applied_all [] s.opened) es) all ∙ sym (applied_all-append [] s.opened s.made) in
      record {
        grows = pass_stays s s (Stays-same s);
        fits = (omega (arith, is), omega (arith, is), ap (λ (m : List Row). value_at m key) rows ∙ value);
        told = refl;
      }

  -- what a get of the map finds is what the history has
  pub kept_found : (log : SegmentState S) (rows : List Row) (begun : ℕ) (opened made : List Entry) → IsStore strip log rows begun opened made → (key : List ℕ) (front : ℕ) (found : Option (List ℕ)) → front ≡ log.first + length log.entries → found ≡ value_at rows key →
      let s : StoreState S = state_of log opened made in PassMoves (pass_of strip s) (looked key front found) (pass_of strip s)
  kept_found log rows begun opened made kept key front found is value =
      get_found (state_of log opened made) key front found (omega (arith, is, kept.first, ap (λ (es : List Entry). length es) kept.entries, length-append opened made))
      (sym (value ∙ ap (λ (m : List Row). value_at m key) (kept.rows_are ∙ ap (λ (es : List Entry). applied_all [] es) kept.entries)))
