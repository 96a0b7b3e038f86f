-- What the store of the tests answers, which has seen a history and holds one row. To know: `enters`, `looks`,
-- `heard`, `map_after`.
use Rattle.std.proofs.Common.{◌≡◌, ◌≢◌, ℕ, ◌+◌, ◌-◌, ◌^◌, ◌≤◌, ◌<◌, List, [], ◌∷◌, ◌++◌, length, Option, Some, refl, sym, ap, subst, ◌∙◌, arith}
use Rattle.std.specs.Prelude.{slice_get}
use Rattle.std.proofs.lemmas.List.{length-append, append-nil, take_all}
use Rattle.rdb_base.specs.declared.row.Row.{Row}
use Rattle.rdb_base.specs.declared.entry.Entry.{Entry}
use Rattle.rdb_base.specs.declared.change.Change.{Change}
use Rattle.rdb_base.specs.declared.change.Change.TheVariants.{Put, Del}
use Rattle.rdb_base.specs.Maps.{changed, value_at, applied_all, rows_below, rows_above}
use Rattle.rdb_base.specs.Histories.{History, calls_of, after, end}
use Rattle.rdb_base.proofs.HistoryLemmas.{applied_all-append}
use Rattle.fault_count.specs.Counts.{one_more}
use Rattle.history_core.specs.Laws.{grown}
use Rattle.history_core.specs.Operations.{updated, looked, synced, device_failed, history_spent, numbers_spent, no_memory}
use Rattle.history_core.specs.Passes.{PassState, Grows, PassMoves, front_of, map_of, entry_of}
use Rattle.history_core.proofs.PassLemmas.{Grows-none}

slice_get-last : (entries : List Entry) (entry : Entry) → slice_get (entries ++ entry ∷ []) (length entries) ≡ Some entry
slice_get-last [] entry = refl
slice_get-last (x ∷ xs) entry = slice_get-last xs entry

own_kept : (caller : ℕ) (entry : Entry) → entry.caller ≡ caller → calls_of (entry ∷ []) caller ≡ entry ∷ []
own_kept caller entry e = grind (arith, e)

others_dropped : (caller : ℕ) (entry : Entry) → entry.caller ≢ caller → calls_of (entry ∷ []) caller ≡ []
others_dropped caller entry ne = grind (arith, ne)

-- ---- what a pass has seen

-- the pass after an update of its own
abbrev pub entered : PassState → List ℕ → Change → PassState
entered pass key change = record pass {
  ordinal = pass.ordinal + 1;
  seen = grown pass.seen (entry_of pass.caller pass.ordinal key change ∷ []);
}

pub enters : (pass : PassState) (key : List ℕ) (change : Change) (number : ℕ) → front_of pass < 2 ^ 62 → number ≡ front_of pass → PassMoves pass (updated key change number) (entered pass key change)
enters pass key change number few is =
    let entry = entry_of pass.caller pass.ordinal key change in
    let there : slice_get (pass.seen.entries ++ entry ∷ []) (number - pass.seen.first) ≡ Some entry = ap (slice_get (pass.seen.entries ++ entry ∷ [])) (omega (arith, is)) ∙ slice_get-last pass.seen.entries entry in
    record {
      grows = record { caller = refl; ordinal = omega arith; base = refl; first = refl; more = entry ∷ []; entries = refl; calls = own_kept pass.caller entry refl; safe = omega arith; next = omega arith; within = λ le. omega (arith, few, length-append pass.seen.entries (entry ∷ [])) };
      fits = (omega (arith, is), (omega (arith, is), there));
      told = refl;
    }

-- the pass after an update of another caller
pub heard : (pass : PassState) (entry : Entry) → front_of pass < 2 ^ 62 → entry.caller ≢ pass.caller → Grows pass (record pass { seen = grown pass.seen (entry ∷ []) }) []
heard pass entry few ne = record { caller = refl; ordinal = omega arith; base = refl; first = refl; more = entry ∷ []; entries = refl; calls = others_dropped pass.caller entry ne; safe = omega arith; next = omega arith; within = λ le. omega (arith, few, length-append pass.seen.entries (entry ∷ [])) }

-- the same where what was seen is told apart from the failures that were told

abbrev pub telling : PassState → ℕ → PassState
telling seen told = record seen { told = told }

pub enters_telling : (old seen now : PassState) (told number : ℕ) (key : List ℕ) (change : Change) → old ≡ telling seen told → front_of seen < 2 ^ 62 → number ≡ front_of seen → now ≡ entered seen key change → PassMoves old (updated key change number) (telling now told)
enters_telling old seen now told number key change was few is e =
    subst (λ (p : PassState). PassMoves p (updated key change number) (telling now told)) (sym was)
    (subst (λ (p : PassState). PassMoves (telling seen told) (updated key change number) (telling p told)) (sym e) (enters (telling seen told) key change number few is))

pub heard_telling : (old seen now : PassState) (told : ℕ) (entry : Entry) → old ≡ telling seen told → front_of seen < 2 ^ 62 → entry.caller ≢ seen.caller → now ≡ record seen { seen = grown seen.seen (entry ∷ []) } → Grows old (telling now told) []
heard_telling old seen now told entry was few ne e =
    subst (λ (p : PassState). Grows p (telling now told) []) (sym was)
    (subst (λ (p : PassState). Grows (telling seen told) (telling p told) []) (sym e) (heard (telling seen told) entry few ne))

pub syncs_telling : (old seen now : PassState) (told number safe : ℕ) → old ≡ telling seen told → number ≡ front_of seen → now ≡ record seen { safe = safe } → seen.safe ≤ safe → number ≤ safe → PassMoves old (synced number) (telling now told)
syncs_telling old seen now told number safe was is e later le =
    subst (λ (p : PassState). PassMoves p (synced number) (telling now told)) (sym was)
    (subst (λ (p : PassState). PassMoves (telling seen told) (synced number) (telling p told)) (sym e)
    (record {
      grows = record { caller = refl; ordinal = omega arith; base = refl; first = refl; more = []; entries = sym (append-nil seen.seen.entries); calls = refl; safe = later; next = omega arith; within = λ le. le };
      fits = (omega (arith, is), omega (arith, is), le);
      told = refl;
    }))

-- the map at a pass's front is the map after all that it has seen
after-front : (pass : PassState) (front : ℕ) → front ≡ front_of pass → after pass.seen front ≡ map_of pass
after-front pass front e = ap (λ (es : List Entry). applied_all pass.seen.base es) (take_all (front - pass.seen.first) pass.seen.entries (omega (arith, e)))

-- a look at the end of what is then seen
pub looks : (old new : PassState) (key : List ℕ) (front : ℕ) (found : Option (List ℕ)) → Grows old new [] → new.told ≡ old.told → front ≡ front_of new → value_at (map_of new) key ≡ found → PassMoves old (looked key front found) new
looks old new key front found g told is value = record {
  grows = g;
  fits = (omega (arith, is, g.first, ap (λ (es : List Entry). length es) g.entries, length-append old.seen.entries g.more), omega (arith, is), ap (λ (rows : List Row). value_at rows key) (after-front new front is) ∙ value);
  told = told;
}

-- ---- the one row

pub row_after : (rows : List Row) (key : List ℕ) (change : Change) → changed rows key Del ≡ [] → changed rows key change ≡ changed [] key change
row_after rows key Del none = none
row_after rows key (Put value) none =
    let parts = both_none (rows_below key rows) (rows_above key rows) none in
    rw (parts.0, parts.1) refl
  where
    both_none : (xs ys : List Row) → xs ++ ys ≡ [] → (xs ≡ []) × (ys ≡ [])
    both_none [] ys e = (refl, e)
    both_none (x ∷ xs) ys e = absurd cc

-- the map after one entry more
pub map_after : (entries : List Entry) (entry : Entry) (rows : List Row) → changed (applied_all [] entries) entry.key Del ≡ [] → rows ≡ changed [] entry.key entry.change → applied_all [] (entries ++ entry ∷ []) ≡ rows
map_after entries entry rows free is = applied_all-append [] entries (entry ∷ []) ∙ row_after (applied_all [] entries) entry.key entry.change free ∙ sym is
