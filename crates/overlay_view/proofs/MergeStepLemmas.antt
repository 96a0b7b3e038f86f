-- Newer pairs from a place on over older ones, step by step, on lists alone. To know: step-newer, step-same, step-older, step-newer_alone, step-older_alone, step-none.
use Rattle.std.proofs.Common.{◌≡◌, ℕ, zero, suc, ◌+◌, List, [], ◌∷◌, drop, sym, ap, subst, ◌∙◌}
use Rattle.std.specs.Prelude.{slice_get, Some, None}
use Rattle.std.specs.declared.cmp.Ordering.TheVariants.{Less, Equal, Greater}
use Rattle.rdb_base.specs.Order.{key_cmp}
use Rattle.rdb_base.specs.Runs.{IsRun}
use Rattle.rdb_base.specs.Levels.{over}
use Rattle.rdb_base.specs.declared.pair.Pair.{Pair}
use Rattle.rdb_base.proofs.MergeLemmas.{merge-newer, merge-same, merge-older, over-newer_first}
use Rattle.overlay_view.proofs.ListLemmas.{drop-there, drop-none}

pub IsRun-drop : (n : ℕ) (pairs : List Pair) → IsRun pairs → IsRun (drop n pairs)
IsRun-drop zero pairs run = run
IsRun-drop (suc n) [] run = tt
IsRun-drop (suc n) (p ∷ ps) run = IsRun-drop n ps run.1

-- the newer pairs from a place on are a run whose first pair stands there
run-there : (newer : List Pair) (at : ℕ) (p : Pair) → IsRun newer → slice_get newer at ≡ Some p → IsRun (p ∷ drop (at + 1) newer)
run-there newer at p run here = subst IsRun (drop-there newer at p here) (IsRun-drop at newer run)

-- the newer one's key is the lower
pub step-newer : (newer older : List Pair) (at : ℕ) (p q : Pair) (qs : List Pair) → IsRun newer → IsRun older → slice_get newer at ≡ Some p → older ≡ (q ∷ qs) → key_cmp p.key q.key ≡ Less
    → over (drop at newer) older ≡ p ∷ over (drop (at + 1) newer) older
step-newer newer older at p q qs run rises here left lt =
    (λ i. over (drop-there newer at p here i) (left i))
    ∙ merge-newer p q (drop (at + 1) newer) qs (run-there newer at p run here) (subst IsRun left rises) lt
    ∙ ap (λ (os : List Pair). p ∷ over (drop (at + 1) newer) os) (sym left)

-- both have the key
pub step-same : (newer older : List Pair) (at : ℕ) (p q : Pair) (qs : List Pair) → IsRun newer → IsRun older → slice_get newer at ≡ Some p → older ≡ (q ∷ qs) → key_cmp p.key q.key ≡ Equal
    → over (drop at newer) older ≡ p ∷ over (drop (at + 1) newer) qs
step-same newer older at p q qs run rises here left eq =
    (λ i. over (drop-there newer at p here i) (left i))
    ∙ merge-same p q (drop (at + 1) newer) qs (run-there newer at p run here) (subst IsRun left rises) eq

-- the older one's key is the lower
pub step-older : (newer older : List Pair) (at : ℕ) (p q : Pair) (qs : List Pair) → IsRun newer → IsRun older → slice_get newer at ≡ Some p → older ≡ (q ∷ qs) → key_cmp p.key q.key ≡ Greater
    → over (drop at newer) older ≡ q ∷ over (drop at newer) qs
step-older newer older at p q qs run rises here left gt =
    (λ i. over (drop-there newer at p here i) (left i))
    ∙ merge-older p q (drop (at + 1) newer) qs (run-there newer at p run here) (subst IsRun left rises) gt
    ∙ ap (λ (ns : List Pair). q ∷ over ns qs) (sym (drop-there newer at p here))

-- nothing older is left
pub step-newer_alone : (newer older : List Pair) (at : ℕ) (p : Pair) → IsRun newer → slice_get newer at ≡ Some p → older ≡ []
    → over (drop at newer) older ≡ p ∷ over (drop (at + 1) newer) older
step-newer_alone newer older at p run here none =
    (λ i. over (drop-there newer at p here i) (none i))
    ∙ over-newer_first p (drop (at + 1) newer) [] (run-there newer at p run here) tt
    ∙ ap (λ (os : List Pair). p ∷ over (drop (at + 1) newer) os) (sym none)

-- nothing newer is left
pub step-older_alone : (newer older : List Pair) (at : ℕ) (q : Pair) (qs : List Pair) → slice_get newer at ≡ None → older ≡ (q ∷ qs)
    → over (drop at newer) older ≡ q ∷ over (drop at newer) qs
step-older_alone newer older at q qs none left =
    (λ i. over (drop-none newer at none i) (left i)) ∙ ap (λ (ns : List Pair). q ∷ over ns qs) (sym (drop-none newer at none))

-- nothing is left
pub step-none : (newer older : List Pair) (at : ℕ) → slice_get newer at ≡ None → older ≡ [] → over (drop at newer) older ≡ []
step-none newer older at none end = (λ i. over (drop-none newer at none i) (end i))
