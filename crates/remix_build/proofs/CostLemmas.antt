-- How many keys are read: each head once, and so each pair. To know: heads_there-set, no_heads, length-order.
use Rattle.std.proofs.Common.{◌≡◌, ℕ, zero, suc, ◌+◌, ◌<◌, ◌^◌, true, false, cond, List, [], ◌∷◌, ◌++◌, length, get_or, refl, sym, ap, subst, ◌∙◌, arith}
use Rattle.std.specs.Prelude.{Option, Some, None, Result, Ok, Err, IfOk}
use Rattle.std.specs.List.{AllByRecursion}
use Rattle.std.proofs.Math.ListN.{set}
use denote.Ref.{Bor}
use Rattle.rdb_base.specs.Runs.{IsRun}
use Rattle.rdb_base.specs.declared.pair.Pair.{Pair}
use Rattle.rdb_base.proofs.Lists.{all-weaker}
use Rattle.remix_seek.specs.Versions.{run_at}
use Rattle.remix_seek.proofs.CountLemmas.{count-cons, count-append, count-yes, count-no}
use Rattle.remix_seek.proofs.SegmentLemmas.{length-selectors}
use Rattle.remix_seek.proofs.VersionLemmas.{length-versions}
use Rattle.remix_build.specs.Costs.{pairs_in, has_head, heads_there}
use Rattle.remix_build.specs.Heads.{lent_key, head_of_run, LeastHead}
use Rattle.remix_build.specs.Merging.{IsOrder}
use Rattle.remix_build.specs.Packing.{AreRuns}

-- ---- what is known of runs

pub runs_rise : (runs : List (List Pair)) → AreRuns runs → AllByRecursion IsRun runs
runs_rise runs all = all-weaker (λ (run : List Pair). IsRun run × (length run < 2 ^ 32)) IsRun (λ run h. h.0) runs all

pub short_run : (runs : List (List Pair)) (run : ℕ) → AreRuns runs → run < length runs → length (run_at runs run) < 2 ^ 32
short_run [] run all lt = absurd (omega arith)
short_run (r ∷ rs) zero all lt = all.0.1
short_run (r ∷ rs) (suc run) all lt = short_run rs run all.1 (omega arith)

-- ---- heads, counted

pub heads_there-push : (heads grown : List (Option (Bor (List ℕ)))) (head : Option (Bor (List ℕ))) → grown ≡ heads ++ head ∷ [] → heads_there grown ≡ heads_there heads + cond (has_head head) 1 0
heads_there-push heads grown head e =
    ap (λ (hs : List (Option (Bor (List ℕ)))). heads_there hs) e
    ∙ count-append has_head heads (head ∷ [])
    ∙ ap (λ (n : ℕ). heads_there heads + n) (count-cons has_head head [] ∙ no_more (cond (has_head head) 1 0))
  where
    no_more : (n : ℕ) → n + 0 ≡ n
    no_more n = omega arith

-- a head that is there gives its place to another
pub heads_there-set : (heads : List (Option (Bor (List ℕ)))) (run : ℕ) (head : Option (Bor (List ℕ))) → run < length heads → has_head (get_or heads run None) ≡ true → 1 + heads_there (set heads run head) ≡ heads_there heads + cond (has_head head) 1 0
heads_there-set [] run head lt is = absurd (omega arith)
heads_there-set (h ∷ hs) zero head lt is =
    let old : heads_there (h ∷ hs) ≡ 1 + heads_there hs = count-yes has_head h hs is in
    let new : heads_there (set (h ∷ hs) zero head) ≡ cond (has_head head) 1 0 + heads_there hs = count-cons has_head head hs in
    omega arith
heads_there-set (h ∷ hs) (suc run) head lt is =
    let rest = heads_there-set hs run head (omega arith) is in
    let old : heads_there (h ∷ hs) ≡ cond (has_head h) 1 0 + heads_there hs = count-cons has_head h hs in
    let new : heads_there (set (h ∷ hs) (suc run) head) ≡ cond (has_head h) 1 0 + heads_there (set hs run head) = count-cons has_head h (set hs run head) in
    omega arith

has_key_there : (head : Option (Bor (List ℕ))) (key : List ℕ) → lent_key head ≡ Some key → has_head head ≡ true
has_key_there None key e = absurd cc
has_key_there (Some lent) key e = refl

has_none_there : (head : Option (Bor (List ℕ))) → lent_key head ≡ None → has_head head ≡ false
has_none_there None e = refl
has_none_there (Some lent) e = absurd cc

-- the least head is there
pub head_here : (heads lent : List (Option (Bor (List ℕ)))) (best : Option (ℕ × Bor (List ℕ))) (run : ℕ) (key : Bor (List ℕ)) → lent ≡ heads → LeastHead lent (length lent) best → best ≡ Some (run, key) → has_head (get_or heads run None) ≡ true
head_here heads lent best run key same least is =
    let found : LeastHead lent (length lent) (Some (run, key)) = subst (λ (b : Option (ℕ × Bor (List ℕ))). LeastHead lent (length lent) b) is least in
    has_key_there (get_or heads run None) key.now (ap (λ (hs : List (Option (Bor (List ℕ)))). head_of_run hs run) (sym same) ∙ found.head)

none_counted : (heads : List (Option (Bor (List ℕ)))) → ((run : ℕ) → run < length heads → head_of_run heads run ≡ None) → heads_there heads ≡ 0
none_counted [] none = refl
none_counted (h ∷ hs) none = count-no has_head h hs (has_none_there h (none 0 (omega arith))) ∙ none_counted hs (λ run lt. none (suc run) (omega arith))

-- where no head is the least there is none
pub no_heads : (heads lent : List (Option (Bor (List ℕ)))) (best : Option (ℕ × Bor (List ℕ))) → lent ≡ heads → LeastHead lent (length lent) best → best ≡ None → heads_there heads ≡ 0
no_heads heads lent best same least is =
    ap (λ (hs : List (Option (Bor (List ℕ)))). heads_there hs) (sym same)
    ∙ none_counted lent (subst (λ (b : Option (ℕ × Bor (List ℕ))). LeastHead lent (length lent) b) is least)

-- ---- pairs, counted

-- an order has as many versions as the runs have pairs
pub length-order : (runs : List (List Pair)) (order : List ℕ) → IsOrder runs order → length order ≡ pairs_in runs
length-order runs order is = ap length is.told ∙ length-selectors None is.versions ∙ sym (length-versions runs is.versions is.view_of)

-- what an index costs does not change where an equal one is answered
pub cost-same : {X E : Type 0} (r : Result X E) (made : X) (segments : X → ℕ) (before now : ℕ) → IfOk r (λ x. x ≡ made) → now ≡ before + segments made → IfOk r (λ x. now ≡ before + segments x)
cost-same (Ok x) made segments before now same is = is ∙ ap (λ y. before + segments y) (sym same)
cost-same (Err e) made segments before now same is = tt
