-- Newer pairs over older ones, from the front. To know: `over-newer_first`, `over-same`, `over-older_first`, `over-none`.
use Rattle.std.proofs.Common.{◌≡◌, ℕ, List, [], ◌∷◌, refl, sym, ap, ◌∙◌}
use Rattle.std.specs.List.{AllByRecursion}
use Rattle.std.specs.Ordering.{is_lt, is_gt}
use Rattle.std.specs.declared.cmp.Ordering.TheVariants.{Less, Equal, Greater}
use Rattle.rdb_base.specs.Order.{key_cmp}
use Rattle.rdb_base.specs.Runs.{IsRun, IsBelowAll}
use Rattle.rdb_base.specs.Levels.{with_pair, over, pairs_below, pairs_above}
use Rattle.rdb_base.specs.LevelLaws.{MergeTakesNewer, MergeTakesOne, MergeTakesOlder, MergeEnds}
use Rattle.rdb_base.specs.declared.pair.Pair.{Pair}
use Rattle.rdb_base.proofs.KeyOrder.{turned_less, turned_greater, turned_equal, same_key}
use Rattle.rdb_base.proofs.Lists.{all-append, all-filter}
use Rattle.rdb_base.proofs.RunLemmas.{IsBelowAll-run}

-- a key below all pairs: none is below it, all are above it
pub pairs_below-none : (key : List ℕ) (pairs : List Pair) → IsBelowAll key pairs → pairs_below key pairs ≡ []
pairs_below-none key [] all = refl
pairs_below-none key (p ∷ ps) all = rw (turned_less key p.key all.0) (pairs_below-none key ps all.1)

pub pairs_above-all : (key : List ℕ) (pairs : List Pair) → IsBelowAll key pairs → pairs_above key pairs ≡ pairs
pairs_above-all key [] all = refl
pairs_above-all key (p ∷ ps) all = rw (turned_less key p.key all.0) (ap (λ (qs : List Pair). p ∷ qs) (pairs_above-all key ps all.1))

-- a pair below all goes to the front
pub with_pair-front : (p : Pair) (pairs : List Pair) → IsBelowAll p.key pairs → with_pair pairs p ≡ p ∷ pairs
with_pair-front p pairs all = rw (pairs_below-none p.key pairs all, pairs_above-all p.key pairs all) refl

-- a pair of the same key as the first takes its place
pub with_pair-same : (p q : Pair) (pairs : List Pair) → key_cmp p.key q.key ≡ Equal → IsBelowAll q.key pairs → with_pair (q ∷ pairs) p ≡ p ∷ pairs
with_pair-same p q pairs same all =
    let below : IsBelowAll p.key pairs = all-weaker_key p.key q.key pairs (same_key p.key q.key same) all in
    rw (turned_equal p.key q.key same) (with_pair-front p pairs below)
  where
    all-weaker_key : (a b : List ℕ) (ps : List Pair) → a ≡ b → IsBelowAll b ps → IsBelowAll a ps
    all-weaker_key a b ps e h = rw e h

-- a pair above the first goes after it
pub with_pair-after : (p q : Pair) (pairs : List Pair) → key_cmp p.key q.key ≡ Greater → with_pair (q ∷ pairs) p ≡ q ∷ with_pair pairs p
with_pair-after p q pairs above = rw (turned_greater p.key q.key above) refl

-- what held of all of both holds of newer over older
pub all-over : (P : Pair → Type 0) (newer older : List Pair) → AllByRecursion P newer → AllByRecursion P older → AllByRecursion P (over newer older)
all-over P [] older h g = g
all-over P (p ∷ ps) older h g =
    let rest = all-over P ps older h.1 g in
    all-append P (pairs_below p.key (over ps older)) (p ∷ pairs_above p.key (over ps older))
    (all-filter P (λ (other : Pair). is_lt (key_cmp other.key p.key)) (over ps older) rest)
    (h.0, all-filter P (λ (other : Pair). is_gt (key_cmp other.key p.key)) (over ps older) rest)

-- merging from the front: the newer one is first
pub over-newer_first : (p : Pair) (ps qs : List Pair) → IsRun (p ∷ ps) → IsBelowAll p.key qs → over (p ∷ ps) qs ≡ p ∷ over ps qs
over-newer_first p ps qs run below = with_pair-front p (over ps qs) (all-over (λ (other : Pair). key_cmp p.key other.key ≡ Less) ps qs run.0 below)

-- nothing older
pub over-none : (ps : List Pair) → IsRun ps → over ps [] ≡ ps
over-none [] run = refl
over-none (p ∷ ps) run = over-newer_first p ps [] run tt ∙ ap (λ (qs : List Pair). p ∷ qs) (over-none ps run.1)

-- the older one is first
pub over-older_first : (ps : List Pair) (q : Pair) (qs : List Pair) → IsBelowAll q.key ps → over ps (q ∷ qs) ≡ q ∷ over ps qs
over-older_first [] q qs below = refl
over-older_first (p ∷ ps) q qs below =
    ap (λ (rest : List Pair). with_pair rest p) (over-older_first ps q qs below.1)
    ∙ with_pair-after p q (over ps qs) (turned_less q.key p.key below.0)

-- both have the key
pub over-same : (p q : Pair) (ps qs : List Pair) → IsRun (p ∷ ps) → IsRun (q ∷ qs) → key_cmp p.key q.key ≡ Equal → over (p ∷ ps) (q ∷ qs) ≡ p ∷ over ps qs
over-same p q ps qs newer older same =
    let below : IsBelowAll q.key ps = rw (sym (same_key p.key q.key same)) newer.0 in
    ap (λ (rest : List Pair). with_pair rest p) (over-older_first ps q qs below)
    ∙ with_pair-same p q (over ps qs) same (all-over (λ (other : Pair). key_cmp q.key other.key ≡ Less) ps qs below older.0)

-- ---- the same steps, from the keys of the first pairs alone

pub merge-newer : MergeTakesNewer
merge-newer p q ps qs newer older lt = over-newer_first p ps (q ∷ qs) newer (IsBelowAll-run p.key q qs older lt)

pub merge-same : MergeTakesOne
merge-same p q ps qs newer older same = over-same p q ps qs newer older same

pub merge-older : MergeTakesOlder
merge-older p q ps qs newer older gt = over-older_first (p ∷ ps) q qs (IsBelowAll-run q.key p ps newer (turned_greater p.key q.key gt))

pub merge-none : MergeEnds
merge-none ps run = over-none ps run
