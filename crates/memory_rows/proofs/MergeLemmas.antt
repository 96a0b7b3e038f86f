-- The first pair of two runs merged. To know: `takes-newer`, `takes-both`, `takes-older`.
use Rattle.std.proofs.Common.{◌≡◌, List, [], ◌∷◌, ◌++◌, length, drop, Option, Some, None, refl, sym, ap, subst, ◌∙◌, arith}
use Rattle.std.specs.Option.{option_to_list}
use Rattle.std.specs.declared.cmp.Ordering.TheVariants.{Less, Equal, Greater}
use Rattle.rdb_base.specs.Runs.{IsRun}
use Rattle.rdb_base.specs.Levels.{over}
use Rattle.rdb_base.specs.declared.pair.Pair.{Pair}
use Rattle.rdb_base.proofs.MergeLemmas.{merge-newer, merge-same, merge-older, merge-none}
use Rattle.memory_rows.specs.Merges.{fronts_cmp, AreRuns, TakesFirst}

-- what is left of a list after its first member, where it has one
pub record Pops (taken : Option Pair) (old left : List Pair) : Type 0 where
  pub items : old ≡ option_to_list taken ++ left
  pub rest : left ≡ drop 1 old

-- a list that has a member gives it
not_none : (p : Pair) (ps left : List Pair) → Pops None (p ∷ ps) left → ⊥
not_none p ps left pops =
    let a : length left ≡ length (p ∷ ps) = ap length (sym pops.items) in
    let b : length left ≡ length ps = ap length pops.rest in
    omega (arith, a, b)

first_is : (p x : Pair) (ps left : List Pair) → Pops (Some x) (p ∷ ps) left → p ≡ x
first_is p x ps left pops = let e : p ∷ ps ≡ x ∷ left = pops.items in cc

-- ---- the steps, from the keys of the first pairs

over-newer : (p : Pair) (ps older : List Pair) → AreRuns (p ∷ ps) older → fronts_cmp (p ∷ ps) older ≡ Less → over (p ∷ ps) older ≡ p ∷ over ps older
over-newer p ps [] runs e = merge-none (p ∷ ps) runs.newer_rises ∙ ap (λ (qs : List Pair). p ∷ qs) (sym (merge-none ps runs.newer_rises.1))
over-newer p ps (q ∷ qs) runs e = merge-newer p q ps qs runs.newer_rises runs.older_rises e

-- ---- what was taken

-- the newer run's first key is the lower, or the only one
pub takes-newer : (taken : Option Pair) (newer older left : List Pair) → AreRuns newer older → fronts_cmp newer older ≡ Less → Pops taken newer left → TakesFirst taken newer older left older × AreRuns left older
takes-newer taken [] older left runs e pops = absurd cc
takes-newer None (p ∷ ps) older left runs e pops = absurd (not_none p ps left pops)
takes-newer (Some x) (p ∷ ps) older left runs e pops =
    let left_is : left ≡ ps = pops.rest in (
      rw (left_is, sym (first_is p x ps left pops)) (over-newer p ps older runs e),
      record { newer_rises = rw left_is runs.newer_rises.1; older_rises = runs.older_rises },
    )

-- both have the key
pub takes-both : (taken dropped : Option Pair) (newer older newer_left older_left : List Pair) → AreRuns newer older → fronts_cmp newer older ≡ Equal → Pops taken newer newer_left → Pops dropped older older_left
    → TakesFirst taken newer older newer_left older_left × AreRuns newer_left older_left
takes-both taken dropped [] older newer_left older_left runs e pops drops = absurd cc
takes-both taken dropped (p ∷ ps) [] newer_left older_left runs e pops drops = absurd cc
takes-both None dropped (p ∷ ps) (q ∷ qs) newer_left older_left runs e pops drops = absurd (not_none p ps newer_left pops)
takes-both (Some x) dropped (p ∷ ps) (q ∷ qs) newer_left older_left runs e pops drops =
    let newer_is : newer_left ≡ ps = pops.rest in
    let older_is : older_left ≡ qs = drops.rest in (
      rw (newer_is, older_is, sym (first_is p x ps newer_left pops)) (merge-same p q ps qs runs.newer_rises runs.older_rises e),
      record { newer_rises = rw newer_is runs.newer_rises.1; older_rises = rw older_is runs.older_rises.1 },
    )

-- the older run's first key is the lower, or the only one
pub takes-older : (taken : Option Pair) (newer older left : List Pair) → AreRuns newer older → fronts_cmp newer older ≡ Greater → Pops taken older left → TakesFirst taken newer older newer left × AreRuns newer left
takes-older None [] [] left runs e pops = (refl, record { newer_rises = tt; older_rises = rw pops.rest tt })
takes-older (Some x) [] [] left runs e pops = absurd (let a : [] ≡ x ∷ left = pops.items in cc)
takes-older None newer (q ∷ qs) left runs e pops = absurd (not_none q qs left pops)
takes-older (Some x) [] (q ∷ qs) left runs e pops = (pops.items, record { newer_rises = tt; older_rises = rw pops.rest runs.older_rises.1 })
takes-older taken (p ∷ ps) [] left runs e pops = absurd cc
takes-older (Some x) (p ∷ ps) (q ∷ qs) left runs e pops =
    let left_is : left ≡ qs = pops.rest in (
      rw (left_is, sym (first_is q x qs left pops)) (merge-older p q ps qs runs.newer_rises runs.older_rises e),
      record { newer_rises = runs.newer_rises; older_rises = rw left_is runs.older_rises.1 },
    )
