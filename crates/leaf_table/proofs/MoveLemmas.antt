-- The pairs of leaves moved out, one leaf after the other. To know: `room-next`, `moved-next`, `ahead-next`.
use Rattle.std.proofs.Common.{◌≡◌, ℕ, zero, suc, ◌+◌, ◌<◌, ◌≤◌, List, [], ◌∷◌, ◌++◌, length, take, drop, get_or, set, sym, ap, ◌∙◌, subst, arith, append_assoc}
use Rattle.std.specs.List.{AllByRecursion}
use Rattle.std.proofs.lemmas.List.{length-append, map-append, append-nil, take-append-drop}
use Rattle.std.proofs.lemmas.Grind.{take_at_read}
use Rattle.std.proofs.Math.Seq.{drop-cons}
use Rattle.rdb_base.specs.declared.pair.Pair.{Pair}
use Rattle.worm_leaf.specs.Leaves.{LeafState}
use Rattle.leaf_table.specs.Chains.{pairs_of}
use Rattle.leaf_table.specs.Tables.{leaf_at, chain_of, Lacks, IsOnce}
use Rattle.leaf_table.proofs.PairLemmas.{pairs_of-append}
use Rattle.leaf_table.proofs.TableLemmas.{set-others}

-- a number is in no later place
once-at : (order : List ℕ) (i : ℕ) → i < length order → IsOnce order → Lacks (get_or order i 0) (drop (suc i) order)
once-at [] i lt h = absurd (omega (arith, lt))
once-at (n ∷ order) zero lt h = h.0
once-at (n ∷ order) (suc i) lt h = once-at order i (omega (arith, lt)) h.1

module _ (old leaves : List LeafState) (order : List ℕ) (i : ℕ) (lt : i < length order) (ahead : chain_of leaves (drop i order) ≡ chain_of old (drop i order)) where
  both : leaf_at leaves (get_or order i 0) ∷ chain_of leaves (drop (suc i) order) ≡ leaf_at old (get_or order i 0) ∷ chain_of old (drop (suc i) order)
  both = sym (ap (chain_of leaves) (drop-cons order i 0 lt)) ∙ ahead ∙ ap (chain_of old) (drop-cons order i 0 lt)

  next : i + 1 ≡ suc i
  next = omega arith

  -- the leaf whose turn it is has all its pairs yet
  pub turn : leaf_at leaves (get_or order i 0) ≡ leaf_at old (get_or order i 0)
  turn = ap (λ (xs : List LeafState). first xs) both
    where
      first : List LeafState → LeafState
      first [] = leaf_at old 0
      first (x ∷ xs) = x

  -- and so have all after it
  pub ahead-next : (leaf : LeafState) → IsOnce order → chain_of (set leaves (get_or order i 0) leaf) (drop (i + 1) order) ≡ chain_of old (drop (i + 1) order)
  ahead-next leaf once =
      subst (λ k. chain_of (set leaves (get_or order i 0) leaf) (drop k order) ≡ chain_of old (drop k order)) (sym next)
      (set-others leaves (get_or order i 0) leaf (drop (suc i) order) (once-at order i lt once) ∙ ap (λ (xs : List LeafState). rest xs) both)
    where
      rest : List LeafState → List LeafState
      rest [] = []
      rest (x ∷ xs) = xs

  taken : pairs_of (chain_of old (take (i + 1) order)) ≡ pairs_of (chain_of old (take i order)) ++ (leaf_at old (get_or order i 0)).pairs
  taken =
      ap (λ xs. pairs_of (chain_of old xs)) (take_at_read order i 0 lt).1
      ∙ ap pairs_of (map-append (leaf_at old) (take i order) (get_or order i 0 ∷ []))
      ∙ pairs_of-append (chain_of old (take i order)) (leaf_at old (get_or order i 0) ∷ [])
      ∙ ap (λ xs. pairs_of (chain_of old (take i order)) ++ xs) (append-nil (leaf_at old (get_or order i 0)).pairs)

  -- with its pairs, those of one leaf more were moved
  pub moved-next : (run was now : List Pair) → was ≡ run ++ pairs_of (chain_of old (take i order)) → now ≡ was ++ (leaf_at leaves (get_or order i 0)).pairs → now ≡ run ++ pairs_of (chain_of old (take (i + 1) order))
  moved-next run was now e f =
      f ∙ ap (λ xs. xs ++ (leaf_at leaves (get_or order i 0)).pairs) e
      ∙ ap (λ (x : LeafState). (run ++ pairs_of (chain_of old (take i order))) ++ x.pairs) turn
      ∙ append_assoc run (pairs_of (chain_of old (take i order))) (leaf_at old (get_or order i 0)).pairs
      ∙ ap (λ xs. run ++ xs) (sym taken)

  -- there is room for them
  pub room-next : (run was : List Pair) → was ≡ run ++ pairs_of (chain_of old (take i order)) → length was + length (leaf_at leaves (get_or order i 0)).pairs ≤ length run + length (pairs_of (chain_of old order))
  room-next run was e =
      let all : length (pairs_of (chain_of old order)) ≡ length (pairs_of (chain_of old (take (i + 1) order))) + length (pairs_of (chain_of old (drop (i + 1) order))) =
      ap (λ xs. length (pairs_of (chain_of old xs))) (sym (take-append-drop (i + 1) order))
      ∙ ap (λ xs. length (pairs_of xs)) (map-append (leaf_at old) (take (i + 1) order) (drop (i + 1) order))
      ∙ ap length (pairs_of-append (chain_of old (take (i + 1) order)) (chain_of old (drop (i + 1) order)))
      ∙ length-append (pairs_of (chain_of old (take (i + 1) order))) (pairs_of (chain_of old (drop (i + 1) order))) in
      let here : length (pairs_of (chain_of old (take (i + 1) order))) ≡ length (pairs_of (chain_of old (take i order))) + length (leaf_at old (get_or order i 0)).pairs =
      ap length taken ∙ length-append (pairs_of (chain_of old (take i order))) (leaf_at old (get_or order i 0)).pairs in
      omega (arith, all, here, ap length e, length-append run (pairs_of (chain_of old (take i order))), ap (λ (x : LeafState). length x.pairs) turn)

-- what holds of all numbers holds of the one at a place
pub all-at : (P : ℕ → Type 0) (order : List ℕ) (i : ℕ) → i < length order → AllByRecursion P order → P (get_or order i 0)
all-at P [] i lt h = absurd (omega (arith, lt))
all-at P (n ∷ order) zero lt h = h.0
all-at P (n ∷ order) (suc i) lt h = all-at P order i (omega (arith, lt)) h.1
