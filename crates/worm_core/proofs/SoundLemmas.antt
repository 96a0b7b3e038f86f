-- What is true of every world that events lead to, `Sound`, and the low bounds of leaves. To know: `Sound`, `low-back`, `low-fore`.
use Rattle.std.proofs.Common.{◌≡◌, ◌⊎◌, ℕ, zero, suc, ◌+◌, ◌<◌, ◌≤◌, true, List, [], ◌∷◌, ◌++◌, length, drop, refl, sym, ap, ◌∙◌, subst, inl, inr, ⊎_elim}
use Rattle.std.specs.Prelude.{slice_get, Option, Some, None}
use Rattle.std.specs.declared.cmp.Ordering.TheVariants.{Less}
use lib.ListN.{set}
use native.Mathlib.Decide.{ℕ_discrete}
use Rattle.rdb_base.specs.Order.{key_cmp}
use Rattle.rdb_base.specs.Ranges.{NotBelow}
use Rattle.rdb_base.specs.Runs.{IsRun, change_at}
use Rattle.rdb_base.specs.declared.pair.Pair.{Pair}
use Rattle.rdb_base.proofs.PlaceLemmas.{get_set, set_here, set_else, get_more, get_last, get_snoc, some_injective}
use Rattle.meta_trie.specs.Tries.{Anchored}
use Rattle.worm_leaf.specs.Leaves.{LeafState, AreCovered, covers}
use Rattle.worm_core.specs.Worlds.{World, walker_at}
use Rattle.worm_core.specs.declared.limits.TheConstants.{LEAVES_MAX}
use Rattle.worm_core.specs.declared.walker.Walker.{Walker}
use Rattle.worm_core.proofs.TableLemmas.{passed}

-- the leaf of this number begins at this key
pub record HasLow (leaves : List LeafState) (n : ℕ) (low : List ℕ) : Type 0 where
  pub leaf : LeafState
  pub at : slice_get leaves n ≡ Some leaf
  pub is : leaf.low ≡ low

-- there is a high bound, and it is not above this key
abbrev pub EndsBy : Option (List ℕ) → List ℕ → Type 0
EndsBy None key = ⊥
EndsBy (Some high) key = NotBelow key high

-- a leaf among the others, and beside what was put, the newest first: no leaf begins inside it, and one begins where it ends
pub record LeafSound (puts : List Pair) (leaves : List LeafState) (leaf : LeafState) : Type 0 where
  pub rises : IsRun leaf.pairs
  pub covered : AreCovered leaf leaf.pairs
  pub changes : (key : List ℕ) → covers leaf key ≡ true → change_at leaf.pairs key ≡ change_at puts key
  pub next : (n : ℕ) (low : List ℕ) → HasLow leaves n low → key_cmp leaf.low low ≡ Less → EndsBy leaf.high low
  pub neighbour : (high : List ℕ) → leaf.high ≡ Some high → (key_cmp leaf.low high ≡ Less) × ((n : ℕ) × HasLow leaves n high)

-- the low bound of a leaf is the empty key or the anchor of its split
abbrev pub LowIs : List Anchored → ℕ → List ℕ → Type 0
LowIs splits zero low = low ≡ []
LowIs splits (suc j) low = (s : Anchored) × (slice_get splits j ≡ Some s) × (s.anchor ≡ low)

-- a walker's leaf does not begin above its key; nothing of its table lies between both; and it has passed an anchor that its
-- table lacked for each step right
pub record WalkerSound (leaves : List LeafState) (splits : List Anchored) (walker : Walker) : Type 0 where
  pub leaf : LeafState
  pub on : slice_get leaves walker.leaf ≡ Some leaf
  pub from : NotBelow walker.key leaf.low
  pub table : (j : ℕ) (s : Anchored) → slice_get splits j ≡ Some s → j < walker.adds → NotBelow walker.key s.anchor → NotBelow leaf.low s.anchor
  pub lacked : walker.rights ≤ passed leaf.low (drop walker.adds splits)
  pub adds : walker.adds ≤ length splits

pub record Sound (puts : List Pair) (w : World) : Type 0 where
  pub count : length w.leaves ≡ length w.splits + 1
  pub most : length w.leaves ≤ LEAVES_MAX
  pub first : HasLow w.leaves 0 []
  pub lows : (n : ℕ) (low : List ℕ) → HasLow w.leaves n low → LowIs w.splits n low
  pub splits : (j : ℕ) (s : Anchored) → slice_get w.splits j ≡ Some s → (s.leaf ≡ suc j) × HasLow w.leaves (suc j) s.anchor
  pub published : w.published ≤ length w.splits
  pub apart : (m n : ℕ) (low : List ℕ) → HasLow w.leaves m low → HasLow w.leaves n low → m ≡ n
  pub each : (n : ℕ) (leaf : LeafState) → slice_get w.leaves n ≡ Some leaf → LeafSound puts w.leaves leaf
  pub walkers : (n : ℕ) (walker : Walker) → walker_at w.walkers n ≡ Some walker → WalkerSound w.leaves w.splits walker

-- ---- low bounds, where a leaf is replaced by one that begins at the same key, and where there is one leaf more

pub low-back : (leaves : List LeafState) (i : ℕ) (old new : LeafState) → slice_get leaves i ≡ Some old → new.low ≡ old.low → (n : ℕ) (low : List ℕ) → HasLow (set leaves i new) n low → HasLow leaves n low
low-back leaves i old new at same n low h = ⊎_elim
    (λ t. record { leaf = old; at = rw t.0 at; is = sym same ∙ (ap (λ (l : LeafState). l.low) t.1 ∙ h.is) })
    (λ t. record { leaf = h.leaf; at = t.1; is = h.is })
    (get_set leaves i n new h.leaf h.at)

pub low-fore : (leaves : List LeafState) (i : ℕ) (old new : LeafState) → slice_get leaves i ≡ Some old → new.low ≡ old.low → (n : ℕ) (low : List ℕ) → HasLow leaves n low → HasLow (set leaves i new) n low
low-fore leaves i old new at same n low h = by_place (ℕ_discrete n i)
  where
    by_place : Dec (n ≡ i) → HasLow (set leaves i new) n low
    by_place (yes e) = record { leaf = new; at = rw e (set_here leaves i old new at); is = same ∙ (ap (λ (l : LeafState). l.low) (some_injective old h.leaf (sym at ∙ subst (λ (m : ℕ). slice_get leaves m ≡ Some h.leaf) e h.at)) ∙ h.is) }
    by_place (no d) = record { leaf = h.leaf; at = set_else leaves i n new d ∙ h.at; is = h.is }

pub low-snoc_back : (leaves : List LeafState) (right : LeafState) (n : ℕ) (low : List ℕ) → HasLow (leaves ++ right ∷ []) n low → HasLow leaves n low ⊎ ((n ≡ length leaves) × (right.low ≡ low))
low-snoc_back leaves right n low h = ⊎_elim
    (λ t. inl (record { leaf = h.leaf; at = t; is = h.is }))
    (λ t. inr (t.0, ap (λ (l : LeafState). l.low) t.1 ∙ h.is))
    (get_snoc leaves right h.leaf n h.at)

pub low-snoc_fore : (leaves : List LeafState) (right : LeafState) (n : ℕ) (low : List ℕ) → HasLow leaves n low → HasLow (leaves ++ right ∷ []) n low
low-snoc_fore leaves right n low h = record { leaf = h.leaf; at = get_more leaves (right ∷ []) n h.leaf h.at; is = h.is }

pub low-snoc_last : (leaves : List LeafState) (right : LeafState) → HasLow (leaves ++ right ∷ []) (length leaves) right.low
low-snoc_last leaves right = record { leaf = right; at = get_last leaves right; is = refl }
