-- The rows of a store in memory as contracts see them.
use Rattle.std.specs.Prelude.{◌≡◌, ◌≤◌, ◌<◌, ◌⊎◌, ℕ, List, [], ◌∷◌}
use Rattle.rdb_base.specs.Levels.{over}
use Rattle.rdb_base.specs.declared.pair.Pair.{Pair}
use Rattle.worm_leaf.specs.Leaves.{LeafState, unused}
use Rattle.leaf_table.specs.Chains.{pairs_of, HasRoomAt}
use Rattle.leaf_table.specs.Splits.{SplitsAt, IsFullAt}
use Rattle.memory_rows.specs.declared.limits.TheConstants.{MERGE_SIZE}

-- the leaves with the changes since the last merge, the run of those from before it, and the sizes of all changes since
-- then together
pub record MemoryState : Type 0 where
  pub leaves : List LeafState
  pub older : List Pair
  pub weight : ℕ

-- all of it as one run: at each key the newer change, where there is one; deletions are kept
abbrev pub level : MemoryState → List Pair
level memory = over (pairs_of memory.leaves) memory.older

-- memory without a pair
abbrev pub empty : MemoryState
empty = record { leaves = unused ∷ []; older = []; weight = 0 }

-- no merge is due, and the leaf of the key has room for a change at it
pub record IsReadyFor (memory : MemoryState) (key : List ℕ) : Type 0 where
  pub light : memory.weight < MERGE_SIZE
  pub room : HasRoomAt memory.leaves key

-- a merge moves all into the older run, and the leaves begin anew
abbrev pub after_merge : MemoryState → MemoryState
after_merge memory = record { leaves = unused ∷ []; older = level memory; weight = 0 }

-- a split parts the leaf of the key, and nothing else changes
pub record Splits (old : MemoryState) (key : List ℕ) (new : MemoryState) : Type 0 where
  pub light : old.weight < MERGE_SIZE
  pub full : HasRoomAt old.leaves key → ⊥
  pub leaves : SplitsAt old.leaves key new.leaves
  pub older : new.older ≡ old.older
  pub weight : new.weight ≡ old.weight

-- a merge is due before a change at a key: enough was changed, or the leaf of the key is full and cannot be split
abbrev pub IsDue : MemoryState → List ℕ → Type 0
IsDue memory key = (MERGE_SIZE ≤ memory.weight) ⊎ ((HasRoomAt memory.leaves key → ⊥) × IsFullAt memory.leaves key)

-- how room for a change at a key is made: it is there, or the key's leaf is split, or a merge is due and made
abbrev pub MakesRoom : MemoryState → List ℕ → MemoryState → Type 0
MakesRoom old key new = (IsReadyFor old key × (new ≡ old)) ⊎ (Splits old key new ⊎ (IsDue old key × (new ≡ after_merge old)))
