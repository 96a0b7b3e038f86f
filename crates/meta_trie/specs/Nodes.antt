-- What the nodes of a trie, one for each prefix of an anchor, know of its anchors.
use Rattle.std.specs.Int.{bit_at}
use Rattle.std.specs.Prelude.{◌≡◌, ℕ, ◌<◌, ◌-◌, ◌/◌, ◌%◌, ◌==◌, Bool, true, false, ◌⊎◌, List, [], ◌∷◌, ◌++◌, Option, Some, None, slice_get, slice_index, get_or}
use Rattle.std.specs.declared.cmp.Ordering.TheVariants.{Less}
use Rattle.rdb_base.specs.Order.{key_cmp}
use Rattle.meta_trie.specs.Tries.{Anchored}
use Rattle.meta_trie.specs.Leaves.{next_at}
use Rattle.meta_trie.specs.declared.node.Node.{Node}
use Rattle.meta_trie.specs.declared.next_bytes.NextBytes.{NextBytes}

-- the anchor at a place of the list
abbrev pub Pick : List Anchored → ℕ → Anchored → Type 0
Pick all i a = slice_get all i ≡ Some a

-- a string begins with another
abbrev pub Begins : List ℕ → List ℕ → Type 0
Begins p a = (rest : List ℕ) × (a ≡ p ++ rest)

-- a string is below another
abbrev pub Below : List ℕ → List ℕ → Type 0
Below a b = key_cmp a b ≡ Less

-- a string is below another or is that
abbrev pub AtMost : List ℕ → List ℕ → Type 0
AtMost a b = Below a b ⊎ (a ≡ b)

-- the greatest anchor not above a key
pub record Best (all : List Anchored) (key : List ℕ) (i : ℕ) (a : Anchored) : Type 0 where
  pub pick : Pick all i a
  pub fits : AtMost a.anchor key
  pub best : (j : ℕ) (b : Anchored) → Pick all j b → AtMost b.anchor key → AtMost b.anchor a.anchor

-- the greatest anchor below a key
pub record Last (all : List Anchored) (key : List ℕ) (i : ℕ) (a : Anchored) : Type 0 where
  pub pick : Pick all i a
  pub below : Below a.anchor key
  pub last : (j : ℕ) (b : Anchored) → Pick all j b → Below b.anchor key → AtMost b.anchor a.anchor

-- the least anchor that begins with a prefix
pub record Least (all : List Anchored) (p : List ℕ) (i : ℕ) (a : Anchored) : Type 0 where
  pub pick : Pick all i a
  pub begins : Begins p a.anchor
  pub least : (j : ℕ) (b : Anchored) → Pick all j b → Begins p b.anchor → AtMost a.anchor b.anchor

-- the greatest anchor that begins with a prefix
pub record Greatest (all : List Anchored) (p : List ℕ) (i : ℕ) (a : Anchored) : Type 0 where
  pub pick : Pick all i a
  pub begins : Begins p a.anchor
  pub greatest : (j : ℕ) (b : Anchored) → Pick all j b → Begins p b.anchor → AtMost b.anchor a.anchor

-- the least anchor above a key
pub record First (all : List Anchored) (key : List ℕ) (i : ℕ) (a : Anchored) : Type 0 where
  pub pick : Pick all i a
  pub above : Below key a.anchor
  pub first : (j : ℕ) (b : Anchored) → Pick all j b → Below key b.anchor → AtMost a.anchor b.anchor

-- the place of the least anchor above a key, where there is one
abbrev pub NextOf : List Anchored → List ℕ → Option ℕ → Type 0
NextOf all key None = (j : ℕ) (b : Anchored) → Pick all j b → Below key b.anchor → ⊥
NextOf all key (Some i) = (a : Anchored) × First all key i a

-- whether a byte comes next: its bit, in the word of its upper two bits
abbrev pub has_next : NextBytes → ℕ → Bool
has_next nexts c = bit_at (get_or nexts.words (c / 64) 0) (63 - c % 64) == 1

-- what a node knows of the anchors that begin with its prefix
pub record NodeStands (all : List Anchored) (p : List ℕ) (n : Node) : Type 0 where
  pub least : (a : Anchored) × Least all p n.least a
  pub greatest : (a : Anchored) × Greatest all p n.greatest a
  pub own : n.own ≡ true → (a : Anchored) × Pick all n.least a × (a.anchor ≡ p)
  pub bare : n.own ≡ false → (j : ℕ) (b : Anchored) → Pick all j b → b.anchor ≡ p → ⊥
  pub next : (c : ℕ) → has_next n.nexts c ≡ true → (j : ℕ) × (b : Anchored) × Pick all j b × Begins (p ++ c ∷ []) b.anchor
  pub nexts : (j : ℕ) (b : Anchored) (c : ℕ) → Pick all j b → Begins (p ++ c ∷ []) b.anchor → has_next n.nexts c ≡ true

-- the greatest next byte below the key's next one
abbrev pub NextBelow : Node → List ℕ → Option ℕ → Type 0
NextBelow n rest None = (c : ℕ) (more : List ℕ) → rest ≡ c ∷ more → (d : ℕ) → d < c → has_next n.nexts d ≡ false
NextBelow n rest (Some d) =
    (c : ℕ) × (more : List ℕ) × (rest ≡ c ∷ more) × (d < c) × (has_next n.nexts d ≡ true)
    × ((e : ℕ) → d < e → e < c → has_next n.nexts e ≡ false)

-- Every prefix of an anchor has a node, and no other string has one; each anchor but the empty one knows the one below it;
-- and each is there once.
pub record TrieStands (all : List Anchored) (previous : List ℕ) (at : List ℕ → Option Node) : Type 0 where
  pub there : (j : ℕ) (b : Anchored) (p : List ℕ) → Pick all j b → Begins p b.anchor → at p ≡ None → ⊥
  pub nodes : (p : List ℕ) (n : Node) → at p ≡ Some n → NodeStands all p n
  pub before : (j : ℕ) (b : Anchored) → Pick all j b → (b.anchor ≡ [] → ⊥) → (a : Anchored) × Last all b.anchor (slice_index previous j) a
  pub distinct : (i j : ℕ) (a b : Anchored) → Pick all i a → Pick all j b → a.anchor ≡ b.anchor → i ≡ j

-- each anchor knows the one above it
abbrev pub NextsStand : List Anchored → List (Option ℕ) → Type 0
NextsStand all nexts = (j : ℕ) (b : Anchored) → Pick all j b → NextOf all b.anchor (next_at nexts j)
