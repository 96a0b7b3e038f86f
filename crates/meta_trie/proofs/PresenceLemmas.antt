-- Whether a string is an anchor, by the greatest one that is not above it. To know: `best-new`, `new-rest`, `rest_long`.
use Rattle.std.proofs.Common.{◌≡◌, ℕ, ◌+◌, List, length, sym, ap, subst, inr, arith}
use Rattle.std.specs.Prelude.{Some, slice_get}
use Rattle.meta_trie.specs.Leaves.{BeginsWithRoot, all_of, rest_of}
use Rattle.meta_trie.specs.declared.leaf_entry.LeafEntry.{LeafEntry}
use Rattle.meta_trie.specs.Nodes.{AtMost, Best, Pick}
use Rattle.meta_trie.specs.Tries.{Anchored, IsNew}
use Rattle.meta_trie.proofs.FrontLemmas.{all-long}
use Rattle.meta_trie.proofs.PrefixLemmas.{at_most-both}

-- where the greatest one is another, none is that string
pub best-new : (all : List Anchored) (key : List ℕ) (i : ℕ) (a : Anchored) → Best all key i a → (a.anchor ≡ key → ⊥) → (j : ℕ) (b : Anchored) → Pick all j b → b.anchor ≡ key → ⊥
best-new all key i a best other j b pick same =
    let to_best : AtMost b.anchor a.anchor = best.best j b pick (inr same) in
    other (at_most-both a.anchor key best.fits (subst (λ (z : List ℕ). AtMost z a.anchor) same to_best))

-- what is not among all anchors, is new
pub new-rest : (all : List Anchored) (key : List ℕ) → BeginsWithRoot all → ((j : ℕ) (b : Anchored) → Pick all j b → b.anchor ≡ key → ⊥) → IsNew (rest_of all) key
new-rest all key root none place a pick = none place a (subst (λ (z : List Anchored). slice_get z place ≡ Some a) (sym root) pick)

-- all entries but the first are those that were added
pub rest_long : (leaves : List LeafEntry) → BeginsWithRoot (all_of leaves) → length leaves ≡ length (rest_of (all_of leaves)) + 1
rest_long leaves root = omega (arith, all-long leaves, ap length root)
