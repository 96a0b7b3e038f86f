-- What the search for a key's anchor knows at each of its ends. To know: `found-child`, `found-own`, `found-before`.
use Rattle.std.proofs.Common.{◌≡◌, ℕ, zero, suc, ◌<◌, ◌≤◌, true, false, List, [], ◌∷◌, ◌++◌, length, take, drop, get_or, refl, sym, ap, ◌∙◌, subst, arith, ◌⊎◌, inl, inr}
use Rattle.std.specs.Prelude.{Option, Some, None, is_some, slice_get, slice_index}
use Rattle.std.proofs.lemmas.List.{append_assoc, append-nil}
use Rattle.meta_trie.specs.Tries.{Anchored, root, cover, deepest}
use Rattle.meta_trie.specs.declared.node.Node.{Node}
use Rattle.meta_trie.specs.declared.leaf_entry.LeafEntry.{LeafEntry}
use Rattle.meta_trie.specs.Leaves.{all_of, previouses, anchored, BeginsWithRoot, rest_of}
use Rattle.meta_trie.specs.Nodes.{Pick, Begins, Best, has_next, NextBelow, TrieStands}
use Rattle.meta_trie.proofs.DeepestLemmas.{IsDeepest, deepest-is}
use Rattle.meta_trie.proofs.CoverLemmas.{cover-is}
use Rattle.meta_trie.proofs.CaseLemmas.{Stops, stops-whole, stops-inside, own-best, before-best, child-best}
use Rattle.rdb_base.proofs.PlaceLemmas.{some_injective}

pub begins-trans : (p q a : List ℕ) → Begins p q → Begins q a → Begins p a
begins-trans p q a (x, e) (y, f) = (x ++ y, f ∙ ap (λ z. z ++ y) e ∙ append_assoc p x y)

pub begins-take : (m n : ℕ) (key : List ℕ) → m ≤ n → Begins (take m key) (take n key)
begins-take zero n key le = (take n key, refl)
begins-take (suc m) zero key le = absurd (omega arith)
begins-take (suc m) (suc n) [] le = ([], refl)
begins-take (suc m) (suc n) (k ∷ key) le = let rest = begins-take m n key (omega arith) in (rest.0, ap (λ z. k ∷ z) rest.1)

-- the key without its front begins with this byte
pub take-next : (n : ℕ) (key : List ℕ) (c : ℕ) (more : List ℕ) → drop n key ≡ c ∷ more → (take (suc n) key ≡ take n key ++ c ∷ []) × (suc n ≤ length key)
take-next zero [] c more e = absurd cc
take-next zero (k ∷ key) c more e = (ap (λ (z : ℕ). z ∷ []) (first k c key more e), omega arith)
  where
    first : (a b : ℕ) (xs ys : List ℕ) → a ∷ xs ≡ b ∷ ys → a ≡ b
    first a b xs ys e = cc
take-next (suc n) [] c more e = absurd cc
take-next (suc n) (k ∷ key) c more e = let rest = take-next n key c more e in (ap (λ z. k ∷ z) rest.0, omega (arith, rest.1))

pub pick-in : (leaves : List LeafEntry) (i : ℕ) (a : Anchored) → Pick (all_of leaves) i a → i < length leaves
pick-in [] i a e = absurd cc
pick-in (x ∷ xs) zero a e = omega arith
pick-in (x ∷ xs) (suc i) a e = omega (arith, pick-in xs i a e)

pub pick-leaf : (leaves : List LeafEntry) (i : ℕ) (d : LeafEntry) (a : Anchored) → Pick (all_of leaves) i a → a.leaf ≡ (get_or leaves i d).leaf
pick-leaf [] i d a e = absurd cc
pick-leaf (x ∷ xs) zero d a e = ap (λ (z : Anchored). z.leaf) (sym (some_injective (anchored x) a e))
pick-leaf (x ∷ xs) (suc i) d a e = pick-leaf xs i d a e

pub before-at : (leaves : List LeafEntry) (i : ℕ) (d : LeafEntry) → i < length leaves → slice_index (previouses leaves) i ≡ (get_or leaves i d).previous
before-at [] i d lt = absurd (omega arith)
before-at (x ∷ xs) zero d lt = refl
before-at (x ∷ xs) (suc i) d lt = before-at xs i d (omega arith)

known : (o : Option Node) → (o ≡ None → ⊥) → is_some o ≡ true
known None f = absurd (f refl)
known (Some n) f = refl

pub is_none : (o : Option Node) → is_some o ≡ false → o ≡ None
is_none None e = refl
is_none (Some n) e = absurd cc

module _ (all : List Anchored) (previous : List ℕ) (at : List ℕ → Option Node) (h : TrieStands all previous at) where
  pub has-empty : BeginsWithRoot all → is_some (at []) ≡ true
  has-empty e = known (at []) (h.there 0 root [] (ap (λ xs. slice_get xs 0) e) ([], refl))

  pub has-shorter : (key : List ℕ) (m n : ℕ) → m ≤ n → is_some (at (take n key)) ≡ true → is_some (at (take m key)) ≡ true
  has-shorter key m n le is = by (at (take n key)) refl is
    where
      by : (o : Option Node) → at (take n key) ≡ o → is_some o ≡ true → is_some (at (take m key)) ≡ true
      by None e is = absurd cc
      by (Some node) e is =
          let least = (h.nodes (take n key) node e).least in
          known (at (take m key)) (h.there node.least least.0 (take m key) least.1.pick (begins-trans (take m key) (take n key) least.0.anchor (begins-take m n key le) least.1.begins))

  pub next-there : (p : List ℕ) (n : Node) (d : ℕ) → at p ≡ Some n → has_next n.nexts d ≡ true → is_some (at (p ++ d ∷ [])) ≡ true
  next-there p n d is has = let some = (h.nodes p n is).next d has in known (at (p ++ d ∷ [])) (h.there some.0 some.1 (p ++ d ∷ []) some.2 some.3)

  -- what follows the front is not there
  abbrev pub Gone : List ℕ → List ℕ → Type 0
  Gone p rest = (c : ℕ) (more : List ℕ) → rest ≡ c ∷ more → at (p ++ c ∷ []) ≡ None

  pub gone : (key : List ℕ) (len : ℕ) → ((n : ℕ) → len < n → n ≤ length key → is_some (at (take n key)) ≡ false) → Gone (take len key) (drop len key)
  gone key len longest c more e =
      let next = take-next len key c more e in
      ap at (sym next.0) ∙ is_none (at (take (suc len) key)) (longest (suc len) (omega arith) next.1)

  pub found-child : (p rest key : List ℕ) (n m : Node) (d : ℕ) → at p ≡ Some n → key ≡ p ++ rest → Gone p rest → NextBelow n rest (Some d) → at (p ++ d ∷ []) ≡ Some m → (a : Anchored) × Best all key m.greatest a
  found-child p rest key n m d is k none next there =
      let great = (h.nodes (p ++ d ∷ []) m there).greatest in
      (great.0, child-best all previous at p key n next.0 next.1 d m.greatest great.0 h is (k ∙ ap (λ z. p ++ z) next.2) (none next.0 next.1 next.2) next.3 next.5 great.1)

  stops : (p rest key : List ℕ) (n : Node) → at p ≡ Some n → key ≡ p ++ rest → Gone p rest → NextBelow n rest None → Stops all p key
  stops p [] key n is k none next = stops-whole all p key (k ∙ append-nil p)
  stops p (c ∷ more) key n is k none next = stops-inside all previous at p key n c more h is k (none c more refl) (next c more refl)

  pub found-own : (p rest key : List ℕ) (n : Node) → at p ≡ Some n → key ≡ p ++ rest → Gone p rest → NextBelow n rest None → n.own ≡ true → (a : Anchored) × Best all key n.least a
  found-own p rest key n is k none next own =
      let mine = (h.nodes p n is).own own in
      (mine.0, own-best all p key rest n.least mine.0 k (stops p rest key n is k none next) mine.1 mine.2)

  pub found-before : (p rest key : List ℕ) (n : Node) → at p ≡ Some n → key ≡ p ++ rest → Gone p rest → NextBelow n rest None → n.own ≡ false → (a : Anchored) × Best all key (slice_index previous n.least) a
  found-before p rest key n is k none next not_own =
      let node = h.nodes p n is in
      let least = node.least in
      let bare = node.bare not_own in
      let last = h.before n.least least.0 least.1.pick (λ e. bare n.least least.0 least.1.pick (e ∙ front_empty p least.1.begins.0 (sym e ∙ least.1.begins.1))) in
      (last.0, before-best all p key rest least.0 n.least (slice_index previous n.least) last.0 k (stops p rest key n is k none next) bare least.1 last.1)
    where
      front_empty : (p x : List ℕ) → [] ≡ p ++ x → [] ≡ p
      front_empty [] x e = refl
      front_empty (c ∷ p) x e = absurd cc

pub cover-found : (all : List Anchored) (key : List ℕ) (i : ℕ) (a : Anchored) → BeginsWithRoot all
    → ((i j : ℕ) (a b : Anchored) → Pick all i a → Pick all j b → a.anchor ≡ b.anchor → i ≡ j)
    → Best all key i a → cover (rest_of all) key ≡ a.leaf
cover-found all key i a e distinct best =
    cover-is (rest_of all) key i a (subst (λ (xs : List Anchored). (i j : ℕ) (a b : Anchored) → Pick xs i a → Pick xs j b → a.anchor ≡ b.anchor → i ≡ j) e distinct) (subst (λ (xs : List Anchored). Best xs key i a) e best)

pub deepest-of : (all : List Anchored) (previous : List ℕ) (at : List ℕ → Option Node) → TrieStands all previous at → (anchor : List ℕ) (len : ℕ) → len ≤ length anchor → is_some (at (take len anchor)) ≡ true
    → ((n : ℕ) → len < n → n ≤ length anchor → is_some (at (take n anchor)) ≡ false) → IsDeepest all anchor len
deepest-of all previous at h anchor len within is longest = record {
  within = within;
  there = by (at (take len anchor)) refl is;
  longest = λ n lt le j b pick f. h.there j b (take n anchor) pick f (is_none (at (take n anchor)) (longest n lt le));
}
  where
    by : (o : Option Node) → at (take len anchor) ≡ o → is_some o ≡ true → (j : ℕ) × (b : Anchored) × Pick all j b × Begins (take len anchor) b.anchor
    by None e is = absurd cc
    by (Some node) e is = let least = (h.nodes (take len anchor) node e).least in (node.least, least.0, least.1.pick, least.1.begins)

pub deepest-one : (all : List Anchored) (anchor : List ℕ) (m n : ℕ) → IsDeepest all anchor m → IsDeepest all anchor n → m ≡ n
deepest-one all anchor m n d e = by (order m n)
  where
    order : (m n : ℕ) → (m < n) ⊎ ((m ≡ n) ⊎ (n < m))
    order zero zero = inr (inl refl)
    order zero (suc n) = inl (omega arith)
    order (suc m) zero = inr (inr (omega arith))
    order (suc m) (suc n) = step m n (order m n)
      where
        step : (m n : ℕ) → (m < n) ⊎ ((m ≡ n) ⊎ (n < m)) → (suc m < suc n) ⊎ ((suc m ≡ suc n) ⊎ (suc n < suc m))
        step m n (inl h) = inl (omega arith)
        step m n (inr (inl h)) = inr (inl (ap suc h))
        step m n (inr (inr h)) = inr (inr (omega arith))

    by : (m < n) ⊎ ((m ≡ n) ⊎ (n < m)) → m ≡ n
    by (inl lt) = absurd (d.longest n lt e.within e.there.0 e.there.1 e.there.2 e.there.3)
    by (inr (inl same)) = same
    by (inr (inr lt)) = absurd (e.longest m lt d.within d.there.0 d.there.1 d.there.2 d.there.3)

-- the length of the longest prefix that has a node is that of the longest one that begins an anchor
pub site-one : (all : List Anchored) (anchor : List ℕ) (len : ℕ) → BeginsWithRoot all → IsDeepest all anchor len → len ≡ deepest (rest_of all) anchor
site-one all anchor len e d = deepest-one (root ∷ rest_of all) anchor len (deepest (rest_of all) anchor) (subst (λ (xs : List Anchored). IsDeepest xs anchor len) e d) (deepest-is (rest_of all) anchor)
