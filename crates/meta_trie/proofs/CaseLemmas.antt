-- The three cases behind the longest prefix that is there. To know: `own-best`, `before-best`, `child-best`.
use Rattle.std.proofs.Common.{◌≡◌, ℕ, ◌<◌, true, false, List, [], ◌∷◌, ◌++◌, refl, sym, ap, ◌∙◌, subst, ◌⊎◌, inl, inr}
use Rattle.std.specs.Prelude.{Option, Some, None}
use Rattle.std.specs.Ordering.{nat_cmp, ordering_then, MatchOrdering}
use Rattle.std.specs.Cmp.{nat_cmp_is, ranks}
use Rattle.std.specs.declared.cmp.Ordering.{Ordering}
use Rattle.std.specs.declared.cmp.Ordering.TheVariants.{Less, Equal, Greater}
use Rattle.std.proofs.lemmas.List.{append_assoc, append-nil}
use Rattle.rdb_base.specs.Order.{key_cmp}
use Rattle.rdb_base.proofs.KeyOrder.{same_key, key_cmp-same}
use Rattle.meta_trie.specs.Tries.{Anchored}
use Rattle.meta_trie.specs.declared.node.Node.{Node}
use Rattle.meta_trie.specs.Nodes.{Pick, Begins, AtMost, Best, Last, Least, Greatest, has_next, TrieStands}
use Rattle.meta_trie.proofs.PrefixLemmas.{at_most-both, not-below, splits, key_cmp-append}

pub head_less : (c d : ℕ) (xs ys : List ℕ) → c < d → key_cmp (c ∷ xs) (d ∷ ys) ≡ Less
head_less c d xs ys lt = ap (λ r. ordering_then r (key_cmp xs ys)) (sym (nat_cmp_is c d Less lt))

-- what a front is, and what follows it
pub front-at_most : (p x : List ℕ) → AtMost p (p ++ x)
front-at_most p [] = inr (sym (append-nil p))
front-at_most p (c ∷ x) = inl (ap (λ q. key_cmp q (p ++ c ∷ x)) (sym (append-nil p)) ∙ key_cmp-append p [] (c ∷ x))

pub alike : (b y z : List ℕ) → key_cmp b y ≡ key_cmp b z → AtMost b y → AtMost b z
alike b y z e (inl h) = inl (sym e ∙ h)
alike b y z e (inr h) = inr (same_key b z (sym e ∙ ap (key_cmp b) (sym h) ∙ key_cmp-same b))

-- no anchor that begins with the front is at most the key, but the front itself
abbrev pub Stops : List Anchored → List ℕ → List ℕ → Type 0
Stops all p key = (j : ℕ) (b : Anchored) → Pick all j b → Begins p b.anchor → AtMost b.anchor key → b.anchor ≡ p

-- the key is the front
pub stops-whole : (all : List Anchored) (p key : List ℕ) → key ≡ p → Stops all p key
stops-whole all p key e j b pick (rest, is) fits = at_most-both b.anchor p (subst (λ k. AtMost b.anchor k) e fits) (subst (λ x. AtMost p x) (sym is) (front-at_most p rest))

-- a byte further on
step_on : (p : List ℕ) (c : ℕ) (x : List ℕ) → (p ++ c ∷ []) ++ x ≡ p ++ c ∷ x
step_on p c x = append_assoc p (c ∷ []) x

pub next_begins : (p b : List ℕ) (c : ℕ) (x : List ℕ) → b ≡ p ++ c ∷ x → Begins (p ++ c ∷ []) b
next_begins p b c x e = (x, e ∙ sym (step_on p c x))

above_fits : (p b key : List ℕ) (d c : ℕ) (x kr : List ℕ) → b ≡ p ++ d ∷ x → key ≡ p ++ c ∷ kr → c < d → AtMost b key → ⊥
above_fits p b key d c x kr is k lt fits = not-below b key fits (ap (λ y. key_cmp y b) k ∙ ap (key_cmp (p ++ c ∷ kr)) is ∙ key_cmp-append p (c ∷ kr) (d ∷ x) ∙ head_less c d kr x lt)

-- no byte below the key's next one comes next, and neither does the key's
pub stops-inside : (all : List Anchored) (previous : List ℕ) (at : List ℕ → Option Node) (p key : List ℕ) (n : Node) (c : ℕ) (kr : List ℕ)
    → TrieStands all previous at → at p ≡ Some n → key ≡ p ++ c ∷ kr → at (p ++ c ∷ []) ≡ None
    → ((d : ℕ) → d < c → has_next n.nexts d ≡ false) → Stops all p key
stops-inside all previous at p key n c kr h is k gone none j b pick (rest, e) fits = by rest e
  where
    by : (rest : List ℕ) → b.anchor ≡ p ++ rest → b.anchor ≡ p
    by [] e = e ∙ append-nil p
    by (d ∷ x) e = by_order (nat_cmp d c) (ranks d c)
      where
        by_order : (r : Ordering) → MatchOrdering r (d < c) (d ≡ c) (c < d) → b.anchor ≡ p
        by_order Less l =
            let yes : has_next n.nexts d ≡ true = (h.nodes p n is).nexts j b d pick (next_begins p b.anchor d x e) in
            let no : has_next n.nexts d ≡ false = none d l in
            absurd cc
        by_order Equal l = absurd (h.there j b (p ++ c ∷ []) pick (subst (λ q. Begins (p ++ q ∷ []) b.anchor) l (next_begins p b.anchor d x e)) gone)
        by_order Greater l = absurd (above_fits p b.anchor key d c x kr e k l fits)

pub own-best : (all : List Anchored) (p key kr : List ℕ) (i : ℕ) (a : Anchored) → key ≡ p ++ kr → Stops all p key → Pick all i a → a.anchor ≡ p → Best all key i a
own-best all p key kr i a k stops pick own = record {
  pick = pick;
  fits = subst (λ x. AtMost x key) (sym own) (subst (λ x. AtMost p x) (sym k) (front-at_most p kr));
  best = all_best;
}
  where
    all_best : (j : ℕ) (b : Anchored) → Pick all j b → AtMost b.anchor key → AtMost b.anchor a.anchor
    all_best j b is fits = by (splits p b.anchor)
      where
        by : Begins p b.anchor ⊎ ((y z : List ℕ) → key_cmp b.anchor (p ++ y) ≡ key_cmp b.anchor (p ++ z)) → AtMost b.anchor a.anchor
        by (inl begins) = inr (stops j b is begins fits ∙ sym own)
        by (inr f) = subst (λ x. AtMost b.anchor x) (append-nil p ∙ sym own) (alike b.anchor (p ++ kr) (p ++ []) (f kr []) (subst (λ x. AtMost b.anchor x) k fits))

pub before-best : (all : List Anchored) (p key kr : List ℕ) (l : Anchored) (m i : ℕ) (a : Anchored) → key ≡ p ++ kr → Stops all p key
    → ((j : ℕ) (b : Anchored) → Pick all j b → b.anchor ≡ p → ⊥) → Least all p m l → Last all l.anchor i a → Best all key i a
before-best all p key kr l m i a k stops bare least last = record { pick = last.pick; fits = fits; best = all_best }
  where
    lr : List ℕ
    lr = least.begins.0

    l_is : l.anchor ≡ p ++ lr
    l_is = least.begins.1

    fits : AtMost a.anchor key
    fits = by (splits p a.anchor)
      where
        by : Begins p a.anchor ⊎ ((y z : List ℕ) → key_cmp a.anchor (p ++ y) ≡ key_cmp a.anchor (p ++ z)) → AtMost a.anchor key
        by (inl begins) = absurd (not-below l.anchor a.anchor (least.least i a last.pick begins) last.below)
        by (inr f) = inl (ap (key_cmp a.anchor) k ∙ f kr lr ∙ ap (key_cmp a.anchor) (sym l_is) ∙ last.below)

    all_best : (j : ℕ) (b : Anchored) → Pick all j b → AtMost b.anchor key → AtMost b.anchor a.anchor
    all_best j b is fit = by (splits p b.anchor)
      where
        under : AtMost b.anchor (p ++ lr) → AtMost b.anchor a.anchor
        under (inl h) = last.last j b is (ap (key_cmp b.anchor) l_is ∙ h)
        under (inr e) = absurd (bare j b is (stops j b is (lr, e) fit))

        by : Begins p b.anchor ⊎ ((y z : List ℕ) → key_cmp b.anchor (p ++ y) ≡ key_cmp b.anchor (p ++ z)) → AtMost b.anchor a.anchor
        by (inl begins) = absurd (bare j b is (stops j b is begins fit))
        by (inr f) = under (alike b.anchor (p ++ kr) (p ++ lr) (f kr lr) (subst (λ x. AtMost b.anchor x) k fit))

pub child-best : (all : List Anchored) (previous : List ℕ) (at : List ℕ → Option Node) (p key : List ℕ) (n : Node) (c : ℕ) (kr : List ℕ) (d i : ℕ) (g : Anchored)
    → TrieStands all previous at → at p ≡ Some n → key ≡ p ++ c ∷ kr → at (p ++ c ∷ []) ≡ None → d < c
    → ((e : ℕ) → d < e → e < c → has_next n.nexts e ≡ false) → Greatest all (p ++ d ∷ []) i g → Best all key i g
child-best all previous at p key n c kr d i g h is k gone lt none greatest = record { pick = greatest.pick; fits = inl (ap (key_cmp g.anchor) k ∙ ap (λ y. key_cmp y (p ++ c ∷ kr)) g_is ∙ key_cmp-append p (d ∷ gr) (c ∷ kr) ∙ head_less d c gr kr lt); best = all_best }
  where
    gr : List ℕ
    gr = greatest.begins.0

    g_is : g.anchor ≡ p ++ d ∷ gr
    g_is = greatest.begins.1 ∙ step_on p d gr

    below_g : (b x : List ℕ) → b ≡ p ++ x → key_cmp x (d ∷ gr) ≡ Less → AtMost b g.anchor
    below_g b x e l = inl (ap (key_cmp b) g_is ∙ ap (λ y. key_cmp y (p ++ d ∷ gr)) e ∙ key_cmp-append p x (d ∷ gr) ∙ l)

    all_best : (j : ℕ) (b : Anchored) → Pick all j b → AtMost b.anchor key → AtMost b.anchor g.anchor
    all_best j b pick fits = by (splits p b.anchor)
      where
        by_rest : (rest : List ℕ) → b.anchor ≡ p ++ rest → AtMost b.anchor g.anchor
        by_rest [] e = below_g b.anchor [] e refl
        by_rest (f ∷ x) e = by_order (nat_cmp f d) (ranks f d)
          where
            beyond : d < f → (r : Ordering) → MatchOrdering r (f < c) (f ≡ c) (c < f) → AtMost b.anchor g.anchor
            beyond over Less l =
                let yes : has_next n.nexts f ≡ true = (h.nodes p n is).nexts j b f pick (next_begins p b.anchor f x e) in
                let no : has_next n.nexts f ≡ false = none f over l in
                absurd cc
            beyond over Equal l = absurd (h.there j b (p ++ c ∷ []) pick (subst (λ q. Begins (p ++ q ∷ []) b.anchor) l (next_begins p b.anchor f x e)) gone)
            beyond over Greater l = absurd (above_fits p b.anchor key f c x kr e k l fits)

            by_order : (r : Ordering) → MatchOrdering r (f < d) (f ≡ d) (d < f) → AtMost b.anchor g.anchor
            by_order Less l = below_g b.anchor (f ∷ x) e (head_less f d x gr l)
            by_order Equal l = greatest.greatest j b pick (subst (λ q. Begins (p ++ q ∷ []) b.anchor) l (next_begins p b.anchor f x e))
            by_order Greater l = beyond l (nat_cmp f c) (ranks f c)

        by : Begins p b.anchor ⊎ ((y z : List ℕ) → key_cmp b.anchor (p ++ y) ≡ key_cmp b.anchor (p ++ z)) → AtMost b.anchor g.anchor
        by (inl begins) = by_rest begins.0 begins.1
        by (inr f) = subst (λ x. AtMost b.anchor x) (sym g_is) (alike b.anchor (p ++ c ∷ kr) (p ++ d ∷ gr) (f (c ∷ kr) (d ∷ gr)) (subst (λ x. AtMost b.anchor x) k fits))
