-- One more anchor: what stands of the nodes. To know: `grown-stands`, `begun-stands`, `kept-stands`, `last-kept`.
use Rattle.std.proofs.Common.{◌≡◌, ℕ, Bool, true, false, cond, ◌||◌, List, [], ◌∷◌, ◌++◌, length, refl, sym, ap, ◌∙◌, subst, ◌⊎◌, inl, inr, eq-eqb}
use Rattle.std.specs.Prelude.{Option, Some, None, is_none, slice_get, ◌==◌}
use Rattle.std.specs.Ordering.{is_lt}
use Rattle.std.specs.declared.cmp.Ordering.{Ordering}
use Rattle.std.specs.declared.cmp.Ordering.TheVariants.{Less, Equal, Greater}
use Rattle.std.proofs.lemmas.List.{append_assoc, append-nil}
use Rattle.std.proofs.lemmas.Bool.{eqb-true}
use Rattle.rdb_base.specs.Order.{key_cmp}
use Rattle.meta_trie.specs.Tries.{Anchored}
use Rattle.meta_trie.specs.declared.node.Node.{Node}
use Rattle.meta_trie.specs.Growths.{first_of, comes, Grows, Begun}
use Rattle.meta_trie.specs.Nodes.{Pick, Begins, Below, AtMost, Best, Last, Least, Greatest, has_next, NodeStands}
use Rattle.meta_trie.proofs.PrefixLemmas.{below-irrefl, below-trans, at_most-below, at_most-trans, at_most-both, not-below, compared}
use Rattle.meta_trie.proofs.CaseLemmas.{next_begins, front-at_most}
use Rattle.rdb_base.proofs.PlaceLemmas.{get_last, get_more, get_snoc}

-- what follows a front begins with one byte more
append-same : (p x y : List ℕ) → p ++ x ≡ p ++ y → x ≡ y
append-same [] x y e = e
append-same (c ∷ p) x y e = append-same p x y (tail c (p ++ x) (p ++ y) e)
  where
    tail : (c : ℕ) (xs ys : List ℕ) → c ∷ xs ≡ c ∷ ys → xs ≡ ys
    tail c xs ys e = cc

pub next-of : (p a : List ℕ) (rest : List ℕ) (c : ℕ) → a ≡ p ++ rest → Begins (p ++ c ∷ []) a → first_of rest ≡ Some c
next-of p a rest c e (x, f) = ap first_of (append-same p rest (c ∷ x) (sym e ∙ f ∙ append_assoc p (c ∷ []) x))

some_byte : (c d : ℕ) → Some c ≡ Some d → c ≡ d
some_byte c d e = cc

comes-first : (next : Option ℕ) (c : ℕ) → next ≡ Some c → comes next c ≡ true
comes-first None c e = absurd cc
comes-first (Some d) c e = eq-eqb c d (sym (some_byte d c e))

first-comes : (p a rest : List ℕ) (c : ℕ) → a ≡ p ++ rest → comes (first_of rest) c ≡ true → Begins (p ++ c ∷ []) a
first-comes p a [] c e h = absurd cc
first-comes p a (d ∷ rest) c e h = subst (λ z. Begins (p ++ z ∷ []) a) (sym (eqb-true c d h)) (next_begins p a d rest e)

or-right : (s t : Bool) → t ≡ true → (s || t) ≡ true
or-right true t e = refl
or-right false t e = e

or-left : (s t : Bool) → s ≡ true → (s || t) ≡ true
or-left true t e = refl
or-left false t e = absurd cc

or-split : (s t : Bool) → (s || t) ≡ true → (s ≡ true) ⊎ (t ≡ true)
or-split true t e = inl refl
or-split false t e = inr e

or-none : (s t : Bool) → (s || t) ≡ false → (s ≡ false) × (t ≡ false)
or-none true t e = absurd cc
or-none false t e = (refl, e)

whole : (p a rest : List ℕ) → a ≡ p ++ rest → is_none (first_of rest) ≡ true → a ≡ p
whole p a [] e h = e ∙ append-nil p
whole p a (c ∷ rest) e h = absurd cc

not_whole : (p a rest : List ℕ) → a ≡ p ++ rest → is_none (first_of rest) ≡ false → a ≡ p → ⊥
not_whole p a [] e h f = absurd cc
not_whole p a (c ∷ rest) e h f = nil_cons (append-same p (c ∷ rest) [] (sym e ∙ f ∙ sym (append-nil p)))
  where
    nil_cons : c ∷ rest ≡ [] → ⊥
    nil_cons g = absurd cc

module _ (all : List Anchored) (a : Anchored) (p rest : List ℕ) (is : a.anchor ≡ p ++ rest) where
  -- the new anchor alone begins with the prefix
  pub begun-stands : (m : Node) → Begun (length all) (first_of rest) m → ((j : ℕ) (b : Anchored) → Pick all j b → Begins p b.anchor → ⊥) → NodeStands (all ++ a ∷ []) p m
  begun-stands m begun none = record {
    least = (a, record { pick = here m.least begun.least; begins = (rest, is); least = λ j b e f. inr (ap (λ (x : Anchored). x.anchor) (only j b e f)) });
    greatest = (a, record { pick = here m.greatest begun.greatest; begins = (rest, is); greatest = λ j b e f. inr (sym (ap (λ (x : Anchored). x.anchor) (only j b e f))) });
    own = λ e. (a, here m.least begun.least, whole p a.anchor rest is (sym begun.own ∙ e));
    bare = λ e j b f g. not_whole p a.anchor rest is (sym begun.own ∙ e) (ap (λ (x : Anchored). x.anchor) (only j b f ([], g ∙ sym (append-nil p))) ∙ g);
    next = λ c h. (length all, a, get_last all a, first-comes p a.anchor rest c is (sym (begun.nexts c) ∙ h));
    nexts = λ j b c e f. begun.nexts c ∙ comes-first (first_of rest) c (next-of p a.anchor rest c is (subst (λ (x : Anchored). Begins (p ++ c ∷ []) x.anchor) (sym (only j b e (shorter c b.anchor f))) f));
  }
    where
      here : (i : ℕ) → i ≡ length all → Pick (all ++ a ∷ []) i a
      here i e = ap (slice_get (all ++ a ∷ [])) e ∙ get_last all a

      shorter : (c : ℕ) (b : List ℕ) → Begins (p ++ c ∷ []) b → Begins p b
      shorter c b (x, f) = (c ∷ x, f ∙ append_assoc p (c ∷ []) x)

      only : (j : ℕ) (b : Anchored) → Pick (all ++ a ∷ []) j b → Begins p b.anchor → a ≡ b
      only j b e f = by (get_snoc all a b j e)
        where
          by : Pick all j b ⊎ ((j ≡ length all) × (a ≡ b)) → a ≡ b
          by (inl h) = absurd (none j b h f)
          by (inr h) = h.1

  -- one more anchor begins with the prefix
  pub grown-stands : (n m : Node) (l g : Anchored) (less more : Bool) → NodeStands all p n → Least all p n.least l → Greatest all p n.greatest g
      → less ≡ is_lt (key_cmp a.anchor l.anchor) → more ≡ is_lt (key_cmp g.anchor a.anchor)
      → Grows n (length all) (first_of rest) less more m → NodeStands (all ++ a ∷ []) p m
  grown-stands n m l g less more old least greatest less_is more_is grows = record {
    least = by_less less less_is grows.least;
    greatest = by_more more more_is grows.greatest;
    own = own_is;
    bare = λ e j b f. bare_is (or-none (is_none (first_of rest)) n.own (sym grows.own ∙ e)) j b (get_snoc all a b j f);
    next = λ c h. next_is c (or-split (comes (first_of rest) c) (has_next n.nexts c) (sym (grows.nexts c) ∙ h));
    nexts = λ j b c e f. grows.nexts c ∙ nexts_is j b c f (get_snoc all a b j e);
  }
    where
      at_new : (i : ℕ) → i ≡ length all → Pick (all ++ a ∷ []) i a
      at_new i e = ap (slice_get (all ++ a ∷ [])) e ∙ get_last all a

      at_old : (i j : ℕ) (b : Anchored) → i ≡ j → Pick all j b → Pick (all ++ a ∷ []) i b
      at_old i j b e f = ap (slice_get (all ++ a ∷ [])) e ∙ get_more all (a ∷ []) j b f

      not_less : is_lt (key_cmp a.anchor l.anchor) ≡ false → AtMost l.anchor a.anchor
      not_less e = by (compared l.anchor a.anchor)
        where
          by : AtMost l.anchor a.anchor ⊎ Below a.anchor l.anchor → AtMost l.anchor a.anchor
          by (inl h) = h
          by (inr h) = absurd (let yes : is_lt (key_cmp a.anchor l.anchor) ≡ true = ap is_lt h in cc)

      not_more : is_lt (key_cmp g.anchor a.anchor) ≡ false → AtMost a.anchor g.anchor
      not_more e = by (compared a.anchor g.anchor)
        where
          by : AtMost a.anchor g.anchor ⊎ Below g.anchor a.anchor → AtMost a.anchor g.anchor
          by (inl h) = h
          by (inr h) = absurd (let yes : is_lt (key_cmp g.anchor a.anchor) ≡ true = ap is_lt h in cc)

      lt_is : (r : Ordering) → is_lt r ≡ true → r ≡ Less
      lt_is Less e = refl
      lt_is Equal e = absurd cc
      lt_is Greater e = absurd cc

      least_of : (x : Anchored) → AtMost x.anchor a.anchor → AtMost x.anchor l.anchor → (j : ℕ) (b : Anchored) → Pick (all ++ a ∷ []) j b → Begins p b.anchor → AtMost x.anchor b.anchor
      least_of x mine theirs j b e f = by (get_snoc all a b j e)
        where
          by : Pick all j b ⊎ ((j ≡ length all) × (a ≡ b)) → AtMost x.anchor b.anchor
          by (inl h) = at_most-trans x.anchor l.anchor b.anchor theirs (least.least j b h f)
          by (inr h) = subst (λ (y : Anchored). AtMost x.anchor y.anchor) h.1 mine

      greatest_of : (x : Anchored) → AtMost a.anchor x.anchor → AtMost g.anchor x.anchor → (j : ℕ) (b : Anchored) → Pick (all ++ a ∷ []) j b → Begins p b.anchor → AtMost b.anchor x.anchor
      greatest_of x mine theirs j b e f = by (get_snoc all a b j e)
        where
          by : Pick all j b ⊎ ((j ≡ length all) × (a ≡ b)) → AtMost b.anchor x.anchor
          by (inl h) = at_most-trans b.anchor g.anchor x.anchor (greatest.greatest j b h f) theirs
          by (inr h) = subst (λ (y : Anchored). AtMost y.anchor x.anchor) h.1 mine

      by_less : (s : Bool) → s ≡ is_lt (key_cmp a.anchor l.anchor) → m.least ≡ cond s (length all) n.least → (x : Anchored) × Least (all ++ a ∷ []) p m.least x
      by_less true e i = (a, record { pick = at_new m.least i; begins = (rest, is); least = least_of a (inr refl) (inl (lt_is (key_cmp a.anchor l.anchor) (sym e))) })
      by_less false e i = (l, record { pick = at_old m.least n.least l i least.pick; begins = least.begins; least = least_of l (not_less (sym e)) (inr refl) })

      by_more : (s : Bool) → s ≡ is_lt (key_cmp g.anchor a.anchor) → m.greatest ≡ cond s (length all) n.greatest → (x : Anchored) × Greatest (all ++ a ∷ []) p m.greatest x
      by_more true e i = (a, record { pick = at_new m.greatest i; begins = (rest, is); greatest = greatest_of a (inr refl) (inl (lt_is (key_cmp g.anchor a.anchor) (sym e))) })
      by_more false e i = (g, record { pick = at_old m.greatest n.greatest g i greatest.pick; begins = greatest.begins; greatest = greatest_of g (not_more (sym e)) (inr refl) })

      own_is : m.own ≡ true → (x : Anchored) × Pick (all ++ a ∷ []) m.least x × (x.anchor ≡ p)
      own_is e = by (by_less less less_is grows.least) (or-split (is_none (first_of rest)) n.own (sym grows.own ∙ e))
        where
          at_front : (x : Anchored) → Least (all ++ a ∷ []) p m.least x → (j : ℕ) (b : Anchored) → Pick (all ++ a ∷ []) j b → b.anchor ≡ p → x.anchor ≡ p
          at_front x h j b f same = at_most-both x.anchor p (subst (λ y. AtMost x.anchor y) same (h.least j b f ([], same ∙ sym (append-nil p)))) (subst (λ y. AtMost p y) (sym h.begins.1) (front-at_most p h.begins.0))

          by : (x : Anchored) × Least (all ++ a ∷ []) p m.least x → (is_none (first_of rest) ≡ true) ⊎ (n.own ≡ true) → (x : Anchored) × Pick (all ++ a ∷ []) m.least x × (x.anchor ≡ p)
          by found (inl h) = (found.0, found.1.pick, at_front found.0 found.1 (length all) a (get_last all a) (whole p a.anchor rest is h))
          by found (inr h) = let mine = old.own h in (found.0, found.1.pick, at_front found.0 found.1 n.least mine.0 (get_more all (a ∷ []) n.least mine.0 mine.1) mine.2)

      bare_is : (is_none (first_of rest) ≡ false) × (n.own ≡ false) → (j : ℕ) (b : Anchored) → Pick all j b ⊎ ((j ≡ length all) × (a ≡ b)) → b.anchor ≡ p → ⊥
      bare_is h j b (inl f) e = old.bare h.1 j b f e
      bare_is h j b (inr f) e = not_whole p a.anchor rest is h.0 (ap (λ (x : Anchored). x.anchor) f.1 ∙ e)

      next_is : (c : ℕ) → (comes (first_of rest) c ≡ true) ⊎ (has_next n.nexts c ≡ true) → (j : ℕ) × (b : Anchored) × Pick (all ++ a ∷ []) j b × Begins (p ++ c ∷ []) b.anchor
      next_is c (inl h) = (length all, a, get_last all a, first-comes p a.anchor rest c is h)
      next_is c (inr h) = let some = old.next c h in (some.0, some.1, get_more all (a ∷ []) some.0 some.1 some.2, some.3)

      nexts_is : (j : ℕ) (b : Anchored) (c : ℕ) → Begins (p ++ c ∷ []) b.anchor → Pick all j b ⊎ ((j ≡ length all) × (a ≡ b)) → (comes (first_of rest) c || has_next n.nexts c) ≡ true
      nexts_is j b c f (inl h) = or-right (comes (first_of rest) c) (has_next n.nexts c) (old.nexts j b c h f)
      nexts_is j b c f (inr h) = or-left (comes (first_of rest) c) (has_next n.nexts c) (comes-first (first_of rest) c (next-of p a.anchor rest c is (subst (λ (x : Anchored). Begins (p ++ c ∷ []) x.anchor) (sym h.1) f)))

-- a prefix that the new anchor does not begin with
pub kept-stands : (all : List Anchored) (a : Anchored) (p : List ℕ) (n : Node) → (Begins p a.anchor → ⊥) → NodeStands all p n → NodeStands (all ++ a ∷ []) p n
kept-stands all a p n apart old = record {
  least = (old.least.0, record { pick = get_more all (a ∷ []) n.least old.least.0 old.least.1.pick; begins = old.least.1.begins; least = λ j b e f. old.least.1.least j b (was j b e f) f });
  greatest = (old.greatest.0, record { pick = get_more all (a ∷ []) n.greatest old.greatest.0 old.greatest.1.pick; begins = old.greatest.1.begins; greatest = λ j b e f. old.greatest.1.greatest j b (was j b e f) f });
  own = λ e. let mine = old.own e in (mine.0, get_more all (a ∷ []) n.least mine.0 mine.1, mine.2);
  bare = λ e j b f g. old.bare e j b (was j b f ([], g ∙ sym (append-nil p))) g;
  next = λ c h. let some = old.next c h in (some.0, some.1, get_more all (a ∷ []) some.0 some.1 some.2, some.3);
  nexts = λ j b c e f. old.nexts j b c (was j b e (c ∷ f.0, f.1 ∙ append_assoc p (c ∷ []) f.0)) f;
}
  where
    was : (j : ℕ) (b : Anchored) → Pick (all ++ a ∷ []) j b → Begins p b.anchor → Pick all j b
    was j b e f = by (get_snoc all a b j e)
      where
        by : Pick all j b ⊎ ((j ≡ length all) × (a ≡ b)) → Pick all j b
        by (inl h) = h
        by (inr h) = absurd (apart (subst (λ (x : Anchored). Begins p x.anchor) (sym h.1) f))

pub begins_or : (p a : List ℕ) → Begins p a ⊎ (Begins p a → ⊥)
begins_or [] a = inl (a, refl)
begins_or (x ∷ p) [] = inr (λ h. nil_cons x (p ++ h.0) h.1)
  where
    nil_cons : (x : ℕ) (xs : List ℕ) → [] ≡ x ∷ xs → ⊥
    nil_cons x xs e = absurd cc
begins_or (x ∷ p) (c ∷ a) = by (c == x) refl (begins_or p a)
  where
    heads : (xs ys : List ℕ) → c ∷ xs ≡ x ∷ ys → (c ≡ x) × (xs ≡ ys)
    heads xs ys e = (cc, cc)

    by : (b : Bool) → (c == x) ≡ b → Begins p a ⊎ (Begins p a → ⊥) → Begins (x ∷ p) (c ∷ a) ⊎ (Begins (x ∷ p) (c ∷ a) → ⊥)
    by true e (inl h) = let same : c ≡ x = eqb-true c x e in inl (h.0, λ i. same i ∷ h.1 i)
    by true e (inr f) = inr (λ h. f (h.0, (heads a (p ++ h.0) h.1).1))
    by false e s = inr (λ h. differ (eq-eqb c x (heads a (p ++ h.0) h.1).0))
      where
        differ : (c == x) ≡ true → ⊥
        differ f = absurd cc

-- the greatest anchor not above a new one is below it
pub best-last : (all : List Anchored) (key : List ℕ) (i : ℕ) (x : Anchored) → ((j : ℕ) (b : Anchored) → Pick all j b → b.anchor ≡ key → ⊥) → Best all key i x → Last all key i x
best-last all key i x new best = record { pick = best.pick; below = by best.fits; last = λ j b e h. best.best j b e (inl h) }
  where
    by : AtMost x.anchor key → Below x.anchor key
    by (inl h) = h
    by (inr e) = absurd (new i x best.pick e)

module _ (all : List Anchored) (a : Anchored) (new : (j : ℕ) (b : Anchored) → Pick all j b → b.anchor ≡ a.anchor → ⊥) (i : ℕ) (x : Anchored) (pred : Last all a.anchor i x) where
  pub last-new : Last (all ++ a ∷ []) a.anchor i x
  last-new = record { pick = get_more all (a ∷ []) i x pred.pick; below = pred.below; last = λ j b e h. by j b h (get_snoc all a b j e) }
    where
      by : (j : ℕ) (b : Anchored) → Below b.anchor a.anchor → Pick all j b ⊎ ((j ≡ length all) × (a ≡ b)) → AtMost b.anchor x.anchor
      by j b h (inl e) = pred.last j b e h
      by j b h (inr e) = absurd (below-irrefl a.anchor (subst (λ (y : Anchored). Below y.anchor a.anchor) (sym e.1) h))

  -- the anchor that the new one's was before has the new one before it
  pub last-moved : (j : ℕ) (b : Anchored) → Pick all j b → Last all b.anchor i x → Last (all ++ a ∷ []) b.anchor (length all) a
  last-moved j b pick old = record { pick = get_last all a; below = by (compared a.anchor b.anchor); last = λ k c e h. all_of k c h (get_snoc all a c k e) }
    where
      by : AtMost a.anchor b.anchor ⊎ Below b.anchor a.anchor → Below a.anchor b.anchor
      by (inl (inl h)) = h
      by (inl (inr e)) = absurd (new j b pick (sym e))
      by (inr h) = absurd (not-below b.anchor x.anchor (pred.last j b pick h) old.below)

      all_of : (k : ℕ) (c : Anchored) → Below c.anchor b.anchor → Pick all k c ⊎ ((k ≡ length all) × (a ≡ c)) → AtMost c.anchor a.anchor
      all_of k c h (inl e) = inl (at_most-below c.anchor x.anchor a.anchor (old.last k c e h) pred.below)
      all_of k c h (inr e) = inr (ap (λ (y : Anchored). y.anchor) (sym e.1))

  -- every other one keeps the anchor before it
  pub last-kept : (q : ℕ) (y b : Anchored) → (y.anchor ≡ x.anchor → ⊥) → Last all b.anchor q y → Last (all ++ a ∷ []) b.anchor q y
  last-kept q y b other old = record { pick = get_more all (a ∷ []) q y old.pick; below = old.below; last = λ k c e h. by k c h (get_snoc all a c k e) }
    where
      mine : Below a.anchor b.anchor → AtMost a.anchor y.anchor ⊎ Below y.anchor a.anchor → AtMost a.anchor y.anchor
      mine h (inl e) = e
      mine h (inr g) = absurd (other (at_most-both y.anchor x.anchor (pred.last q y old.pick g) (old.last i x pred.pick (below-trans x.anchor a.anchor b.anchor pred.below h))))

      by : (k : ℕ) (c : Anchored) → Below c.anchor b.anchor → Pick all k c ⊎ ((k ≡ length all) × (a ≡ c)) → AtMost c.anchor y.anchor
      by k c h (inl e) = old.last k c e h
      by k c h (inr e) = subst (λ (z : Anchored). AtMost z.anchor y.anchor) e.1 (mine (subst (λ (z : Anchored). Below z.anchor b.anchor) (sym e.1) h) (compared a.anchor y.anchor))
