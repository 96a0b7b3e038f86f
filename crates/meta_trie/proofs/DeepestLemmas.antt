-- The longest prefix of an anchor that others have too, and the nodes of anchors. To know: `deepest-is`, `nodes_of-push`.
use Rattle.std.proofs.Common.{◌≡◌, ℕ, zero, suc, ◌+◌, ◌<◌, ◌≤◌, Bool, true, false, cond, max, List, [], ◌∷◌, ◌++◌, length, take, refl, sym, ap, subst, arith, ◌⊎◌, inl, inr, eq-eqb}
use Rattle.std.specs.Prelude.{◌==◌}
use Rattle.std.proofs.lemmas.Bool.{eqb-true, cases_lt}
use Rattle.std.proofs.lemmas.List.{append_assoc, append-nil}
use Rattle.meta_trie.specs.Tries.{Anchored, root, common, deepest, nodes_for, nodes_after, nodes_of}
use Rattle.meta_trie.specs.Nodes.{Pick, Begins}

-- the length of the longest prefix of an anchor that one of these anchors has, too
pub record IsDeepest (all : List Anchored) (anchor : List ℕ) (len : ℕ) : Type 0 where
  pub within : len ≤ length anchor
  pub there : (j : ℕ) × (b : Anchored) × Pick all j b × Begins (take len anchor) b.anchor
  pub longest : (n : ℕ) → len < n → n ≤ length anchor → (j : ℕ) (b : Anchored) → Pick all j b → Begins (take n anchor) b.anchor → ⊥

-- what two strings have in common begins both, and no more of the one begins the other
record IsCommon (a b : List ℕ) (len : ℕ) : Type 0 where
  pub within : len ≤ length b
  pub begins : Begins (take len b) a
  pub longest : (n : ℕ) → len < n → n ≤ length b → Begins (take n b) a → ⊥

common-is : (a b : List ℕ) → IsCommon a b (common a b)
common-is [] b = record { within = omega arith; begins = ([], refl); longest = longest b }
  where
    longest : (b : List ℕ) (n : ℕ) → 0 < n → n ≤ length b → Begins (take n b) [] → ⊥
    longest [] n lt le h = absurd (omega arith)
    longest (y ∷ b) zero lt le h = absurd (omega arith)
    longest (y ∷ b) (suc n) lt le h = absurd (let e = h.1 in cc)
common-is (x ∷ a) [] = record { within = omega arith; begins = (x ∷ a, refl); longest = λ n lt le h. absurd (omega arith) }
common-is (x ∷ a) (y ∷ b) = by (x == y) refl (common-is a b)
  where
    by : (s : Bool) → (x == y) ≡ s → IsCommon a b (common a b) → IsCommon (x ∷ a) (y ∷ b) (cond s (common a b + 1) 0)
    by true e h = subst (λ (k : ℕ). IsCommon (x ∷ a) (y ∷ b) k) one (record { within = omega (arith, h.within); begins = (h.begins.0, λ i. same i ∷ h.begins.1 i); longest = longest })
      where
        one : suc (common a b) ≡ common a b + 1
        one = omega arith

        same : x ≡ y
        same = eqb-true x y e

        longest : (n : ℕ) → suc (common a b) < n → n ≤ length (y ∷ b) → Begins (take n (y ∷ b)) (x ∷ a) → ⊥
        longest zero lt le g = absurd (omega arith)
        longest (suc n) lt le g = h.longest n (omega arith) (omega arith) (g.0, let f = g.1 in cc)
    by false e h = record { within = omega arith; begins = (x ∷ a, refl); longest = longest }
      where
        longest : (n : ℕ) → 0 < n → n ≤ length (y ∷ b) → Begins (take n (y ∷ b)) (x ∷ a) → ⊥
        longest zero lt le g = absurd (omega arith)
        longest (suc n) lt le g = differ (eq-eqb x y (let f = g.1 in cc))
          where
            differ : (x == y) ≡ true → ⊥
            differ f = absurd cc

-- of one anchor more
deepest-step : (a : Anchored) (all : List Anchored) (anchor : List ℕ) (len : ℕ) → IsDeepest all anchor len → IsDeepest (a ∷ all) anchor (max (common a.anchor anchor) len)
deepest-step a all anchor len h = by (cases_lt len (common a.anchor anchor))
  where
    mine : IsCommon a.anchor anchor (common a.anchor anchor)
    mine = common-is a.anchor anchor

    longest : (most : ℕ) → len ≤ most → common a.anchor anchor ≤ most → (n : ℕ) → most < n → n ≤ length anchor → (j : ℕ) (b : Anchored) → Pick (a ∷ all) j b → Begins (take n anchor) b.anchor → ⊥
    longest most l m n lt le zero b pick f = mine.longest n (omega arith) le (subst (λ (z : Anchored). Begins (take n anchor) z.anchor) (sym (some_is pick)) f)
      where
        some_is : Pick (a ∷ all) zero b → a ≡ b
        some_is e = cc
    longest most l m n lt le (suc j) b pick f = h.longest n (omega arith) le j b pick f

    by : (len < common a.anchor anchor) ⊎ (common a.anchor anchor ≤ len) → IsDeepest (a ∷ all) anchor (max (common a.anchor anchor) len)
    by (inl lt) =
        let is : common a.anchor anchor ≡ max (common a.anchor anchor) len = omega arith in
        subst (λ (k : ℕ). IsDeepest (a ∷ all) anchor k) is (record { within = mine.within; there = (0, a, refl, mine.begins); longest = longest (common a.anchor anchor) (omega arith) (omega arith) })
    by (inr le) =
        let is : len ≡ max (common a.anchor anchor) len = omega arith in
        subst (λ (k : ℕ). IsDeepest (a ∷ all) anchor k) is (record { within = h.within; there = (suc h.there.0, h.there.1, h.there.2, h.there.3); longest = longest len (omega arith) le })

-- no prefix of the empty anchor but the empty one
deepest-root : (anchor : List ℕ) → IsDeepest (root ∷ []) anchor 0
deepest-root anchor = record { within = omega arith; there = (0, root, refl, ([], refl)); longest = longest }
  where
    longest : (n : ℕ) → 0 < n → n ≤ length anchor → (j : ℕ) (b : Anchored) → Pick (root ∷ []) j b → Begins (take n anchor) b.anchor → ⊥
    longest n lt le zero b pick f = (common-is [] anchor).longest n lt le (subst (λ (z : Anchored). Begins (take n anchor) z.anchor) (sym (some_is pick)) f)
      where
        some_is : Pick (root ∷ []) zero b → root ≡ b
        some_is e = cc
    longest n lt le (suc j) b pick f = absurd cc

-- the empty anchor changes nothing, wherever it stands
deepest-swap : (a : Anchored) (all : List Anchored) (anchor : List ℕ) (len : ℕ) → IsDeepest (a ∷ root ∷ all) anchor len → IsDeepest (root ∷ a ∷ all) anchor len
deepest-swap a all anchor len h = record { within = h.within; there = moved h.there.0 h.there.1 h.there.2 h.there.3; longest = λ n lt le j b pick f. back n lt le j b pick f }
  where
    moved : (j : ℕ) (b : Anchored) → Pick (a ∷ root ∷ all) j b → Begins (take len anchor) b.anchor → (k : ℕ) × (c : Anchored) × Pick (root ∷ a ∷ all) k c × Begins (take len anchor) c.anchor
    moved zero b pick f = (1, b, pick, f)
    moved (suc zero) b pick f = (0, b, pick, f)
    moved (suc (suc j)) b pick f = (suc (suc j), b, pick, f)

    back : (n : ℕ) → len < n → n ≤ length anchor → (j : ℕ) (b : Anchored) → Pick (root ∷ a ∷ all) j b → Begins (take n anchor) b.anchor → ⊥
    back n lt le zero b pick f = h.longest n lt le 1 b pick f
    back n lt le (suc zero) b pick f = h.longest n lt le 0 b pick f
    back n lt le (suc (suc j)) b pick f = h.longest n lt le (suc (suc j)) b pick f

pub deepest-is : (added : List Anchored) (anchor : List ℕ) → IsDeepest (root ∷ added) anchor (deepest added anchor)
deepest-is [] anchor = deepest-root anchor
deepest-is (a ∷ added) anchor = deepest-swap a added anchor (deepest (a ∷ added) anchor) (deepest-step a (root ∷ added) anchor (deepest added anchor) (deepest-is added anchor))

-- ---- the nodes of one anchor more

nodes_after-push : (known more : List Anchored) (a : Anchored) → nodes_after known (more ++ a ∷ []) ≡ nodes_after known more + nodes_for (known ++ more) a.anchor
nodes_after-push known [] a = omega (arith, ap (λ z. nodes_for z a.anchor) (append-nil known))
nodes_after-push known (b ∷ more) a =
    let rest = nodes_after-push (known ++ b ∷ []) more a in
    let joined : nodes_for ((known ++ b ∷ []) ++ more) a.anchor ≡ nodes_for (known ++ b ∷ more) a.anchor = ap (λ z. nodes_for z a.anchor) (append_assoc known (b ∷ []) more) in
    omega (arith, rest, joined)

pub nodes_of-push : (added : List Anchored) (a : Anchored) → nodes_of (added ++ a ∷ []) ≡ nodes_of added + nodes_for added a.anchor
nodes_of-push added a = omega (arith, nodes_after-push [] added a)
