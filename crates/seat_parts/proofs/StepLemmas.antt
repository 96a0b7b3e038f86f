-- What the table asks of a step, a split and a join, each from one fact on plain lists: these parts may become those, whatever the others are.
-- To know: `Allows-goes`, `Splits-last`, `Joins-append`.
use Rattle.std.proofs.Common.{◌≡◌, ◌≢◌, ℕ, zero, suc, List, [], ◌∷◌, ◌++◌, set, refl, ap, sym, ◌∙◌, subst, append_assoc}
use Rattle.std.specs.Prelude.{slice_index}
use mathlib.Core.Option.{some, none}
use lib.ListN.{get_elem?}
use Rattle.atomic_table.specs.Table.{Me, Allows, Splits, Joins, keeps, step}
use Rattle.atomic_table.proofs.Lists.{set_else}
use Rattle.seat_parts.specs.Seats.{parts_of, Holds, Told, Goes, Becomes, but_last, last}
use Rattle.seat_parts.proofs.AlikeLemmas.{Alike, Alike-same, Alike-trans, Alike-append, Alike-swap, without, parts_of-taken_out, parts_of-put_in, parts_of-one_more}

-- two places are set in either order
set-set_other : {A : Type 0} (l : List A) (i j : ℕ) (a b : A) → j ≢ i → set (set l i a) j b ≡ set (set l j b) i a
set-set_other [] i j a b n = refl
set-set_other (x ∷ xs) zero zero a b n = absurd (n refl)
set-set_other (x ∷ xs) zero (suc j) a b n = refl
set-set_other (x ∷ xs) (suc i) zero a b n = refl
set-set_other (x ∷ xs) (suc i) (suc j) a b n = ap (λ l. x ∷ l) (set-set_other xs i j a b (λ e. n (ap suc e)))

-- all but the last, and then the last
append-but_last : {X : Type 0} (v : List X) → but_last v ++ last v ≡ v
append-but_last [] = refl
append-but_last (x ∷ []) = refl
append-but_last (x ∷ y ∷ ys) = ap (λ l. x ∷ l) (append-but_last (y ∷ ys))

-- of a rule that does not see the order of parts
module _ {X : Type 0} (Rule : ℕ → List X → Type 0) (same : (n : ℕ) (xs ys : List X) → Alike xs ys → Rule n xs → Rule n ys) where
  -- a step, of a seat that holds no slot
  Allows-goes_free : (slots id : ℕ) (v : List X) (f : ℕ → ℕ) (tells : List X → ℕ → List X → Type 0) → Goes Rule v f (tells v)
      → (a b : ℕ) → Allows (Holds Rule) slots id (v, []) 0 f (Told tells (step slots 0 a b none) (v, []))
  Allows-goes_free slots id v f tells goes a b s h size at below =
      let rest = without s.views id in
      let g = goes h.word rest (same h.word (parts_of s.views) (v ++ rest) (parts_of-taken_out s.views id v at) h.rule) in
      let n : slice_index s.words 0 ≡ h.word = ap (λ ws. slice_index ws 0) h.words_are in (
        g.0,
        keeps,
        tt,
        record {
          word = f h.word;
          words_are = rw h.words_are refl;
          rule = same (f h.word) (g.0 ++ rest) (parts_of (set s.views id g.0)) (parts_of-put_in s.views id v g.0 at) g.1;
        },
        (refl, subst (λ k. tells v k g.0) (sym n) g.2),
      )

  -- a split, which may change the parts
  pub Splits-becomes : (id : ℕ) (v left right : List X) → Becomes Rule v (left ++ right) → Splits (Holds Rule) id v left right
  Splits-becomes id v left right becomes s h at =
      let rest = without s.views id in
      let g = becomes h.word rest (same h.word (parts_of s.views) (v ++ rest) (parts_of-taken_out s.views id v at) h.rule) in
      let all = set s.views id left in
      let alike : Alike ((left ++ right) ++ rest) (parts_of (all ++ right ∷ [])) =
      Alike-trans ((left ++ right) ++ rest) (right ++ (left ++ rest)) (parts_of (all ++ right ∷ []))
      (Alike-trans ((left ++ right) ++ rest) (left ++ (right ++ rest)) (right ++ (left ++ rest)) (Alike-same _ _ (append_assoc left right rest)) (Alike-swap left right rest))
      (Alike-trans (right ++ (left ++ rest)) (right ++ parts_of all) (parts_of (all ++ right ∷ []))
      (Alike-append right (left ++ rest) (parts_of all) (parts_of-put_in s.views id v left at))
      (parts_of-one_more all right)) in
      record {
        word = h.word;
        words_are = h.words_are;
        rule = same h.word ((left ++ right) ++ rest) (parts_of (all ++ right ∷ [])) alike g;
      }

  -- a join, which may change the parts
  pub Joins-becomes : (id : ℕ) (v : List X) (other : ℕ) (w both : List X) → Becomes Rule (v ++ w) both → Joins (Holds Rule) id v other w both []
  Joins-becomes id v other w both becomes s h at apart there =
      let theirs : get_elem? s.views other ≡ some w = sym (set_else s.views id other both apart) ∙ there in
      let fewer = set s.views other [] in
      let mine : get_elem? fewer id ≡ some v = set_else s.views other id [] (λ e. apart (sym e)) ∙ at in
      let rest = without fewer id in
      let alike : Alike (parts_of s.views) ((v ++ w) ++ rest) =
      Alike-trans (parts_of s.views) (w ++ parts_of fewer) ((v ++ w) ++ rest)
      (parts_of-taken_out s.views other w theirs)
      (Alike-trans (w ++ parts_of fewer) (w ++ (v ++ rest)) ((v ++ w) ++ rest)
      (Alike-append w (parts_of fewer) (v ++ rest) (parts_of-taken_out fewer id v mine))
      (Alike-trans (w ++ (v ++ rest)) (v ++ (w ++ rest)) ((v ++ w) ++ rest) (Alike-swap w v rest) (Alike-same _ _ (sym (append_assoc v w rest))))) in
      let g = becomes h.word rest (same h.word (parts_of s.views) ((v ++ w) ++ rest) alike h.rule) in
      let back : Alike (both ++ rest) (parts_of (set (set s.views id both) other [])) =
      Alike-trans (both ++ rest) (parts_of (set fewer id both)) (parts_of (set (set s.views id both) other []))
      (parts_of-put_in fewer id v both mine)
      (Alike-same _ _ (ap parts_of (sym (set-set_other s.views id other both [] apart)))) in
      record {
        word = h.word;
        words_are = h.words_are;
        rule = same h.word (both ++ rest) (parts_of (set (set s.views id both) other [])) back g;
      }

  -- the same where it is known that the seat holds no slot
  pub Allows-goes : (slots id : ℕ) (me : Me ℕ (List X)) (f : ℕ → ℕ) (tells : List X → ℕ → List X → Type 0) (a b : ℕ) → me.1 ≡ [] → Goes Rule me.0 f (tells me.0)
      → Allows (Holds Rule) slots id me 0 f (Told tells (step slots 0 a b none) me)
  Allows-goes slots id me f tells a b free goes =
      subst (λ (k : Me ℕ (List X)). Allows (Holds Rule) slots id k 0 f (Told tells (step slots 0 a b none) k)) (λ i. (me.0, sym free i))
      (Allows-goes_free slots id me.0 f tells goes a b)

  -- two seats' parts are put together as they are
  pub Joins-append : (id : ℕ) (v : List X) (other : ℕ) (w : List X) → Joins (Holds Rule) id v other w (v ++ w) []
  Joins-append id v other w = Joins-becomes id v other w (v ++ w) (λ n others h. h)

  -- the last part is given away
  pub Splits-last : (id : ℕ) (v : List X) → Splits (Holds Rule) id v (but_last v) (last v)
  Splits-last id v = Splits-becomes id v (but_last v) (last v) (λ n others h. subst (λ (w : List X). Rule n (w ++ others)) (sym (append-but_last v)) h)
