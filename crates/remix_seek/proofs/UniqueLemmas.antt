-- There is one sorted view of runs. To know: one_view.
use Rattle.std.proofs.Common.{◌≡◌, ℕ, Bool, true, false, List, [], ◌∷◌, refl, sym, ap, subst, ◌∙◌, arith}
use Rattle.std.specs.Prelude.{filter, ◌==◌, nat_lt}
use Rattle.std.proofs.lemmas.Bool.Decides.{nat_tests}
use Rattle.std.specs.List.{AllByRecursion}
use Rattle.std.specs.declared.cmp.Ordering.{Ordering}
use Rattle.std.specs.declared.cmp.Ordering.TheVariants.{Less, Equal, Greater}
use Rattle.rdb_base.specs.Order.{key_cmp}
use Rattle.rdb_base.proofs.KeyOrder.{turned_less, turned_equal}
use Rattle.rdb_base.proofs.Lists.{all-filter}
use Rattle.rdb_base.specs.declared.pair.Pair.{Pair}
use Rattle.remix_seek.specs.Versions.{Version, IsSortedView, AreSorted, is_before, before_by}

-- the versions of one run
abbrev pub of_run : ℕ → List Version → List Version
of_run run vs = filter (λ (v : Version). v.run == run) vs

-- of two versions only one comes before the other
pub is_before-once : (v w : Version) → is_before v w ≡ true → is_before w v ≡ true → ⊥
is_before-once v w a b = by_order (key_cmp v.pair.key w.pair.key) refl a
  where
    not_both : (m n : ℕ) → nat_lt m n ≡ true → nat_lt n m ≡ true → ⊥
    not_both m n h g = grind (arith, nat_tests)

    by_order : (r : Ordering) → key_cmp v.pair.key w.pair.key ≡ r → before_by r v.run w.run ≡ true → ⊥
    by_order Less e h = absurd (let k : false ≡ true = sym (ap (λ (q : Ordering). before_by q w.run v.run) (turned_less v.pair.key w.pair.key e)) ∙ b in cc)
    by_order Equal e h = not_both v.run w.run h (sym (ap (λ (q : Ordering). before_by q w.run v.run) (turned_equal v.pair.key w.pair.key e)) ∙ b)
    by_order Greater e h = absurd cc

pub first_same : (v w : Version) (vs ws : List Version) → (v ∷ vs) ≡ (w ∷ ws) → v ≡ w
first_same v w vs ws e = cc

pub rest_same : (v w : Version) (vs ws : List Version) → (v ∷ vs) ≡ (w ∷ ws) → vs ≡ ws
rest_same v w vs ws e = cc

pub no_first : (v : Version) (vs : List Version) → (v ∷ vs) ≡ [] → ⊥
no_first v vs e = absurd cc

pub same_number : (n : ℕ) → (n == n) ≡ true
same_number n = grind (arith, nat_tests)

pub of_run-own : (v : Version) (vs : List Version) → of_run v.run (v ∷ vs) ≡ v ∷ of_run v.run vs
of_run-own v vs = rw (same_number v.run) refl

pub of_run-other : (v : Version) (vs : List Version) (run : ℕ) → (v.run == run) ≡ false → of_run run (v ∷ vs) ≡ of_run run vs
of_run-other v vs run e = rw e refl

-- the first version of a run that is left is after what stands before all
after_first : (v w : Version) (vs rest : List Version) → AllByRecursion (λ (u : Version). is_before v u ≡ true) vs → of_run w.run vs ≡ w ∷ rest → is_before v w ≡ true
after_first v w vs rest all e =
    (subst (λ (us : List Version). AllByRecursion (λ (u : Version). is_before v u ≡ true) us) e (all-filter (λ (u : Version). is_before v u ≡ true) (λ (u : Version). u.run == w.run) vs all)).0

pub alike : (m n : ℕ) → (m == n) ≡ true → m ≡ n
alike m n t = grind (arith, nat_tests)

unlike : (m n : ℕ) → (m == n) ≡ false → (n == m) ≡ false
unlike m n t = grind (arith, nat_tests)

-- lists that are sorted and have the same versions of each run are one
pub one_list : (vs ws : List Version) → AreSorted vs → AreSorted ws → ((run : ℕ) → of_run run vs ≡ of_run run ws) → vs ≡ ws
one_list [] [] sv sw h = refl
one_list [] (w ∷ ws) sv sw h = absurd (no_first w (of_run w.run ws) (sym (of_run-own w ws) ∙ sym (h w.run)))
one_list (v ∷ vs) [] sv sw h = absurd (no_first v (of_run v.run vs) (sym (of_run-own v vs) ∙ h v.run))
one_list (v ∷ vs) (w ∷ ws) sv sw h = by_run (λ same. one_list vs ws sv.1 sw.1 same) (v.run == w.run) refl
  where
    same_first : v.run ≡ w.run → (v ∷ of_run v.run vs) ≡ (w ∷ of_run v.run ws)
    same_first e = sym (of_run-own v vs) ∙ h v.run ∙ ap (λ (n : ℕ). of_run n (w ∷ ws)) e ∙ of_run-own w ws ∙ ap (λ (n : ℕ). w ∷ of_run n ws) (sym e)

    tails : v.run ≡ w.run → (run : ℕ) (b : Bool) → (v.run == run) ≡ b → of_run run vs ≡ of_run run ws
    tails e run true t = subst (λ (n : ℕ). of_run n vs ≡ of_run n ws) (alike v.run run t) (rest_same v w (of_run v.run vs) (of_run v.run ws) (same_first e))
    tails e run false t = sym (of_run-other v vs run t) ∙ h run ∙ of_run-other w ws run (ap (λ (n : ℕ). n == run) (sym e) ∙ t)

    joined : v ≡ w → vs ≡ ws → (v ∷ vs) ≡ (w ∷ ws)
    joined first rest = λ i. first i ∷ rest i

    by_run : (((run : ℕ) → of_run run vs ≡ of_run run ws) → vs ≡ ws) → (b : Bool) → (v.run == w.run) ≡ b → (v ∷ vs) ≡ (w ∷ ws)
    by_run rest true t = joined (first_same v w (of_run v.run vs) (of_run v.run ws) (same_first (alike v.run w.run t))) (rest (λ run. tails (alike v.run w.run t) run (v.run == run) refl))
    by_run rest false t = absurd (is_before-once v w
        (after_first v w vs (of_run w.run ws) sv.0 (sym (of_run-other v vs w.run t) ∙ h w.run ∙ of_run-own w ws))
        (after_first w v ws (of_run v.run vs) sw.0 (sym (of_run-other w ws v.run (unlike v.run w.run t)) ∙ sym (h v.run) ∙ of_run-own v vs)))

pub one_view : (runs : List (List Pair)) (vs ws : List Version) → IsSortedView runs vs → IsSortedView runs ws → vs ≡ ws
one_view runs vs ws v w = one_list vs ws v.sorted w.sorted (λ run. v.all run ∙ sym (w.all run))
