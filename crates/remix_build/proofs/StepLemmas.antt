-- One turn more of the loops over runs. To know: all-next, counting-next.
use Rattle.std.proofs.Common.{◌≡◌, ℕ, zero, suc, ◌+◌, ◌<◌, Bool, true, false, List, [], ◌∷◌, ◌++◌, length, take, map, get_or, refl, sym, ap, subst, ◌∙◌, arith}
use Rattle.std.specs.Prelude.{slice_index, nat_lt}
use Rattle.std.specs.List.{AllByRecursion}
use Rattle.std.proofs.lemmas.List.{length-append, get_or_append_left}
use Rattle.std.proofs.Math.Seq.{get_or-append_seam}
use Rattle.std.proofs.lemmas.Bool.Decides.{nat_tests}
use Rattle.rdb_base.specs.declared.pair.Pair.{Pair}
use Rattle.remix_view.specs.Selectors.{rank_in}
use Rattle.remix_build.specs.Packing.{CountedOn}

-- what was told of one run more
pub all-next : {A : Type 0} (f : A → List Pair) (P : List Pair → Type 0) (xs : List A) (i n : ℕ) (x : A) → n ≡ i + 1 → i < length xs → x ≡ get_or xs i x → P (f x) → AllByRecursion P (take i (map f xs)) → AllByRecursion P (take n (map f xs))
all-next f P [] i n x e lt is p all = absurd (omega arith)
all-next f P (y ∷ ys) i zero x e lt is p all = absurd (omega arith)
all-next f P (y ∷ ys) zero (suc zero) x e lt is p all = (subst (λ z. P (f z)) is p, tt)
all-next f P (y ∷ ys) zero (suc (suc n)) x e lt is p all = absurd (omega arith)
all-next f P (y ∷ ys) (suc i) (suc n) x e lt is p all = (all.0, all-next f P ys i n x (omega arith) (omega arith) is p all.1)

-- the counts of the first so many runs
pub record Counting (counts selectors later : List ℕ) (run : ℕ) : Type 0 where
  pub long : length later ≡ run
  pub told : (q : ℕ) → q < run → slice_index later q ≡ slice_index counts q + rank_in q selectors

pub counting-next : (counts selectors later grown : List ℕ) (run next count : ℕ) → next ≡ run + 1 → grown ≡ later ++ count ∷ [] → count ≡ slice_index counts run + rank_in run selectors → Counting counts selectors later run → Counting counts selectors grown next
counting-next counts selectors later grown run next count e g c h = record { long = ap length g ∙ length-append later (count ∷ []) ∙ omega (arith, h.long, e); told = λ q lt. by_place q lt (nat_lt q run) refl }
  where
    by_place : (q : ℕ) → q < next → (b : Bool) → nat_lt q run ≡ b → slice_index grown q ≡ slice_index counts q + rank_in q selectors
    by_place q lt true f = let low : q < run = grind (arith, nat_tests) in ap (λ (xs : List ℕ). slice_index xs q) g ∙ get_or_append_left later (count ∷ []) 0 q (omega (arith, h.long)) ∙ h.told q low
    by_place q lt false f =
        let same : q ≡ run = grind (arith, nat_tests) in
        (λ i. slice_index (g i) (same i)) ∙ ap (slice_index (later ++ count ∷ [])) (sym h.long) ∙ get_or-append_seam later count [] 0 ∙ c ∙ (λ i. slice_index counts (sym same i) + rank_in (sym same i) selectors)

pub counting-ended : (counts selectors later : List ℕ) (run : ℕ) → run ≡ length counts → Counting counts selectors later run → CountedOn counts selectors later
counting-ended counts selectors later run e h = (h.long ∙ e, λ q lt. h.told q (omega arith))
