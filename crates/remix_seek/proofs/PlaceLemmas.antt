-- Where the versions of a sorted view stand in their runs. To know: place_there, is_pair.
use Rattle.std.proofs.Common.{◌≡◌, ℕ, zero, suc, ◌+◌, ◌<◌, length, Bool, true, false, cond, List, [], ◌∷◌, take, refl, sym, ap, subst, ◌∙◌, arith}
use Rattle.std.specs.Prelude.{◌==◌, slice_get, Some}
use Rattle.std.specs.List.{count_by}
use Rattle.std.proofs.lemmas.List.Sums.{sum_by-cons}
use Rattle.rdb_base.specs.declared.pair.Pair.{Pair}
use Rattle.remix_seek.specs.Versions.{Version, IsSortedView, IsPairOf, versions_in, run_at}
use Rattle.remix_seek.proofs.UniqueLemmas.{of_run, of_run-own, of_run-other, first_same, rest_same, no_first, alike}
use Rattle.remix_seek.proofs.VersionLemmas.{all_runs}
use Rattle.remix_view.proofs.Lists.{some_same, all-at}

-- how many of the first i versions are of this run
abbrev pub before_of : ℕ → ℕ → List Version → ℕ
before_of run i vs = count_by (λ (v : Version). v.run == run) (take i vs)

-- a version's place in its run, and its pair there
pub record StandsAt (start : ℕ) (pairs : List Pair) (v : Version) (before : ℕ) : Type 0 where
  pub place : v.place ≡ start + before
  pub pair : slice_get pairs before ≡ Some v.pair

before_of-cons : (v : Version) (vs : List Version) (i run : ℕ) (b : Bool) → (v.run == run) ≡ b → before_of run (suc i) (v ∷ vs) ≡ cond b 1 0 + before_of run i vs
before_of-cons v vs i run b e = sum_by-cons (λ (u : Version). cond (u.run == run) 1 0) v (take i vs) ∙ ap (λ (c : Bool). cond c 1 0 + before_of run i vs) e

first_stands : (run start : ℕ) (pairs : List Pair) (v : Version) (rest : List Version) → (v ∷ rest) ≡ versions_in run start pairs → StandsAt start pairs v 0
first_stands run start [] v rest e = absurd (no_first v rest e)
first_stands run start (p ∷ ps) v rest e =
    let same : v ≡ record { run = run; place = start; pair = p } = first_same v (record { run = run; place = start; pair = p }) rest (versions_in run (start + 1) ps) e in
    record { place = ap (λ (u : Version). u.place) same ∙ omega arith; pair = ap (λ (u : Version). Some u.pair) (sym same) }

-- after the first pair of a run
stands_after : (start before next : ℕ) (p : Pair) (ps : List Pair) (v : Version) → next ≡ 1 + before → StandsAt (start + 1) ps v before → StandsAt start (p ∷ ps) v next
stands_after start before next p ps v e s = subst (λ (n : ℕ). StandsAt start (p ∷ ps) v n) (omega (arith, e)) one_more
  where
    one_more : StandsAt start (p ∷ ps) v (suc before)
    one_more = record { place = s.place ∙ omega arith; pair = s.pair }

-- a version of a run stands first among that run's
cons_form : (u : Version) (us : List Version) (run : ℕ) → u.run ≡ run → of_run run (u ∷ us) ≡ u ∷ of_run run us
cons_form u us run e = subst (λ (n : ℕ). of_run n (u ∷ us) ≡ u ∷ of_run n us) e (of_run-own u us)

nothing_more : (n m : ℕ) → n ≡ 0 + m → m ≡ n
nothing_more n m e = omega (arith, e)

pub stands : (vs : List Version) (i run start : ℕ) (pairs : List Pair) (v : Version) → of_run run vs ≡ versions_in run start pairs → slice_get vs i ≡ Some v → v.run ≡ run → StandsAt start pairs v (before_of run i vs)
stands [] i run start pairs v all at is = absurd cc
stands (u ∷ us) zero run start pairs v all at is =
    let same : u ≡ v = some_same u v at in
    let of : u.run ≡ run = ap (λ (w : Version). w.run) same ∙ is in
    subst (λ (w : Version). StandsAt start pairs w 0) same (first_stands run start pairs u (of_run run us) (sym (cons_form u us run of) ∙ all))
stands (u ∷ us) (suc i) run start pairs v all at is = by_run (λ next others same. stands us i run next others v same at is) (u.run == run) refl pairs all
  where
    by_run : ((next : ℕ) (others : List Pair) → of_run run us ≡ versions_in run next others → StandsAt next others v (before_of run i us)) →
        (b : Bool) → (u.run == run) ≡ b → (ps : List Pair) → of_run run (u ∷ us) ≡ versions_in run start ps → StandsAt start ps v (before_of run (suc i) (u ∷ us))
    by_run rest false e ps all = subst (λ (n : ℕ). StandsAt start ps v n) (nothing_more (before_of run (suc i) (u ∷ us)) (before_of run i us) (before_of-cons u us i run false e)) (rest start ps (sym (of_run-other u us run e) ∙ all))
    by_run rest true e [] all = absurd (no_first u (of_run run us) (sym (cons_form u us run (alike u.run run e)) ∙ all))
    by_run rest true e (p ∷ ps) all =
        stands_after start (before_of run i us) (before_of run (suc i) (u ∷ us)) p ps v (before_of-cons u us i run true e)
        (rest (start + 1) ps (rest_same u (record { run = run; place = start; pair = p }) (of_run run us) (versions_in run (start + 1) ps) (sym (cons_form u us run (alike u.run run e)) ∙ all)))

-- a version of a sorted view has the place of as many versions of its run as come before it, and its pair stands there
pub place_there : (runs : List (List Pair)) (vs : List Version) (i : ℕ) (v : Version) → IsSortedView runs vs → slice_get vs i ≡ Some v → StandsAt 0 (run_at runs v.run) v (before_of v.run i vs)
place_there runs vs i v view at = stands vs i v.run 0 (run_at runs v.run) v (view.all v.run) at refl

-- so it is the run's pair at its place
pub is_pair : (runs : List (List Pair)) (vs : List Version) (i : ℕ) (v : Version) → IsSortedView runs vs → slice_get vs i ≡ Some v → IsPairOf runs vs i v
is_pair runs vs i v view at =
    let stands = place_there runs vs i v view at in
    let place : v.place ≡ before_of v.run i vs = stands.place ∙ no_more (before_of v.run i vs) in
    record {
      run = all-at (λ (u : Version). u.run < length runs) vs i v (all_runs runs vs view) at;
      place = place;
      pair = ap (slice_get (run_at runs v.run)) place ∙ stands.pair;
    }
  where
    no_more : (n : ℕ) → 0 + n ≡ n
    no_more n = omega arith
