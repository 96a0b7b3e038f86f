-- A step that only adds to what is published keeps the rule. To know: `keeps-step`, `keeps-newcomer`, `keeps-first`, `keeps-fork`, `keeps-join`, `self-next`.
use Rattle.std.proofs.Common.{◌≡◌, ℕ, ◌≢◌, List, [], ◌∷◌, ◌++◌, set, refl, ◌∙◌, subst, ⊎_elim, Option, Some, None}
use mathlib.Core.List.{IsPrefix}
use mathlib.Core.Option.{some}
use lib.ListN.{get_elem?}
use Rattle.atomic_table.proofs.Lists.{at_set, at_snoc}
use Rattle.rdb_base.proofs.PrefixLemmas.{prefix_self, prefix_trans}
use Rattle.table_switch.specs.Published.{FrontState, CopyState, IsWhole, IsNext, GoesOnFrom, Keeps, Sees}

pub self-next : (copy : CopyState) → IsWhole copy → IsNext copy copy
self-next copy whole = record { whole = whole; switch = refl; grows = prefix_self copy.front.anchors }

goes_further : (known : Option FrontState) (before after : FrontState) → after.switch ≡ before.switch → IsPrefix before.anchors after.anchors → GoesOnFrom known before → GoesOnFrom known after
goes_further None before after same grows g = tt
goes_further (Some k) before after same grows g = (same ∙ g.0, prefix_trans k.anchors before.anchors after.anchors g.1 grows)

-- one seat knows something else
set_known : (copy : CopyState) (views : List (Option FrontState)) (seat : ℕ) (known : Option FrontState)
    → ((j : ℕ) (u : Option FrontState) → get_elem? views j ≡ some u → GoesOnFrom u copy.front) → GoesOnFrom known copy.front
    → (other : ℕ) (u : Option FrontState) → get_elem? (set views seat known) other ≡ some u → GoesOnFrom u copy.front
set_known copy views seat known all here other u there = ⊎_elim
    (λ (t : (other ≡ seat) × (known ≡ u)). subst (λ (k : Option FrontState). GoesOnFrom k copy.front) t.1 here)
    (λ (t : (other ≢ seat) × (get_elem? views other ≡ some u)). all other u t.1)
    (at_set views seat other known u there)

-- one seat sees all, and what was published before is a front of it
pub keeps-step : (seat : ℕ) (known : Option FrontState) (before after : CopyState) (views : List (Option FrontState)) → IsNext before after → Keeps before views
    → get_elem? views seat ≡ some known → (w : Option FrontState) × Keeps after (set views seat w) × Sees known after w
keeps-step seat known before after views n kept at =
    let further : (u : Option FrontState) → GoesOnFrom u before.front → GoesOnFrom u after.front = λ u g. goes_further u before.front after.front n.switch n.grows g in (
      Some after.front,
      (n.whole, set_known after views seat (Some after.front) (λ j u there. further u (kept.1 j u there)) (refl, prefix_self after.front.anchors)),
      (n.whole, further known (kept.1 seat known at), refl),
    )

-- a new seat knows nothing
pub keeps-newcomer : (copy : CopyState) (views : List (Option FrontState)) → Keeps copy views → Keeps copy (views ++ None ∷ [])
keeps-newcomer copy views kept = (kept.0, λ seat u at. ⊎_elim (kept.1 seat u) (λ (e : None ≡ u). subst (λ (k : Option FrontState). GoesOnFrom k copy.front) e tt) (at_snoc views None u seat at))

-- the first seat knows nothing
pub keeps-first : (copy : CopyState) → IsWhole copy → Keeps copy (None ∷ [])
keeps-first copy whole = keeps-newcomer copy [] (whole, λ seat u at. absurd cc)

-- a seat tells another one all that it knows
pub keeps-fork : (seat : ℕ) (known : Option FrontState) (copy : CopyState) (views : List (Option FrontState)) → Keeps copy views → get_elem? views seat ≡ some known
    → Keeps copy (set views seat known ++ known ∷ [])
keeps-fork seat known copy views kept at =
    let here : GoesOnFrom known copy.front = kept.1 seat known at in (
      kept.0,
      λ other u e. ⊎_elim (set_known copy views seat known kept.1 here other u) (λ (same : known ≡ u). subst (λ (k : Option FrontState). GoesOnFrom k copy.front) same here)
          (at_snoc (set views seat known) known u other e),
    )

-- a seat takes what another one was told
pub keeps-join : (seat other : ℕ) (told : Option FrontState) (copy : CopyState) (views : List (Option FrontState)) → Keeps copy views → ¬ (other ≡ seat)
    → get_elem? (set views seat told) other ≡ some told → Keeps copy (set (set views seat told) other None)
keeps-join seat other told copy views kept apart there =
    let fits : GoesOnFrom told copy.front = ⊎_elim
    (λ (t : (other ≡ seat) × (told ≡ told)). absurd (apart t.0))
    (λ (t : (other ≢ seat) × (get_elem? views other ≡ some told)). kept.1 other told t.1)
    (at_set views seat other told told there) in
    (kept.0, set_known copy (set views seat told) other None (set_known copy views seat told kept.1 fits) tt)
