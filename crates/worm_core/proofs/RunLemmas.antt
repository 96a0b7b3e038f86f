-- A run of events that ends early. To know: `run-stops`.
use Rattle.std.proofs.Common.{◌≡◌, ℕ, ◌<◌, ◌≤◌, List, length, map, take, get_or, sym, ap, ◌∙◌, subst, arith}
use Rattle.std.specs.Prelude.{Err, Some, slice_get}
use Rattle.std.proofs.lemmas.List.{map-id}
use Rattle.std.proofs.lemmas.Option.{slice_get-get_or}
use Rattle.worm_core.specs.Events.{RunsTo, HasNoStep, HasRun}
use Rattle.worm_core.specs.Refusals.{OnNoStep, StopsAt, error_at}
use Rattle.worm_core.specs.Worlds.{World}
use Rattle.worm_core.specs.declared.leaf_answer.LeafAnswer.{LeafAnswer}
use Rattle.worm_core.specs.declared.leaf_event.LeafEvent.{LeafEvent}
use Rattle.worm_core.specs.declared.refused.Refused.{Refused}
use Rattle.worm_core.specs.declared.refused.Refused.TheVariants as reasons

-- the first so many have
has_run : (w next : World) (es xs : List LeafEvent) (more : List LeafAnswer) (number : ℕ) → number ≡ length xs → map (λ e. e) xs ≡ take (length xs) es → length xs < length es → RunsTo w xs more next → HasRun w es number next
has_run w next es xs more number count front lt runs =
    let here : xs ≡ take number es = sym (map-id xs) ∙ front ∙ ap (λ n. take n es) (sym count) in
    (more, omega arith, subst (λ (l : List LeafEvent). RunsTo w l more next) here runs)

-- and the next one is refused
pub run-stops : (refused : Refused) (w next : World) (es xs : List LeafEvent) (more : List LeafAnswer) (number : ℕ) (e : LeafEvent) → number ≡ length xs → map (λ e. e) xs ≡ take (length xs) es
    → (length xs < length es) × (e ≡ get_or es (length xs) e) → RunsTo w xs more next → OnNoStep {X = LeafAnswer} (Err refused) (HasNoStep next e) → StopsAt w es (error_at refused number) next
run-stops reasons.Memory w next es xs more number e count front here runs none = (number, has_run w next es xs more number count front here.0 runs)
run-stops reasons.NoStep w next es xs more number e count front here runs none =
    let at : slice_get es number ≡ Some e = ap (slice_get es) count ∙ slice_get-get_or es (length xs) e here.0 ∙ ap Some (sym here.1) in
    (has_run w next es xs more number count front here.0 runs, (e, at, none))
