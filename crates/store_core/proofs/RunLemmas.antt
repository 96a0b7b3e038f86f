-- What holds after every list of events. To know: `run-holds`, `run-more`.
use Rattle.std.proofs.Common.{◌≡◌, List, [], ◌∷◌, ◌++◌, refl, subst}
use Rattle.std.specs.Prelude.{Some, None}
use Rattle.std.proofs.lemmas.Option.{same_Some}
use Rattle.store_core.specs.Steps.{RunOf, Stepped, step, answered, run_from, run}
use Rattle.store_core.specs.Worlds.{World, opening}
use Rattle.store_core.specs.declared.store_answer.StoreAnswer.{StoreAnswer}
use Rattle.store_core.specs.declared.store_event.StoreEvent.{StoreEvent}
use Rattle.store_core.proofs.EventLemmas.{Holds, step-holds, opening-holds}

pub none_from : (es : List StoreEvent) (end : World × List StoreAnswer) → run_from None es ≡ Some end → ⊥
none_from [] end e = absurd cc
none_from (x ∷ xs) end e = absurd cc

-- what holds of a world holds after more events
from-holds : (es : List StoreEvent) (led end : World × List StoreAnswer) → Holds led.0 → run_from (Some led) es ≡ Some end → Holds end.0
from-holds [] led end h e = subst (λ (p : World × List StoreAnswer). Holds p.0) (same_Some led end e) h
from-holds (x ∷ xs) led end h e = by_step (λ next n t. from-holds xs next end n t) (step led.0 x) refl e
  where
    by_step : ((next : World × List StoreAnswer) → Holds next.0 → run_from (Some next) xs ≡ Some end → Holds end.0) → (o : Stepped) → step led.0 x ≡ o → run_from (answered led.1 o) xs ≡ Some end → Holds end.0
    by_step rest None is t = absurd (none_from xs end t)
    by_step rest (Some p) is t = rest (p.0, led.1 ++ p.1 ∷ []) (step-holds led.0 p.0 x p.1 h is).0 t

-- so it holds of every world that events lead to
pub run-holds : (es : List StoreEvent) (told : List StoreAnswer) (w : World) → run opening es ≡ Some (w, told) → Holds w
run-holds es told w e = from-holds es (opening, []) (w, told) opening-holds e

-- a run of one event more
abbrev pub more_of : RunOf → StoreEvent → RunOf
more_of None event = None
more_of (Some led) event = answered led.1 (step led.0 event)

pub run-more : (start : RunOf) (xs : List StoreEvent) (x : StoreEvent) → run_from start (xs ++ x ∷ []) ≡ more_of (run_from start xs) x
run-more None [] x = refl
run-more (Some led) [] x = refl
run-more None (y ∷ ys) x = refl
run-more (Some led) (y ∷ ys) x = run-more (answered led.1 (step led.0 y)) ys x
