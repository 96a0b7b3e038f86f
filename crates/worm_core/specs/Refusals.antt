-- How a refusal is told.
use Rattle.std.specs.Prelude.{◌≡◌, ℕ, List, Result, Ok, Err, Some, slice_get}
use Rattle.worm_core.specs.Events.{HasNoStep, HasRun}
use Rattle.worm_core.specs.Worlds.{World}
use Rattle.worm_core.specs.declared.leaf_event.LeafEvent.{LeafEvent}
use Rattle.worm_core.specs.declared.leaf_world_error.LeafWorldError.{LeafWorldError}
use Rattle.worm_core.specs.declared.leaf_world_error.LeafWorldError.TheVariants as errors
use Rattle.worm_core.specs.declared.refused.Refused.{Refused}
use Rattle.worm_core.specs.declared.refused.Refused.TheVariants as reasons

-- the refusal of the event at a place
abbrev pub error_at : Refused → ℕ → LeafWorldError
error_at reasons.NoStep event = errors.NoStep event
error_at reasons.Memory event = errors.Memory

-- what a refusal tells where it is for the lack of a step
abbrev pub OnNoStep : {X : Type 0} → Result X Refused → Type 0 → Type 0
OnNoStep (Ok answer) P = Unit {0}
OnNoStep (Err reasons.NoStep) P = P
OnNoStep (Err reasons.Memory) P = Unit {0}

-- an error that names an event names it by this place, and the event has no step
abbrev pub TellsNoStep : LeafWorldError → ℕ → World → LeafEvent → Type 0
TellsNoStep (errors.NoStep event) place w e = (event ≡ place) × HasNoStep w e
TellsNoStep errors.Memory place w e = Unit {0}

-- the events before the one that an error names have happened, and that one has no step; out of memory, the first ones have
abbrev pub StopsAt : World → List LeafEvent → LeafWorldError → World → Type 0
StopsAt w es (errors.NoStep event) next = HasRun w es event next × ((e : LeafEvent) × (slice_get es event ≡ Some e) × HasNoStep next e)
StopsAt w es errors.Memory next = (event : ℕ) × HasRun w es event next
