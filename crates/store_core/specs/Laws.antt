-- What every answer of the machine means, over every list of events from the beginning on.
use Rattle.std.specs.Prelude.{◌≡◌, ◌↔◌, true, List, Some, slice_get}
use Rattle.rdb_base.specs.Maps.{value_at}
use Rattle.rdb_base.specs.Histories.{after, IsFair}
use Rattle.rdb_base.specs.Pages.{page, IsLastPage}
use Rattle.store_core.specs.Worlds.{World, opening}
use Rattle.store_core.specs.Steps.{step, run}
use Rattle.store_core.specs.declared.pin.Pin.{Pin}
use Rattle.store_core.specs.declared.store_answer.StoreAnswer.{StoreAnswer}
use Rattle.store_core.specs.declared.store_answer.StoreAnswer.TheVariants as answers
use Rattle.store_core.specs.declared.store_event.StoreEvent.{StoreEvent}
use Rattle.store_core.specs.declared.store_event.StoreEvent.TheVariants as events

-- What an answer says of the history of this world: a value found is what the map after the asked front has at the key; a page is that
-- of the map after the pin's front, and its flag says that no row is left after it.
abbrev pub Tells : World → StoreEvent → StoreAnswer → Type 0
Tells w (events.Look caller key front) (answers.Found number value) = (number ≡ front) × (value ≡ value_at (after w.history front) key)
Tells w (events.List pin bound count) (answers.Rows rows last) =
    (p : Pin) × (slice_get w.pins pin ≡ Some p) × (rows ≡ page (after w.history p.front) bound count)
    × ((last ≡ true) ↔ IsLastPage (after w.history p.front) bound count)
Tells w e a = Unit {0}

-- events led from the beginning to a world, and these are their answers
abbrev pub LedTo : List StoreEvent → List StoreAnswer → World → Type 0
LedTo before told w = run opening before ≡ Some (w, told)

-- after every list of events each answer is that of the one history
abbrev pub AnswersHold : Type 0
AnswersHold = (before : List StoreEvent) (told : List StoreAnswer) (w next : World) (e : StoreEvent) (a : StoreAnswer)
    → LedTo before told w → step w e ≡ Some (next, a) → Tells next e a

-- and each caller's entries are counted from 0 on
abbrev pub HistoryIsFair : Type 0
HistoryIsFair = (before : List StoreEvent) (told : List StoreAnswer) (w : World) → LedTo before told w → IsFair w.history.entries
