use Rattle.std.specs.Prelude.{◌≡◌, length, IfSome}
use Rattle.std.specs.List.{AllByRecursion}
use Rattle.table_switch.proofs.switch.places_of.Given as goal

abbrev pub invariant-callers : goal.invariant-callers
invariant-callers g l = (length l.places.items ≡ l.counter) × (l.writer ≡ l.fn.writer)
    × AllByRecursion (λ place. IfSome place (λ reader. reader ≡ record { switch = l.fn.writer.switch; anchors = l.fn.writer.published })) l.places.items
