use Rattle.std.proofs.Common.{◌-◌, length, take}
use Rattle.std.specs.List.{AllByRecursion}
use Rattle.remix_view.specs.Views.{IsFormed}
use Rattle.partition_set.specs.Partitions.{PartState}
use Rattle.overlay_view.proofs.placing.forms_of.Given as goal

abbrev pub invariant-parts : goal.invariant-parts
invariant-parts g l = AllByRecursion (λ (part : PartState _). IsFormed part.view) (take l.number l.parts)

abbrev pub decreases-parts : goal.decreases-parts
decreases-parts g l = length l.parts - l.number
