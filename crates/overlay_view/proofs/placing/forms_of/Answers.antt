use Rattle.std.proofs.Common.{subst}
use Rattle.remix_view.specs.Views.{IsFormed}
use Rattle.partition_set.specs.Partitions.{PartState}
use Rattle.overlay_view.proofs.PlacedLemmas.{formed-more}
use Rattle.overlay_view.proofs.placing.forms_of.Goals as goal

pub parts-preserved : goal.parts-preserved
parts-preserved g c = formed-more c.args.parts.now c.parts.number c.part.result.now c.part.ensures (subst (λ (p : PartState _). IsFormed p.view) c.behind-parts.view_is c.segments-segments.ensures.formed) c.parts.invariant
