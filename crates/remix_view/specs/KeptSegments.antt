-- The segments that a view keeps, its own or shared.
use Rattle.std.specs.Prelude.{List}
use Rattle.std.specs.Arc.{arc_value}
use Rattle.remix_view.specs.declared.segment.Segment.{Segment}
use Rattle.remix_view.specs.declared.segments.Segments.{Segments}
use Rattle.remix_view.specs.declared.segments.Segments.TheVariants.{Owned, Shared}

abbrev pub segments_kept : Segments → List Segment
segments_kept (Owned segments) = segments.items
segments_kept (Shared segments) = (arc_value segments).items
