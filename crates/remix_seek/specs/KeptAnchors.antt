-- The anchors that an index keeps, its own or shared.
use Rattle.std.specs.Prelude.{ℕ, List}
use Rattle.std.specs.Arc.{arc_value}
use Rattle.remix_seek.specs.declared.anchor_keys.AnchorKeys.{AnchorKeys}
use Rattle.remix_seek.specs.declared.anchor_keys.AnchorKeys.TheVariants.{Owned, Shared}

abbrev pub keys_kept : AnchorKeys → List (List ℕ)
keys_kept (Owned keys) = keys.items
keys_kept (Shared keys) = (arc_value keys).items
