-- How a run is cut into blocks: a pair goes into the open block while it fits.
use Rattle.std.specs.Prelude.{◌+◌, List, [], ◌∷◌, ◌++◌, length, nat_le, if◌then◌else◌}
use Rattle.rdb_base.specs.Runs.{pair_size, sizes}
use Rattle.rdb_base.specs.declared.pair.Pair.{Pair}
use Rattle.block_code.specs.declared.format.TheConstants.{UNIT}
use Rattle.block_code.specs.Blocks.{head_size}

-- the blocks of the open one and of these pairs after it
unfoldable pub packed_after : List Pair → List Pair → List (List Pair)
packed_after opened [] = opened ∷ []
packed_after opened (pair ∷ pairs) = if nat_le (head_size (length opened + 1) + sizes opened + pair_size pair) UNIT then packed_after (opened ++ pair ∷ []) pairs else opened ∷ packed_after (pair ∷ []) pairs

-- the blocks of a run
unfoldable pub packed : List Pair → List (List Pair)
packed [] = []
packed (pair ∷ pairs) = packed_after (pair ∷ []) pairs
