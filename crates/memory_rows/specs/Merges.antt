-- Two runs that are merged from the front.
use Rattle.std.specs.Prelude.{◌≡◌, List, [], ◌∷◌, Option, Some, None}
use Rattle.std.specs.declared.cmp.Ordering.{Ordering}
use Rattle.std.specs.declared.cmp.Ordering.TheVariants.{Less, Greater}
use Rattle.rdb_base.specs.Order.{key_cmp}
use Rattle.rdb_base.specs.Runs.{IsRun}
use Rattle.rdb_base.specs.Levels.{over}
use Rattle.rdb_base.specs.declared.pair.Pair.{Pair}

-- the order of the first keys; a list that has none comes last
abbrev pub fronts_cmp : List Pair → List Pair → Ordering
fronts_cmp [] older = Greater
fronts_cmp (pair ∷ newer) [] = Less
fronts_cmp (pair ∷ newer) (other ∷ older) = key_cmp pair.key other.key

-- two runs
pub record AreRuns (newer older : List Pair) : Type 0 where
  pub newer_rises : IsRun newer
  pub older_rises : IsRun older

-- the first pair of both runs merged was taken, where there was one: of equal keys the newer one's, and the older one's is gone
abbrev pub TakesFirst : Option Pair → List Pair → List Pair → List Pair → List Pair → Type 0
TakesFirst None newer older newer_left older_left = over newer older ≡ []
TakesFirst (Some pair) newer older newer_left older_left = over newer older ≡ pair ∷ over newer_left older_left
