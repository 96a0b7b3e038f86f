-- Deletions below newer pairs are no rows: the puts alone have the same. To know: live-over_puts.
use Rattle.std.proofs.Common.{◌≡◌, Bool, List, [], ◌∷◌, refl, sym, ap, ◌∙◌}
use Rattle.std.specs.Prelude.{filter, not}
use Rattle.rdb_base.specs.Maps.{changed}
use Rattle.rdb_base.specs.Levels.{over, live, row_before}
use Rattle.rdb_base.specs.declared.row.Row.{Row}
use Rattle.rdb_base.specs.declared.change.Change.{Change}
use Rattle.rdb_base.specs.declared.change.Change.TheVariants.{Put, Del}
use Rattle.rdb_base.specs.declared.pair.Pair.{Pair}
use Rattle.rdb_base.proofs.LiveLemmas.{live-with_pair}
use Rattle.remix_seek.specs.Versions.{is_deletion}

abbrev pub is_put : Pair → Bool
is_put pair = not (is_deletion pair.change)

-- a list without its deletions has the same rows
pub live-puts : (pairs : List Pair) → live (filter is_put pairs) ≡ live pairs
live-puts [] = refl
live-puts (p ∷ ps) = by_change p.change refl (live-puts ps)
  where
    by_change : (change : Change) → p.change ≡ change → live (filter is_put ps) ≡ live ps → live (filter is_put (p ∷ ps)) ≡ row_before p.key p.change (live ps)
    by_change (Put value) e rest = (rw e refl) ∙ ap (row_before p.key p.change) rest
    by_change Del e rest = (rw e rest)

-- and so has what stands above it
pub live-over_puts : (newer older : List Pair) → live (over newer (filter is_put older)) ≡ live (over newer older)
live-over_puts [] older = live-puts older
live-over_puts (p ∷ ps) older =
    live-with_pair (over ps (filter is_put older)) p.key p.change
    ∙ ap (λ (rows : List Row). changed rows p.key p.change) (live-over_puts ps older)
    ∙ sym (live-with_pair (over ps older) p.key p.change)
