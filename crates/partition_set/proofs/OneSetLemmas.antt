-- A set of one partition. To know: one-set.
use Rattle.std.proofs.Common.{◌≡◌, ℕ, ◌≤◌, List, [], ◌∷◌, length, map, sym, ap, subst}
use Rattle.std.specs.Prelude.{Some, None}
use Rattle.std.specs.List.{AllByRecursion}
use Rattle.rdb_base.specs.declared.pair.Pair.{Pair}
use Rattle.rdb_base.proofs.RangeLemmas.{range_to}
use Rattle.remix_seek.specs.Indexes.{Indexes}
use Rattle.partition_set.specs.Partitions.{PartState, IsWithin, IsSet}
use Rattle.partition_set.proofs.SetLemmas.{none_below_empty}

all-keys : (pairs : List Pair) → IsWithin [] None pairs
all-keys [] = tt
all-keys (p ∷ ps) = (range_to [] None p.key (none_below_empty p.key) tt, all-keys ps)

all-runs : (runs : List (List Pair)) → AllByRecursion (IsWithin [] None) runs
all-runs [] = tt
all-runs (r ∷ rs) = (all-keys r, all-runs rs)

-- one partition from the empty bound on, whose index stands for its runs
pub one-set : {T : Type 0} (run : T → List Pair) (part : PartState T) (parts : List (PartState T)) → parts ≡ part ∷ [] → part.low ≡ [] → length part.runs ≤ 8 → Indexes (map run part.runs) part.view part.anchors → IsSet run parts
one-set run part parts e low few indexed =
    subst (IsSet run) (sym e) (record {
      first = ap (λ (bound : List ℕ). Some bound) low;
      each = (record { few = few; inside = subst (λ (bound : List ℕ). AllByRecursion (IsWithin bound None) (map run part.runs)) (sym low) (all-runs (map run part.runs)); indexed = indexed }, tt, tt);
    })
