-- Sets of three partitions, and keys that are found to be in a range. To know: within-next, part-open, three-set.
use Rattle.std.proofs.Common.{◌≡◌, ℕ, zero, suc, ◌+◌, ◌<◌, true, List, [], ◌∷◌, ◌++◌, length, map, take, get_or, refl, sym, ap, subst, arith}
use Rattle.std.specs.Prelude.{slice_get, Some, None}
use Rattle.std.specs.declared.cmp.Ordering.TheVariants.{Less}
use Rattle.std.proofs.lemmas.Option.{slice_get_read}
use Rattle.rdb_base.specs.Order.{key_cmp}
use Rattle.rdb_base.specs.Ranges.{in_range}
use Rattle.rdb_base.specs.declared.pair.Pair.{Pair}
use Rattle.rdb_base.proofs.Lists.{all-weaker, all-append}
use Rattle.rdb_base.proofs.RangeLemmas.{range_from, range_to}
use Rattle.remix_view.proofs.Lists.{some_same}
use Rattle.partition_set.specs.Partitions.{PartState, IsWithin, IsPart, IsSet}

take_one_more : (pairs : List Pair) (i : ℕ) (p : Pair) → slice_get pairs i ≡ Some p → take (suc i) pairs ≡ take i pairs ++ p ∷ []
take_one_more [] i p e = absurd cc
take_one_more (x ∷ xs) zero p e = ap (λ (y : Pair). y ∷ []) (some_same x p e)
take_one_more (x ∷ xs) (suc i) p e = ap (λ (ys : List Pair). x ∷ ys) (take_one_more xs i p e)

-- one key more that is in the range
pub within-next : (low high : List ℕ) (pairs : List Pair) (at : ℕ) (p : Pair) → at < length pairs → p ≡ get_or pairs at p → in_range low (Some high) p.key ≡ true → IsWithin low (Some high) (take at pairs) → IsWithin low (Some high) (take (at + 1) pairs)
within-next low high pairs at p lt read inside all =
    subst (λ (n : ℕ). IsWithin low (Some high) (take n pairs)) (later at)
    (subst (IsWithin low (Some high)) (sym (take_one_more pairs at p (slice_get_read pairs (length pairs) at p refl lt read)))
    (all-append (λ (q : Pair). in_range low (Some high) q.key ≡ true) (take at pairs) (p ∷ []) all (inside, tt)))
  where
    later : (n : ℕ) → suc n ≡ n + 1
    later n = omega arith

-- a range without a high bound has all keys of one with it
pub part-open : {T : Type 0} (run : T → List Pair) (high : List ℕ) (part : PartState T) → IsPart run (Some high) part → IsPart run None part
part-open run high part h = record { few = h.few; inside = all-weaker (IsWithin part.low (Some high)) (IsWithin part.low None) open_run (map run part.runs) h.inside; indexed = h.indexed }
  where
    open_run : (pairs : List Pair) → IsWithin part.low (Some high) pairs → IsWithin part.low None pairs
    open_run pairs all = all-weaker (λ (p : Pair). in_range part.low (Some high) p.key ≡ true) (λ (p : Pair). in_range part.low None p.key ≡ true) (λ p h. range_to part.low None p.key (range_from part.low (Some high) p.key h).0 tt) pairs all

-- three partitions that follow one another from the empty bound on
pub three-set : {T : Type 0} (run : T → List Pair) (a b c : PartState T) (parts : List (PartState T)) (last : List ℕ) → parts ≡ a ∷ b ∷ c ∷ [] → IsPart run (Some b.low) a → IsPart run (Some c.low) b → IsPart run (Some last) c → a.low ≡ [] → key_cmp a.low b.low ≡ Less → key_cmp b.low c.low ≡ Less → IsSet run parts
three-set run a b c parts last e first second third low rise again =
    subst (IsSet run) (sym e) (record {
      first = ap (λ (bound : List ℕ). Some bound) low;
      each = (first, rise, (second, again, (part-open run last c third, tt, tt)));
    })
