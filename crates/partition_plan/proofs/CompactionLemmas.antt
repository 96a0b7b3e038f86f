-- A whole compaction keeps the map. To know: `compacted-kept`, `compaction-kept`, `aborts-kept`.
use Rattle.std.proofs.Common.{◌≡◌, ℕ, true, List, [], ◌∷◌, ◌++◌, drop, get_or, refl, sym, ap, subst, ◌∙◌}
use Rattle.std.specs.Prelude.{Option, Some, None, not}
use Rattle.std.specs.Ordering.{is_lt}
use Rattle.std.specs.declared.cmp.Ordering.TheVariants.{Less, Greater}
use Rattle.std.proofs.lemmas.List.{append-nil}
use Rattle.std.proofs.lemmas.Option.{same_Some}
use Rattle.rdb_base.specs.Order.{key_cmp}
use Rattle.rdb_base.specs.Ranges.{NotBelow, in_range}
use Rattle.rdb_base.specs.Runs.{IsRun, AreBelow}
use Rattle.rdb_base.specs.Levels.{over, level_of, live, pairs_below}
use Rattle.rdb_base.specs.Pages.{pairs_from}
use Rattle.rdb_base.specs.declared.pair.Pair.{Pair}
use Rattle.rdb_base.proofs.OrderLemmas.{irreflexive}
use Rattle.rdb_base.proofs.RangeLemmas.{range_from, range_to, left_in, right_in}
use Rattle.rdb_base.proofs.Lists.{all-weaker, all-append, all-filter}
use Rattle.rdb_base.proofs.RunLemmas.{IsRun-filter, IsRun-level_of, AreBelow-pairs_below}
use Rattle.rdb_base.proofs.LiveLemmas.{live-append}
use Rattle.partition_plan.specs.declared.decision.Decision.{Decision}
use Rattle.partition_plan.specs.declared.decision.Decision.TheVariants.{Abort}
use Rattle.partition_plan.specs.Pieces.{pieces_of, carried_of}
use Rattle.partition_plan.specs.Compactions.{PartRuns, next_low, IsWithin, AreParts, parts_level, news, compacted, all_carried, piece_parts, parts_after}
use Rattle.partition_plan.specs.CompactionLaws.{KeepsPart, CompactionKeepsMap, AreAborts, AbortsKeepAll}
use Rattle.partition_plan.proofs.ApartLemmas.{over-apart, run-apart, AreFrom, AreFrom-pairs_from, below-from_pairs}
use Rattle.partition_plan.proofs.PartLemmas.{within-below, within-from, level-within, IsWithin-parts_level, IsRun-parts_level, parts_level-append, next_low-append, AreParts-append, next-inside}
use Rattle.partition_plan.proofs.PieceLemmas.{pieces-kept}

-- what is kept of partitions up to a high bound, the first of which has this low bound
pub record Keeps (high : Option (List ℕ)) (low : List ℕ) (parts : List PartRuns) (new carried : List Pair) (after : List PartRuns) : Type 0 where
  pub rows : live (over carried (parts_level after)) ≡ live (over new (parts_level parts))
  pub first : next_low None after ≡ Some low
  pub follow : AreParts high after
  pub rises : IsRun carried
  pub inside : IsWithin low high carried

-- ---- new data on both sides of a bound

new-below : (low bound : List ℕ) (high : Option (List ℕ)) (new : List Pair) → IsWithin low high new → IsWithin low (Some bound) (pairs_below bound new)
new-below low bound high new inside =
    both (pairs_below bound new) (all-filter (λ (p : Pair). in_range low high p.key ≡ true) (λ (p : Pair). is_lt (key_cmp p.key bound)) new inside) (AreBelow-pairs_below bound new)
  where
    both : (pairs : List Pair) → IsWithin low high pairs → AreBelow pairs bound → IsWithin low (Some bound) pairs
    both [] all below = tt
    both (p ∷ ps) all below = (range_to low (Some bound) p.key (range_from low high p.key all.0).0 below.0, both ps all.1 below.1)

new-from : (low bound : List ℕ) (high : Option (List ℕ)) (new : List Pair) → IsWithin low high new → IsWithin bound high (pairs_from new bound)
new-from low bound high new inside =
    both (pairs_from new bound) (all-filter (λ (p : Pair). in_range low high p.key ≡ true) (λ (p : Pair). not (is_lt (key_cmp p.key bound))) new inside) (AreFrom-pairs_from bound new)
  where
    both : (pairs : List Pair) → IsWithin low high pairs → AreFrom pairs bound → IsWithin bound high pairs
    both [] all from = tt
    both (p ∷ ps) all from = (range_to bound high p.key from.0 (range_from low high p.key all.0).1, both ps all.1 from.1)

-- ---- the partitions of some, from a bound on

level-of_first : (high : Option (List ℕ)) (low : List ℕ) (parts : List PartRuns) → next_low None parts ≡ Some low → AreParts high parts → IsWithin low high (parts_level parts)
level-of_first high low [] first are = tt
level-of_first high low (part ∷ parts) first are = subst (λ bound. IsWithin bound high (parts_level (part ∷ parts))) (same_Some part.low low first) (IsWithin-parts_level high part parts are)

-- the bound after others, where there is one
next-some : (high : Option (List ℕ)) (low : List ℕ) (parts : List PartRuns) → next_low None parts ≡ Some low → next_low high parts ≡ Some low
next-some high low [] first = absurd cc
next-some high low (part ∷ parts) first = first

-- ---- one partition, and those after it

two : (high : Option (List ℕ)) (part next : PartRuns) (parts : List PartRuns) (new c1 c2 : List Pair) (a1 a2 : List PartRuns) → AreParts high (part ∷ next ∷ parts) → IsRun new → IsWithin part.low high new
    → KeepsPart (Some next.low) part (pairs_below next.low new) c1 a1 → Keeps high next.low (next ∷ parts) (pairs_from new next.low) c2 a2
    → Keeps high part.low (part ∷ next ∷ parts) new (c1 ++ c2) (a1 ++ a2)
two high part next parts new c1 c2 a1 a2 are run inside one rest =
    let low1 = level-of_first (Some next.low) part.low a1 one.first one.follow in
    let low2 = level-of_first high next.low a2 rest.first rest.follow in
    let run1 = IsRun-parts_level (Some next.low) a1 one.follow in
    let run2 = IsRun-parts_level high a2 rest.follow in
    let c1_below = within-below part.low next.low c1 one.inside in
    let c2_from = within-from next.low high c2 rest.inside in
    let old1 = level-within part.low (Some next.low) part.runs are.0.inside in
    let old2 = IsWithin-parts_level high next parts are.2 in
    let low_new = pairs_below next.low new in
    let high_new = pairs_from new next.low in
    record {
      rows =
          ap (λ level. live (over (c1 ++ c2) level)) (parts_level-append a1 a2)
          ∙ ap live (over-apart c1 c2 (parts_level a1) (parts_level a2) next.low c1_below c2_from run1 run2 (within-below part.low next.low (parts_level a1) low1) (within-from next.low high (parts_level a2) low2))
          ∙ live-append (over c1 (parts_level a1)) (over c2 (parts_level a2))
          ∙ (λ i. one.rows i ++ rest.rows i)
          ∙ sym (live-append (over low_new (level_of part.runs)) (over high_new (parts_level (next ∷ parts))))
          ∙ ap live (sym (over-apart low_new high_new (level_of part.runs) (parts_level (next ∷ parts)) next.low (AreBelow-pairs_below next.low new) (AreFrom-pairs_from next.low new)
          (IsRun-level_of part.runs) (IsRun-parts_level high (next ∷ parts) are.2) (within-below part.low next.low (level_of part.runs) old1) (within-from next.low high (parts_level (next ∷ parts)) old2)))
          ∙ ap (λ n. live (over n (parts_level (part ∷ next ∷ parts)))) (below-from_pairs next.low new run);
      first = next_low-append None a1 a2 ∙ next-some (next_low None a2) part.low a1 one.first;
      follow = AreParts-append high a1 a2 (subst (λ bound. AreParts bound a1) (sym (next-some high next.low a2 rest.first)) one.follow) rest.follow;
      rises = run-apart c1 c2 next.low one.rises rest.rises c1_below c2_from;
      inside =
          let cut = next-inside high part next parts are in
          all-append (λ (p : Pair). in_range part.low high p.key ≡ true) c1 c2
          (all-weaker (λ (p : Pair). in_range part.low (Some next.low) p.key ≡ true) (λ (p : Pair). in_range part.low high p.key ≡ true) (λ p h. left_in part.low high next.low p.key cut h) c1 one.inside)
          (all-weaker (λ (p : Pair). in_range next.low high p.key ≡ true) (λ (p : Pair). in_range part.low high p.key ≡ true) (λ p h. right_in part.low high next.low p.key cut h) c2 rest.inside);
    }

last : (high : Option (List ℕ)) (part : PartRuns) (new carried : List Pair) (after : List PartRuns) → KeepsPart high part new carried after → Keeps high part.low (part ∷ []) new (carried ++ []) (after ++ [])
last high part new carried after k = record {
  rows = (λ i. live (over (append-nil carried i) (parts_level (append-nil after i)))) ∙ k.rows ∙ ap (λ level. live (over new level)) (sym (append-nil (level_of part.runs)));
  first = ap (next_low None) (append-nil after) ∙ k.first;
  follow = subst (AreParts high) (sym (append-nil after)) k.follow;
  rises = subst IsRun (sym (append-nil carried)) k.rises;
  inside = subst (IsWithin part.low high) (sym (append-nil carried)) k.inside;
}

-- ---- all partitions

pub compacted-kept : (decisions : List Decision) (high : Option (List ℕ)) (part : PartRuns) (parts : List PartRuns) (new : List Pair) → AreParts high (part ∷ parts) → IsRun new → IsWithin part.low high new
    → Keeps high part.low (part ∷ parts) new (all_carried (compacted decisions (part ∷ parts) (news (part ∷ parts) new))) (parts_after (part ∷ parts) (compacted decisions (part ∷ parts) (news (part ∷ parts) new)))
compacted-kept decisions high part [] new are run inside =
    let d = get_or decisions 0 Abort in
    last high part new (carried_of d new) (piece_parts part.runs (pieces_of d part.low part.runs new)) (pieces-kept d high part new are run inside)
compacted-kept decisions high part (next ∷ parts) new are run inside =
    let d = get_or decisions 0 Abort in
    let low_new = pairs_below next.low new in
    let high_new = pairs_from new next.low in
    let rest = compacted (drop 1 decisions) (next ∷ parts) (news (next ∷ parts) high_new) in
    two high part next parts new (carried_of d low_new) (all_carried rest) (piece_parts part.runs (pieces_of d part.low part.runs low_new)) (parts_after (next ∷ parts) rest) are run inside
    (pieces-kept d (Some next.low) part low_new (are.0, are.1, tt) (IsRun-filter (λ (p : Pair). is_lt (key_cmp p.key next.low)) new run) (new-below part.low next.low high new inside))
    (compacted-kept (drop 1 decisions) high next parts high_new are.2 (IsRun-filter (λ (p : Pair). not (is_lt (key_cmp p.key next.low))) new run) (new-from part.low next.low high new inside))

-- no key is below the empty one
not_below_empty : (key : List ℕ) → NotBelow key []
not_below_empty [] less = irreflexive [] less
not_below_empty (x ∷ xs) less = let no : Greater ≡ Less = less in absurd cc

all-from_empty : (low : List ℕ) (pairs : List Pair) → low ≡ [] → IsWithin low None pairs
all-from_empty low [] empty = tt
all-from_empty low (p ∷ ps) empty = (range_to low None p.key (subst (NotBelow p.key) (sym empty) (not_below_empty p.key)) tt, all-from_empty low ps empty)

pub compaction-kept : CompactionKeepsMap
compaction-kept decisions [] new all run = let no = all.first in absurd cc
compaction-kept decisions (part ∷ parts) new all run =
    let k = compacted-kept decisions None part parts new all.each run (all-from_empty part.low new (same_Some part.low [] all.first)) in
    record { rows = k.rows; all = record { first = k.first ∙ all.first; each = k.follow }; rises = k.rises }

-- ---- aborts alone

first-abort : (decisions : List Decision) → AreAborts decisions → get_or decisions 0 Abort ≡ Abort
first-abort [] all = refl
first-abort (d ∷ decisions) all = all.0

later-aborts : (decisions : List Decision) → AreAborts decisions → AreAborts (drop 1 decisions)
later-aborts [] all = tt
later-aborts (d ∷ decisions) all = all.1

-- one partition and those after it, of which all stay
abbrev pub Stay : PartRuns → List PartRuns → List Pair → List Pair → List PartRuns → List Pair → Decision → Type 0
Stay part parts new whole after carried d = (piece_parts part.runs (pieces_of d part.low part.runs new) ++ after ≡ part ∷ parts) × (carried_of d new ++ carried ≡ whole)

stays : (part : PartRuns) (parts : List PartRuns) (new whole : List Pair) (after : List PartRuns) (carried : List Pair) (d : Decision) → d ≡ Abort → after ≡ parts → new ++ carried ≡ whole → Stay part parts new whole after carried d
stays part parts new whole after carried d abort same all = subst (Stay part parts new whole after carried) (sym abort) (ap (λ ps. part ∷ ps) same, all)

pub aborts-keep : (decisions : List Decision) (part : PartRuns) (parts : List PartRuns) (new : List Pair) → AreAborts decisions → IsRun new
    → (parts_after (part ∷ parts) (compacted decisions (part ∷ parts) (news (part ∷ parts) new)) ≡ part ∷ parts) × (all_carried (compacted decisions (part ∷ parts) (news (part ∷ parts) new)) ≡ new)
aborts-keep decisions part [] new all run = stays part [] new new [] [] (get_or decisions 0 Abort) (first-abort decisions all) refl (append-nil new)
aborts-keep decisions part (next ∷ parts) new all run =
    let high_new = pairs_from new next.low in
    let rest = compacted (drop 1 decisions) (next ∷ parts) (news (next ∷ parts) high_new) in
    let kept = aborts-keep (drop 1 decisions) next parts high_new (later-aborts decisions all) (IsRun-filter (λ (p : Pair). not (is_lt (key_cmp p.key next.low))) new run) in
    stays part (next ∷ parts) (pairs_below next.low new) new (parts_after (next ∷ parts) rest) (all_carried rest) (get_or decisions 0 Abort) (first-abort decisions all) kept.0
    (ap (λ c. pairs_below next.low new ++ c) kept.1 ∙ below-from_pairs next.low new run)

pub aborts-kept : AbortsKeepAll
aborts-kept decisions [] new aborts all run = let no = all.first in absurd cc
aborts-kept decisions (part ∷ parts) new aborts all run = aborts-keep decisions part parts new aborts run
