-- Placing rows one by one: where each stands, and what it costs. To know: placed-next, placed-in_part, key-cost, cost-next, cost-whole, formed-next.
use Rattle.std.proofs.Common.{◌≡◌, ℕ, zero, suc, ◌+◌, ◌<◌, ◌≤◌, ◌^◌, Bool, List, [], ◌∷◌, ◌++◌, length, map, take, get_or, refl, sym, subst, ◌∙◌, arith}
use Rattle.std.specs.Prelude.{slice_get, Some, max}
use Rattle.std.specs.List.{AllByRecursion}
use Rattle.std.proofs.lemmas.List.Sums.{sum_by-take-le}
use Rattle.rdb_base.specs.declared.pair.Pair.{Pair}
use Rattle.remix_view.proofs.Lists.{some_same}
use Rattle.remix_view.specs.Views.{IsFormed}
use Rattle.remix_view.specs.Spots.{spots_from}
use Rattle.remix_seek.specs.Places.{IsFirstPlace, SeekCost}
use Rattle.partition_set.specs.Partitions.{PartState}
use Rattle.partition_set.specs.Bounds.{IsPartOf}
use Rattle.partition_set.proofs.SumLemmas.{sum-next}
use Rattle.overlay_view.specs.declared.placement.Placement.{Placement}
use Rattle.overlay_view.specs.Placements.{IsPlacedAt, ArePlaced, KeyCost, PlaceCost, first_shows}

-- ---- where rows stand

-- one row more
pub placed-next : {T : Type 0} (run : T → List Pair) (parts : List (PartState T)) (rows : List Pair) (placements : List Placement) (i next : ℕ) (row : Pair) (placement : Placement) → next ≡ i + 1 → i < length rows → row ≡ get_or rows i row → ArePlaced run parts (take i rows) placements → IsPlacedAt run parts row.key placement
    → ArePlaced run parts (take next rows) (placements ++ placement ∷ [])
placed-next run parts [] placements i next row placement e lt is all here = absurd (omega arith)
placed-next run parts (y ∷ ys) placements i zero row placement e lt is all here = absurd (omega arith)
placed-next run parts (y ∷ ys) [] zero (suc zero) row placement e lt is all here = (subst (λ (p : Pair). IsPlacedAt run parts p.key placement) is here, tt)
placed-next run parts (y ∷ ys) (x ∷ xs) zero (suc zero) row placement e lt is all here = absurd all
placed-next run parts (y ∷ ys) placements zero (suc (suc n)) row placement e lt is all here = absurd (omega arith)
placed-next run parts (y ∷ ys) [] (suc i) (suc n) row placement e lt is all here = absurd all
placed-next run parts (y ∷ ys) (x ∷ xs) (suc i) (suc n) row placement e lt is all here = (all.0, placed-next run parts ys xs i n row placement (omega (arith, e)) (omega arith) is all.1 here)

-- a key at its first place in its partition
pub placed-in_part : {T : Type 0} (run : T → List Pair) (parts : List (PartState T)) (key : List ℕ) (number segment place : ℕ) (hides : Bool) (part : PartState T) → IsPartOf parts key number → slice_get parts number ≡ Some part → IsFirstPlace (map run part.runs) part.view key segment place → hides ≡ first_shows (map run part.runs) (spots_from part.view segment place) key
    → IsPlacedAt run parts key (record { place = record { part = number; segment = segment; place = place }; hides = hides })
placed-in_part {T} run parts key number segment place hides part is at first shows =
    let same : part ≡ is.part = some_same part is.part (sym at ∙ is.at) in
    record {
      part_of = is;
      first = subst (λ (p : PartState T). IsFirstPlace (map run p.runs) p.view key segment place) same first;
      hides = subst (λ (p : PartState T). hides ≡ first_shows (map run p.runs) (spots_from p.view segment place) key) same shows;
    }

-- ---- what it costs

pub key-cost : {T : Type 0} (parts : List (PartState T)) (key : List ℕ) (number : ℕ) (part : PartState T) (before middle now : ℕ) → IsPartOf parts key number → slice_get parts number ≡ Some part → SeekCost part.view before middle → now ≤ middle + 1 → KeyCost parts key before now
key-cost {T} parts key number part before middle now is at cost more power covers =
    let same : is.part ≡ part = some_same is.part part (sym is.at ∙ at) in
    let enough = cost (power key) (subst (λ (p : PartState T). max (length p.view.segments) 1 ≤ 2 ^ power key) same (covers key number is)) in
    omega (arith, enough, more)

-- one row more
pub cost-next : {T : Type 0} (parts : List (PartState T)) (rows : List Pair) (i next : ℕ) (row : Pair) (before middle now : ℕ) → next ≡ i + 1 → i < length rows → row ≡ get_or rows i row → PlaceCost parts (take i rows) before middle → KeyCost parts row.key middle now → PlaceCost parts (take next rows) before now
cost-next parts rows i next row before middle now e lt is cost more power covers =
    let sum = sum-next (λ (r : Pair). power r.key + 7) rows i next row e lt is in
    omega (arith, sum, cost power covers, more power covers)

-- the first rows cost no more than all
pub cost-whole : {T : Type 0} (parts : List (PartState T)) (rows : List Pair) (n before now : ℕ) → PlaceCost parts (take n rows) before now → PlaceCost parts rows before now
cost-whole parts rows n before now cost power covers = omega (arith, cost power covers, sum_by-take-le (λ (r : Pair). power r.key + 7) rows n)

-- ---- views that are formed

-- one partition more
pub formed-next : {T : Type 0} (parts : List (PartState T)) (i : ℕ) (part : PartState T) → slice_get parts i ≡ Some part → IsFormed part.view → AllByRecursion (λ (p : PartState T). IsFormed p.view) (take i parts) → AllByRecursion (λ (p : PartState T). IsFormed p.view) (take (suc i) parts)
formed-next [] i part at is all = absurd cc
formed-next (p ∷ ps) zero part at is all = (subst (λ q. IsFormed q.view) (sym (some_same p part at)) is, tt)
formed-next (p ∷ ps) (suc i) part at is all = (all.0, formed-next ps i part at is all.1)

pub formed-all : {T : Type 0} (parts : List (PartState T)) (n : ℕ) → length parts ≤ n → AllByRecursion (λ (p : PartState T). IsFormed p.view) (take n parts) → AllByRecursion (λ (p : PartState T). IsFormed p.view) parts
formed-all [] n le all = tt
formed-all (p ∷ ps) zero le all = absurd (omega arith)
formed-all (p ∷ ps) (suc n) le all = (all.0, formed-all ps n (omega arith) all.1)

pub formed-more : {T : Type 0} (parts : List (PartState T)) (i : ℕ) (part : PartState T) → slice_get parts i ≡ Some part → IsFormed part.view → AllByRecursion (λ (p : PartState T). IsFormed p.view) (take i parts) → AllByRecursion (λ (p : PartState T). IsFormed p.view) (take (i + 1) parts)
formed-more {T} parts i part at is all = subst (λ (n : ℕ). AllByRecursion (λ (p : PartState T). IsFormed p.view) (take n parts)) (later i) (formed-next parts i part at is all)
  where
    later : (n : ℕ) → suc n ≡ n + 1
    later n = omega arith

-- each row has a placement
pub length-placed : {T : Type 0} (run : T → List Pair) (parts : List (PartState T)) (rows : List Pair) (placements : List Placement) → ArePlaced run parts rows placements → length placements ≡ length rows
length-placed run parts [] [] all = refl
length-placed run parts [] (x ∷ xs) all = absurd all
length-placed run parts (r ∷ rs) [] all = absurd all
length-placed run parts (r ∷ rs) (x ∷ xs) all = let rest = length-placed run parts rs xs all.1 in omega (arith, rest)
