-- The grammar of partitions as a reader meets it: each field by those before it. To know: `PartsFit`, `parts_fit`, `parts_from`.
use Rattle.std.proofs.Common.{◌≡◌, inl, inr, ℕ, ◌^◌, ◌<◌, ◌≤◌, ◌⊎◌, Bool, true, false, List, [], ◌∷◌, ◌++◌, length, Option, Some, None, refl, sym, subst, append_assoc, arith}
use Rattle.std.specs.List.{AllByRecursion}
use Rattle.std.specs.declared.cmp.Ordering.TheVariants.{Less}
use Rattle.std.proofs.lemmas.Bool.{cases_lt}
use Rattle.std.proofs.lemmas.List.{append-nil}
use Rattle.rdb_base.specs.Order.{key_cmp}
use Rattle.rdb_base.proofs.Lists.{all-append, all-front, all-back}
use Rattle.edition_code.specs.declared.run_field.RunField.{RunField}
use Rattle.edition_code.specs.declared.index_field.IndexField.{IndexField}
use Rattle.edition_code.specs.declared.format.TheConstants.{RUNS_MAX}
use Rattle.edition_code.specs.Values.{PartValue}
use Rattle.edition_code.specs.Editions.{BeginsEmpty, IsLowLength, AreLowLengths, RiseAbove, AreRising, lows_of, run_numbers, index_numbers, part_numbers, file_numbers, is_in, AreNew, IsDrawn, IsIndexed}
use Rattle.edition_code.specs.Laws.{IsRunHeld, IsIndexHeld, IsPartHeld}

-- a low bound comes first, or after this one
abbrev pub LowFits : Bool → List ℕ → List ℕ → Type 0
LowFits true last low = low ≡ []
LowFits false last low = IsLowLength (length low) × (key_cmp last low ≡ Less)

-- low bounds, of which the first comes first or after this one
abbrev pub LowsFit : Bool → List ℕ → List (List ℕ) → Type 0
LowsFit is_first last [] = Unit {0}
LowsFit is_first last (low ∷ lows) = LowFits is_first last low × LowsFit false low lows

-- the file of a run, with these numbers before it
pub record RunFits (next : ℕ) (before : List ℕ) (run : RunField) : Type 0 where
  pub drawn : IsDrawn next run.number
  pub new : is_in run.number before ≡ false
  pub held : IsRunHeld run

abbrev pub RunsFit : ℕ → List ℕ → List RunField → Type 0
RunsFit next before [] = Unit {0}
RunsFit next before (run ∷ runs) = RunFits next before run × RunsFit next (before ++ run.number ∷ []) runs

-- an index has the fields of a run
abbrev pub run_of : IndexField → RunField
run_of index = record { number = index.number; length = index.length; digest = index.digest }

abbrev pub IndexFits : ℕ → ℕ → List ℕ → Option IndexField → Type 0
IndexFits runs next before None = Unit {0}
IndexFits runs next before (Some index) = (1 ≤ runs) × RunFits next before (run_of index)

-- a partition that comes first or after this bound, with these numbers before it
pub record PartFits (next : ℕ) (is_first : Bool) (last before : List ℕ) (part : PartValue) : Type 0 where
  pub low : LowFits is_first last part.low
  pub base : part.base < 2 ^ 64
  pub few : length part.runs ≤ RUNS_MAX
  pub runs : RunsFit next before part.runs
  pub index : IndexFits (length part.runs) next (before ++ run_numbers part.runs) part.index

abbrev pub PartsFit : ℕ → Bool → List ℕ → List ℕ → List PartValue → Type 0
PartsFit next is_first last before [] = Unit {0}
PartsFit next is_first last before (part ∷ parts) = PartFits next is_first last before part × PartsFit next false part.low (before ++ part_numbers part) parts

-- ---- numbers that are new, in two lists

pub AreNew-split : (before xs ys : List ℕ) → AreNew before (xs ++ ys) → AreNew before xs × AreNew (before ++ xs) ys
AreNew-split before [] ys h = (tt, subst (λ (l : List ℕ). AreNew l ys) (sym (append-nil before)) h)
AreNew-split before (x ∷ xs) ys h =
    let rest = AreNew-split (before ++ x ∷ []) xs ys h.1 in
    ((h.0, rest.0), subst (λ (l : List ℕ). AreNew l ys) (append_assoc before (x ∷ []) xs) rest.1)

pub AreNew-join : (before xs ys : List ℕ) → AreNew before xs → AreNew (before ++ xs) ys → AreNew before (xs ++ ys)
AreNew-join before [] ys h k = subst (λ (l : List ℕ). AreNew l ys) (append-nil before) k
AreNew-join before (x ∷ xs) ys h k = (h.0, AreNew-join (before ++ x ∷ []) xs ys h.1 (subst (λ (l : List ℕ). AreNew l ys) (sym (append_assoc before (x ∷ []) xs)) k))

-- ---- low bounds

lows_after : (last : List ℕ) (lows : List (List ℕ)) → AllByRecursion (λ (low : List ℕ). IsLowLength (length low)) lows → RiseAbove last lows → LowsFit false last lows
lows_after last [] long rise = tt
lows_after last (low ∷ lows) long rise = ((long.0, rise.0), lows_after low lows long.1 rise.1)

pub lows_fit : (lows : List (List ℕ)) → BeginsEmpty lows → AreLowLengths lows → AreRising lows → LowsFit true [] lows
lows_fit [] begins long rise = tt
lows_fit (low ∷ lows) begins long rise = (begins, lows_after low lows long rise)

lows_long : (last : List ℕ) (lows : List (List ℕ)) → LowsFit false last lows → AllByRecursion (λ (low : List ℕ). IsLowLength (length low)) lows
lows_long last [] fits = tt
lows_long last (low ∷ lows) fits = (fits.0.0, lows_long low lows fits.1)

lows_rise : (last : List ℕ) (lows : List (List ℕ)) → LowsFit false last lows → RiseAbove last lows
lows_rise last [] fits = tt
lows_rise last (low ∷ lows) fits = (fits.0.1, lows_rise low lows fits.1)

pub lows_begin : (lows : List (List ℕ)) → 1 ≤ length lows → LowsFit true [] lows → BeginsEmpty lows
lows_begin [] some fits = absurd (omega (arith, some))
lows_begin (low ∷ lows) some fits = fits.0

pub lows_lengths : (lows : List (List ℕ)) → LowsFit true [] lows → AreLowLengths lows
lows_lengths [] fits = tt
lows_lengths (low ∷ lows) fits = lows_long low lows fits.1

pub lows_rising : (lows : List (List ℕ)) → LowsFit true [] lows → AreRising lows
lows_rising [] fits = tt
lows_rising (low ∷ lows) fits = lows_rise low lows fits.1

-- ---- runs and indexes

runs_fit : (next : ℕ) (before : List ℕ) (runs : List RunField) → AllByRecursion (IsDrawn next) (run_numbers runs) → AreNew before (run_numbers runs) → AllByRecursion IsRunHeld runs → RunsFit next before runs
runs_fit next before [] drawn new held = tt
runs_fit next before (run ∷ runs) drawn new held = (record { drawn = drawn.0; new = new.0; held = held.0 }, runs_fit next (before ++ run.number ∷ []) runs drawn.1 new.1 held.1)

runs_drawn : (next : ℕ) (before : List ℕ) (runs : List RunField) → RunsFit next before runs → AllByRecursion (IsDrawn next) (run_numbers runs)
runs_drawn next before [] fits = tt
runs_drawn next before (run ∷ runs) fits = (fits.0.drawn, runs_drawn next (before ++ run.number ∷ []) runs fits.1)

runs_new : (next : ℕ) (before : List ℕ) (runs : List RunField) → RunsFit next before runs → AreNew before (run_numbers runs)
runs_new next before [] fits = tt
runs_new next before (run ∷ runs) fits = (fits.0.new, runs_new next (before ++ run.number ∷ []) runs fits.1)

runs_held : (next : ℕ) (before : List ℕ) (runs : List RunField) → RunsFit next before runs → AllByRecursion IsRunHeld runs
runs_held next before [] fits = tt
runs_held next before (run ∷ runs) fits = (fits.0.held, runs_held next (before ++ run.number ∷ []) runs fits.1)

index_fit : (runs next : ℕ) (before : List ℕ) (index : Option IndexField) → AllByRecursion (IsDrawn next) (index_numbers index) → AreNew before (index_numbers index) → IsIndexHeld index → (runs ≡ 0 → index ≡ None) → IndexFits runs next before index
index_fit runs next before None drawn new held some = tt
index_fit runs next before (Some index) drawn new held some = (with_runs (cases_lt runs 1), record { drawn = drawn.0; new = new.0; held = record { size = held.0; digest = held.1 } })
  where
    with_runs : (runs < 1) ⊎ (1 ≤ runs) → 1 ≤ runs
    with_runs (inl few) = absurd (no_index (some (omega (arith, few))))
      where
        no_index : Some index ≡ None → ⊥
        no_index e = cc
    with_runs (inr many) = many

index_drawn : (runs next : ℕ) (before : List ℕ) (index : Option IndexField) → IndexFits runs next before index → AllByRecursion (IsDrawn next) (index_numbers index)
index_drawn runs next before None fits = tt
index_drawn runs next before (Some index) fits = (fits.1.drawn, tt)

index_new : (runs next : ℕ) (before : List ℕ) (index : Option IndexField) → IndexFits runs next before index → AreNew before (index_numbers index)
index_new runs next before None fits = tt
index_new runs next before (Some index) fits = (fits.1.new, tt)

index_held : (runs next : ℕ) (before : List ℕ) (index : Option IndexField) → IndexFits runs next before index → IsIndexHeld index
index_held runs next before None fits = tt
index_held runs next before (Some index) fits = (fits.1.held.size, fits.1.held.digest)

index_some : (runs next : ℕ) (before : List ℕ) (index : Option IndexField) → IndexFits runs next before index → runs ≡ 0 → index ≡ None
index_some runs next before None fits none = refl
index_some runs next before (Some index) fits none = absurd (omega (arith, fits.0, none))

-- ---- partitions

-- what the grammar asks of partitions that come first or after this bound, with these numbers before them
pub record PartRules (next : ℕ) (is_first : Bool) (last before : List ℕ) (parts : List PartValue) : Type 0 where
  pub lows : LowsFit is_first last (lows_of parts)
  pub few : AllByRecursion (λ (part : PartValue). length part.runs ≤ RUNS_MAX) parts
  pub drawn : AllByRecursion (IsDrawn next) (file_numbers parts)
  pub new : AreNew before (file_numbers parts)
  pub indexed : AllByRecursion IsIndexed parts
  pub held : AllByRecursion IsPartHeld parts

pub parts_fit : (next : ℕ) (is_first : Bool) (last before : List ℕ) (parts : List PartValue) → PartRules next is_first last before parts → PartsFit next is_first last before parts
parts_fit next is_first last before [] rules = tt
parts_fit next is_first last before (part ∷ parts) rules =
    let drawn = all-front (IsDrawn next) (part_numbers part) (file_numbers parts) rules.drawn in
    let new = AreNew-split before (part_numbers part) (file_numbers parts) rules.new in
    let inner = AreNew-split before (run_numbers part.runs) (index_numbers part.index) new.0 in (
      record {
        low = rules.lows.0;
        base = rules.held.0.base;
        few = rules.few.0;
        runs = runs_fit next before part.runs (all-front (IsDrawn next) (run_numbers part.runs) (index_numbers part.index) drawn) inner.0 rules.held.0.runs;
        index = index_fit (length part.runs) next (before ++ run_numbers part.runs) part.index (all-back (IsDrawn next) (run_numbers part.runs) (index_numbers part.index) drawn) inner.1 rules.held.0.index rules.indexed.0;
      },
      parts_fit next false part.low (before ++ part_numbers part) parts (record {
        lows = rules.lows.1;
        few = rules.few.1;
        drawn = all-back (IsDrawn next) (part_numbers part) (file_numbers parts) rules.drawn;
        new = new.1;
        indexed = rules.indexed.1;
        held = rules.held.1;
      }),
    )

pub parts_from : (next : ℕ) (is_first : Bool) (last before : List ℕ) (parts : List PartValue) → PartsFit next is_first last before parts → PartRules next is_first last before parts
parts_from next is_first last before [] fits = record { lows = tt; few = tt; drawn = tt; new = tt; indexed = tt; held = tt }
parts_from next is_first last before (part ∷ parts) fits =
    let one = fits.0 in
    let after = before ++ run_numbers part.runs in
    let more = parts_from next false part.low (before ++ part_numbers part) parts fits.1 in
    record {
      lows = (one.low, more.lows);
      few = (one.few, more.few);
      drawn = all-append (IsDrawn next) (part_numbers part) (file_numbers parts)
          (all-append (IsDrawn next) (run_numbers part.runs) (index_numbers part.index) (runs_drawn next before part.runs one.runs) (index_drawn (length part.runs) next after part.index one.index)) more.drawn;
      new = AreNew-join before (part_numbers part) (file_numbers parts)
          (AreNew-join before (run_numbers part.runs) (index_numbers part.index) (runs_new next before part.runs one.runs) (index_new (length part.runs) next after part.index one.index)) more.new;
      indexed = (index_some (length part.runs) next after part.index one.index, more.indexed);
      held = (record { base = one.base; runs = runs_held next before part.runs one.runs; index = index_held (length part.runs) next after part.index one.index }, more.held);
    }
