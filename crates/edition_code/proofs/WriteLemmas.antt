-- Fields in a row, written one after another, and what the grammar says of their sizes. To know: `go_on`, `parts_within`.
use Rattle.std.proofs.Common.{◌≡◌, ℕ, ◌≤◌, List, [], ◌∷◌, ◌++◌, length, refl, sym, ap, ◌∙◌, append_assoc, arith}
use Rattle.std.proofs.lemmas.List.{append-nil}
use Rattle.std.specs.List.{AllByRecursion}
use Rattle.edition_code.specs.declared.run_field.RunField.{RunField}
use Rattle.edition_code.specs.declared.format.TheConstants.{RUNS_MAX}
use Rattle.edition_code.specs.Values.{PartValue}
use Rattle.edition_code.specs.Editions.{run_field, run_fields, part_field, part_fields, lows_of, BeginsEmpty, IsLowLength, AreLowLengths}
use Rattle.edition_code.specs.Laws.{IsPartWithin}

-- a field was added before those that are left
go_on : {X : Type 0} (field : X → List ℕ) (fields : List X → List ℕ) → ((x : X) (xs : List X) → fields (x ∷ xs) ≡ field x ++ fields xs) → (out new : List ℕ) (x : X) (rest more : List X) (all : List ℕ)
    → rest ≡ x ∷ more → new ≡ out ++ field x → out ++ fields rest ≡ all → new ++ fields more ≡ all
go_on field fields step out new x rest more all is added so =
    ap (λ (l : List ℕ). l ++ fields more) added ∙ append_assoc out (field x) (fields more) ∙ ap (λ (l : List ℕ). out ++ l) (sym (step x more) ∙ ap fields (sym is)) ∙ so

-- none is left
done : {X : Type 0} (fields : List X → List ℕ) → fields [] ≡ [] → (out : List ℕ) (rest : List X) (all : List ℕ) → rest ≡ [] → out ++ fields rest ≡ all → out ≡ all
done fields none out rest all is so = sym (append-nil out) ∙ ap (λ (l : List ℕ). out ++ l) (sym none ∙ ap fields (sym is)) ∙ so

runs_step : (x : RunField) (xs : List RunField) → run_fields (x ∷ xs) ≡ run_field x ++ run_fields xs
unfolding run_fields
runs_step x xs = refl

runs_none : run_fields [] ≡ []
unfolding run_fields
runs_none = refl

parts_step : (x : PartValue) (xs : List PartValue) → part_fields (x ∷ xs) ≡ part_field x ++ part_fields xs
unfolding part_fields
parts_step x xs = refl

parts_none : part_fields [] ≡ []
unfolding part_fields
parts_none = refl

pub runs_go_on : (out new : List ℕ) (x : RunField) (rest more : List RunField) (all : List ℕ) → rest ≡ x ∷ more → new ≡ out ++ run_field x → out ++ run_fields rest ≡ all → new ++ run_fields more ≡ all
runs_go_on = go_on run_field run_fields runs_step

pub runs_done : (out : List ℕ) (rest : List RunField) (all : List ℕ) → rest ≡ [] → out ++ run_fields rest ≡ all → out ≡ all
runs_done = done run_fields runs_none

pub parts_go_on : (out new : List ℕ) (x : PartValue) (rest more : List PartValue) (all : List ℕ) → rest ≡ x ∷ more → new ≡ out ++ part_field x → out ++ part_fields rest ≡ all → new ++ part_fields more ≡ all
parts_go_on = go_on part_field part_fields parts_step

pub parts_done : (out : List ℕ) (rest : List PartValue) (all : List ℕ) → rest ≡ [] → out ++ part_fields rest ≡ all → out ≡ all
parts_done = done part_fields parts_none

-- ---- sizes

more_within : (parts : List PartValue) → AllByRecursion (λ (low : List ℕ). IsLowLength (length low)) (lows_of parts) → AllByRecursion (λ (part : PartValue). length part.runs ≤ RUNS_MAX) parts → AllByRecursion IsPartWithin parts
more_within [] lows runs = tt
more_within (part ∷ parts) lows runs = (record { low = lows.0.1; runs = runs.0 }, more_within parts lows.1 runs.1)

-- the partitions of an edition in the grammar are within their limits
pub parts_within : (parts : List PartValue) → BeginsEmpty (lows_of parts) → AreLowLengths (lows_of parts) → AllByRecursion (λ (part : PartValue). length part.runs ≤ RUNS_MAX) parts → AllByRecursion IsPartWithin parts
parts_within [] begins lows runs = tt
parts_within (part ∷ parts) begins lows runs = (record { low = omega (arith, ap (λ (l : List ℕ). length l) begins); runs = runs.0 }, more_within parts lows runs.1)
