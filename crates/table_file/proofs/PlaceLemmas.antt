-- Where pairs begin, one offset and one count after another. To know: `places_go_on`, `units_go_on`.
use Rattle.std.proofs.Common.{◌≡◌, ℕ, suc, ◌+◌, List, [], ◌∷◌, ◌++◌, drop, Result, Ok, Err, refl, sym, ap, ◌∙◌, append_assoc}
use Rattle.std.specs.Int.{w16}
use Rattle.std.proofs.lemmas.List.{append-nil}
use Rattle.rdb_base.specs.PairFields.{number_at}
use Rattle.block_code.specs.declared.format.TheConstants.{UNIT}
use Rattle.block_code.specs.Reading.{if_whole}
use Rattle.table_file.specs.Held.{places_in, places_of_units}

-- ---- offsets

pub places-next : (block n : ℕ) (offsets : List ℕ) (one : ℕ × List ℕ) → number_at w16 offsets ≡ Ok one → places_in block (suc n) offsets ≡ (block + one.0) ∷ places_in block n one.1
unfolding places_in
places-next block n offsets one e = ap (λ (r : Result (ℕ × List ℕ) ℕ). if_whole r (λ x. (block + x.0) ∷ places_in block n x.1) []) e

pub places-stop : (block n : ℕ) (offsets : List ℕ) (left : ℕ) → number_at w16 offsets ≡ Err left → places_in block (suc n) offsets ≡ []
unfolding places_in
places-stop block n offsets left e = ap (λ (r : Result (ℕ × List ℕ) ℕ). if_whole r (λ x. (block + x.0) ∷ places_in block n x.1) []) e

pub places-end : (block : ℕ) (offsets : List ℕ) → places_in block 0 offsets ≡ []
unfolding places_in
places-end block offsets = refl

-- one place more is there, and one fewer is left
pub places_go_on : (old new whole : List ℕ) (block n place : ℕ) (offsets : List ℕ) (one : ℕ × List ℕ) → whole ≡ old ++ places_in block (suc n) offsets → number_at w16 offsets ≡ Ok one → place ≡ block + one.0 → new ≡ old ++ place ∷ []
    → whole ≡ new ++ places_in block n one.1
places_go_on old new whole block n place offsets one so_far e is f =
    so_far ∙ ap (λ (l : List ℕ). old ++ l) (places-next block n offsets one e)
    ∙ ap (λ (k : ℕ). old ++ (k ∷ places_in block n one.1)) (sym is)
    ∙ sym (append_assoc old (place ∷ []) (places_in block n one.1))
    ∙ ap (λ (l : List ℕ). l ++ places_in block n one.1) (sym f)

pub places_stop : (old whole : List ℕ) (block n : ℕ) (offsets : List ℕ) (left : ℕ) → whole ≡ old ++ places_in block (suc n) offsets → number_at w16 offsets ≡ Err left → old ≡ whole
places_stop old whole block n offsets left so_far e = sym (so_far ∙ ap (λ (l : List ℕ). old ++ l) (places-stop block n offsets left e) ∙ append-nil old)

pub places_done : (old whole : List ℕ) (block : ℕ) (offsets : List ℕ) → whole ≡ old ++ places_in block 0 offsets → old ≡ whole
places_done old whole block offsets so_far = sym (so_far ∙ ap (λ (l : List ℕ). old ++ l) (places-end block offsets) ∙ append-nil old)

-- ---- units

pub units-next : (n place : ℕ) (units counts : List ℕ) (one : ℕ × List ℕ) → number_at w16 counts ≡ Ok one → places_of_units (suc n) place units counts ≡ places_in place one.0 (drop 2 units) ++ places_of_units n (place + UNIT) (drop UNIT units) one.1
unfolding places_of_units
units-next n place units counts one e = ap (λ (r : Result (ℕ × List ℕ) ℕ). if_whole r (λ x. places_in place x.0 (drop 2 units) ++ places_of_units n (place + UNIT) (drop UNIT units) x.1) []) e

pub units-stop : (n place : ℕ) (units counts : List ℕ) (left : ℕ) → number_at w16 counts ≡ Err left → places_of_units (suc n) place units counts ≡ []
unfolding places_of_units
units-stop n place units counts left e = ap (λ (r : Result (ℕ × List ℕ) ℕ). if_whole r (λ x. places_in place x.0 (drop 2 units) ++ places_of_units n (place + UNIT) (drop UNIT units) x.1) []) e

pub units-end : (place : ℕ) (units counts : List ℕ) → places_of_units 0 place units counts ≡ []
unfolding places_of_units
units-end place units counts = refl

-- the places of one unit more are there
pub units_go_on : (old new whole : List ℕ) (n place next : ℕ) (units counts offsets after : List ℕ) (one : ℕ × List ℕ) → whole ≡ old ++ places_of_units (suc n) place units counts → number_at w16 counts ≡ Ok one
    → offsets ≡ drop 2 units → after ≡ drop UNIT units → next ≡ place + UNIT → new ≡ old ++ places_in place one.0 offsets → whole ≡ new ++ places_of_units n next after one.1
units_go_on old new whole n place next units counts offsets after one so_far e f g h added =
    so_far ∙ ap (λ (l : List ℕ). old ++ l) (units-next n place units counts one e)
    ∙ sym (append_assoc old (places_in place one.0 (drop 2 units)) (places_of_units n (place + UNIT) (drop UNIT units) one.1))
    ∙ (λ i. (old ++ places_in place one.0 (sym f i)) ++ places_of_units n (sym h i) (sym g i) one.1)
    ∙ ap (λ (l : List ℕ). l ++ places_of_units n next after one.1) (sym added)

pub units_stop : (old whole : List ℕ) (n place : ℕ) (units counts : List ℕ) (left : ℕ) → whole ≡ old ++ places_of_units (suc n) place units counts → number_at w16 counts ≡ Err left → old ≡ whole
units_stop old whole n place units counts left so_far e = sym (so_far ∙ ap (λ (l : List ℕ). old ++ l) (units-stop n place units counts left e) ∙ append-nil old)

pub units_done : (old whole : List ℕ) (place : ℕ) (units counts : List ℕ) → whole ≡ old ++ places_of_units 0 place units counts → old ≡ whole
units_done old whole place units counts so_far = sym (so_far ∙ ap (λ (l : List ℕ). old ++ l) (units-end place units counts) ∙ append-nil old)
