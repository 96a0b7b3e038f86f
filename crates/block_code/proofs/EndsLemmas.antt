-- From what a reader keeps of a block's fields to what it keeps of the block. To know: `fields-ends`, `within-ends`, `block-one`, `block-many`.
use Rattle.std.proofs.Common.{◌≡◌, ℕ, ◌-◌, Bool, false, cond, eqb, List, length, take, drop, Result, Ok, Err, sym, ap, ◌∙◌}
use Rattle.std.specs.Int.{w16}
use Rattle.std.proofs.lemmas.Bool.{ne_eqb}
use Rattle.rdb_base.specs.PairFields.{◌>>=◌, number_at}
use Rattle.rdb_base.specs.declared.pair.Pair.{Pair}
use Rattle.rdb_base.specs.declared.pair_field.PairLimits.{PairLimits}
use Rattle.block_code.specs.declared.format.TheConstants.{UNIT}
use Rattle.block_code.specs.Blocks.{head_size, padding}
use Rattle.block_code.specs.Reading.{offsets_at, pairs_at, zeros_at, block_in, block_in_unit, in_unit, block_at, ends_of, last_key}
use Rattle.block_code.proofs.StepLemmas.{then-ok, then-err}

abbrev good : {A : Type 0} → A → Result A ℕ
good x = Ok x

abbrev bad : (A : Type 0) → ℕ → Result A ℕ
bad A left = Err left

good_is : {A : Type 0} (x y : A) → good x ≡ good y → x ≡ y
good_is x y h = cc

wrong_is : {A : Type 0} (m n : ℕ) → bad A m ≡ bad A n → m ≡ n
wrong_is m n h = cc

-- ---- the fields

-- the padding after pairs
abbrev padded : List ℕ → List Pair × List ℕ → Result (List Pair × List ℕ) ℕ
padded area found = zeros_at (padding (length area - length found.1)) found.1 >>= λ left. good (found.0, left)

abbrev paired : PairLimits → List ℕ → ℕ → List ℕ → Result (List Pair × List ℕ) ℕ
paired limits last n area = pairs_at limits n last (drop (head_size n) area) >>= λ found. padded area found

pub fields-ends : (limits : PairLimits) (last : List ℕ) (n m : ℕ) (area offsets key rest end : List ℕ)
    → offsets_at limits n (head_size n) (drop 2 area) (drop (head_size n) area) ≡ Ok offsets
    → ends_of last (pairs_at limits n last (drop (head_size n) area)) ≡ Ok ((m, key), rest)
    → zeros_at (padding (length area - length rest)) rest ≡ Ok end
    → ends_of last (block_in limits last n area) ≡ Ok ((m, key), end)
unfolding block_in
fields-ends limits last n m area offsets key rest end e f g =
    ap (ends_of last) (then-ok (offsets_at limits n (head_size n) (drop 2 area) (drop (head_size n) area)) (λ o. paired limits last n area) offsets e) ∙ by_pairs (pairs_at limits n last (drop (head_size n) area)) f
  where
    by_pairs : (r : Result (List Pair × List ℕ) ℕ) → ends_of last r ≡ Ok ((m, key), rest) → ends_of last (r >>= padded area) ≡ Ok ((m, key), end)
    by_pairs (Ok x) h =
        let is : ((length x.0, last_key last x.0), x.1) ≡ ((m, key), rest) = good_is ((length x.0, last_key last x.0), x.1) ((m, key), rest) h in
        let zeros : zeros_at (padding (length area - length x.1)) x.1 ≡ Ok end = ap (λ (y : (ℕ × List ℕ) × List ℕ). zeros_at (padding (length area - length y.1)) y.1) is ∙ g in
        ap (ends_of last) (then-ok (zeros_at (padding (length area - length x.1)) x.1) (λ left. good (x.0, left)) end zeros) ∙ ap (λ (y : (ℕ × List ℕ) × List ℕ). good (y.0, end)) is
    by_pairs (Err left) h = absurd cc

pub fields-offsets : (limits : PairLimits) (last : List ℕ) (n : ℕ) (area : List ℕ) (left : ℕ)
    → offsets_at limits n (head_size n) (drop 2 area) (drop (head_size n) area) ≡ Err left → ends_of last (block_in limits last n area) ≡ Err left
unfolding block_in
fields-offsets limits last n area left e = ap (ends_of last) (then-err (offsets_at limits n (head_size n) (drop 2 area) (drop (head_size n) area)) (λ o. paired limits last n area) left e)

pub fields-pairs : (limits : PairLimits) (last : List ℕ) (n : ℕ) (area offsets : List ℕ) (left : ℕ)
    → offsets_at limits n (head_size n) (drop 2 area) (drop (head_size n) area) ≡ Ok offsets
    → ends_of last (pairs_at limits n last (drop (head_size n) area)) ≡ Err left → ends_of last (block_in limits last n area) ≡ Err left
unfolding block_in
fields-pairs limits last n area offsets left e f =
    ap (ends_of last) (then-ok (offsets_at limits n (head_size n) (drop 2 area) (drop (head_size n) area)) (λ o. paired limits last n area) offsets e) ∙ by_pairs (pairs_at limits n last (drop (head_size n) area)) f
  where
    by_pairs : (r : Result (List Pair × List ℕ) ℕ) → ends_of last r ≡ Err left → ends_of last (r >>= padded area) ≡ Err left
    by_pairs (Ok x) h = absurd cc
    by_pairs (Err wrong) h = h

pub fields-zeros : (limits : PairLimits) (last : List ℕ) (n m : ℕ) (area offsets key rest : List ℕ) (left : ℕ)
    → offsets_at limits n (head_size n) (drop 2 area) (drop (head_size n) area) ≡ Ok offsets
    → ends_of last (pairs_at limits n last (drop (head_size n) area)) ≡ Ok ((m, key), rest)
    → zeros_at (padding (length area - length rest)) rest ≡ Err left → ends_of last (block_in limits last n area) ≡ Err left
unfolding block_in
fields-zeros limits last n m area offsets key rest left e f g =
    ap (ends_of last) (then-ok (offsets_at limits n (head_size n) (drop 2 area) (drop (head_size n) area)) (λ o. paired limits last n area) offsets e) ∙ by_pairs (pairs_at limits n last (drop (head_size n) area)) f
  where
    by_pairs : (r : Result (List Pair × List ℕ) ℕ) → ends_of last r ≡ Ok ((m, key), rest) → ends_of last (r >>= padded area) ≡ Err left
    by_pairs (Ok x) h =
        let is : ((length x.0, last_key last x.0), x.1) ≡ ((m, key), rest) = good_is ((length x.0, last_key last x.0), x.1) ((m, key), rest) h in
        let zeros : zeros_at (padding (length area - length x.1)) x.1 ≡ Err left = ap (λ (y : (ℕ × List ℕ) × List ℕ). zeros_at (padding (length area - length y.1)) y.1) is ∙ g in
        ap (ends_of last) (then-err (zeros_at (padding (length area - length x.1)) x.1) (λ end. good (x.0, end)) left zeros)
    by_pairs (Err wrong) h = absurd cc

-- ---- one unit

unit-ends : (last key rest units : List ℕ) (n : ℕ) (r : Result (List Pair × List ℕ) ℕ) → ends_of last r ≡ Ok ((n, key), rest) → ends_of last (in_unit units r) ≡ Ok ((n, key), drop UNIT units)
unit-ends last key rest units n (Ok x) h =
    let is : ((length x.0, last_key last x.0), x.1) ≡ ((n, key), rest) = good_is ((length x.0, last_key last x.0), x.1) ((n, key), rest) h in
    ap (λ (y : (ℕ × List ℕ) × List ℕ). good (y.0, drop UNIT units)) is
unit-ends last key rest units n (Err left) h = absurd cc

unit-wrong : (last units : List ℕ) (left : ℕ) (r : Result (List Pair × List ℕ) ℕ) → ends_of last r ≡ Err left → ends_of last (in_unit units r) ≡ Err (length units - (length (take UNIT units) - left))
unit-wrong last units left (Ok x) h = absurd cc
unit-wrong last units left (Err wrong) h = let same : wrong ≡ left = wrong_is wrong left h in ap (λ (k : ℕ). Err (length units - (length (take UNIT units) - k))) same

-- the same where a reader keeps the first unit and what is after it
pub within-ends : (limits : PairLimits) (last key rest unit after units : List ℕ) (n m : ℕ) → unit ≡ take UNIT units → after ≡ drop UNIT units
    → ends_of last (block_in limits last n unit) ≡ Ok ((m, key), rest) → ends_of last (block_in_unit limits last n units) ≡ Ok ((m, key), after)
within-ends limits last key rest unit after units n m unit_is after_is e =
    ap (λ (l : List ℕ). ends_of last (in_unit units (block_in limits last n l))) (sym unit_is)
    ∙ unit-ends last key rest units m (block_in limits last n unit) e
    ∙ ap (λ (l : List ℕ). good ((m, key), l)) (sym after_is)

pub within-wrong : (limits : PairLimits) (last unit units : List ℕ) (n left place all : ℕ) → unit ≡ take UNIT units → place ≡ length unit - left → all ≡ length units - place
    → ends_of last (block_in limits last n unit) ≡ Err left → ends_of last (block_in_unit limits last n units) ≡ Err all
within-wrong limits last unit units n left place all unit_is place_is all_is e =
    let long : length unit ≡ length (take UNIT units) = ap (λ (l : List ℕ). length l) unit_is in
    ap (λ (l : List ℕ). ends_of last (in_unit units (block_in limits last n l))) (sym unit_is)
    ∙ unit-wrong last units left (block_in limits last n unit) e
    ∙ ap (λ (k : ℕ). Err (length units - (k - left))) (sym long)
    ∙ ap (λ (k : ℕ). Err (length units - k)) (sym place_is)
    ∙ ap (λ (k : ℕ). Err k) (sym all_is)

-- ---- the block

abbrev counted : PairLimits → List ℕ → List ℕ → ℕ → Result (List Pair × List ℕ) ℕ
counted limits last units n = cond (eqb n 0) (Err (length units)) (cond (eqb n 1) (block_in limits last 1 units) (in_unit units (block_in limits last n (take UNIT units))))

-- no count
pub block-cut : (limits : PairLimits) (last units : List ℕ) (left : ℕ) → number_at w16 units ≡ Err left → ends_of last (block_at limits last units) ≡ Err left
unfolding block_at
block-cut limits last units left e = ap (ends_of last) (then-err (number_at w16 units) (λ count. counted limits last units count.0) left e)

pub block-none : (limits : PairLimits) (last units more : List ℕ) (n : ℕ) → number_at w16 units ≡ Ok (n, more) → n ≡ 0 → ends_of last (block_at limits last units) ≡ Err (length units)
unfolding block_at
block-none limits last units more n e none =
    ap (ends_of last) (then-ok (number_at w16 units) (λ count. counted limits last units count.0) (n, more) e ∙ ap (counted limits last units) none)

pub block-one : (limits : PairLimits) (last units more : List ℕ) (n : ℕ) → number_at w16 units ≡ Ok (n, more) → n ≡ 1 → ends_of last (block_at limits last units) ≡ ends_of last (block_in limits last n units)
unfolding block_at
block-one limits last units more n e one =
    ap (ends_of last) (then-ok (number_at w16 units) (λ count. counted limits last units count.0) (n, more) e ∙ ap (counted limits last units) one ∙ ap (λ (k : ℕ). block_in limits last k units) (sym one))

pub block-many : (limits : PairLimits) (last units more : List ℕ) (n : ℕ) → number_at w16 units ≡ Ok (n, more) → (n ≡ 0 → ⊥) → (n ≡ 1 → ⊥) → ends_of last (block_at limits last units) ≡ ends_of last (in_unit units (block_in limits last n (take UNIT units)))
unfolding block_at
block-many limits last units more n e some several =
    let zero : eqb n 0 ≡ false = ne_eqb n 0 some in
    let one : eqb n 1 ≡ false = ne_eqb n 1 several in
    ap (ends_of last) (then-ok (number_at w16 units) (λ count. counted limits last units count.0) (n, more) e
    ∙ ap (λ (b : Bool). cond b (Err (length units)) (cond (eqb n 1) (block_in limits last 1 units) (in_unit units (block_in limits last n (take UNIT units))))) zero
    ∙ ap (λ (b : Bool). cond b (block_in limits last 1 units) (in_unit units (block_in limits last n (take UNIT units)))) one)
