-- A block that is spelled is read back. To know: `block_again`.
use Rattle.std.proofs.Common.{◌≡◌, inl, inr, ℕ, zero, suc, ◌+◌, ◌-◌, ◌*◌, ◌^◌, ◌<◌, ◌≤◌, Bool, true, false, cond, eqb, List, [], ◌∷◌, ◌++◌, length, take, drop, replicate, ◌⊎◌, ltb, Result, Ok, Err, refl, sym, ap, ◌∙◌, append_assoc, arith}
use Rattle.std.specs.Int.{w8, w16, to_be_bytes}
use Rattle.std.specs.List.{AllByRecursion}
use Rattle.std.specs.Ordering.{is_lt}
use Rattle.std.specs.declared.cmp.Ordering.TheVariants.{Less}
use Rattle.std.proofs.lemmas.Bool.{cases_lt, le-ltb, eqb-true, eqb-false, eq-eqb, ne_eqb, cond-false}
use Rattle.std.proofs.lemmas.List.{take_at, drop_at, length-append, length-replicate, append-nil}
use Rattle.rdb_base.specs.Order.{key_cmp}
use Rattle.rdb_base.specs.Runs.{IsRun, IsBelowAll, pair_size, sizes}
use Rattle.rdb_base.specs.PairFields.{◌>>=◌, number_at, key_field_at, change_field_at, pair_at, pair_field, IsPairWithin}
use Rattle.rdb_base.specs.declared.change.Change.{Change}
use Rattle.rdb_base.specs.declared.pair.Pair.{Pair}
use Rattle.rdb_base.specs.declared.pair_field.PairLimits.{PairLimits}
use Rattle.rdb_base.proofs.PairLemmas.{number_again, wide16, pair_again, went_well}
use Rattle.rdb_base.proofs.PairLemmas as pairs
use Rattle.block_code.specs.declared.format.TheConstants.{UNIT}
use Rattle.block_code.specs.Blocks.{offsets_from, pair_fields, head_size, block_size, padding, block, IsBlock}
use Rattle.block_code.specs.Reading.{number_is, offsets_at, next_pair_at, pairs_at, zeros_at, block_in, in_unit, block_at}
use Rattle.block_code.specs.Laws.{AreHeld, BlockReadsBack}
use Rattle.block_code.proofs.StepLemmas.{then-ok, offsets-next, offsets-end, zeros-next, zeros-end}

abbrev good : {A : Type 0} → A → Result A ℕ
good x = Ok x

good_is : {A : Type 0} (x y : A) → good x ≡ good y → x ≡ y
good_is x y e = cc

-- ---- lengths

pub length-offsets_from : (place : ℕ) (ps : List Pair) → length (offsets_from place ps) ≡ 2 * length ps
unfolding offsets_from
length-offsets_from place [] = refl
length-offsets_from place (p ∷ ps) = let rest = length-offsets_from (place + pair_size p) ps in omega (arith, length-append (to_be_bytes w16 place) (offsets_from (place + pair_size p) ps), rest)

pub length-pair_fields : (ps : List Pair) → length (pair_fields ps) ≡ sizes ps
unfolding pair_fields
length-pair_fields [] = refl
length-pair_fields (p ∷ ps) = omega (arith, length-append (pair_field p.key p.change) (pair_fields ps), pairs.pair_size p.key p.change, length-pair_fields ps)

-- a block is its head, its pairs and its padding
pub length-block : (ps : List Pair) → length (block ps) ≡ block_size ps + padding (block_size ps)
unfolding block
length-block ps =
    omega (
      arith,
      length-append (to_be_bytes w16 (length ps)) (offsets_from (head_size (length ps)) ps ++ (pair_fields ps ++ replicate (padding (block_size ps)) 0)),
      length-append (offsets_from (head_size (length ps)) ps) (pair_fields ps ++ replicate (padding (block_size ps)) 0),
      length-append (pair_fields ps) (replicate (padding (block_size ps)) 0),
      length-replicate {A = ℕ} (padding (block_size ps)) 0,
      length-offsets_from (head_size (length ps)) ps,
      length-pair_fields ps,
    )

-- within one unit a block is a unit
pub one_unit : (size : ℕ) → 1 ≤ size → size ≤ UNIT → size + padding size ≡ UNIT
one_unit size some fits = omega arith

-- a block of one pair or more has at least so many bytes
pub size_some : (ps : List Pair) → 1 ≤ length ps → 1 ≤ block_size ps
size_some ps some = omega arith

-- ---- fields

number_is_again : (n : ℕ) (rest : List ℕ) → n < 2 ^ 16 → number_is w16 n (to_be_bytes w16 n ++ rest) ≡ Ok rest
number_is_again n rest small =
    let same : eqb n n ≡ true = eq-eqb n n refl in
    then-ok (number_at w16 (to_be_bytes w16 n ++ rest)) (λ one. cond (eqb one.0 n) (good one.1) (Err (length (to_be_bytes w16 n ++ rest)))) (n, rest) (number_again w16 (2 ^ 16) wide16 n rest small)
    ∙ ap (λ (b : Bool). cond b (good rest) (Err (length (to_be_bytes w16 n ++ rest)))) same

zero_there : (rest : List ℕ) → number_at w8 (0 ∷ rest) ≡ Ok (0, rest)
zero_there rest = cond-false (ltb (length (0 ∷ rest)) 1) (Err (length (0 ∷ rest))) (good (0, rest)) (le-ltb (length (0 ∷ rest)) 1 (omega arith))

zero_again : (rest : List ℕ) → number_is w8 0 (0 ∷ rest) ≡ Ok rest
zero_again rest = then-ok (number_at w8 (0 ∷ rest)) (λ one. cond (eqb one.0 0) (good one.1) (Err (length (0 ∷ rest)))) (0, rest) (zero_there rest)

pub zeros_again : (n : ℕ) (rest : List ℕ) → zeros_at n (replicate n 0 ++ rest) ≡ Ok rest
zeros_again zero rest = zeros-end rest
zeros_again (suc n) rest = zeros-next n (replicate (suc n) 0 ++ rest) (replicate n 0 ++ rest) (zero_again (replicate n 0 ++ rest)) ∙ zeros_again n rest

-- where a pair is read, its key is
pub pair_key : (key_max value_max : ℕ) (bytes key : List ℕ) (change : Change) (rest : List ℕ) → pair_at key_max value_max bytes ≡ Ok ((key, change), rest) → (more : List ℕ) × (key_field_at key_max bytes ≡ Ok (key, more))
unfolding pair_at
pair_key key_max value_max bytes key change rest e =
    let a = went_well (key_field_at key_max bytes) (λ k. change_field_at value_max k.1 >>= λ c. good ((k.0, c.0), c.1)) ((key, change), rest) e in
    let b = went_well (change_field_at value_max a.0.1) (λ c. good ((a.0.0, c.0), c.1)) ((key, change), rest) a.2 in
    let same : a.0.0 ≡ key = ap (λ (x : (List ℕ × Change) × List ℕ). x.0.0) (good_is ((a.0.0, b.0.0), b.0.1) ((key, change), rest) b.2) in
    (a.0.1, a.1 ∙ ap (λ (k : List ℕ). good (k, a.0.1)) same)

-- a pair above the last key
pub next_pair_is : (limits : PairLimits) (last bytes : List ℕ) (p : Pair) (rest : List ℕ) → pair_at limits.key_max limits.value_max bytes ≡ Ok ((p.key, p.change), rest) → key_cmp last p.key ≡ Less → next_pair_at limits last bytes ≡ Ok (p, rest)
unfolding next_pair_at
next_pair_is limits last bytes p rest e less =
    let k = pair_key limits.key_max limits.value_max bytes p.key p.change rest e in
    then-ok (key_field_at limits.key_max bytes) (λ key. cond (is_lt (key_cmp last key.0)) (pair_at limits.key_max limits.value_max bytes >>= λ pair. good (record { key = pair.0.0; change = pair.0.1 }, pair.1)) (Err (length bytes))) (p.key, k.0) k.1
    ∙ ap (λ o. cond (is_lt o) (pair_at limits.key_max limits.value_max bytes >>= λ pair. good (record { key = pair.0.0; change = pair.0.1 }, pair.1)) (Err (length bytes))) less
    ∙ then-ok (pair_at limits.key_max limits.value_max bytes) (λ pair. good (record { key = pair.0.0; change = pair.0.1 }, pair.1)) ((p.key, p.change), rest) e

-- ---- pairs

abbrev pub AreWithin : PairLimits → List Pair → Type 0
AreWithin limits ps = AllByRecursion (λ (pair : Pair). IsPairWithin limits.key_max limits.value_max pair.key pair.change) ps

pub pairs_again : (limits : PairLimits) (last : List ℕ) (ps : List Pair) (rest : List ℕ) → AreHeld limits → AreWithin limits ps → IsBelowAll last ps → IsRun ps → pairs_at limits (length ps) last (pair_fields ps ++ rest) ≡ Ok (ps, rest)
unfolding pairs_at pair_fields
pairs_again limits last [] rest held within below run = refl
pairs_again limits last (p ∷ ps) rest held within below run =
    let parts : pair_fields (p ∷ ps) ++ rest ≡ pair_field p.key p.change ++ (pair_fields ps ++ rest) = append_assoc (pair_field p.key p.change) (pair_fields ps) rest in
    let here = pair_again limits.key_max limits.value_max p.key p.change (pair_fields ps ++ rest) held.key held.value within.0 in
    let one : next_pair_at limits last (pair_fields (p ∷ ps) ++ rest) ≡ Ok (p, pair_fields ps ++ rest) = next_pair_is limits last (pair_fields (p ∷ ps) ++ rest) p (pair_fields ps ++ rest) (ap (pair_at limits.key_max limits.value_max) parts ∙ here) below.0 in
    then-ok (next_pair_at limits last (pair_fields (p ∷ ps) ++ rest)) (λ x. pairs_at limits (length ps) x.0.key x.1 >>= λ more. good (x.0 ∷ more.0, more.1)) (p, pair_fields ps ++ rest) one
    ∙ then-ok (pairs_at limits (length ps) p.key (pair_fields ps ++ rest)) (λ more. good (p ∷ more.0, more.1)) (ps, rest) (pairs_again limits p.key ps rest held within.1 run.0 run.1)

-- the places of these pairs are numbers of two bytes
pub record HavePlaces (place : ℕ) (ps : List Pair) : Type 0 where
  pub first : 1 ≤ length ps → place < 2 ^ 16
  pub more : 2 ≤ length ps → place + sizes ps ≤ UNIT

pub places-next : (place : ℕ) (p : Pair) (ps : List Pair) → HavePlaces place (p ∷ ps) → HavePlaces (place + pair_size p) ps
places-next place p ps h = record {
  first = λ some. let all = h.more (omega (arith, some)) in omega (arith, all);
  more = λ some. let all = h.more (omega (arith, some)) in omega (arith, all);
}

pub offsets_again : (limits : PairLimits) (place : ℕ) (ps : List Pair) (rest more : List ℕ) → AreHeld limits → AreWithin limits ps → HavePlaces place ps → offsets_at limits (length ps) place (offsets_from place ps ++ rest) (pair_fields ps ++ more) ≡ Ok rest
unfolding offsets_from pair_fields
offsets_again limits place [] rest more held within places = offsets-end limits place rest more
offsets_again limits place (p ∷ ps) rest more held within places =
    let one : number_is w16 place (offsets_from place (p ∷ ps) ++ rest) ≡ Ok (offsets_from (place + pair_size p) ps ++ rest) = ap (number_is w16 place) (append_assoc (to_be_bytes w16 place) (offsets_from (place + pair_size p) ps) rest) ∙ number_is_again place (offsets_from (place + pair_size p) ps ++ rest) (places.first (omega arith)) in
    let parts : pair_fields (p ∷ ps) ++ more ≡ pair_field p.key p.change ++ (pair_fields ps ++ more) = append_assoc (pair_field p.key p.change) (pair_fields ps) more in
    let here : pair_at limits.key_max limits.value_max (pair_fields (p ∷ ps) ++ more) ≡ Ok ((p.key, p.change), pair_fields ps ++ more) = ap (pair_at limits.key_max limits.value_max) parts ∙ pair_again limits.key_max limits.value_max p.key p.change (pair_fields ps ++ more) held.key held.value within.0 in
    let long : length (pair_fields (p ∷ ps) ++ more) - length (pair_fields ps ++ more) ≡ pair_size p = omega (arith, ap (λ (l : List ℕ). length l) parts, length-append (pair_field p.key p.change) (pair_fields ps ++ more), pairs.pair_size p.key p.change) in
    offsets-next limits (length ps) place (offsets_from place (p ∷ ps) ++ rest) (pair_fields (p ∷ ps) ++ more) (offsets_from (place + pair_size p) ps ++ rest) ((p.key, p.change), pair_fields ps ++ more) one here
    ∙ ap (λ (k : ℕ). offsets_at limits (length ps) (place + k) (offsets_from (place + pair_size p) ps ++ rest) (pair_fields ps ++ more)) long
    ∙ offsets_again limits (place + pair_size p) ps rest more held within.1 (places-next place p ps places)

-- ---- blocks

pub places_of : (limits : PairLimits) (ps : List Pair) → IsBlock limits ps → HavePlaces (head_size (length ps)) ps
places_of limits ps is = record { first = λ some. by_count (cases_lt (length ps) 2); more = is.one_unit }
  where
    by_count : (length ps < 2) ⊎ (2 ≤ length ps) → head_size (length ps) < 2 ^ 16
    by_count (inl few) = omega (arith, few)
    by_count (inr many) = let all = is.one_unit many in omega (arith, all)

-- the count is a number of two bytes
pub count_small : (limits : PairLimits) (ps : List Pair) → IsBlock limits ps → length ps < 2 ^ 16
count_small limits ps is = by_count (cases_lt (length ps) 2)
  where
    by_count : (length ps < 2) ⊎ (2 ≤ length ps) → length ps < 2 ^ 16
    by_count (inl few) = omega (arith, few)
    by_count (inr many) = let all = is.one_unit many in omega (arith, all)

-- a block's parts, with what follows it
pub block_parts : (ps : List Pair) (rest : List ℕ) → block ps ++ rest ≡ to_be_bytes w16 (length ps) ++ (offsets_from (head_size (length ps)) ps ++ (pair_fields ps ++ (replicate (padding (block_size ps)) 0 ++ rest)))
unfolding block
block_parts ps rest =
    append_assoc (to_be_bytes w16 (length ps)) (offsets_from (head_size (length ps)) ps ++ (pair_fields ps ++ replicate (padding (block_size ps)) 0)) rest
    ∙ ap (λ (l : List ℕ). to_be_bytes w16 (length ps) ++ l) (append_assoc (offsets_from (head_size (length ps)) ps) (pair_fields ps ++ replicate (padding (block_size ps)) 0) rest
    ∙ ap (λ (l : List ℕ). offsets_from (head_size (length ps)) ps ++ l) (append_assoc (pair_fields ps) (replicate (padding (block_size ps)) 0) rest))

-- its count
pub count_there : (ps : List Pair) (rest : List ℕ) → length ps < 2 ^ 16 → (more : List ℕ) × (number_at w16 (block ps ++ rest) ≡ Ok (length ps, more))
count_there ps rest small =
    let more = offsets_from (head_size (length ps)) ps ++ (pair_fields ps ++ (replicate (padding (block_size ps)) 0 ++ rest)) in
    (more, ap (number_at w16) (block_parts ps rest) ∙ number_again w16 (2 ^ 16) wide16 (length ps) more small)

-- what is after its count, and after its offsets
pub after_count : (ps : List Pair) (rest : List ℕ) → drop 2 (block ps ++ rest) ≡ offsets_from (head_size (length ps)) ps ++ (pair_fields ps ++ (replicate (padding (block_size ps)) 0 ++ rest))
after_count ps rest = ap (drop 2) (block_parts ps rest) ∙ drop_at (to_be_bytes w16 (length ps)) (offsets_from (head_size (length ps)) ps ++ (pair_fields ps ++ (replicate (padding (block_size ps)) 0 ++ rest))) 2 refl

pub after_head : (ps : List Pair) (rest : List ℕ) → drop (head_size (length ps)) (block ps ++ rest) ≡ pair_fields ps ++ (replicate (padding (block_size ps)) 0 ++ rest)
after_head ps rest =
    let more = pair_fields ps ++ (replicate (padding (block_size ps)) 0 ++ rest) in
    ap (drop (head_size (length ps))) (block_parts ps rest ∙ sym (append_assoc (to_be_bytes w16 (length ps)) (offsets_from (head_size (length ps)) ps) more))
    ∙ drop_at (to_be_bytes w16 (length ps) ++ offsets_from (head_size (length ps)) ps) more (head_size (length ps)) (omega (arith, length-append (to_be_bytes w16 (length ps)) (offsets_from (head_size (length ps)) ps), length-offsets_from (head_size (length ps)) ps))

-- how much of it comes before its padding
used_by : (ps : List Pair) (rest : List ℕ) → length (block ps ++ rest) - length (replicate (padding (block_size ps)) 0 ++ rest) ≡ block_size ps
used_by ps rest = omega (arith, length-append (block ps) rest, length-block ps, length-append (replicate (padding (block_size ps)) 0) rest, length-replicate {A = ℕ} (padding (block_size ps)) 0)

-- the fields of a block are read back, where what follows is in the same area
pub fields_again : (limits : PairLimits) (last : List ℕ) (ps : List Pair) (rest : List ℕ) → AreHeld limits → IsBlock limits ps → IsBelowAll last ps → block_in limits last (length ps) (block ps ++ rest) ≡ Ok (ps, rest)
unfolding block_in
fields_again limits last ps rest held is below =
    let n = length ps in
    let area = block ps ++ rest in
    let zeros = replicate (padding (block_size ps)) 0 ++ rest in
    let offsets : offsets_at limits n (head_size n) (drop 2 area) (drop (head_size n) area) ≡ Ok (pair_fields ps ++ zeros) =
    (λ i. offsets_at limits n (head_size n) (after_count ps rest i) (after_head ps rest i)) ∙ offsets_again limits (head_size n) ps (pair_fields ps ++ zeros) zeros held is.within (places_of limits ps is) in
    let there : pairs_at limits n last (drop (head_size n) area) ≡ Ok (ps, zeros) = ap (pairs_at limits n last) (after_head ps rest) ∙ pairs_again limits last ps zeros held is.within below is.rises in
    let used : length area - length zeros ≡ block_size ps = used_by ps rest in
    let padded : zeros_at (padding (length area - length zeros)) zeros ≡ Ok rest = ap (λ (k : ℕ). zeros_at (padding k) zeros) used ∙ zeros_again (padding (block_size ps)) rest in
    then-ok (offsets_at limits n (head_size n) (drop 2 area) (drop (head_size n) area)) (λ o. pairs_at limits n last (drop (head_size n) area) >>= λ found. zeros_at (padding (length area - length found.1)) found.1 >>= λ left. good (found.0, left)) (pair_fields ps ++ zeros) offsets
    ∙ then-ok (pairs_at limits n last (drop (head_size n) area)) (λ found. zeros_at (padding (length area - length found.1)) found.1 >>= λ left. good (found.0, left)) (ps, zeros) there
    ∙ then-ok (zeros_at (padding (length area - length zeros)) zeros) (λ left. good (ps, left)) rest padded

-- how a block is read after its count
abbrev counted : PairLimits → List ℕ → List ℕ → ℕ → Result (List Pair × List ℕ) ℕ
counted limits last units n = cond (eqb n 0) (Err (length units)) (cond (eqb n 1) (block_in limits last 1 units) (in_unit units (block_in limits last n (take UNIT units))))

several : (n : ℕ) → 1 ≤ n → (n ≡ 1 → ⊥) → 2 ≤ n
several n some other = elim (cases_lt n 2) [
  | inl few ↦ absurd (other (omega (arith, few, some)))
  | inr many ↦ many
]

pub block_again : BlockReadsBack
unfolding block_at
block_again limits last ps rest held is below =
    let n = length ps in
    let units = block ps ++ rest in
    let there = count_there ps rest (count_small limits ps is) in
    let some : eqb (length ps) 0 ≡ false = ne_eqb (length ps) 0 (λ none. absurd (omega (arith, none, is.some))) in
    then-ok (number_at w16 units) (λ count. counted limits last units count.0) (n, there.0) there.1
    ∙ ap (λ (b : Bool). cond b (Err (length units)) (cond (eqb n 1) (block_in limits last 1 units) (in_unit units (block_in limits last n (take UNIT units))))) some
    ∙ by_count (eqb n 1) refl
  where
    by_count : (b : Bool) → eqb (length ps) 1 ≡ b → cond b (block_in limits last 1 (block ps ++ rest)) (in_unit (block ps ++ rest) (block_in limits last (length ps) (take UNIT (block ps ++ rest)))) ≡ good (ps, rest)
    by_count true e = ap (λ (k : ℕ). block_in limits last k (block ps ++ rest)) (sym (eqb-true (length ps) 1 e)) ∙ fields_again limits last ps rest held is below
    by_count false e =
        let many : 2 ≤ length ps = several (length ps) is.some (eqb-false (length ps) 1 e) in
        let fits = is.one_unit many in
        let unit : length (block ps) ≡ UNIT = length-block ps ∙ one_unit (block_size ps) (size_some ps is.some) fits in
        let front : take UNIT (block ps ++ rest) ≡ block ps ++ [] = take_at (block ps) rest UNIT unit ∙ sym (append-nil (block ps)) in
        let back : drop UNIT (block ps ++ rest) ≡ rest = drop_at (block ps) rest UNIT unit in
        ap (λ (l : List ℕ). in_unit (block ps ++ rest) (block_in limits last (length ps) l)) front ∙ ap (in_unit (block ps ++ rest)) (fields_again limits last ps [] held is below) ∙ ap (λ (l : List ℕ). good (ps, l)) back
