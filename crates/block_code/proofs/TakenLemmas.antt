-- What is read as a block was spelled there. To know: `block_taken`.
use Rattle.std.proofs.Common.{◌≡◌, inl, inr, ℕ, zero, suc, ◌+◌, ◌-◌, ◌*◌, ◌^◌, ◌≤◌, Bool, true, false, cond, eqb, ltb, List, [], ◌∷◌, ◌++◌, length, take, drop, replicate, Result, Ok, Err, refl, sym, ap, subst, ◌∙◌, arith}
use Rattle.std.specs.Int.{w8, w16, from_be_bytes, to_be_bytes}
use Rattle.std.specs.Ordering.{is_lt}
use Rattle.std.specs.declared.cmp.Ordering.TheVariants.{Less}
use Rattle.std.proofs.lemmas.Bool.{cases_lt, le-ltb, ltb-false, eqb-true, eqb-false, cond-false}
use Rattle.std.proofs.lemmas.List.{drop_at, drop-drop, take-take, take-append-drop, length-append, length-take, append-nil, nil_from_length}
use Rattle.rdb_base.specs.Bytes.{AreBytes}
use Rattle.rdb_base.specs.Order.{key_cmp}
use Rattle.rdb_base.specs.Runs.{IsRun, IsBelowAll, pair_size}
use Rattle.rdb_base.specs.PairFields.{◌>>=◌, number_at, key_field_at, pair_at, pair_field}
use Rattle.rdb_base.specs.declared.change.Change.{Change}
use Rattle.rdb_base.specs.declared.pair.Pair.{Pair}
use Rattle.rdb_base.specs.declared.pair_field.PairLimits.{PairLimits}
use Rattle.rdb_base.proofs.KeyOrder.{less_from_test}
use Rattle.rdb_base.proofs.RunLemmas.{IsBelowAll-run}
use Rattle.rdb_base.proofs.PairLemmas.{Takes, takes-then, number_taken, wide16, pair_taken, went_well, passed, AreBytes-drop, AreBytes-take, number_inside}
use Rattle.rdb_base.proofs.PairLemmas as pairs
use Rattle.block_code.specs.declared.format.TheConstants.{UNIT}
use Rattle.block_code.specs.Blocks.{offsets_from, pair_fields, head_size, block_size, padding, block, IsBlock}
use Rattle.block_code.specs.Reading.{number_is, numbers_at, if_whole, offsets_at, next_pair_at, pairs_at, zeros_at, block_in, in_unit, block_at}
use Rattle.block_code.specs.Laws.{BlockWasSpelled}
use Rattle.block_code.proofs.AgainLemmas.{AreWithin, length-offsets_from, length-pair_fields, length-block, size_some, pair_key, block_parts}

abbrev good : {A : Type 0} → A → Result A ℕ
good x = Ok x

good_is : {A : Type 0} (x y : A) → good x ≡ good y → x ≡ y
good_is x y e = cc

-- what is after a text is bytes, too
rest_bytes : (bytes text rest : List ℕ) → bytes ≡ text ++ rest → AreBytes bytes → AreBytes rest
rest_bytes bytes text rest e fits = subst AreBytes (ap (drop (length text)) e ∙ drop_at text rest (length text) refl) (AreBytes-drop (length text) bytes fits)

-- a field as a pair, with what is after it
abbrev made : (List ℕ × Change) × List ℕ → Pair × List ℕ
made x = (record { key = x.0.0; change = x.0.1 }, x.1)

abbrev made_of : PairLimits → List ℕ → Result (Pair × List ℕ) ℕ
made_of limits bytes = pair_at limits.key_max limits.value_max bytes >>= λ pair. good (made pair)

-- a test that let a field pass
pub passed_on : {A : Type 0} (b : Bool) (left : ℕ) (r : Result A ℕ) (y : A) → cond b r (Err left) ≡ Ok y → (b ≡ true) × (r ≡ Ok y)
passed_on true left r y e = (refl, e)
passed_on false left r y e = absurd cc

-- ---- fields

-- a number that has to be this one
pub number_is_taken : (n : ℕ) (bytes rest : List ℕ) → AreBytes bytes → number_is w16 n bytes ≡ Ok rest → Takes bytes (to_be_bytes w16 n) rest
number_is_taken n bytes rest fits e =
    let a = went_well (number_at w16 bytes) (λ one. cond (eqb one.0 n) (good one.1) (Err (length bytes))) rest e in
    let p = passed_on (eqb a.0.0 n) (length bytes) (good a.0.1) rest a.2 in
    let same : a.0.0 ≡ n = eqb-true a.0.0 n p.0 in
    let end : a.0.1 ≡ rest = good_is a.0.1 rest p.1 in
    subst (λ (r : List ℕ). Takes bytes (to_be_bytes w16 n) r) end (subst (λ (k : ℕ). Takes bytes (to_be_bytes w16 k) a.0.1) same (number_taken w16 (2 ^ 16) wide16 bytes a.0 fits a.1).0)

-- a byte 00
zero_taken : (bytes rest : List ℕ) → number_is w8 0 bytes ≡ Ok rest → bytes ≡ 0 ∷ rest
zero_taken [] rest e = absurd cc
zero_taken (b ∷ bytes) rest e =
    let a = went_well (number_at w8 (b ∷ bytes)) (λ one. cond (eqb one.0 0) (good one.1) (Err (length (b ∷ bytes)))) rest e in
    let p = passed_on (eqb a.0.0 0) (length (b ∷ bytes)) (good a.0.1) rest a.2 in
    let q = passed (ltb (length (b ∷ bytes)) 1) (length (b ∷ bytes)) (good (from_be_bytes w8 (take 1 (b ∷ bytes)), bytes)) a.0 a.1 in
    let zero_is : a.0.0 ≡ 0 = eqb-true a.0.0 0 p.0 in
    let end : a.0.1 ≡ rest = good_is a.0.1 rest p.1 in
    let first : (from_be_bytes w8 (b ∷ []), bytes) ≡ a.0 = good_is (from_be_bytes w8 (b ∷ []), bytes) a.0 q.1 in
    let b_is : b ≡ 0 = omega (arith, ap (λ (x : ℕ × List ℕ). x.0) first, zero_is) in
    (λ i. b_is i ∷ bytes) ∙ ap (λ (l : List ℕ). 0 ∷ l) (ap (λ (x : ℕ × List ℕ). x.1) first ∙ end)

pub zeros_taken : (n : ℕ) (bytes rest : List ℕ) → zeros_at n bytes ≡ Ok rest → bytes ≡ replicate n 0 ++ rest
unfolding zeros_at
zeros_taken zero bytes rest e = good_is bytes rest e
zeros_taken (suc n) bytes rest e =
    let a = went_well (number_is w8 0 bytes) (zeros_at n) rest e in
    zero_taken bytes a.0 a.1 ∙ ap (λ (l : List ℕ). 0 ∷ l) (zeros_taken n a.0 rest a.2)

-- the key that is read first is that of the pair
same_key : (limits : PairLimits) (bytes : List ℕ) (k : List ℕ × List ℕ) (pair : (List ℕ × Change) × List ℕ) → key_field_at limits.key_max bytes ≡ Ok k → pair_at limits.key_max limits.value_max bytes ≡ Ok pair → k.0 ≡ pair.0.0
same_key limits bytes k pair there whole =
    let again = pair_key limits.key_max limits.value_max bytes pair.0.0 pair.0.1 pair.1 whole in
    ap (λ (x : List ℕ × List ℕ). x.0) (good_is k (pair.0.0, again.0) (sym there ∙ again.1))

-- a pair whose key is above the last one
pub next_pair_taken : (limits : PairLimits) (last bytes : List ℕ) (one : Pair × List ℕ) → next_pair_at limits last bytes ≡ Ok one → (pair_at limits.key_max limits.value_max bytes ≡ Ok ((one.0.key, one.0.change), one.1)) × (key_cmp last one.0.key ≡ Less)
unfolding next_pair_at
next_pair_taken limits last bytes one e =
    let a = went_well (key_field_at limits.key_max bytes) (λ key. cond (is_lt (key_cmp last key.0)) (made_of limits bytes) (Err (length bytes))) one e in
    let p = passed_on (is_lt (key_cmp last a.0.0)) (length bytes) (made_of limits bytes) one a.2 in
    let b = went_well (pair_at limits.key_max limits.value_max bytes) (λ pair. good (made pair)) one p.1 in
    let is : made b.0 ≡ one = good_is (made b.0) one b.2 in
    let there : pair_at limits.key_max limits.value_max bytes ≡ Ok ((one.0.key, one.0.change), one.1) = b.1 ∙ ap (λ (x : Pair × List ℕ). good ((x.0.key, x.0.change), x.1)) is in
    let key = same_key limits bytes a.0 b.0 a.1 b.1 in
    let less : key_cmp last a.0.0 ≡ Less = less_from_test (key_cmp last a.0.0) p.0 in
    (there, ap (key_cmp last) (sym (key ∙ ap (λ (x : Pair × List ℕ). x.0.key) is)) ∙ less)

-- ---- pairs

-- so many pairs were taken from the front of bytes
pub record PairsTaken (limits : PairLimits) (n : ℕ) (last bytes : List ℕ) (ps : List Pair) (rest : List ℕ) : Type 0 where
  pub taken : Takes bytes (pair_fields ps) rest
  pub count : length ps ≡ n
  pub within : AreWithin limits ps
  pub below : IsBelowAll last ps
  pub run : IsRun ps

pub pairs_taken : (limits : PairLimits) (n : ℕ) (last bytes : List ℕ) (ps : List Pair) (rest : List ℕ) → AreBytes bytes → pairs_at limits n last bytes ≡ Ok (ps, rest) → PairsTaken limits n last bytes ps rest
unfolding pairs_at pair_fields
pairs_taken limits zero last bytes ps rest fits e =
    let is = good_is ([], bytes) (ps, rest) e in
    let end : bytes ≡ rest = ap (λ (x : List Pair × List ℕ). x.1) is in
    let none : [] ≡ ps = ap (λ (x : List Pair × List ℕ). x.0) is in
    subst (λ (l : List Pair). PairsTaken limits 0 last bytes l rest) none (record {
      taken = record { parts = end; rest_fits = subst AreBytes end fits };
      count = refl;
      within = tt;
      below = tt;
      run = tt;
    })
pairs_taken limits (suc n) last bytes ps rest fits e =
    let a = went_well (next_pair_at limits last bytes) (λ one. pairs_at limits n one.0.key one.1 >>= λ more. good (one.0 ∷ more.0, more.1)) (ps, rest) e in
    let b = went_well (pairs_at limits n a.0.0.key a.0.1) (λ more. good (a.0.0 ∷ more.0, more.1)) (ps, rest) a.2 in
    let here = next_pair_taken limits last bytes a.0 a.1 in
    let spelled = pair_taken limits.key_max limits.value_max a.0.0.key a.0.0.change bytes a.0.1 fits here.0 in
    let after_fits : AreBytes a.0.1 = rest_bytes bytes (pair_field a.0.0.key a.0.0.change) a.0.1 spelled.0 fits in
    let more = pairs_taken limits n a.0.0.key a.0.1 b.0.0 b.0.1 after_fits b.1 in
    let is = good_is (a.0.0 ∷ b.0.0, b.0.1) (ps, rest) b.2 in
    let list : (a.0.0 ∷ b.0.0) ≡ ps = ap (λ (x : List Pair × List ℕ). x.0) is in
    let end : b.0.1 ≡ rest = ap (λ (x : List Pair × List ℕ). x.1) is in
    let whole : PairsTaken limits (suc n) last bytes (a.0.0 ∷ b.0.0) b.0.1 = record {
      taken = takes-then bytes (pair_field a.0.0.key a.0.0.change) a.0.1 (pair_fields b.0.0) b.0.1 (record { parts = spelled.0; rest_fits = after_fits }) more.taken;
      count = omega (arith, more.count);
      within = (spelled.1, more.within);
      below = IsBelowAll-run last a.0.0 b.0.0 (more.below, more.run) here.1;
      run = (more.below, more.run);
    } in
    subst (λ (r : List ℕ). PairsTaken limits (suc n) last bytes ps r) end (subst (λ (l : List Pair). PairsTaken limits (suc n) last bytes l b.0.1) list whole)

-- the offsets before them name their places
pub offsets_taken : (limits : PairLimits) (n place : ℕ) (last offsets bytes : List ℕ) (ps : List Pair) (after rest : List ℕ) → AreBytes offsets → AreBytes bytes
    → offsets_at limits n place offsets bytes ≡ Ok after → pairs_at limits n last bytes ≡ Ok (ps, rest) → Takes offsets (offsets_from place ps) after
unfolding offsets_at pairs_at offsets_from
offsets_taken limits zero place last offsets bytes ps after rest fits whole e f =
    let end : offsets ≡ after = good_is offsets after e in
    let none : [] ≡ ps = ap (λ (x : List Pair × List ℕ). x.0) (good_is ([], bytes) (ps, rest) f) in
    subst (λ (l : List Pair). Takes offsets (offsets_from place l) after) none (record { parts = end; rest_fits = subst AreBytes end fits })
offsets_taken limits (suc n) place last offsets bytes ps after rest fits whole e f =
    let a = went_well (next_pair_at limits last bytes) (λ one. pairs_at limits n one.0.key one.1 >>= λ more. good (one.0 ∷ more.0, more.1)) (ps, rest) f in
    let b = went_well (pairs_at limits n a.0.0.key a.0.1) (λ more. good (a.0.0 ∷ more.0, more.1)) (ps, rest) a.2 in
    let here = next_pair_taken limits last bytes a.0 a.1 in
    let spelled = pair_taken limits.key_max limits.value_max a.0.0.key a.0.0.change bytes a.0.1 whole here.0 in
    let after_fits : AreBytes a.0.1 = rest_bytes bytes (pair_field a.0.0.key a.0.0.change) a.0.1 spelled.0 whole in
    let c = went_well (number_is w16 place offsets) (λ more. if_whole (pair_at limits.key_max limits.value_max bytes) (λ pair. offsets_at limits n (place + (length bytes - length pair.1)) more pair.1) (numbers_at n more)) after e in
    let one = number_is_taken place offsets c.0 fits c.1 in
    let long : length bytes - length a.0.1 ≡ pair_size a.0.0 = omega (arith, ap (λ (l : List ℕ). length l) spelled.0, length-append (pair_field a.0.0.key a.0.0.change) a.0.1, pairs.pair_size a.0.0.key a.0.0.change) in
    let goes_on : offsets_at limits n (place + pair_size a.0.0) c.0 a.0.1 ≡ Ok after =
    ap (λ (k : ℕ). offsets_at limits n (place + k) c.0 a.0.1) (sym long)
    ∙ ap (λ (r : Result ((List ℕ × Change) × List ℕ) ℕ). if_whole r (λ x. offsets_at limits n (place + (length bytes - length x.1)) c.0 x.1) (numbers_at n c.0)) (sym here.0)
    ∙ c.2 in
    let more = offsets_taken limits n (place + pair_size a.0.0) a.0.0.key c.0 a.0.1 b.0.0 after b.0.1 one.rest_fits after_fits goes_on b.1 in
    let list : (a.0.0 ∷ b.0.0) ≡ ps = ap (λ (x : List Pair × List ℕ). x.0) (good_is (a.0.0 ∷ b.0.0, b.0.1) (ps, rest) b.2) in
    subst (λ (l : List Pair). Takes offsets (offsets_from place l) after) list (takes-then offsets (to_be_bytes w16 place) c.0 (offsets_from (place + pair_size a.0.0) b.0.0) after one more)

-- ---- blocks

-- the fields of a block were spelled in its area
pub record FieldsTaken (limits : PairLimits) (last : List ℕ) (n : ℕ) (area : List ℕ) (ps : List Pair) (rest : List ℕ) : Type 0 where
  pub count : length ps ≡ n
  pub within : AreWithin limits ps
  pub below : IsBelowAll last ps
  pub run : IsRun ps
  pub spelled : area ≡ block ps ++ rest

fields_taken : (limits : PairLimits) (last : List ℕ) (n : ℕ) (area : List ℕ) (ps : List Pair) (rest more : List ℕ) → AreBytes area → number_at w16 area ≡ Ok (n, more) → block_in limits last n area ≡ Ok (ps, rest) → FieldsTaken limits last n area ps rest
unfolding block_in
fields_taken limits last n area ps rest more fits head e =
    let a = went_well (offsets_at limits n (head_size n) (drop 2 area) (drop (head_size n) area)) (λ o. pairs_at limits n last (drop (head_size n) area) >>= λ found. zeros_at (padding (length area - length found.1)) found.1 >>= λ left. good (found.0, left)) (ps, rest) e in
    let b = went_well (pairs_at limits n last (drop (head_size n) area)) (λ found. zeros_at (padding (length area - length found.1)) found.1 >>= λ left. good (found.0, left)) (ps, rest) a.2 in
    let c = went_well (zeros_at (padding (length area - length b.0.1)) b.0.1) (λ left. good (b.0.0, left)) (ps, rest) b.2 in
    let is = good_is (b.0.0, c.0) (ps, rest) c.2 in
    let list : b.0.0 ≡ ps = ap (λ (x : List Pair × List ℕ). x.0) is in
    let end : c.0 ≡ rest = ap (λ (x : List Pair × List ℕ). x.1) is in
    let there = number_taken w16 (2 ^ 16) wide16 area (n, more) fits head in
    let more_is : drop 2 area ≡ more = ap (drop 2) there.0.parts ∙ drop_at (to_be_bytes w16 n) more 2 refl in
    let found = pairs_taken limits n last (drop (head_size n) area) b.0.0 b.0.1 (AreBytes-drop (head_size n) area fits) b.1 in
    let named = offsets_taken limits n (head_size n) last (drop 2 area) (drop (head_size n) area) b.0.0 a.0 b.0.1 (AreBytes-drop 2 area fits) (AreBytes-drop (head_size n) area fits) a.1 b.1 in
    let len : length (offsets_from (head_size n) b.0.0) ≡ 2 * n = length-offsets_from (head_size n) b.0.0 ∙ ap (λ (k : ℕ). 2 * k) found.count in
    let after : drop (head_size n) area ≡ a.0 = sym (drop-drop (2 * n) 2 area) ∙ ap (drop (2 * n)) named.parts ∙ drop_at (offsets_from (head_size n) b.0.0) a.0 (2 * n) len in
    let zeros = zeros_taken (padding (length area - length b.0.1)) b.0.1 c.0 c.1 in
    let parts : area ≡ to_be_bytes w16 n ++ (offsets_from (head_size n) b.0.0 ++ (pair_fields b.0.0 ++ b.0.1)) =
    there.0.parts ∙ ap (λ (l : List ℕ). to_be_bytes w16 n ++ l) (sym more_is ∙ named.parts ∙ ap (λ (l : List ℕ). offsets_from (head_size n) b.0.0 ++ l) (sym after ∙ found.taken.parts)) in
    let used : length area - length b.0.1 ≡ block_size b.0.0 = size_of_parts n area b.0.0 b.0.1 found.count parts in
    let whole : area ≡ block b.0.0 ++ c.0 = spelled_block n area b.0.0 b.0.1 c.0 found.count parts (subst (λ (k : ℕ). b.0.1 ≡ replicate (padding k) 0 ++ c.0) used zeros) in
    subst (λ (r : List ℕ). FieldsTaken limits last n area ps r) end (subst (λ (l : List Pair). FieldsTaken limits last n area l c.0) list (record {
      count = found.count;
      within = found.within;
      below = found.below;
      run = found.run;
      spelled = whole;
    }))
  where
    size_of_parts : (n : ℕ) (area : List ℕ) (qs : List Pair) (left : List ℕ) → length qs ≡ n → area ≡ to_be_bytes w16 n ++ (offsets_from (head_size n) qs ++ (pair_fields qs ++ left)) → length area - length left ≡ block_size qs
    size_of_parts n area qs left count e =
        omega (arith, ap (λ (l : List ℕ). length l) e, length-append (to_be_bytes w16 n) (offsets_from (head_size n) qs ++ (pair_fields qs ++ left)), length-append (offsets_from (head_size n) qs) (pair_fields qs ++ left), length-append (pair_fields qs) left, length-offsets_from (head_size n) qs, length-pair_fields qs, count)

    spelled_block : (n : ℕ) (area : List ℕ) (qs : List Pair) (left end : List ℕ) → length qs ≡ n → area ≡ to_be_bytes w16 n ++ (offsets_from (head_size n) qs ++ (pair_fields qs ++ left)) → left ≡ replicate (padding (block_size qs)) 0 ++ end → area ≡ block qs ++ end
    spelled_block n area qs left end count e zeros =
        e ∙ ap (λ (k : ℕ). to_be_bytes w16 k ++ (offsets_from (head_size k) qs ++ (pair_fields qs ++ left))) (sym count)
        ∙ ap (λ (l : List ℕ). to_be_bytes w16 (length qs) ++ (offsets_from (head_size (length qs)) qs ++ (pair_fields qs ++ l))) zeros
        ∙ sym (block_parts qs end)

-- a block within one unit fills it up
fills_unit : (size len rest : ℕ) → 1 ≤ size → len ≤ UNIT → len ≡ (size + padding size) + rest → (size ≤ UNIT) × (rest ≡ 0)
fills_unit size len rest some fits e = (omega arith, omega arith)

-- the block of one pair, which may go on over all units
one_taken : (limits : PairLimits) (last units : List ℕ) (ps : List Pair) (rest : List ℕ) → FieldsTaken limits last 1 units ps rest → IsBlock limits ps × IsBelowAll last ps × (units ≡ block ps ++ rest)
one_taken limits last units ps rest h = (record { some = omega (arith, h.count); one_unit = λ many. absurd (omega (arith, h.count, many)); within = h.within; rises = h.run }, h.below, h.spelled)

-- the block of several pairs, within the first unit
many_taken : (limits : PairLimits) (last : List ℕ) (n : ℕ) (units : List ℕ) (ps : List Pair) (rest : List ℕ) → 1 ≤ n → FieldsTaken limits last n (take UNIT units) ps rest → IsBlock limits ps × IsBelowAll last ps × (units ≡ block ps ++ drop UNIT units)
many_taken limits last n units ps rest some h =
    let full = fills_unit (block_size ps) (length (take UNIT units)) (length rest) (size_some ps (omega (arith, h.count))) (omega (arith, length-take UNIT units)) (ap (λ (l : List ℕ). length l) h.spelled ∙ length-append (block ps) rest ∙ ap (λ (k : ℕ). k + length rest) (length-block ps)) in
    let end : rest ≡ [] = nil_from_length rest full.1 in
    let unit : take UNIT units ≡ block ps = h.spelled ∙ ap (λ (l : List ℕ). block ps ++ l) end ∙ append-nil (block ps) in
    (record { some = omega (arith, h.count); one_unit = λ many. full.0; within = h.within; rises = h.run }, h.below, sym (take-append-drop UNIT units) ∙ ap (λ (l : List ℕ). l ++ drop UNIT units) unit)

-- a unit's first number is that of all units
count_in_unit : (units : List ℕ) (x : ℕ × List ℕ) → number_at w16 units ≡ Ok x → (more : List ℕ) × (number_at w16 (take UNIT units) ≡ Ok (x.0, more))
count_in_unit units x e =
    let p = passed (ltb (length units) 2) (length units) (good (from_be_bytes w16 (take 2 units), drop 2 units)) x e in
    let long : 2 ≤ length units = ltb-false _ _ p.0 in
    let is = good_is (from_be_bytes w16 (take 2 units), drop 2 units) x p.1 in
    let front : from_be_bytes w16 (take 2 (take UNIT units)) ≡ x.0 = ap (from_be_bytes w16) (take-take 2 UNIT units (omega arith)) ∙ ap (λ (y : ℕ × List ℕ). y.0) is in
    let more = drop 2 (take UNIT units) in
    (more, cond-false (ltb (length (take UNIT units)) 2) (Err (length (take UNIT units))) (good (from_be_bytes w16 (take 2 (take UNIT units)), more)) (le-ltb (length (take UNIT units)) 2 (omega (arith, long, length-take UNIT units))) ∙ ap (λ (k : ℕ). good (k, more)) front)

pub block_taken : BlockWasSpelled
unfolding block_at
block_taken limits last units ps rest fits e =
    let a = went_well (number_at w16 units) (λ count. cond (eqb count.0 0) (Err (length units)) (cond (eqb count.0 1) (block_in limits last 1 units) (in_unit units (block_in limits last count.0 (take UNIT units))))) (ps, rest) e in
    let p = passed (eqb a.0.0 0) (length units) (cond (eqb a.0.0 1) (block_in limits last 1 units) (in_unit units (block_in limits last a.0.0 (take UNIT units)))) (ps, rest) a.2 in
    by_count a.0 a.1 p.0 (eqb a.0.0 1) refl p.1
  where
    some_of : (n : ℕ) → eqb n 0 ≡ false → 1 ≤ n
    some_of n h = elim (cases_lt n 1) [
      | inl few ↦ absurd (eqb-false n 0 h (omega (arith, few)))
      | inr some ↦ some
    ]

    in_unit_ok : (r : Result (List Pair × List ℕ) ℕ) → in_unit units r ≡ Ok (ps, rest) → (left : List ℕ) × (r ≡ Ok (ps, left)) × (drop UNIT units ≡ rest)
    in_unit_ok (Ok x) h = let is = good_is (x.0, drop UNIT units) (ps, rest) h in (x.1, ap (λ (y : List Pair × List ℕ). good (y.0, x.1)) is, ap (λ (y : List Pair × List ℕ). y.1) is)
    in_unit_ok (Err left) h = absurd cc

    by_count : (x : ℕ × List ℕ) → number_at w16 units ≡ Ok x → eqb x.0 0 ≡ false → (b : Bool) → eqb x.0 1 ≡ b → cond b (block_in limits last 1 units) (in_unit units (block_in limits last x.0 (take UNIT units))) ≡ good (ps, rest)
        → IsBlock limits ps × IsBelowAll last ps × (units ≡ block ps ++ rest)
    by_count x there some true one h =
        let single : x.0 ≡ 1 = eqb-true x.0 1 one in
        one_taken limits last units ps rest (fields_taken limits last 1 units ps rest x.1 fits (there ∙ ap (λ (k : ℕ). good (k, x.1)) single) h)
    by_count x there some false one h =
        let found = in_unit_ok (block_in limits last x.0 (take UNIT units)) h in
        let head = count_in_unit units x there in
        let whole = many_taken limits last x.0 units ps found.0 (some_of x.0 some) (fields_taken limits last x.0 (take UNIT units) ps found.0 head.0 (AreBytes-take UNIT units fits) head.1 found.1) in
        (whole.0, whole.1, whole.2 ∙ ap (λ (l : List ℕ). block ps ++ l) found.2)
