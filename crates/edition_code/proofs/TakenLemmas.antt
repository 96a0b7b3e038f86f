-- An edition that is read was spelled there, and is in the grammar. To know: `edition_taken`.
use Rattle.std.proofs.Common.{◌≡◌, inl, inr, ℕ, zero, suc, ◌^◌, ◌<◌, ◌≤◌, Bool, true, false, cond, eqb, ltb, List, [], ◌∷◌, ◌++◌, length, replicate, Option, Some, None, Result, Ok, Err, refl, sym, ap, subst, ◌∙◌, append_assoc, arith}
use Rattle.std.specs.Int.{w8, w16, w32, w64, to_be_bytes}
use Rattle.std.specs.Ordering.{is_lt}
use Rattle.std.specs.declared.cmp.Ordering.TheVariants.{Less}
use Rattle.std.proofs.lemmas.Bool.{cases_lt, ltb-true, ltb-false, eqb-true, eqb-false, and_parts}
use Rattle.std.proofs.lemmas.List.{append-nil, nil_from_length}
use Rattle.rdb_base.specs.Bytes.{AreBytes}
use Rattle.rdb_base.specs.Order.{key_cmp}
use Rattle.rdb_base.specs.PairFields.{◌>>=◌, number_at, bytes_at, key_field_at, placed}
use Rattle.rdb_base.proofs.KeyOrder.{less_from_test}
use Rattle.rdb_base.proofs.PairLemmas.{Takes, takes-then, number_taken, bytes_taken, wide16, wide32, wide64, went_well, passed}
use Rattle.edition_code.specs.declared.run_field.RunField.{RunField}
use Rattle.edition_code.specs.declared.index_field.IndexField.{IndexField}
use Rattle.edition_code.specs.declared.format.TheConstants.{DIGEST_LEN, LOW_MAX, RUNS_MAX, PARTITIONS_MAX}
use Rattle.edition_code.specs.Values.{PartValue, EditionValue}
use Rattle.edition_code.specs.Editions.{run_field, run_fields, index_field, part_head, part_field, part_fields, edition_head, edition_bytes, lows_of, is_in, IsDrawn, IsLowLength, run_numbers, part_numbers, greatest_base, IsEdition}
use Rattle.edition_code.specs.Reading.{file_number_at, digest_at, run_at, runs_at, are_zero, no_index_at, no_index, index_of, index_at, first_low_at, next_low_at, low_at, PartHead, part_head_at, part_at, parts_at, numbers_at, count_at, edition_fields, edition_of}
use Rattle.edition_code.specs.Laws.{IsHeld, EditionWasSpelled, BytesOfOne}
use Rattle.edition_code.proofs.FitLemmas.{LowFits, RunFits, RunsFit, IndexFits, PartFits, PartsFit, parts_from, lows_begin, lows_lengths, lows_rising}
use Rattle.edition_code.proofs.AgainLemmas.{wide8, four, edition_again}

abbrev good : {A : Type 0} → A → Result A ℕ
good x = Ok x

good_is : {A : Type 0} (x y : A) → good x ≡ good y → x ≡ y
good_is x y e = cc

-- a test that let a field pass
passed_on : {A : Type 0} (b : Bool) (left : ℕ) (r : Result A ℕ) (y : A) → cond b r (Err left) ≡ Ok y → (b ≡ true) × (r ≡ Ok y)
passed_on true left r y e = (refl, e)
passed_on false left r y e = absurd cc

some_of : (n : ℕ) → eqb n 0 ≡ false → 1 ≤ n
some_of n h =
    elim (cases_lt n 1) [
      | inl few ↦ absurd (eqb-false n 0 h (omega (arith, few)))
      | inr some ↦ some
    ]

-- ---- files

abbrev number_tests : ℕ → List ℕ → ℕ → ℕ × List ℕ → Result (ℕ × List ℕ) ℕ
number_tests next before left number = cond (eqb number.0 0) (Err left) (cond (ltb number.0 next) (cond (is_in number.0 before) (Err left) (good number)) (Err left))

file_number_taken : (next : ℕ) (before bytes : List ℕ) (x : ℕ × List ℕ) → AreBytes bytes → file_number_at next before bytes ≡ Ok x → Takes bytes (to_be_bytes w64 x.0) x.1 × IsDrawn next x.0 × (is_in x.0 before ≡ false)
unfolding file_number_at
file_number_taken next before bytes x fits e =
    let a = went_well (number_at w64 bytes) (number_tests next before (length bytes)) x e in
    let n = a.0 in
    let p = passed (eqb n.0 0) (length bytes) (cond (ltb n.0 next) (cond (is_in n.0 before) (Err (length bytes)) (good n)) (Err (length bytes))) x a.2 in
    let q = passed_on (ltb n.0 next) (length bytes) (cond (is_in n.0 before) (Err (length bytes)) (good n)) x p.1 in
    let r = passed (is_in n.0 before) (length bytes) (good n) x q.1 in
    let there = number_taken w64 (2 ^ 64) wide64 bytes n fits a.1 in
    subst (λ (y : ℕ × List ℕ). Takes bytes (to_be_bytes w64 y.0) y.1 × IsDrawn next y.0 × (is_in y.0 before ≡ false)) (good_is n x r.1) (there.0, (some_of n.0 p.0, ltb-true n.0 next q.0), r.0)

abbrev run_made : ℕ → ℕ → List ℕ × List ℕ → RunField × List ℕ
run_made number len digest = (record { number = number; length = len; digest = digest.0 }, digest.1)

run_taken : (next : ℕ) (before bytes : List ℕ) (x : RunField × List ℕ) → AreBytes bytes → run_at next before bytes ≡ Ok x → Takes bytes (run_field x.0) x.1 × RunFits next before x.0
unfolding run_at run_field
run_taken next before bytes x fits e =
    let a = went_well (file_number_at next before bytes) (λ number. number_at w64 number.1 >>= λ len. digest_at len.1 >>= λ digest. good (run_made number.0 len.0 digest)) x e in
    let b = went_well (number_at w64 a.0.1) (λ len. digest_at len.1 >>= λ digest. good (run_made a.0.0 len.0 digest)) x a.2 in
    let c = went_well (digest_at b.0.1) (λ digest. good (run_made a.0.0 b.0.0 digest)) x b.2 in
    let one = file_number_taken next before bytes a.0 fits a.1 in
    let two = number_taken w64 (2 ^ 64) wide64 a.0.1 b.0 one.0.rest_fits b.1 in
    let three = bytes_taken DIGEST_LEN b.0.1 c.0.0 c.0.1 two.0.rest_fits c.1 in
    let whole = takes-then bytes (to_be_bytes w64 a.0.0) a.0.1 (to_be_bytes w64 b.0.0 ++ c.0.0) c.0.1 one.0 (takes-then a.0.1 (to_be_bytes w64 b.0.0) b.0.1 c.0.0 c.0.1 two.0 three.0) in
    subst (λ (y : RunField × List ℕ). Takes bytes (run_field y.0) y.1 × RunFits next before y.0) (good_is (run_made a.0.0 b.0.0 c.0) x c.2)
    (whole, record { drawn = one.1; new = one.2; held = record { size = two.1; digest = three.1 } })

-- so many runs were taken from the front of bytes
record RunsTaken (n next : ℕ) (before bytes : List ℕ) (runs : List RunField) (rest : List ℕ) : Type 0 where
  taken : Takes bytes (run_fields runs) rest
  count : length runs ≡ n
  fits : RunsFit next before runs

abbrev runs_made : RunField → List RunField × List ℕ → List RunField × List ℕ
runs_made run more = (run ∷ more.0, more.1)

runs_taken : (n next : ℕ) (before bytes : List ℕ) (x : List RunField × List ℕ) → AreBytes bytes → runs_at n next before bytes ≡ Ok x → RunsTaken n next before bytes x.0 x.1
unfolding runs_at run_fields
runs_taken zero next before bytes x fits e =
    subst (λ (y : List RunField × List ℕ). RunsTaken 0 next before bytes y.0 y.1) (good_is ([], bytes) x e) (record { taken = record { parts = refl; rest_fits = fits }; count = refl; fits = tt })
runs_taken (suc n) next before bytes x fits e =
    let a = went_well (run_at next before bytes) (λ one. runs_at n next (before ++ one.0.number ∷ []) one.1 >>= λ more. good (runs_made one.0 more)) x e in
    let b = went_well (runs_at n next (before ++ a.0.0.number ∷ []) a.0.1) (λ more. good (runs_made a.0.0 more)) x a.2 in
    let one = run_taken next before bytes a.0 fits a.1 in
    let more = runs_taken n next (before ++ a.0.0.number ∷ []) a.0.1 b.0 one.0.rest_fits b.1 in
    subst (λ (y : List RunField × List ℕ). RunsTaken (suc n) next before bytes y.0 y.1) (good_is (runs_made a.0.0 b.0) x b.2) (record {
      taken = takes-then bytes (run_field a.0.0) a.0.1 (run_fields b.0.0) b.0.1 one.0 more.taken;
      count = let len = more.count in omega (arith, len);
      fits = (one.1, more.fits);
    })

-- ---- indexes

are_zero-is : (bytes : List ℕ) → are_zero bytes ≡ true → bytes ≡ replicate (length bytes) 0
are_zero-is [] e = refl
are_zero-is (byte ∷ bytes) e =
    let both = and_parts (eqb byte 0) (are_zero bytes) e in
    ap (λ (n : ℕ). n ∷ bytes) (eqb-true byte 0 both.0) ∙ ap (λ (l : List ℕ). 0 ∷ l) (are_zero-is bytes both.1)

abbrev zero_tests : ℕ → List ℕ × List ℕ → Result (List ℕ) ℕ
zero_tests left digest = cond (are_zero digest.0) (good digest.1) (Err left)

no_index_taken : (bytes rest : List ℕ) → AreBytes bytes → no_index_at bytes ≡ Ok rest → Takes bytes (to_be_bytes w64 0 ++ replicate DIGEST_LEN 0) rest
unfolding no_index_at
no_index_taken bytes rest fits e =
    let a = went_well (number_at w64 bytes) (λ len. cond (eqb len.0 0) (digest_at len.1 >>= λ digest. zero_tests (length len.1) digest) (Err (length bytes))) rest e in
    let p = passed_on (eqb a.0.0 0) (length bytes) (digest_at a.0.1 >>= λ digest. zero_tests (length a.0.1) digest) rest a.2 in
    let b = went_well (digest_at a.0.1) (λ digest. zero_tests (length a.0.1) digest) rest p.1 in
    let q = passed_on (are_zero b.0.0) (length a.0.1) (good b.0.1) rest b.2 in
    let one = number_taken w64 (2 ^ 64) wide64 bytes a.0 fits a.1 in
    let two = bytes_taken DIGEST_LEN a.0.1 b.0.0 b.0.1 one.0.rest_fits b.1 in
    let none : Takes bytes (to_be_bytes w64 0) a.0.1 = subst (λ (n : ℕ). Takes bytes (to_be_bytes w64 n) a.0.1) (eqb-true a.0.0 0 p.0) one.0 in
    let zeros : b.0.0 ≡ replicate DIGEST_LEN 0 = are_zero-is b.0.0 q.0 ∙ ap (λ (n : ℕ). replicate n 0) two.1 in
    let end : b.0.1 ≡ rest = good_is b.0.1 rest q.1 in
    takes-then bytes (to_be_bytes w64 0) a.0.1 (replicate DIGEST_LEN 0) rest none (subst (λ (r : List ℕ). Takes a.0.1 (replicate DIGEST_LEN 0) r) end (subst (λ (d : List ℕ). Takes a.0.1 d b.0.1) zeros two.0))

abbrev index_made : RunField × List ℕ → Option IndexField × List ℕ
index_made file = (Some (index_of file.0), file.1)

abbrev none_made : List ℕ → Option IndexField × List ℕ
none_made rest = (None, rest)

abbrev file_tests : ℕ → ℕ → List ℕ → List ℕ → Result (Option IndexField × List ℕ) ℕ
file_tests runs next before bytes = cond (eqb runs 0) (Err (length bytes)) (run_at next before bytes >>= λ file. good (index_made file))

index_taken : (runs next : ℕ) (before bytes : List ℕ) (x : Option IndexField × List ℕ) → AreBytes bytes → index_at runs next before bytes ≡ Ok x → Takes bytes (index_field x.0) x.1 × IndexFits runs next before x.0
unfolding index_at index_field run_field
index_taken runs next before bytes x fits e =
    let a = went_well (number_at w64 bytes) (λ number. cond (eqb number.0 0) (no_index number.1) (file_tests runs next before bytes)) x e in
    by_number a.0 a.1 (eqb a.0.0 0) refl a.2
  where
    by_number : (n : ℕ × List ℕ) → number_at w64 bytes ≡ Ok n → (b : Bool) → eqb n.0 0 ≡ b → cond b (no_index n.1) (file_tests runs next before bytes) ≡ Ok x → Takes bytes (index_field x.0) x.1 × IndexFits runs next before x.0
    by_number n there true zero_is h =
        let a = went_well (no_index_at n.1) (λ rest. good (none_made rest)) x h in
        let one = number_taken w64 (2 ^ 64) wide64 bytes n fits there in
        let none : Takes bytes (to_be_bytes w64 0) n.1 = subst (λ (k : ℕ). Takes bytes (to_be_bytes w64 k) n.1) (eqb-true n.0 0 zero_is) one.0 in
        let whole = takes-then bytes (to_be_bytes w64 0) n.1 (to_be_bytes w64 0 ++ replicate DIGEST_LEN 0) a.0 none (no_index_taken n.1 a.0 one.0.rest_fits a.1) in
        subst (λ (y : Option IndexField × List ℕ). Takes bytes (index_field y.0) y.1 × IndexFits runs next before y.0) (good_is (none_made a.0) x a.2) (whole, tt)
    by_number n there false some h =
        let p = passed (eqb runs 0) (length bytes) (run_at next before bytes >>= λ file. good (index_made file)) x h in
        let a = went_well (run_at next before bytes) (λ file. good (index_made file)) x p.1 in
        let file = run_taken next before bytes a.0 fits a.1 in
        subst (λ (y : Option IndexField × List ℕ). Takes bytes (index_field y.0) y.1 × IndexFits runs next before y.0) (good_is (index_made a.0) x a.2) (file.0, (some_of runs p.0, file.1))

-- ---- partitions

abbrev key_tests : ℕ → ℕ → ℕ × List ℕ → Result (List ℕ × List ℕ) ℕ
key_tests most left n = cond (eqb n.0 0) (Err left) (cond (ltb most n.0) (Err left) (bytes_at n.0 n.1))

key_taken : (most : ℕ) (bytes : List ℕ) (x : List ℕ × List ℕ) → AreBytes bytes → key_field_at most bytes ≡ Ok x → Takes bytes (to_be_bytes w16 (length x.0) ++ x.0) x.1 × ((1 ≤ length x.0) × (length x.0 ≤ most))
unfolding key_field_at
key_taken most bytes x fits e =
    let a = went_well (number_at w16 bytes) (key_tests most (length bytes)) x e in
    let n = a.0 in
    let one = number_taken w16 (2 ^ 16) wide16 bytes n fits a.1 in
    let p = passed (eqb n.0 0) (length bytes) (cond (ltb most n.0) (Err (length bytes)) (bytes_at n.0 n.1)) x a.2 in
    let q = passed (ltb most n.0) (length bytes) (bytes_at n.0 n.1) x p.1 in
    let two = bytes_taken n.0 n.1 x.0 x.1 one.0.rest_fits q.1 in
    let both = takes-then bytes (to_be_bytes w16 n.0) n.1 x.0 x.1 one.0 two.0 in
    let low : 1 ≤ n.0 = some_of n.0 p.0 in
    let high : n.0 ≤ most = ltb-false _ _ q.0 in
    (subst (λ (k : ℕ). Takes bytes (to_be_bytes w16 k ++ x.0) x.1) (sym two.1) both, (omega (arith, two.1, low), omega (arith, two.1, high)))

abbrev empty_made : List ℕ → List ℕ × List ℕ
empty_made rest = ([], rest)

low_taken : (is_first : Bool) (last bytes : List ℕ) (x : List ℕ × List ℕ) → AreBytes bytes → low_at is_first last bytes ≡ Ok x → Takes bytes (to_be_bytes w16 (length x.0) ++ x.0) x.1 × LowFits is_first last x.0
unfolding first_low_at next_low_at
low_taken true last bytes x fits e =
    let a = went_well (number_at w16 bytes) (λ n. cond (eqb n.0 0) (good (empty_made n.1)) (Err (length bytes))) x e in
    let p = passed_on (eqb a.0.0 0) (length bytes) (good (empty_made a.0.1)) x a.2 in
    let one = number_taken w16 (2 ^ 16) wide16 bytes a.0 fits a.1 in
    let none : Takes bytes (to_be_bytes w16 0) a.0.1 = subst (λ (k : ℕ). Takes bytes (to_be_bytes w16 k) a.0.1) (eqb-true a.0.0 0 p.0) one.0 in
    subst (λ (y : List ℕ × List ℕ). Takes bytes (to_be_bytes w16 (length y.0) ++ y.0) y.1 × (y.0 ≡ [])) (good_is (empty_made a.0.1) x p.1) (none, refl)
low_taken false last bytes x fits e =
    let a = went_well (key_field_at LOW_MAX bytes) (λ low. cond (is_lt (key_cmp last low.0)) (good low) (Err (length bytes))) x e in
    let p = passed_on (is_lt (key_cmp last a.0.0)) (length bytes) (good a.0) x a.2 in
    let one = key_taken LOW_MAX bytes a.0 fits a.1 in
    subst (λ (y : List ℕ × List ℕ). Takes bytes (to_be_bytes w16 (length y.0) ++ y.0) y.1 × (IsLowLength (length y.0) × (key_cmp last y.0 ≡ Less))) (good_is a.0 x p.1) (one.0, (one.1, less_from_test (key_cmp last a.0.0) p.0))

abbrev head_made : List ℕ → ℕ → ℕ × List ℕ → PartHead × List ℕ
head_made low base runs = (record { low = low; base = base; runs = runs.0 }, runs.1)

abbrev head_tests : List ℕ → ℕ → ℕ → ℕ × List ℕ → Result (PartHead × List ℕ) ℕ
head_tests low base left runs = cond (ltb RUNS_MAX runs.0) (Err left) (good (head_made low base runs))

-- what is said of the head of a partition that was read
record HeadTaken (is_first : Bool) (last bytes : List ℕ) (head : PartHead) (rest : List ℕ) : Type 0 where
  taken : Takes bytes (part_head head.low head.base head.runs) rest
  low : LowFits is_first last head.low
  base : head.base < 2 ^ 64
  few : head.runs ≤ RUNS_MAX

part_head_taken : (is_first : Bool) (last bytes : List ℕ) (x : PartHead × List ℕ) → AreBytes bytes → part_head_at is_first last bytes ≡ Ok x → HeadTaken is_first last bytes x.0 x.1
unfolding part_head_at part_head
part_head_taken is_first last bytes x fits e =
    let a = went_well (low_at is_first last bytes) (λ low. number_at w64 low.1 >>= λ base. number_at w8 base.1 >>= λ runs. head_tests low.0 base.0 (length base.1) runs) x e in
    let b = went_well (number_at w64 a.0.1) (λ base. number_at w8 base.1 >>= λ runs. head_tests a.0.0 base.0 (length base.1) runs) x a.2 in
    let c = went_well (number_at w8 b.0.1) (λ runs. head_tests a.0.0 b.0.0 (length b.0.1) runs) x b.2 in
    let p = passed (ltb RUNS_MAX c.0.0) (length b.0.1) (good (head_made a.0.0 b.0.0 c.0)) x c.2 in
    let one = low_taken is_first last bytes a.0 fits a.1 in
    let two = number_taken w64 (2 ^ 64) wide64 a.0.1 b.0 one.0.rest_fits b.1 in
    let three = number_taken w8 256 wide8 b.0.1 c.0 two.0.rest_fits c.1 in
    let after = takes-then a.0.1 (to_be_bytes w64 b.0.0) b.0.1 (to_be_bytes w8 c.0.0) c.0.1 two.0 three.0 in
    let whole = takes-then bytes (to_be_bytes w16 (length a.0.0) ++ a.0.0) a.0.1 (to_be_bytes w64 b.0.0 ++ to_be_bytes w8 c.0.0) c.0.1 one.0 after in
    let parts : (to_be_bytes w16 (length a.0.0) ++ a.0.0) ++ (to_be_bytes w64 b.0.0 ++ to_be_bytes w8 c.0.0) ≡ to_be_bytes w16 (length a.0.0) ++ (a.0.0 ++ (to_be_bytes w64 b.0.0 ++ to_be_bytes w8 c.0.0)) =
    append_assoc (to_be_bytes w16 (length a.0.0)) a.0.0 (to_be_bytes w64 b.0.0 ++ to_be_bytes w8 c.0.0) in
    subst (λ (y : PartHead × List ℕ). HeadTaken is_first last bytes y.0 y.1) (good_is (head_made a.0.0 b.0.0 c.0) x p.1) (record {
      taken = subst (λ (l : List ℕ). Takes bytes l c.0.1) parts whole;
      low = one.1;
      base = two.1;
      few = ltb-false _ _ p.0;
    })

abbrev part_made : PartHead → List RunField → Option IndexField × List ℕ → PartValue × List ℕ
part_made head runs index = (record { low = head.low; base = head.base; runs = runs; index = index.0 }, index.1)

part_taken : (next : ℕ) (is_first : Bool) (last before bytes : List ℕ) (x : PartValue × List ℕ) → AreBytes bytes → part_at next is_first last before bytes ≡ Ok x → Takes bytes (part_field x.0) x.1 × PartFits next is_first last before x.0
unfolding part_at part_field
part_taken next is_first last before bytes x fits e =
    let a = went_well (part_head_at is_first last bytes) (λ head. runs_at head.0.runs next before head.1 >>= λ runs. index_at head.0.runs next (before ++ run_numbers runs.0) runs.1 >>= λ index. good (part_made head.0 runs.0 index)) x e in
    let b = went_well (runs_at a.0.0.runs next before a.0.1) (λ runs. index_at a.0.0.runs next (before ++ run_numbers runs.0) runs.1 >>= λ index. good (part_made a.0.0 runs.0 index)) x a.2 in
    let c = went_well (index_at a.0.0.runs next (before ++ run_numbers b.0.0) b.0.1) (λ index. good (part_made a.0.0 b.0.0 index)) x b.2 in
    let head = part_head_taken is_first last bytes a.0 fits a.1 in
    let runs = runs_taken a.0.0.runs next before a.0.1 b.0 head.taken.rest_fits b.1 in
    let index = index_taken a.0.0.runs next (before ++ run_numbers b.0.0) b.0.1 c.0 runs.taken.rest_fits c.1 in
    let after = takes-then a.0.1 (run_fields b.0.0) b.0.1 (index_field c.0.0) c.0.1 runs.taken index.0 in
    let whole = takes-then bytes (part_head a.0.0.low a.0.0.base a.0.0.runs) a.0.1 (run_fields b.0.0 ++ index_field c.0.0) c.0.1 head.taken after in
    let count : a.0.0.runs ≡ length b.0.0 = sym runs.count in
    subst (λ (y : PartValue × List ℕ). Takes bytes (part_field y.0) y.1 × PartFits next is_first last before y.0) (good_is (part_made a.0.0 b.0.0 c.0) x c.2) (
      subst (λ (n : ℕ). Takes bytes (part_head a.0.0.low a.0.0.base n ++ (run_fields b.0.0 ++ index_field c.0.0)) c.0.1) count whole,
      record {
        low = head.low;
        base = head.base;
        few = let most = head.few in let n = runs.count in omega (arith, most, n);
        runs = runs.fits;
        index = subst (λ (n : ℕ). IndexFits n next (before ++ run_numbers b.0.0) c.0.0) count index.1;
      },
    )

-- so many partitions were taken from the front of bytes
record PartsTaken (n next : ℕ) (is_first : Bool) (last before bytes : List ℕ) (parts : List PartValue) (rest : List ℕ) : Type 0 where
  taken : Takes bytes (part_fields parts) rest
  count : length parts ≡ n
  fits : PartsFit next is_first last before parts

abbrev parts_made : PartValue → List PartValue × List ℕ → List PartValue × List ℕ
parts_made part more = (part ∷ more.0, more.1)

parts_taken : (n next : ℕ) (is_first : Bool) (last before bytes : List ℕ) (x : List PartValue × List ℕ) → AreBytes bytes → parts_at n next is_first last before bytes ≡ Ok x → PartsTaken n next is_first last before bytes x.0 x.1
unfolding parts_at part_fields
parts_taken zero next is_first last before bytes x fits e =
    subst (λ (y : List PartValue × List ℕ). PartsTaken 0 next is_first last before bytes y.0 y.1) (good_is ([], bytes) x e) (record { taken = record { parts = refl; rest_fits = fits }; count = refl; fits = tt })
parts_taken (suc n) next is_first last before bytes x fits e =
    let a = went_well (part_at next is_first last before bytes) (λ one. parts_at n next false one.0.low (before ++ part_numbers one.0) one.1 >>= λ more. good (parts_made one.0 more)) x e in
    let b = went_well (parts_at n next false a.0.0.low (before ++ part_numbers a.0.0) a.0.1) (λ more. good (parts_made a.0.0 more)) x a.2 in
    let one = part_taken next is_first last before bytes a.0 fits a.1 in
    let more = parts_taken n next false a.0.0.low (before ++ part_numbers a.0.0) a.0.1 b.0 one.0.rest_fits b.1 in
    subst (λ (y : List PartValue × List ℕ). PartsTaken (suc n) next is_first last before bytes y.0 y.1) (good_is (parts_made a.0.0 b.0) x b.2) (record {
      taken = takes-then bytes (part_field a.0.0) a.0.1 (part_fields b.0.0) b.0.1 one.0 more.taken;
      count = let len = more.count in omega (arith, len);
      fits = (one.1, more.fits);
    })

-- ---- the whole

-- what is said of the first two numbers
record NumbersTaken (bytes : List ℕ) (number next : ℕ) (rest : List ℕ) : Type 0 where
  taken : Takes bytes (to_be_bytes w64 number ++ to_be_bytes w64 next) rest
  some : 1 ≤ number
  drawn : number < next
  held : next < 2 ^ 64

abbrev numbers_made : ℕ → ℕ × List ℕ → (ℕ × ℕ) × List ℕ
numbers_made number next = ((number, next.0), next.1)

abbrev next_tests : ℕ → ℕ → ℕ × List ℕ → Result ((ℕ × ℕ) × List ℕ) ℕ
next_tests number left next = cond (ltb number next.0) (good (numbers_made number next)) (Err left)

numbers_taken : (bytes : List ℕ) (x : (ℕ × ℕ) × List ℕ) → AreBytes bytes → numbers_at bytes ≡ Ok x → NumbersTaken bytes x.0.0 x.0.1 x.1
unfolding numbers_at
numbers_taken bytes x fits e =
    let a = went_well (number_at w64 bytes) (λ number. cond (eqb number.0 0) (Err (length bytes)) (number_at w64 number.1 >>= λ next. next_tests number.0 (length bytes) next)) x e in
    let p = passed (eqb a.0.0 0) (length bytes) (number_at w64 a.0.1 >>= λ next. next_tests a.0.0 (length bytes) next) x a.2 in
    let b = went_well (number_at w64 a.0.1) (λ next. next_tests a.0.0 (length bytes) next) x p.1 in
    let q = passed_on (ltb a.0.0 b.0.0) (length bytes) (good (numbers_made a.0.0 b.0)) x b.2 in
    let one = number_taken w64 (2 ^ 64) wide64 bytes a.0 fits a.1 in
    let two = number_taken w64 (2 ^ 64) wide64 a.0.1 b.0 one.0.rest_fits b.1 in
    subst (λ (y : (ℕ × ℕ) × List ℕ). NumbersTaken bytes y.0.0 y.0.1 y.1) (good_is (numbers_made a.0.0 b.0) x q.1) (record {
      taken = takes-then bytes (to_be_bytes w64 a.0.0) a.0.1 (to_be_bytes w64 b.0.0) b.0.1 one.0 two.0;
      some = some_of a.0.0 p.0;
      drawn = ltb-true a.0.0 b.0.0 q.0;
      held = two.1;
    })

count_taken : (bytes : List ℕ) (x : ℕ × List ℕ) → AreBytes bytes → count_at bytes ≡ Ok x → Takes bytes (to_be_bytes w32 x.0) x.1 × (1 ≤ x.0) × (x.0 ≤ PARTITIONS_MAX)
unfolding count_at
count_taken bytes x fits e =
    let a = went_well (number_at w32 bytes) (λ n. cond (eqb n.0 0) (Err (length bytes)) (cond (ltb PARTITIONS_MAX n.0) (Err (length bytes)) (good n))) x e in
    let p = passed (eqb a.0.0 0) (length bytes) (cond (ltb PARTITIONS_MAX a.0.0) (Err (length bytes)) (good a.0)) x a.2 in
    let q = passed (ltb PARTITIONS_MAX a.0.0) (length bytes) (good a.0) x p.1 in
    let one = number_taken w32 (2 ^ 32) wide32 bytes a.0 fits a.1 in
    subst (λ (y : ℕ × List ℕ). Takes bytes (to_be_bytes w32 y.0) y.1 × (1 ≤ y.0) × (y.0 ≤ PARTITIONS_MAX)) (good_is a.0 x q.1) (one.0, some_of a.0.0 p.0, ltb-false _ _ q.0)

-- the edition of its fields
abbrev edition_made : ℕ × ℕ → ℕ → List PartValue → EditionValue
edition_made numbers first parts = record { number = numbers.0; next = numbers.1; first = first; partitions = parts }

abbrev edition_tests : (ℕ × ℕ) × List ℕ → ℕ → List PartValue × List ℕ → Result EditionValue ℕ
edition_tests numbers first parts = cond (eqb (length parts.1) 0) (cond (ltb (greatest_base parts.0) first) (Err (length numbers.1)) (good (edition_made numbers.0 first parts.0))) (Err (length parts.1))

edition_fields_taken : (bytes : List ℕ) (edition : EditionValue) → AreBytes bytes → edition_fields bytes ≡ Ok edition → IsHeld edition × IsEdition edition × (bytes ≡ edition_bytes edition)
unfolding edition_fields edition_bytes edition_head
edition_fields_taken bytes edition fits e =
    let a = went_well (numbers_at bytes) (λ numbers. number_at w64 numbers.1 >>= λ first. count_at first.1 >>= λ count. parts_at count.0 numbers.0.1 true [] [] count.1 >>= λ parts. edition_tests numbers first.0 parts) edition e in
    let b = went_well (number_at w64 a.0.1) (λ first. count_at first.1 >>= λ count. parts_at count.0 a.0.0.1 true [] [] count.1 >>= λ parts. edition_tests a.0 first.0 parts) edition a.2 in
    let c = went_well (count_at b.0.1) (λ count. parts_at count.0 a.0.0.1 true [] [] count.1 >>= λ parts. edition_tests a.0 b.0.0 parts) edition b.2 in
    let d = went_well (parts_at c.0.0 a.0.0.1 true [] [] c.0.1) (λ parts. edition_tests a.0 b.0.0 parts) edition c.2 in
    let p = passed_on (eqb (length d.0.1) 0) (length d.0.1) (cond (ltb (greatest_base d.0.0) b.0.0) (Err (length a.0.1)) (good (edition_made a.0.0 b.0.0 d.0.0))) edition d.2 in
    let q = passed (ltb (greatest_base d.0.0) b.0.0) (length a.0.1) (good (edition_made a.0.0 b.0.0 d.0.0)) edition p.1 in
    let numbers = numbers_taken bytes a.0 fits a.1 in
    let first = number_taken w64 (2 ^ 64) wide64 a.0.1 b.0 numbers.taken.rest_fits b.1 in
    let count = count_taken b.0.1 c.0 first.0.rest_fits c.1 in
    let parts = parts_taken c.0.0 a.0.0.1 true [] [] c.0.1 d.0 count.0.rest_fits d.1 in
    let end : d.0.1 ≡ [] = nil_from_length d.0.1 (eqb-true (length d.0.1) 0 p.0) in
    let few : length d.0.0 ≡ c.0.0 = parts.count in
    let some = count.1 in
    let most = count.2 in
    let many : 1 ≤ length d.0.0 = omega (arith, few, some) in
    let not_many : length d.0.0 ≤ PARTITIONS_MAX = omega (arith, few, most) in
    let rules = parts_from a.0.0.1 true [] [] d.0.0 parts.fits in
    let some_lows : 1 ≤ length (lows_of d.0.0) = omega (arith, many, length-lows d.0.0) in
    subst (λ (y : EditionValue). IsHeld y × IsEdition y × (bytes ≡ edition_bytes y)) (good_is (edition_made a.0.0 b.0.0 d.0.0) edition q.1) (
      record { next = numbers.held; first = first.1; partitions = rules.held },
      record {
        number_some = numbers.some;
        number_drawn = numbers.drawn;
        partitions_some = many;
        partitions_few = not_many;
        first_low = lows_begin (lows_of d.0.0) some_lows rules.lows;
        low_lengths = lows_lengths (lows_of d.0.0) rules.lows;
        lows_rise = lows_rising (lows_of d.0.0) rules.lows;
        runs_few = rules.few;
        files_drawn = rules.drawn;
        files_differ = rules.new;
        index_of_runs = rules.indexed;
        first_covered = ltb-false _ _ q.0;
      },
      spelled bytes a.0 b.0 c.0 d.0 numbers.taken.parts first.0.parts count.0.parts parts.taken.parts few end,
    )
  where
    length-lows : (parts : List PartValue) → length (lows_of parts) ≡ length parts
    length-lows [] = refl
    length-lows (part ∷ parts) = let more = length-lows parts in omega (arith, more)

    spelled : (whole : List ℕ) (numbers : (ℕ × ℕ) × List ℕ) (first count : ℕ × List ℕ) (parts : List PartValue × List ℕ) → whole ≡ (to_be_bytes w64 numbers.0.0 ++ to_be_bytes w64 numbers.0.1) ++ numbers.1 → numbers.1 ≡ to_be_bytes w64 first.0 ++ first.1
        → first.1 ≡ to_be_bytes w32 count.0 ++ count.1 → count.1 ≡ part_fields parts.0 ++ parts.1 → length parts.0 ≡ count.0 → parts.1 ≡ []
        → whole ≡ (to_be_bytes w64 numbers.0.0 ++ (to_be_bytes w64 numbers.0.1 ++ (to_be_bytes w64 first.0 ++ to_be_bytes w32 (length parts.0)))) ++ part_fields parts.0
    spelled whole numbers first count parts e f g h len none =
        let tail : count.1 ≡ part_fields parts.0 = h ∙ ap (λ (l : List ℕ). part_fields parts.0 ++ l) none ∙ append-nil (part_fields parts.0) in
        e ∙ append_assoc (to_be_bytes w64 numbers.0.0) (to_be_bytes w64 numbers.0.1) numbers.1
        ∙ ap (λ (l : List ℕ). to_be_bytes w64 numbers.0.0 ++ (to_be_bytes w64 numbers.0.1 ++ l)) (f ∙ ap (λ (l : List ℕ). to_be_bytes w64 first.0 ++ l) (g ∙ ap (λ (l : List ℕ). to_be_bytes w32 count.0 ++ l) tail ∙ ap (λ (n : ℕ). to_be_bytes w32 n ++ part_fields parts.0) (sym len)))
        ∙ sym (four (to_be_bytes w64 numbers.0.0) (to_be_bytes w64 numbers.0.1) (to_be_bytes w64 first.0) (to_be_bytes w32 (length parts.0)) (part_fields parts.0))

-- what was placed was read
pub placed_ok : {X : Type 0} (whole : List ℕ) (r : Result X ℕ) (x : X) → placed whole r ≡ Ok x → r ≡ Ok x
placed_ok whole (Ok y) x e = e
placed_ok whole (Err left) x e = absurd cc

pub edition_taken : EditionWasSpelled
edition_taken bytes edition fits e = edition_fields_taken bytes edition fits (placed_ok bytes (edition_fields bytes) edition e)

pub one_edition : BytesOfOne
one_edition one other one_held other_held one_fits other_fits e =
    good_is one other (sym (edition_again one one_held one_fits) ∙ ap edition_of e ∙ edition_again other other_held other_fits)
