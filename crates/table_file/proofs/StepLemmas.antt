-- Readings of a table, one step after another. To know: `next-ends`, `blocks-next`, `table-blocks`.
use Rattle.std.proofs.Common.{◌≡◌, ℕ, zero, suc, ◌+◌, ◌-◌, ◌*◌, ◌/◌, ◌<◌, ◌≤◌, eqb, ltb, List, [], ◌∷◌, length, take, drop, Result, Ok, Err, refl, sym, ap, ◌∙◌, arith}
use Rattle.std.specs.Prelude.{Some, None}
use Rattle.std.specs.Int.{w16}
use Rattle.std.proofs.lemmas.Bool.{ne_eqb, eq-eqb, cond-false, cond-true, lt-ltb, le-ltb}
use Rattle.rdb_base.specs.PairFields.{◌>>=◌, number_at, placed}
use Rattle.rdb_base.specs.declared.pair.Pair.{Pair}
use Rattle.rdb_base.specs.declared.pair_field.PairLimits.{PairLimits}
use Rattle.block_code.specs.declared.format.TheConstants.{UNIT}
use Rattle.block_code.specs.Reading.{number_is, block_at, ends_of, last_key}
use Rattle.block_code.proofs.StepLemmas.{then-ok, then-err}
use Rattle.table_file.specs.declared.format.TheConstants.{FOOTER_LEN}
use Rattle.table_file.specs.TableReading.{in_units, counts_agree, further_at, sum_at, next_block_at, blocks_at, footer_at, table_fields, kept_of, wrong_of}

abbrev good : {A : Type 0} → A → Result A ℕ
good x = Ok x

abbrev bad : (A : Type 0) → ℕ → Result A ℕ
bad A left = Err left

good_is : {A : Type 0} (x y : A) → good x ≡ good y → x ≡ y
good_is x y h = cc

wrong_is : {A : Type 0} (m n : ℕ) → bad A m ≡ bad A n → m ≡ n
wrong_is m n h = cc

-- ---- further units

pub further-next : (n : ℕ) (counts rest : List ℕ) → number_is w16 0 counts ≡ Ok rest → further_at (suc n) counts ≡ further_at n rest
unfolding further_at
further-next n counts rest e = then-ok (number_is w16 0 counts) (further_at n) rest e

pub further-stop : (n : ℕ) (counts : List ℕ) (left : ℕ) → number_is w16 0 counts ≡ Err left → further_at (suc n) counts ≡ Err left
unfolding further_at
further-stop n counts left e = then-err (number_is w16 0 counts) (further_at n) left e

pub further-end : (counts : List ℕ) → further_at 0 counts ≡ Ok counts
unfolding further_at
further-end counts = refl

-- ---- sums

-- a sum with so much before it
abbrev pub plus : ℕ → Result ℕ ℕ → Result ℕ ℕ
plus n (Ok sum) = Ok (n + sum)
plus n (Err left) = Err left

added : (n : ℕ) (r : Result ℕ ℕ) → (r >>= λ more. good (n + more)) ≡ plus n r
added n (Ok more) = refl
added n (Err left) = refl

pub plus-plus : (m n : ℕ) (r : Result ℕ ℕ) → plus m (plus n r) ≡ plus (m + n) r
plus-plus m n (Ok sum) = let same : m + (n + sum) ≡ (m + n) + sum = omega arith in ap (λ (k : ℕ). good k) same
plus-plus m n (Err left) = refl

pub plus-none : (r : Result ℕ ℕ) → plus 0 r ≡ r
plus-none (Ok sum) = let same : 0 + sum ≡ sum = omega arith in ap (λ (k : ℕ). good k) same
plus-none (Err left) = refl

pub sum-next : (n : ℕ) (counts : List ℕ) (one : ℕ × List ℕ) → number_at w16 counts ≡ Ok one → sum_at (suc n) counts ≡ plus one.0 (sum_at n one.1)
unfolding sum_at
sum-next n counts one e = then-ok (number_at w16 counts) (λ x. sum_at n x.1 >>= λ more. good (x.0 + more)) one e ∙ added one.0 (sum_at n one.1)

pub sum-stop : (n : ℕ) (counts : List ℕ) (left : ℕ) → number_at w16 counts ≡ Err left → sum_at (suc n) counts ≡ Err left
unfolding sum_at
sum-stop n counts left e = then-err (number_at w16 counts) (λ x. sum_at n x.1 >>= λ more. good (x.0 + more)) left e

pub sum-end : (counts : List ℕ) → sum_at 0 counts ≡ Ok 0
unfolding sum_at
sum-end counts = refl

-- one count more is summed up
pub sum_goes_on : (whole : Result ℕ ℕ) (sum n : ℕ) (counts : List ℕ) (one : ℕ × List ℕ) → whole ≡ plus sum (sum_at (suc n) counts) → number_at w16 counts ≡ Ok one → whole ≡ plus (sum + one.0) (sum_at n one.1)
sum_goes_on whole sum n counts one so_far e = so_far ∙ ap (plus sum) (sum-next n counts one e) ∙ plus-plus sum one.0 (sum_at n one.1)

pub sum_stops : (whole : Result ℕ ℕ) (sum n : ℕ) (counts : List ℕ) (left : ℕ) → whole ≡ plus sum (sum_at (suc n) counts) → number_at w16 counts ≡ Err left → whole ≡ Err left
sum_stops whole sum n counts left so_far e = so_far ∙ ap (plus sum) (sum-stop n counts left e)

pub sum_is_whole : (whole : Result ℕ ℕ) (sum : ℕ) (counts : List ℕ) → whole ≡ plus sum (sum_at 0 counts) → whole ≡ Ok sum
sum_is_whole whole sum counts so_far = let same : sum + 0 ≡ sum = omega arith in so_far ∙ ap (plus sum) (sum-end counts) ∙ ap (λ (k : ℕ). good k) same

-- ---- the next block

abbrev pub past_block : List ℕ → List ℕ → List Pair × List ℕ → Result (List Pair × (List ℕ × List ℕ)) ℕ
past_block units rest block = further_at ((length units - length block.1) / UNIT - 1) rest >>= λ more. good (block.0, (block.1, more))

abbrev pub past_counts : PairLimits → List ℕ → List ℕ → List ℕ → List ℕ → Result (List Pair × (List ℕ × List ℕ)) ℕ
past_counts limits tail last units rest = in_units tail units (block_at limits last units) >>= past_block units rest

pub next-counts : (limits : PairLimits) (tail last units counts : List ℕ) (left : ℕ) → counts_agree tail units counts ≡ Err left → kept_of last (next_block_at limits tail last units counts) ≡ Err left
unfolding next_block_at
next-counts limits tail last units counts left e = ap (kept_of last) (then-err (counts_agree tail units counts) (past_counts limits tail last units) left e)

pub next-block : (limits : PairLimits) (tail last units counts rest : List ℕ) (wrong left : ℕ) → counts_agree tail units counts ≡ Ok rest → ends_of last (block_at limits last units) ≡ Err wrong
    → left ≡ length units + length tail - (length units - wrong) → kept_of last (next_block_at limits tail last units counts) ≡ Err left
unfolding next_block_at
next-block limits tail last units counts rest wrong left e f same =
    ap (kept_of last) (then-ok (counts_agree tail units counts) (past_counts limits tail last units) rest e) ∙ by_block (block_at limits last units) f
  where
    by_block : (r : Result (List Pair × List ℕ) ℕ) → ends_of last r ≡ Err wrong → kept_of last (in_units tail units r >>= past_block units rest) ≡ Err left
    by_block (Ok x) h = absurd cc
    by_block (Err other) h = let is : other ≡ wrong = wrong_is other wrong h in ap (λ (k : ℕ). Err (length units + length tail - (length units - k))) is ∙ ap (λ (k : ℕ). Err k) (sym same)

pub next-further : (limits : PairLimits) (tail last units counts rest key after : List ℕ) (n count left : ℕ) → counts_agree tail units counts ≡ Ok rest → ends_of last (block_at limits last units) ≡ Ok ((n, key), after)
    → count ≡ (length units - length after) / UNIT - 1 → further_at count rest ≡ Err left → kept_of last (next_block_at limits tail last units counts) ≡ Err left
unfolding next_block_at
next-further limits tail last units counts rest key after n count left e f many g =
    ap (kept_of last) (then-ok (counts_agree tail units counts) (past_counts limits tail last units) rest e) ∙ by_block (block_at limits last units) f
  where
    by_block : (r : Result (List Pair × List ℕ) ℕ) → ends_of last r ≡ Ok ((n, key), after) → kept_of last (in_units tail units r >>= past_block units rest) ≡ Err left
    by_block (Ok x) h =
        let is : ((length x.0, last_key last x.0), x.1) ≡ ((n, key), after) = good_is ((length x.0, last_key last x.0), x.1) ((n, key), after) h in
        let there : further_at ((length units - length x.1) / UNIT - 1) rest ≡ Err left = ap (λ (y : (ℕ × List ℕ) × List ℕ). further_at ((length units - length y.1) / UNIT - 1) rest) is ∙ ap (λ (k : ℕ). further_at k rest) (sym many) ∙ g in
        ap (kept_of last) (then-err (further_at ((length units - length x.1) / UNIT - 1) rest) (λ more. good (x.0, (x.1, more))) left there)
    by_block (Err other) h = absurd cc

pub next-ends : (limits : PairLimits) (tail last units counts rest key after more : List ℕ) (n count : ℕ) → counts_agree tail units counts ≡ Ok rest → ends_of last (block_at limits last units) ≡ Ok ((n, key), after)
    → count ≡ (length units - length after) / UNIT - 1 → further_at count rest ≡ Ok more → kept_of last (next_block_at limits tail last units counts) ≡ Ok (key, (after, more))
unfolding next_block_at
next-ends limits tail last units counts rest key after more n count e f many g =
    ap (kept_of last) (then-ok (counts_agree tail units counts) (past_counts limits tail last units) rest e) ∙ by_block (block_at limits last units) f
  where
    by_block : (r : Result (List Pair × List ℕ) ℕ) → ends_of last r ≡ Ok ((n, key), after) → kept_of last (in_units tail units r >>= past_block units rest) ≡ Ok (key, (after, more))
    by_block (Ok x) h =
        let is : ((length x.0, last_key last x.0), x.1) ≡ ((n, key), after) = good_is ((length x.0, last_key last x.0), x.1) ((n, key), after) h in
        let there : further_at ((length units - length x.1) / UNIT - 1) rest ≡ Ok more = ap (λ (y : (ℕ × List ℕ) × List ℕ). further_at ((length units - length y.1) / UNIT - 1) rest) is ∙ ap (λ (k : ℕ). further_at k rest) (sym many) ∙ g in
        ap (kept_of last) (then-ok (further_at ((length units - length x.1) / UNIT - 1) rest) (λ left. good (x.0, (x.1, left))) more there) ∙ ap (λ (y : (ℕ × List ℕ) × List ℕ). good (y.0.1, (y.1, more))) is
    by_block (Err other) h = absurd cc

-- ---- all blocks

-- the blocks after one that is right
abbrev pub past_next : PairLimits → List ℕ → ℕ → List ℕ → List Pair × (List ℕ × List ℕ) → Result (List (List Pair)) ℕ
past_next limits tail n last next = blocks_at limits tail n (last_key last next.0) next.1.0 next.1.1 >>= λ blocks. good (next.0 ∷ blocks)

abbrev pub some_units : PairLimits → List ℕ → ℕ → List ℕ → List ℕ → List ℕ → Result (List (List Pair)) ℕ
some_units limits tail n last units counts = next_block_at limits tail last units counts >>= past_next limits tail n last

wrong-more : (x : List Pair) (r : Result (List (List Pair)) ℕ) → wrong_of (r >>= λ blocks. good (x ∷ blocks)) ≡ wrong_of r
wrong-more x (Ok blocks) = refl
wrong-more x (Err left) = refl

pub blocks_some : (limits : PairLimits) (tail : List ℕ) (n : ℕ) (last units counts : List ℕ) → (length units ≡ 0 → ⊥) → blocks_at limits tail (suc n) last units counts ≡ some_units limits tail n last units counts
unfolding blocks_at
blocks_some limits tail n last units counts some = cond-false (eqb (length units) 0) (good []) (some_units limits tail n last units counts) (ne_eqb (length units) 0 some)

pub blocks-next : (limits : PairLimits) (tail : List ℕ) (n : ℕ) (last units counts key after more : List ℕ) → (length units ≡ 0 → ⊥) → kept_of last (next_block_at limits tail last units counts) ≡ Ok (key, (after, more))
    → wrong_of (blocks_at limits tail (suc n) last units counts) ≡ wrong_of (blocks_at limits tail n key after more)
blocks-next limits tail n last units counts key after more some e = ap wrong_of (blocks_some limits tail n last units counts some) ∙ by_next (next_block_at limits tail last units counts) e
  where
    by_next : (r : Result (List Pair × (List ℕ × List ℕ)) ℕ) → kept_of last r ≡ Ok (key, (after, more)) → wrong_of (r >>= past_next limits tail n last) ≡ wrong_of (blocks_at limits tail n key after more)
    by_next (Ok x) h =
        let is : (last_key last x.0, x.1) ≡ (key, (after, more)) = good_is (last_key last x.0, x.1) (key, (after, more)) h in
        wrong-more x.0 (blocks_at limits tail n (last_key last x.0) x.1.0 x.1.1) ∙ ap (λ (y : List ℕ × (List ℕ × List ℕ)). wrong_of (blocks_at limits tail n y.0 y.1.0 y.1.1)) is
    by_next (Err other) h = absurd cc

pub blocks-stop : (limits : PairLimits) (tail : List ℕ) (n : ℕ) (last units counts : List ℕ) (left : ℕ) → (length units ≡ 0 → ⊥) → kept_of last (next_block_at limits tail last units counts) ≡ Err left
    → wrong_of (blocks_at limits tail (suc n) last units counts) ≡ Some left
blocks-stop limits tail n last units counts left some e = ap wrong_of (blocks_some limits tail n last units counts some) ∙ by_next (next_block_at limits tail last units counts) e
  where
    by_next : (r : Result (List Pair × (List ℕ × List ℕ)) ℕ) → kept_of last r ≡ Err left → wrong_of (r >>= past_next limits tail n last) ≡ Some left
    by_next (Ok x) h = absurd cc
    by_next (Err other) h = let is : other ≡ left = wrong_is other left h in ap (λ (k : ℕ). Some k) is

pub blocks-none : (limits : PairLimits) (tail : List ℕ) (n : ℕ) (last units counts : List ℕ) → length units ≡ 0 → blocks_at limits tail n last units counts ≡ Ok []
unfolding blocks_at
blocks-none limits tail zero last units counts none = refl
blocks-none limits tail (suc n) last units counts none = cond-true (eqb (length units) 0) (good []) (some_units limits tail n last units counts) (eq-eqb (length units) 0 none)

pub blocks-end : (limits : PairLimits) (tail last units counts : List ℕ) → blocks_at limits tail 0 last units counts ≡ Ok []
unfolding blocks_at
blocks-end limits tail last units counts = refl

-- ---- the whole

abbrev pub past_footer : PairLimits → List ℕ → ℕ → Result (List (List Pair)) ℕ
past_footer limits bytes units = blocks_at limits (drop (UNIT * units) bytes) units [] (take (UNIT * units) bytes) (drop (UNIT * units) bytes)

pub table_long : (limits : PairLimits) (bytes : List ℕ) → FOOTER_LEN ≤ length bytes → table_fields limits bytes ≡ (footer_at bytes >>= past_footer limits bytes)
unfolding table_fields
table_long limits bytes long = cond-false (ltb (length bytes) FOOTER_LEN) (Err (length bytes)) (footer_at bytes >>= past_footer limits bytes) (le-ltb (length bytes) FOOTER_LEN long)

pub table-short : (limits : PairLimits) (bytes : List ℕ) → length bytes < FOOTER_LEN → table_fields limits bytes ≡ Err (length bytes)
unfolding table_fields
table-short limits bytes short = cond-true (ltb (length bytes) FOOTER_LEN) (Err (length bytes)) (footer_at bytes >>= past_footer limits bytes) (lt-ltb (length bytes) FOOTER_LEN short)

pub table-footer : (limits : PairLimits) (bytes : List ℕ) (left : ℕ) → FOOTER_LEN ≤ length bytes → footer_at bytes ≡ Err left → table_fields limits bytes ≡ Err left
table-footer limits bytes left long e = table_long limits bytes long ∙ then-err (footer_at bytes) (past_footer limits bytes) left e

pub table-blocks : (limits : PairLimits) (bytes : List ℕ) (units : ℕ) → FOOTER_LEN ≤ length bytes → footer_at bytes ≡ Ok units → table_fields limits bytes ≡ past_footer limits bytes units
table-blocks limits bytes units long e = table_long limits bytes long ∙ then-ok (footer_at bytes) (past_footer limits bytes) units e

pub placed-none : {X : Type 0} (bytes : List ℕ) (r : Result X ℕ) → None ≡ wrong_of r → None ≡ wrong_of (placed bytes r)
placed-none bytes (Ok x) h = refl
placed-none bytes (Err left) h = absurd cc

pub placed-some : {X : Type 0} (bytes : List ℕ) (left place : ℕ) (r : Result X ℕ) → Some left ≡ wrong_of r → place ≡ length bytes - left → Some place ≡ wrong_of (placed bytes r)
placed-some bytes left place (Ok x) h is = absurd cc
placed-some bytes left place (Err wrong) h is = let same : left ≡ wrong = some_is left wrong h in ap (λ (k : ℕ). Some k) (is ∙ ap (λ (k : ℕ). length bytes - k) same)
  where
    some_is : (m n : ℕ) → Some m ≡ Some n → m ≡ n
    some_is m n e = cc
