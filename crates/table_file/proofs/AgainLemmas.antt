-- A table that is spelled is read back. To know: `table_again`, `one_run`.
use Rattle.std.proofs.Common.{◌≡◌, ℕ, zero, suc, ◌+◌, ◌-◌, ◌*◌, ◌/◌, ◌^◌, ◌<◌, ◌≤◌, Bool, true, false, cond, eqb, List, [], ◌∷◌, ◌++◌, length, take, drop, replicate, Result, Ok, Err, refl, sym, ap, subst, ◌∙◌, append_assoc, arith}
use Rattle.std.specs.Int.{Width, w16, w32, to_be_bytes}
use Rattle.std.specs.List.{AllByRecursion}
use Rattle.std.proofs.lemmas.Bool.{ne_eqb, eq-eqb, cond-false, cond-true}
use Rattle.std.proofs.lemmas.List.{take_at, drop_at, length-append, length-replicate, append-nil}
use Rattle.std.specs.declared.cmp.Ordering.TheVariants.{Less}
use Rattle.rdb_base.specs.Order.{key_cmp}
use Rattle.rdb_base.specs.Runs.{IsRun, IsBelowAll}
use Rattle.rdb_base.specs.PairFields.{◌>>=◌, number_at, placed, IsPairWithin}
use Rattle.rdb_base.specs.declared.pair.Pair.{Pair}
use Rattle.rdb_base.specs.declared.pair_field.PairLimits.{PairLimits}
use Rattle.rdb_base.proofs.Lists.{all-front, all-append}
use Rattle.rdb_base.proofs.RunLemmas.{IsRun-back}
use Rattle.rdb_base.proofs.PairLemmas.{IsWide, number_again, wide16, wide32}
use Rattle.block_code.specs.declared.format.TheConstants.{UNIT}
use Rattle.block_code.specs.Blocks.{block, block_size, padding, IsBlock}
use Rattle.block_code.specs.Reading.{number_is, block_at, last_key}
use Rattle.block_code.specs.Laws.{AreHeld}
use Rattle.block_code.proofs.StepLemmas.{then-ok}
use Rattle.block_code.proofs.AgainLemmas.{length-block, count_there, count_small, size_some, block_again}
use Rattle.block_code.proofs.CheckLemmas.{all_above_none}
use Rattle.table_file.specs.declared.format.TheConstants.{MAGIC, FIRST_VERSION, FOOTER_LEN, UNIT_AND_COUNT}
use Rattle.table_file.specs.Tables.{units_of, block_bytes, unit_counts, count_bytes, all_units, all_pairs, footer, AreWithin, table_of, IsTableOf}
use Rattle.table_file.specs.TableReading.{in_units, counts_agree, further_at, sum_at, next_block_at, blocks_at, footer_at, table_fields}
use Rattle.table_file.specs.Laws.{TableReadsBack, OneRun}
use Rattle.table_file.proofs.StepLemmas.{plus, plus-none, past_block, past_counts, past_next, blocks_some, further-next, further-end, sum-next, sum-end, table-blocks}

abbrev good : {A : Type 0} → A → Result A ℕ
good x = Ok x

good_is : {A : Type 0} (x y : A) → good x ≡ good y → x ≡ y
good_is x y e = cc

-- ---- lengths

-- a block has whole units, one at least
pub block_units : (ps : List Pair) → 1 ≤ length ps → (length (block ps) ≡ UNIT * units_of ps) × (1 ≤ units_of ps)
block_units ps some = whole (block_size ps) (length (block ps)) (size_some ps some) (length-block ps)
  where
    whole : (size n : ℕ) → 1 ≤ size → n ≡ size + padding size → (n ≡ UNIT * (n / UNIT)) × (1 ≤ n / UNIT)
    whole size n some is = (omega (arith, some, is), omega (arith, some, is))

pub length-block_bytes : (limits : PairLimits) (blocks : List (List Pair)) → AllByRecursion (IsBlock limits) blocks → length (block_bytes blocks) ≡ UNIT * all_units blocks
unfolding block_bytes
length-block_bytes limits [] each = refl
length-block_bytes limits (ps ∷ blocks) each =
    let here = block_units ps each.0.some in
    omega (arith, length-append (block ps) (block_bytes blocks), here.0, length-block_bytes limits blocks each.1)

pub length-unit_counts : (ps : List Pair) → 1 ≤ units_of ps → length (unit_counts ps) ≡ 2 * units_of ps
length-unit_counts ps some = omega (arith, some, length-append (to_be_bytes w16 (length ps)) (replicate (2 * (units_of ps - 1)) 0), length-replicate {A = ℕ} (2 * (units_of ps - 1)) 0)

pub length-count_bytes : (limits : PairLimits) (blocks : List (List Pair)) → AllByRecursion (IsBlock limits) blocks → length (count_bytes blocks) ≡ 2 * all_units blocks
unfolding count_bytes
length-count_bytes limits [] each = refl
length-count_bytes limits (ps ∷ blocks) each =
    let here = block_units ps each.0.some in
    omega (arith, length-append (unit_counts ps) (count_bytes blocks), length-unit_counts ps here.1, length-count_bytes limits blocks each.1)

-- each block has a unit at least
pub units_enough : (limits : PairLimits) (blocks : List (List Pair)) → AllByRecursion (IsBlock limits) blocks → length blocks ≤ all_units blocks
units_enough limits [] each = omega arith
units_enough limits (ps ∷ blocks) each = let here = block_units ps each.0.some in let rest = units_enough limits blocks each.1 in omega (arith, here.1, rest)

-- ---- counts

number_is_again : (w : Width) (limit : ℕ) (wide : IsWide w limit) (n : ℕ) (rest : List ℕ) → n < limit → number_is w n (to_be_bytes w n ++ rest) ≡ Ok rest
number_is_again w limit wide n rest small =
    let same : eqb n n ≡ true = eq-eqb n n refl in
    then-ok (number_at w (to_be_bytes w n ++ rest)) (λ one. cond (eqb one.0 n) (good one.1) (Err (length (to_be_bytes w n ++ rest)))) (n, rest) (number_again w limit wide n rest small)
    ∙ ap (λ (b : Bool). cond b (good rest) (Err (length (to_be_bytes w n ++ rest)))) same

-- two bytes 00 are the number 0
two_zeros : (n : ℕ) (rest : List ℕ) → replicate (2 * suc n) 0 ++ rest ≡ to_be_bytes w16 0 ++ (replicate (2 * n) 0 ++ rest)
two_zeros n rest = let two : 2 * suc n ≡ suc (suc (2 * n)) = omega arith in ap (λ (k : ℕ). replicate k 0 ++ rest) two

pub further_again : (n : ℕ) (rest : List ℕ) → further_at n (replicate (2 * n) 0 ++ rest) ≡ Ok rest
further_again zero rest = further-end rest
further_again (suc n) rest =
    ap (further_at (suc n)) (two_zeros n rest)
    ∙ further-next n (to_be_bytes w16 0 ++ (replicate (2 * n) 0 ++ rest)) (replicate (2 * n) 0 ++ rest) (number_is_again w16 (2 ^ 16) wide16 0 (replicate (2 * n) 0 ++ rest) (omega arith))
    ∙ further_again n rest

pub counts_again : (limits : PairLimits) (tail : List ℕ) (ps : List Pair) (units counts : List ℕ) → IsBlock limits ps
    → counts_agree tail (block ps ++ units) (unit_counts ps ++ counts) ≡ Ok (replicate (2 * (units_of ps - 1)) 0 ++ counts)
unfolding counts_agree
counts_again limits tail ps units counts is =
    let small = count_small limits ps is in
    let there = count_there ps units small in
    let zeros = replicate (2 * (units_of ps - 1)) 0 in
    let us = block ps ++ units in
    let cs = unit_counts ps ++ counts in
    let here : number_at w16 cs ≡ Ok (length ps, zeros ++ counts) = ap (number_at w16) (append_assoc (to_be_bytes w16 (length ps)) zeros counts) ∙ number_again w16 (2 ^ 16) wide16 (length ps) (zeros ++ counts) small in
    let same : eqb (length ps) (length ps) ≡ true = eq-eqb (length ps) (length ps) refl in
    let some : eqb (length ps) 0 ≡ false = ne_eqb (length ps) 0 (λ none. absurd (omega (arith, none, is.some))) in
    then-ok (number_at w16 cs) (λ x. in_units tail us (number_at w16 us) >>= λ told. cond (eqb x.0 told.0) (cond (eqb x.0 0) (Err (length us + length tail)) (good x.1)) (Err (length cs))) (length ps, zeros ++ counts) here
    ∙ then-ok (in_units tail us (number_at w16 us)) (λ told. cond (eqb (length ps) told.0) (cond (eqb (length ps) 0) (Err (length us + length tail)) (good (zeros ++ counts))) (Err (length cs))) (length ps, there.0) (ap (in_units tail us) there.1)
    ∙ ap (λ (b : Bool). cond b (cond (eqb (length ps) 0) (Err (length us + length tail)) (good (zeros ++ counts))) (Err (length cs))) same
    ∙ ap (λ (b : Bool). cond b (Err (length us + length tail)) (good (zeros ++ counts))) some

-- ---- blocks

pub next_again : (limits : PairLimits) (tail last : List ℕ) (ps : List Pair) (units counts : List ℕ) → AreHeld limits → IsBlock limits ps → IsBelowAll last ps
    → next_block_at limits tail last (block ps ++ units) (unit_counts ps ++ counts) ≡ Ok (ps, (units, counts))
unfolding next_block_at
next_again limits tail last ps units counts held is below =
    let us = block ps ++ units in
    let cs = unit_counts ps ++ counts in
    let zeros = replicate (2 * (units_of ps - 1)) 0 in
    let read : length us - length units ≡ length (block ps) = omega (arith, length-append (block ps) units) in
    let many : further_at ((length us - length units) / UNIT - 1) (zeros ++ counts) ≡ Ok counts = ap (λ (k : ℕ). further_at (k / UNIT - 1) (zeros ++ counts)) read ∙ further_again (units_of ps - 1) counts in
    then-ok (counts_agree tail us cs) (past_counts limits tail last us) (zeros ++ counts) (counts_again limits tail ps units counts is)
    ∙ then-ok (in_units tail us (block_at limits last us)) (past_block us (zeros ++ counts)) (ps, units) (ap (in_units tail us) (block_again limits last ps units held is below))
    ∙ then-ok (further_at ((length us - length units) / UNIT - 1) (zeros ++ counts)) (λ more. good (ps, (units, more))) counts many

-- the last key of a block is below all that are after it
last_below : (last : List ℕ) (ps qs : List Pair) → IsRun (ps ++ qs) → IsBelowAll last (ps ++ qs) → IsBelowAll (last_key last ps) qs
last_below last [] qs run below = below
last_below last (p ∷ ps) qs run below = last_below p.key ps qs run.1 run.0

pub blocks_again : (limits : PairLimits) (tail : List ℕ) (n : ℕ) (last : List ℕ) (blocks : List (List Pair)) (rest : List ℕ) → AreHeld limits → AllByRecursion (IsBlock limits) blocks
    → IsRun (all_pairs blocks) → IsBelowAll last (all_pairs blocks) → length blocks ≤ n → blocks_at limits tail n last (block_bytes blocks) (count_bytes blocks ++ rest) ≡ Ok blocks
unfolding blocks_at block_bytes count_bytes
blocks_again limits tail zero last [] rest held each run below enough = refl
blocks_again limits tail (suc n) last [] rest held each run below enough = refl
blocks_again limits tail zero last (ps ∷ blocks) rest held each run below enough = absurd (omega (arith, enough))
blocks_again limits tail (suc n) last (ps ∷ blocks) rest held each run below enough =
    let us = block ps ++ block_bytes blocks in
    let cs = unit_counts ps ++ (count_bytes blocks ++ rest) in
    let parts : count_bytes (ps ∷ blocks) ++ rest ≡ cs = append_assoc (unit_counts ps) (count_bytes blocks) rest in
    let here = block_units ps each.0.some in
    let some : length us ≡ 0 → ⊥ = λ none. absurd (omega (arith, none, length-append (block ps) (block_bytes blocks), here.0, here.1)) in
    let front = all-front (λ (other : Pair). key_cmp last other.key ≡ Less) ps (all_pairs blocks) below in
    ap (blocks_at limits tail (suc n) last us) parts
    ∙ blocks_some limits tail n last us cs some
    ∙ then-ok (next_block_at limits tail last us cs) (past_next limits tail n last) (ps, (block_bytes blocks, count_bytes blocks ++ rest)) (next_again limits tail last ps (block_bytes blocks) (count_bytes blocks ++ rest) held each.0 front)
    ∙ then-ok (blocks_at limits tail n (last_key last ps) (block_bytes blocks) (count_bytes blocks ++ rest)) (λ found. good (ps ∷ found)) blocks
    (blocks_again limits tail n (last_key last ps) blocks rest held each.1 (IsRun-back ps (all_pairs blocks) run) (last_below last ps (all_pairs blocks) run below) (omega (arith, enough)))

-- ---- sums

-- further units add nothing
sum_zeros : (m n : ℕ) (rest : List ℕ) → sum_at (m + n) (replicate (2 * m) 0 ++ rest) ≡ sum_at n rest
sum_zeros zero n rest = let none : 0 + n ≡ n = omega arith in ap (λ (k : ℕ). sum_at k rest) none
sum_zeros (suc m) n rest =
    let more : suc m + n ≡ suc (m + n) = omega arith in
    ap (λ (k : ℕ). sum_at k (replicate (2 * suc m) 0 ++ rest)) more
    ∙ ap (sum_at (suc (m + n))) (two_zeros m rest)
    ∙ sum-next (m + n) (to_be_bytes w16 0 ++ (replicate (2 * m) 0 ++ rest)) (0, replicate (2 * m) 0 ++ rest) (number_again w16 (2 ^ 16) wide16 0 (replicate (2 * m) 0 ++ rest) (omega arith))
    ∙ plus-none (sum_at (m + n) (replicate (2 * m) 0 ++ rest))
    ∙ sum_zeros m n rest

-- the counts of blocks sum up to their pairs
pub sum_again : (limits : PairLimits) (blocks : List (List Pair)) (rest : List ℕ) → AllByRecursion (IsBlock limits) blocks → sum_at (all_units blocks) (count_bytes blocks ++ rest) ≡ Ok (length (all_pairs blocks))
unfolding count_bytes
sum_again limits [] rest each = sum-end rest
sum_again limits (ps ∷ blocks) rest each =
    let here = block_units ps each.0.some in
    let zeros = replicate (2 * (units_of ps - 1)) 0 in
    let cs = count_bytes blocks ++ rest in
    let many : all_units (ps ∷ blocks) ≡ suc ((units_of ps - 1) + all_units blocks) = omega (arith, here.1) in
    let parts : count_bytes (ps ∷ blocks) ++ rest ≡ to_be_bytes w16 (length ps) ++ (zeros ++ cs) = append_assoc (unit_counts ps) (count_bytes blocks) rest ∙ append_assoc (to_be_bytes w16 (length ps)) zeros cs in
    let sum : length ps + length (all_pairs blocks) ≡ length (all_pairs (ps ∷ blocks)) = sym (length-append ps (all_pairs blocks)) in
    ap (λ (k : ℕ). sum_at k (count_bytes (ps ∷ blocks) ++ rest)) many
    ∙ ap (sum_at (suc ((units_of ps - 1) + all_units blocks))) parts
    ∙ sum-next ((units_of ps - 1) + all_units blocks) (to_be_bytes w16 (length ps) ++ (zeros ++ cs)) (length ps, zeros ++ cs) (number_again w16 (2 ^ 16) wide16 (length ps) (zeros ++ cs) (count_small limits ps each.0))
    ∙ ap (plus (length ps)) (sum_zeros (units_of ps - 1) (all_units blocks) cs ∙ sum_again limits blocks rest each.1)
    ∙ ap (λ (k : ℕ). good k) sum

-- ---- the whole

-- where the counts of a table begin, and its footer
pub counts_there : (limits : PairLimits) (blocks : List (List Pair)) → AllByRecursion (IsBlock limits) blocks → drop (UNIT * all_units blocks) (table_of blocks) ≡ count_bytes blocks ++ footer (all_units blocks) (length (all_pairs blocks))
unfolding table_of
counts_there limits blocks each = drop_at (block_bytes blocks) (count_bytes blocks ++ footer (all_units blocks) (length (all_pairs blocks))) (UNIT * all_units blocks) (length-block_bytes limits blocks each)

pub units_there : (limits : PairLimits) (blocks : List (List Pair)) → AllByRecursion (IsBlock limits) blocks → take (UNIT * all_units blocks) (table_of blocks) ≡ block_bytes blocks
unfolding table_of
units_there limits blocks each = take_at (block_bytes blocks) (count_bytes blocks ++ footer (all_units blocks) (length (all_pairs blocks))) (UNIT * all_units blocks) (length-block_bytes limits blocks each)

length-footer : (units pairs : ℕ) → length (footer units pairs) ≡ FOOTER_LEN
length-footer units pairs = refl

pub length-table_of : (limits : PairLimits) (blocks : List (List Pair)) → AllByRecursion (IsBlock limits) blocks → length (table_of blocks) ≡ UNIT_AND_COUNT * all_units blocks + FOOTER_LEN
unfolding table_of
length-table_of limits blocks each =
    let foot = footer (all_units blocks) (length (all_pairs blocks)) in
    omega (arith, length-append (block_bytes blocks) (count_bytes blocks ++ foot), length-append (count_bytes blocks) foot, length-footer (all_units blocks) (length (all_pairs blocks)), length-block_bytes limits blocks each, length-count_bytes limits blocks each)

footer_there : (limits : PairLimits) (blocks : List (List Pair)) → AllByRecursion (IsBlock limits) blocks → drop (length (table_of blocks) - FOOTER_LEN) (table_of blocks) ≡ footer (all_units blocks) (length (all_pairs blocks))
unfolding table_of
footer_there limits blocks each =
    let foot = footer (all_units blocks) (length (all_pairs blocks)) in
    let front = block_bytes blocks ++ count_bytes blocks in
    let parts : table_of blocks ≡ front ++ foot = sym (append_assoc (block_bytes blocks) (count_bytes blocks) foot) in
    let long : length front ≡ length (table_of blocks) - FOOTER_LEN = omega (arith, ap (λ (l : List ℕ). length l) parts, length-append front foot, length-footer (all_units blocks) (length (all_pairs blocks))) in
    ap (drop (length (table_of blocks) - FOOTER_LEN)) parts ∙ drop_at front foot (length (table_of blocks) - FOOTER_LEN) long

-- what a footer's units are tested for
abbrev pub units_tested : List ℕ → List ℕ → ℕ × List ℕ → Result ℕ ℕ
units_tested bytes told units = cond (eqb units.0 0) (Err (length told)) (cond (eqb (length bytes) (UNIT_AND_COUNT * units.0 + FOOTER_LEN)) (sum_at units.0 (drop (UNIT * units.0) bytes) >>= λ sum. number_is w32 sum units.1 >>= λ pairs. good units.0) (Err (length told)))

abbrev pub footer_fields : List ℕ → List ℕ → Result ℕ ℕ
footer_fields bytes foot = number_is w32 MAGIC foot >>= λ version. number_is w16 FIRST_VERSION version >>= λ empty. number_is w16 0 empty >>= λ told. number_at w32 told >>= units_tested bytes told

pub footer_again : (limits : PairLimits) (blocks : List (List Pair)) → AllByRecursion (IsBlock limits) blocks → 1 ≤ length blocks → all_units blocks < 2 ^ 32 → length (all_pairs blocks) < 2 ^ 32 → footer_at (table_of blocks) ≡ Ok (all_units blocks)
unfolding footer_at
footer_again limits blocks each some few_units few_pairs =
    let u = all_units blocks in
    let n = length (all_pairs blocks) in
    let bytes = table_of blocks in
    let end = to_be_bytes w32 n in
    let told = to_be_bytes w32 u ++ end in
    let empty = to_be_bytes w16 0 ++ told in
    let version = to_be_bytes w16 FIRST_VERSION ++ empty in
    let enough = units_enough limits blocks each in
    let not_none : eqb u 0 ≡ false = ne_eqb u 0 (λ none. absurd (omega (arith, none, enough, some))) in
    let agrees : eqb (length bytes) (UNIT_AND_COUNT * u + FOOTER_LEN) ≡ true = eq-eqb (length bytes) (UNIT_AND_COUNT * u + FOOTER_LEN) (length-table_of limits blocks each) in
    let sum : sum_at u (drop (UNIT * u) bytes) ≡ Ok n = ap (sum_at u) (counts_there limits blocks each) ∙ sum_again limits blocks (footer u n) each in
    let last : number_is w32 n end ≡ Ok [] = ap (number_is w32 n) (sym (append-nil end)) ∙ number_is_again w32 (2 ^ 32) wide32 n [] few_pairs in
    ap (footer_fields bytes) (footer_there limits blocks each)
    ∙ then-ok (number_is w32 MAGIC (footer u n)) (λ v. number_is w16 FIRST_VERSION v >>= λ e. number_is w16 0 e >>= λ t. number_at w32 t >>= units_tested bytes t) version (number_is_again w32 (2 ^ 32) wide32 MAGIC version (omega arith))
    ∙ then-ok (number_is w16 FIRST_VERSION version) (λ e. number_is w16 0 e >>= λ t. number_at w32 t >>= units_tested bytes t) empty (number_is_again w16 (2 ^ 16) wide16 FIRST_VERSION empty (omega arith))
    ∙ then-ok (number_is w16 0 empty) (λ t. number_at w32 t >>= units_tested bytes t) told (number_is_again w16 (2 ^ 16) wide16 0 told (omega arith))
    ∙ then-ok (number_at w32 told) (units_tested bytes told) (u, end) (number_again w32 (2 ^ 32) wide32 u end few_units)
    ∙ cond-false (eqb u 0) (Err (length told)) (cond (eqb (length bytes) (UNIT_AND_COUNT * u + FOOTER_LEN)) (sum_at u (drop (UNIT * u) bytes) >>= λ s. number_is w32 s end >>= λ pairs. good u) (Err (length told))) not_none
    ∙ cond-true (eqb (length bytes) (UNIT_AND_COUNT * u + FOOTER_LEN)) (sum_at u (drop (UNIT * u) bytes) >>= λ s. number_is w32 s end >>= λ pairs. good u) (Err (length told)) agrees
    ∙ then-ok (sum_at u (drop (UNIT * u) bytes)) (λ s. number_is w32 s end >>= λ pairs. good u) n sum
    ∙ then-ok (number_is w32 n end) (λ pairs. good u) [] last

-- all pairs are within the limits, and so no key is empty
pub all_within : (limits : PairLimits) (blocks : List (List Pair)) → AllByRecursion (IsBlock limits) blocks → AreWithin limits (all_pairs blocks)
all_within limits [] each = tt
all_within limits (ps ∷ blocks) each = all-append (λ (pair : Pair). IsPairWithin limits.key_max limits.value_max pair.key pair.change) ps (all_pairs blocks) each.0.within (all_within limits blocks each.1)

pub fields_again : (limits : PairLimits) (blocks : List (List Pair)) (run : List Pair) (bytes : List ℕ) → AreHeld limits → IsTableOf limits blocks run bytes → table_fields limits bytes ≡ Ok blocks
fields_again limits blocks run bytes held is =
    let rises : IsRun (all_pairs blocks) = subst IsRun (sym is.all) is.rises in
    let few : length (all_pairs blocks) < 2 ^ 32 = omega (arith, ap (λ (l : List Pair). length l) is.all, is.pairs) in
    let whole = table_of blocks in
    let long : FOOTER_LEN ≤ length whole = omega (arith, length-table_of limits blocks is.each) in
    let foot = footer (all_units blocks) (length (all_pairs blocks)) in
    let tail = drop (UNIT * all_units blocks) whole in
    ap (table_fields limits) is.spelled
    ∙ table-blocks limits whole (all_units blocks) long (footer_again limits blocks is.each is.some is.units few)
    ∙ (λ i. blocks_at limits tail (all_units blocks) [] (units_there limits blocks is.each i) (counts_there limits blocks is.each i))
    ∙ blocks_again limits tail (all_units blocks) [] blocks foot held is.each rises (all_above_none limits (all_pairs blocks) (all_within limits blocks is.each)) (units_enough limits blocks is.each)

pub table_again : TableReadsBack
table_again limits blocks run bytes held is = ap (placed bytes) (fields_again limits blocks run bytes held is)

-- both cuts are the one that is read
pub one_run : OneRun
one_run limits run other bytes held is also =
    let cut : is.0 ≡ also.0 = good_is is.0 also.0 (sym (table_again limits is.0 run bytes held is.1) ∙ table_again limits also.0 other bytes held also.1) in
    sym is.1.all ∙ ap all_pairs cut ∙ also.1.all
