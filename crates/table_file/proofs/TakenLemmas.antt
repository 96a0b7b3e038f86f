-- What is read as a table was spelled there. To know: `table_taken`, `wrong_where_no_table`.
use Rattle.std.proofs.Common.{◌≡◌, inl, inr, ℕ, zero, suc, ◌+◌, ◌-◌, ◌*◌, ◌/◌, ◌^◌, ◌<◌, ◌≤◌, false, cond, eqb, List, [], ◌∷◌, ◌++◌, length, take, drop, replicate, Result, Ok, Err, refl, sym, ap, subst, ◌∙◌, arith}
use Rattle.std.specs.Prelude.{None}
use Rattle.std.specs.Int.{Width, w16, w32, to_be_bytes}
use Rattle.std.specs.List.{AllByRecursion}
use Rattle.std.proofs.lemmas.Bool.{cases_lt, eqb-true}
use Rattle.std.proofs.lemmas.List.{drop_at, drop-drop, take-append-drop, length-append, length-take, length-drop, append-nil, nil_from_length}
use Rattle.std.specs.declared.cmp.Ordering.TheVariants.{Less}
use Rattle.rdb_base.specs.Bytes.{AreBytes}
use Rattle.rdb_base.specs.Order.{key_cmp}
use Rattle.rdb_base.specs.Runs.{IsRun, IsBelowAll}
use Rattle.rdb_base.specs.PairFields.{◌>>=◌, number_at, placed}
use Rattle.rdb_base.specs.declared.pair.Pair.{Pair}
use Rattle.rdb_base.specs.declared.pair_field.PairLimits.{PairLimits}
use Rattle.rdb_base.proofs.Lists.{all-append}
use Rattle.rdb_base.proofs.RunLemmas.{IsRun-append, IsBelowAll-trans}
use Rattle.rdb_base.proofs.PairLemmas.{IsWide, Takes, takes-then, number_taken, wide16, wide32, went_well, passed, AreBytes-drop, AreBytes-take}
use Rattle.block_code.specs.declared.format.TheConstants.{UNIT}
use Rattle.block_code.specs.Blocks.{block, IsBlock}
use Rattle.block_code.specs.Reading.{number_is, block_at, last_key}
use Rattle.block_code.specs.Laws.{AreHeld}
use Rattle.block_code.proofs.AgainLemmas.{count_there, count_small}
use Rattle.block_code.proofs.TakenLemmas.{block_taken, passed_on}
use Rattle.table_file.specs.declared.format.TheConstants.{MAGIC, FIRST_VERSION, FOOTER_LEN, UNIT_AND_COUNT}
use Rattle.table_file.specs.Tables.{units_of, block_bytes, unit_counts, count_bytes, all_units, all_pairs, footer, table_of, IsTableOf, IsTable}
use Rattle.table_file.specs.TableReading.{in_units, counts_agree, further_at, sum_at, next_block_at, blocks_at, footer_at, table_fields, blocks_of, wrong_of, first_wrong}
use Rattle.table_file.specs.Laws.{TableWasSpelled, WrongWhereNoTable}
use Rattle.table_file.proofs.StepLemmas.{past_block, past_counts, past_next, past_footer, blocks_some, blocks-none, table-short, table_long}
use Rattle.table_file.proofs.AgainLemmas.{block_units, length-block_bytes, length-count_bytes, sum_again, units_tested, table_again}

abbrev good : {A : Type 0} → A → Result A ℕ
good x = Ok x

good_is : {A : Type 0} (x y : A) → good x ≡ good y → x ≡ y
good_is x y e = cc

-- what is after a text is bytes, too
rest_bytes : (bytes text rest : List ℕ) → bytes ≡ text ++ rest → AreBytes bytes → AreBytes rest
rest_bytes bytes text rest e fits = subst AreBytes (ap (drop (length text)) e ∙ drop_at text rest (length text) refl) (AreBytes-drop (length text) bytes fits)

-- ---- counts

-- a number that has to be this one
number_is_taken : (w : Width) (limit : ℕ) (wide : IsWide w limit) (n : ℕ) (bytes rest : List ℕ) → AreBytes bytes → number_is w n bytes ≡ Ok rest → Takes bytes (to_be_bytes w n) rest × (n < limit)
number_is_taken w limit wide n bytes rest fits e =
    let a = went_well (number_at w bytes) (λ one. cond (eqb one.0 n) (good one.1) (Err (length bytes))) rest e in
    let p = passed_on (eqb a.0.0 n) (length bytes) (good a.0.1) rest a.2 in
    let same : a.0.0 ≡ n = eqb-true a.0.0 n p.0 in
    let end : a.0.1 ≡ rest = good_is a.0.1 rest p.1 in
    let taken = number_taken w limit wide bytes a.0 fits a.1 in
    (subst (λ (r : List ℕ). Takes bytes (to_be_bytes w n) r) end (subst (λ (k : ℕ). Takes bytes (to_be_bytes w k) a.0.1) same taken.0), subst (λ (k : ℕ). k < limit) same taken.1)

two_zeros : (n : ℕ) → replicate (2 * suc n) 0 ≡ to_be_bytes w16 0 ++ replicate (2 * n) 0
two_zeros n = let two : 2 * suc n ≡ suc (suc (2 * n)) = omega arith in ap (λ (k : ℕ). replicate k 0) two

further_taken : (n : ℕ) (counts rest : List ℕ) → AreBytes counts → further_at n counts ≡ Ok rest → Takes counts (replicate (2 * n) 0) rest
unfolding further_at
further_taken zero counts rest fits e = record { parts = good_is counts rest e; rest_fits = subst AreBytes (good_is counts rest e) fits }
further_taken (suc n) counts rest fits e =
    let a = went_well (number_is w16 0 counts) (further_at n) rest e in
    let here = (number_is_taken w16 (2 ^ 16) wide16 0 counts a.0 fits a.1).0 in
    subst (λ (l : List ℕ). Takes counts l rest) (sym (two_zeros n)) (takes-then counts (to_be_bytes w16 0) a.0 (replicate (2 * n) 0) rest here (further_taken n a.0 rest here.rest_fits a.2))

-- the count of the next unit, as it stands in the array and in the unit
record CountsTaken (units counts rest : List ℕ) : Type 0 where
  pub count : ℕ
  pub here : Takes counts (to_be_bytes w16 count) rest
  pub more : List ℕ
  pub told : number_at w16 units ≡ Ok (count, more)

in_units_ok : {X : Type 0} (tail units : List ℕ) (r : Result X ℕ) (x : X) → in_units tail units r ≡ Ok x → r ≡ Ok x
in_units_ok tail units (Ok y) x e = e
in_units_ok tail units (Err left) x e = absurd cc

counts_taken : (tail units counts rest : List ℕ) → AreBytes counts → counts_agree tail units counts ≡ Ok rest → CountsTaken units counts rest
unfolding counts_agree
counts_taken tail units counts rest fits e =
    let a = went_well (number_at w16 counts) (λ here. in_units tail units (number_at w16 units) >>= λ told. cond (eqb here.0 told.0) (cond (eqb here.0 0) (Err (length units + length tail)) (good here.1)) (Err (length counts))) rest e in
    let b = went_well (in_units tail units (number_at w16 units)) (λ told. cond (eqb a.0.0 told.0) (cond (eqb a.0.0 0) (Err (length units + length tail)) (good a.0.1)) (Err (length counts))) rest a.2 in
    let p = passed_on (eqb a.0.0 b.0.0) (length counts) (cond (eqb a.0.0 0) (Err (length units + length tail)) (good a.0.1)) rest b.2 in
    let q = passed (eqb a.0.0 0) (length units + length tail) (good a.0.1) rest p.1 in
    let same : a.0.0 ≡ b.0.0 = eqb-true a.0.0 b.0.0 p.0 in
    let end : a.0.1 ≡ rest = good_is a.0.1 rest q.1 in
    record {
      count = a.0.0;
      here = subst (λ (r : List ℕ). Takes counts (to_be_bytes w16 a.0.0) r) end (number_taken w16 (2 ^ 16) wide16 counts a.0 fits a.1).0;
      more = b.0.1;
      told = in_units_ok tail units (number_at w16 units) b.0 b.1 ∙ ap (λ (k : ℕ). good (k, b.0.1)) (sym same);
    }

-- ---- blocks

record NextTaken (limits : PairLimits) (last units counts : List ℕ) (ps : List Pair) (after more : List ℕ) : Type 0 where
  pub is : IsBlock limits ps
  pub below : IsBelowAll last ps
  pub spelled : units ≡ block ps ++ after
  pub told : Takes counts (unit_counts ps) more

next_taken : (limits : PairLimits) (tail last units counts : List ℕ) (ps : List Pair) (after more : List ℕ) → AreBytes units → AreBytes counts
    → next_block_at limits tail last units counts ≡ Ok (ps, (after, more)) → NextTaken limits last units counts ps after more
unfolding next_block_at
next_taken limits tail last units counts ps after more units_fit counts_fit e =
    let a = went_well (counts_agree tail units counts) (past_counts limits tail last units) (ps, (after, more)) e in
    let b = went_well (in_units tail units (block_at limits last units)) (past_block units a.0) (ps, (after, more)) a.2 in
    let c = went_well (further_at ((length units - length b.0.1) / UNIT - 1) a.0) (λ left. good (b.0.0, (b.0.1, left))) (ps, (after, more)) b.2 in
    let is : (b.0.0, (b.0.1, c.0)) ≡ (ps, (after, more)) = good_is (b.0.0, (b.0.1, c.0)) (ps, (after, more)) c.2 in
    let read : block_at limits last units ≡ Ok (ps, after) = in_units_ok tail units (block_at limits last units) b.0 b.1 ∙ ap (λ (y : List Pair × (List ℕ × List ℕ)). good (y.0, y.1.0)) is in
    let taken = block_taken limits last units ps after units_fit read in
    let found = counts_taken tail units counts a.0 counts_fit a.1 in
    let after_is : b.0.1 ≡ after = ap (λ (y : List Pair × (List ℕ × List ℕ)). y.1.0) is in
    let long : length units - length b.0.1 ≡ length (block ps) = ap (λ (l : List ℕ). length units - length l) after_is ∙ omega (arith, ap (λ (l : List ℕ). length l) taken.2, length-append (block ps) after) in
    let many : further_at (units_of ps - 1) a.0 ≡ Ok more = ap (λ (k : ℕ). further_at (k / UNIT - 1) a.0) (sym long) ∙ c.1 ∙ ap (λ (y : List Pair × (List ℕ × List ℕ)). good y.1.1) is in
    let zeros = further_taken (units_of ps - 1) a.0 more found.here.rest_fits many in
    let there = count_there ps after (count_small limits ps taken.0) in
    let count : found.count ≡ length ps = ap (λ (y : ℕ × List ℕ). y.0) (good_is (found.count, found.more) (length ps, there.0) (sym found.told ∙ ap (number_at w16) taken.2 ∙ there.1)) in
    record {
      is = taken.0;
      below = taken.1;
      spelled = taken.2;
      told = subst (λ (k : ℕ). Takes counts (to_be_bytes w16 k ++ replicate (2 * (units_of ps - 1)) 0) more) count (takes-then counts (to_be_bytes w16 found.count) a.0 (replicate (2 * (units_of ps - 1)) 0) more found.here zeros);
    }

-- a key below some pairs is below those after them
below_from : (key : List ℕ) (ps qs : List Pair) → IsBelowAll key ps → IsRun ps → IsBelowAll (last_key key ps) qs → IsBelowAll key qs
below_from key [] qs below run h = h
below_from key (p ∷ ps) qs below run h = IsBelowAll-trans key p.key qs below.0 (below_from p.key ps qs run.0 run.1 h)

-- all keys of a block are below the pairs after it, where its last one is
all_below : (last : List ℕ) (ps qs : List Pair) → IsRun ps → IsBelowAll (last_key last ps) qs → AllByRecursion (λ (x : Pair). IsBelowAll x.key qs) ps
all_below last [] qs run h = tt
all_below last (p ∷ ps) qs run h = (below_from p.key ps qs run.0 run.1 h, all_below p.key ps qs run.1 h)

record BlocksTaken (limits : PairLimits) (last units counts : List ℕ) (blocks : List (List Pair)) : Type 0 where
  pub each : AllByRecursion (IsBlock limits) blocks
  pub rises : IsRun (all_pairs blocks)
  pub below : IsBelowAll last (all_pairs blocks)
  pub spelled : units ≡ block_bytes blocks
  pub rest : List ℕ
  pub told : Takes counts (count_bytes blocks) rest

no_blocks : (limits : PairLimits) (last units counts : List ℕ) → AreBytes counts → length units ≡ 0 → BlocksTaken limits last units counts []
unfolding block_bytes count_bytes
no_blocks limits last units counts fits none = record { each = tt; rises = tt; below = tt; spelled = nil_from_length units none; rest = counts; told = record { parts = refl; rest_fits = fits } }

one_block_more : (limits : PairLimits) (last units counts : List ℕ) (ps : List Pair) (after more : List ℕ) (blocks : List (List Pair)) → NextTaken limits last units counts ps after more
    → BlocksTaken limits (last_key last ps) after more blocks → BlocksTaken limits last units counts (ps ∷ blocks)
unfolding block_bytes count_bytes
one_block_more limits last units counts ps after more blocks next taken = record {
  each = (next.is, taken.each);
  rises = IsRun-append ps (all_pairs blocks) next.is.rises taken.rises (all_below last ps (all_pairs blocks) next.is.rises taken.below);
  below = all-append (λ (other : Pair). key_cmp last other.key ≡ Less) ps (all_pairs blocks) next.below (below_from last ps (all_pairs blocks) next.below next.is.rises taken.below);
  spelled = next.spelled ∙ ap (λ (l : List ℕ). block ps ++ l) taken.spelled;
  rest = taken.rest;
  told = takes-then counts (unit_counts ps) more (count_bytes blocks) taken.rest next.told taken.told;
}

blocks_taken : (limits : PairLimits) (tail : List ℕ) (n u : ℕ) (last units counts : List ℕ) (blocks : List (List Pair)) → AreBytes units → AreBytes counts → length units ≡ UNIT * u → u ≤ n
    → blocks_at limits tail n last units counts ≡ Ok blocks → BlocksTaken limits last units counts blocks
blocks_taken limits tail n zero last units counts blocks units_fit counts_fit long enough e =
    let none : length units ≡ 0 = omega (arith, long) in
    let is : [] ≡ blocks = good_is [] blocks (sym (blocks-none limits tail n last units counts none) ∙ e) in
    subst (BlocksTaken limits last units counts) is (no_blocks limits last units counts counts_fit none)
blocks_taken limits tail zero (suc u) last units counts blocks units_fit counts_fit long enough e = absurd (omega (arith, enough))
blocks_taken limits tail (suc n) (suc u) last units counts blocks units_fit counts_fit long enough e =
    let some : length units ≡ 0 → ⊥ = λ none. absurd (omega (arith, none, long)) in
    let a = went_well (next_block_at limits tail last units counts) (past_next limits tail n last) blocks (sym (blocks_some limits tail n last units counts some) ∙ e) in
    let b = went_well (blocks_at limits tail n (last_key last a.0.0) a.0.1.0 a.0.1.1) (λ found. good (a.0.0 ∷ found)) blocks a.2 in
    let next = next_taken limits tail last units counts a.0.0 a.0.1.0 a.0.1.1 units_fit counts_fit a.1 in
    let here = block_units a.0.0 next.is.some in
    let left : length a.0.1.0 ≡ UNIT * (suc u - units_of a.0.0) = omega (arith, long, ap (λ (l : List ℕ). length l) next.spelled, length-append (block a.0.0) a.0.1.0, here.0) in
    let fewer : suc u - units_of a.0.0 ≤ n = omega (arith, enough, here.1) in
    let taken = blocks_taken limits tail n (suc u - units_of a.0.0) (last_key last a.0.0) a.0.1.0 a.0.1.1 b.0 (rest_bytes units (block a.0.0) a.0.1.0 next.spelled units_fit) next.told.rest_fits left fewer b.1 in
    subst (BlocksTaken limits last units counts) (good_is (a.0.0 ∷ b.0) blocks b.2) (one_block_more limits last units counts a.0.0 a.0.1.0 a.0.1.1 b.0 next taken)

-- ---- the footer

record FooterTaken (bytes : List ℕ) (u : ℕ) : Type 0 where
  pub some : 1 ≤ u
  pub few : u < 2 ^ 32
  pub len : length bytes ≡ UNIT_AND_COUNT * u + FOOTER_LEN
  pub sum : ℕ
  pub few_pairs : sum < 2 ^ 32
  pub summed : sum_at u (drop (UNIT * u) bytes) ≡ Ok sum
  pub spelled : drop (length bytes - FOOTER_LEN) bytes ≡ footer u sum

some_of : (n : ℕ) → eqb n 0 ≡ false → 1 ≤ n
some_of zero e = absurd cc
some_of (suc n) e = omega arith

-- the tests of the units
record UnitsTaken (bytes told : List ℕ) (x : ℕ × List ℕ) (u : ℕ) : Type 0 where
  pub units : x.0 ≡ u
  pub some : 1 ≤ x.0
  pub len : length bytes ≡ UNIT_AND_COUNT * x.0 + FOOTER_LEN
  pub sum : ℕ
  pub summed : sum_at x.0 (drop (UNIT * x.0) bytes) ≡ Ok sum
  pub end : List ℕ
  pub pairs : number_is w32 sum x.1 ≡ Ok end

units_taken : (bytes told : List ℕ) (x : ℕ × List ℕ) (u : ℕ) → units_tested bytes told x ≡ Ok u → UnitsTaken bytes told x u
units_taken bytes told x u e =
    let summed = sum_at x.0 (drop (UNIT * x.0) bytes) >>= λ sum. number_is w32 sum x.1 >>= λ pairs. good x.0 in
    let p = passed (eqb x.0 0) (length told) (cond (eqb (length bytes) (UNIT_AND_COUNT * x.0 + FOOTER_LEN)) summed (Err (length told))) u e in
    let q = passed_on (eqb (length bytes) (UNIT_AND_COUNT * x.0 + FOOTER_LEN)) (length told) summed u p.1 in
    let a = went_well (sum_at x.0 (drop (UNIT * x.0) bytes)) (λ sum. number_is w32 sum x.1 >>= λ pairs. good x.0) u q.1 in
    let b = went_well (number_is w32 a.0 x.1) (λ pairs. good x.0) u a.2 in
    record { units = good_is x.0 u b.2; some = some_of x.0 p.0; len = eqb-true (length bytes) (UNIT_AND_COUNT * x.0 + FOOTER_LEN) q.0; sum = a.0; summed = a.1; end = b.0; pairs = b.1 }

footer_taken : (bytes : List ℕ) (u : ℕ) → AreBytes bytes → FOOTER_LEN ≤ length bytes → footer_at bytes ≡ Ok u → FooterTaken bytes u
unfolding footer_at
footer_taken bytes u fits long e =
    let foot = drop (length bytes - FOOTER_LEN) bytes in
    let foot_fits = AreBytes-drop (length bytes - FOOTER_LEN) bytes fits in
    let a = went_well (number_is w32 MAGIC foot) (λ v. number_is w16 FIRST_VERSION v >>= λ z. number_is w16 0 z >>= λ t. number_at w32 t >>= units_tested bytes t) u e in
    let b = went_well (number_is w16 FIRST_VERSION a.0) (λ z. number_is w16 0 z >>= λ t. number_at w32 t >>= units_tested bytes t) u a.2 in
    let c = went_well (number_is w16 0 b.0) (λ t. number_at w32 t >>= units_tested bytes t) u b.2 in
    let d = went_well (number_at w32 c.0) (units_tested bytes c.0) u c.2 in
    let t = units_taken bytes c.0 d.0 u d.2 in
    let magic = (number_is_taken w32 (2 ^ 32) wide32 MAGIC foot a.0 foot_fits a.1).0 in
    let version = (number_is_taken w16 (2 ^ 16) wide16 FIRST_VERSION a.0 b.0 magic.rest_fits b.1).0 in
    let empty = (number_is_taken w16 (2 ^ 16) wide16 0 b.0 c.0 version.rest_fits c.1).0 in
    let told = number_taken w32 (2 ^ 32) wide32 c.0 d.0 empty.rest_fits d.1 in
    let pairs = number_is_taken w32 (2 ^ 32) wide32 t.sum d.0.1 t.end told.0.rest_fits t.pairs in
    let whole : foot ≡ footer d.0.0 t.sum ++ t.end =
    magic.parts ∙ ap (λ (l : List ℕ). to_be_bytes w32 MAGIC ++ l) (version.parts ∙ ap (λ (l : List ℕ). to_be_bytes w16 FIRST_VERSION ++ l) (empty.parts ∙ ap (λ (l : List ℕ). to_be_bytes w16 0 ++ l) (told.0.parts ∙ ap (λ (l : List ℕ). to_be_bytes w32 d.0.0 ++ l) pairs.0.parts))) in
    let none : t.end ≡ [] = nil_from_length t.end (omega (arith, ap (λ (l : List ℕ). length l) whole, length-append (footer d.0.0 t.sum) t.end, length-drop (length bytes - FOOTER_LEN) bytes, long)) in
    let spelled : foot ≡ footer d.0.0 t.sum = whole ∙ ap (λ (l : List ℕ). footer d.0.0 t.sum ++ l) none ∙ append-nil (footer d.0.0 t.sum) in
    let there : FooterTaken bytes d.0.0 = record { some = t.some; few = told.1; len = t.len; sum = t.sum; few_pairs = pairs.1; summed = t.summed; spelled = spelled } in
    subst (FooterTaken bytes) t.units there

-- ---- the whole

placed_ok : {X : Type 0} (bytes : List ℕ) (r : Result X ℕ) (x : X) → placed bytes r ≡ Ok x → r ≡ Ok x
placed_ok bytes (Ok y) x e = e
placed_ok bytes (Err left) x e = absurd cc

-- what was read is long enough for a footer
long_enough : (limits : PairLimits) (blocks : List (List Pair)) (bytes : List ℕ) → table_fields limits bytes ≡ Ok blocks → FOOTER_LEN ≤ length bytes
long_enough limits blocks bytes e = elim (cases_lt (length bytes) FOOTER_LEN) [
  | inl short ↦ absurd (no (sym (table-short limits bytes short) ∙ e))
  | inr long ↦ long
]
  where
    no : {left : ℕ} → Err left ≡ good blocks → ⊥
    no h = absurd cc

some_blocks : (blocks : List (List Pair)) → 1 ≤ all_units blocks → 1 ≤ length blocks
some_blocks [] h = absurd (omega (arith, h))
some_blocks (ps ∷ blocks) h = omega arith

whole_taken : (limits : PairLimits) (blocks : List (List Pair)) (bytes : List ℕ) (u : ℕ) → AreBytes bytes → FooterTaken bytes u → blocks_at limits (drop (UNIT * u) bytes) u [] (take (UNIT * u) bytes) (drop (UNIT * u) bytes) ≡ Ok blocks
    → IsTableOf limits blocks (all_pairs blocks) bytes
unfolding table_of
whole_taken limits blocks bytes u fits foot e =
    let units = take (UNIT * u) bytes in
    let counts = drop (UNIT * u) bytes in
    let long : length units ≡ UNIT * u = omega (arith, length-take (UNIT * u) bytes, foot.len) in
    let taken = blocks_taken limits counts u u [] units counts blocks (AreBytes-take (UNIT * u) bytes fits) (AreBytes-drop (UNIT * u) bytes fits) long (omega arith) e in
    let many : all_units blocks ≡ u = omega (arith, long, ap (λ (l : List ℕ). length l) taken.spelled, length-block_bytes limits blocks taken.each) in
    let counted : length (count_bytes blocks) ≡ 2 * u = length-count_bytes limits blocks taken.each ∙ ap (λ (k : ℕ). 2 * k) many in
    let sum : foot.sum ≡ length (all_pairs blocks) = good_is foot.sum (length (all_pairs blocks)) (sym foot.summed ∙ ap (λ (k : ℕ). sum_at k counts) (sym many) ∙ ap (sum_at (all_units blocks)) taken.told.parts ∙ sum_again limits blocks taken.rest taken.each) in
    let place : UNIT * u + 2 * u ≡ length bytes - FOOTER_LEN = omega (arith, foot.len) in
    let rest : taken.rest ≡ footer (all_units blocks) (length (all_pairs blocks)) =
    sym (ap (drop (2 * u)) taken.told.parts ∙ drop_at (count_bytes blocks) taken.rest (2 * u) counted)
    ∙ drop-drop (2 * u) (UNIT * u) bytes ∙ ap (λ (k : ℕ). drop k bytes) place ∙ foot.spelled
    ∙ (λ i. footer (sym many i) (sum i)) in
    record {
      some = some_blocks blocks (omega (arith, many, foot.some));
      each = taken.each;
      all = refl;
      rises = taken.rises;
      units = omega (arith, many, foot.few);
      pairs = omega (arith, sum, foot.few_pairs);
      spelled = sym (take-append-drop (UNIT * u) bytes) ∙ (λ i. taken.spelled i ++ taken.told.parts i) ∙ ap (λ (l : List ℕ). block_bytes blocks ++ (count_bytes blocks ++ l)) rest;
    }

pub table_taken : TableWasSpelled
table_taken limits blocks bytes fits e =
    let read = placed_ok bytes (table_fields limits bytes) blocks e in
    let long = long_enough limits blocks bytes read in
    let a = went_well (footer_at bytes) (past_footer limits bytes) blocks (sym (table_long limits bytes long) ∙ read) in
    whole_taken limits blocks bytes a.0 fits (footer_taken bytes a.0 fits long a.1) a.2

-- ---- the first wrong place

pub none_wrong : (limits : PairLimits) (run : List Pair) (bytes : List ℕ) → AreHeld limits → IsTable limits run bytes → first_wrong limits bytes ≡ None
none_wrong limits run bytes held is = ap wrong_of (table_again limits is.0 run bytes held is.1)

pub some_table : (limits : PairLimits) (bytes : List ℕ) → AreBytes bytes → first_wrong limits bytes ≡ None → (run : List Pair) × IsTable limits run bytes
some_table limits bytes fits e = by_read (blocks_of limits bytes) refl e
  where
    by_read : (r : Result (List (List Pair)) ℕ) → blocks_of limits bytes ≡ r → wrong_of r ≡ None → (run : List Pair) × IsTable limits run bytes
    by_read (Ok blocks) there h = (all_pairs blocks, (blocks, table_taken limits blocks bytes fits there))
    by_read (Err place) there h = absurd cc

pub wrong_where_no_table : WrongWhereNoTable
wrong_where_no_table limits bytes held fits = (λ run is. none_wrong limits run bytes held is, some_table limits bytes fits)
