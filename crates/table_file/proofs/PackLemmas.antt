-- A run is cut into blocks that a table may have, and is written so. To know: `packed_table`, `drafted-fits`, `drafted-full`.
use Rattle.std.proofs.Common.{◌≡◌, ℕ, zero, suc, ◌+◌, ◌-◌, ◌*◌, ◌/◌, ◌^◌, ◌<◌, ◌≤◌, Bool, true, false, cond, leb, List, [], ◌∷◌, ◌++◌, length, take, drop, get_or, Result, Ok, Err, refl, sym, ap, subst, ◌∙◌, append_assoc, arith}
use Rattle.std.specs.Prelude.{IfOk}
use Rattle.std.specs.Global.{Vec}
use Rattle.std.specs.declared.alloc.AllocError.{AllocError}
use Rattle.std.specs.List.{AllByRecursion}
use Rattle.std.proofs.lemmas.Bool.{leb-true}
use Rattle.std.proofs.lemmas.List.{drop-drop, length-append, length-take, length-drop, append-nil, take_all, drop_all}
use Rattle.rdb_base.specs.PairFields.{IsPairWithin}
use Rattle.rdb_base.specs.Runs.{IsRun, pair_size, sizes}
use Rattle.rdb_base.specs.declared.pair.Pair.{Pair}
use Rattle.rdb_base.specs.declared.pair_field.PairLimits.{PairLimits}
use Rattle.rdb_base.proofs.Lists.{all-front, all-back, all-append}
use Rattle.rdb_base.proofs.RunLemmas.{IsRun-front, IsRun-back}
use Rattle.rdb_base.proofs.SizeLemmas.{sizes-append}
use Rattle.block_code.specs.declared.format.TheConstants.{UNIT, FIRST_LIMITS}
use Rattle.block_code.specs.Blocks.{block, block_size, head_size, IsBlock}
use Rattle.table_file.specs.declared.format.TheConstants.{TABLE_MAX}
use Rattle.table_file.specs.Packing.{packed, packed_after}
use Rattle.table_file.specs.Tables.{block_bytes, unit_counts, count_bytes, all_units, all_pairs, footer, table_of, AreWithin, IsTableOf, IsTable}
use Rattle.table_file.proofs.AgainLemmas.{length-block_bytes}

-- ---- the cut

abbrev pub within_limits : PairLimits → Pair → Type 0
within_limits limits pair = IsPairWithin limits.key_max limits.value_max pair.key pair.change

-- whether a pair fits the open block
abbrev fits_test : List Pair → Pair → Bool
fits_test opened p = leb (head_size (length opened + 1) + sizes opened + pair_size p) UNIT

pub packed-fits : (opened : List Pair) (p : Pair) (ps : List Pair) → fits_test opened p ≡ true → packed_after opened (p ∷ ps) ≡ packed_after (opened ++ p ∷ []) ps
unfolding packed_after
packed-fits opened p ps e = ap (λ (b : Bool). cond b (packed_after (opened ++ p ∷ []) ps) (opened ∷ packed_after (p ∷ []) ps)) e

pub packed-full : (opened : List Pair) (p : Pair) (ps : List Pair) → fits_test opened p ≡ false → packed_after opened (p ∷ ps) ≡ opened ∷ packed_after (p ∷ []) ps
unfolding packed_after
packed-full opened p ps e = ap (λ (b : Bool). cond b (packed_after (opened ++ p ∷ []) ps) (opened ∷ packed_after (p ∷ []) ps)) e

pub packed-end : (opened : List Pair) → packed_after opened [] ≡ opened ∷ []
unfolding packed_after
packed-end opened = refl

-- what holds after one pair more, whether it fits or not
by_fit : (P : List (List Pair) → Type 0) (opened : List Pair) (p : Pair) (ps : List Pair) → (fits_test opened p ≡ true → P (packed_after (opened ++ p ∷ []) ps)) → (fits_test opened p ≡ false → P (opened ∷ packed_after (p ∷ []) ps)) → P (packed_after opened (p ∷ ps))
by_fit P opened p ps fits full = by_test (fits_test opened p) refl
  where
    by_test : (b : Bool) → fits_test opened p ≡ b → P (packed_after opened (p ∷ ps))
    by_test true e = subst P (sym (packed-fits opened p ps e)) (fits e)
    by_test false e = subst P (sym (packed-full opened p ps e)) (full e)

all_packed_after : (opened ps : List Pair) → all_pairs (packed_after opened ps) ≡ opened ++ ps
all_packed_after opened [] = ap all_pairs (packed-end opened)
all_packed_after opened (p ∷ ps) = by_fit (λ blocks. all_pairs blocks ≡ opened ++ (p ∷ ps)) opened p ps
    (λ _. all_packed_after (opened ++ p ∷ []) ps ∙ append_assoc opened (p ∷ []) ps)
    (λ _. ap (λ (l : List Pair). opened ++ l) (all_packed_after (p ∷ []) ps))

some_packed_after : (opened ps : List Pair) → 1 ≤ length (packed_after opened ps)
some_packed_after opened [] = omega (arith, ap (λ (l : List (List Pair)). length l) (packed-end opened))
some_packed_after opened (p ∷ ps) = by_fit (λ blocks. 1 ≤ length blocks) opened p ps (λ _. some_packed_after (opened ++ p ∷ []) ps) (λ _. omega arith)

-- a pair that fits leaves the block within one unit
fits_unit : (opened : List Pair) (p : Pair) → fits_test opened p ≡ true → block_size (opened ++ p ∷ []) ≤ UNIT
fits_unit opened p e = omega (arith, leb-true (head_size (length opened + 1) + sizes opened + pair_size p) UNIT e, length-append opened (p ∷ []), sizes-append opened (p ∷ []))

each_packed_after : (limits : PairLimits) (opened ps : List Pair) → 1 ≤ length opened → (2 ≤ length opened → block_size opened ≤ UNIT) → AreWithin limits (opened ++ ps) → IsRun (opened ++ ps) → AllByRecursion (IsBlock limits) (packed_after opened ps)
each_packed_after limits opened [] some fits within run =
    let all = append-nil opened in
    subst (AllByRecursion (IsBlock limits)) (sym (packed-end opened)) (record { some = some; one_unit = fits; within = subst (AreWithin limits) all within; rises = subst IsRun all run }, tt)
each_packed_after limits opened (p ∷ ps) some fits within run = by_fit (AllByRecursion (IsBlock limits)) opened p ps
    (λ e.
    let same = sym (append_assoc opened (p ∷ []) ps) in
    each_packed_after limits (opened ++ p ∷ []) ps (omega (arith, length-append opened (p ∷ []))) (λ _. fits_unit opened p e) (subst (AreWithin limits) same within) (subst IsRun same run))
    (λ _. (
      record { some = some; one_unit = fits; within = all-front (within_limits limits) opened (p ∷ ps) within; rises = IsRun-front opened (p ∷ ps) run },
      each_packed_after limits (p ∷ []) ps (omega arith) (λ two. absurd (omega (arith, two))) (all-back (within_limits limits) opened (p ∷ ps) within) (IsRun-back opened (p ∷ ps) run),
    ))

-- the cut of a run, which has a pair
record IsCut (limits : PairLimits) (run : List Pair) (blocks : List (List Pair)) : Type 0 where
  pub some : 1 ≤ length blocks
  pub each : AllByRecursion (IsBlock limits) blocks
  pub all : all_pairs blocks ≡ run

packed_is : (limits : PairLimits) (run : List Pair) → 1 ≤ length run → AreWithin limits run → IsRun run → IsCut limits run (packed run)
unfolding packed
packed_is limits [] some within rises = absurd (omega (arith, some))
packed_is limits (p ∷ ps) some within rises = record {
  some = some_packed_after (p ∷ []) ps;
  each = each_packed_after limits (p ∷ []) ps (omega arith) (λ two. absurd (omega (arith, two))) within rises;
  all = all_packed_after (p ∷ []) ps;
}

-- what is written of a run is its table
pub packed_table : (run : List Pair) (units counts bytes : List ℕ) (u n : ℕ) → 1 ≤ length run → AreWithin FIRST_LIMITS run → IsRun run → units ≡ block_bytes (packed run) → counts ≡ count_bytes (packed run)
    → u ≡ length units / UNIT → n ≡ length run → length units ≤ TABLE_MAX → n < 2 ^ 32 → bytes ≡ (units ++ counts) ++ footer u n → IsTableOf FIRST_LIMITS (packed run) run bytes
unfolding table_of
packed_table run units counts bytes u n some within rises units_are counts_are u_is n_is few_bytes few_pairs spelled =
    let cut = packed_is FIRST_LIMITS run some within rises in
    let long : length units ≡ UNIT * all_units (packed run) = ap (λ (l : List ℕ). length l) units_are ∙ length-block_bytes FIRST_LIMITS (packed run) cut.each in
    let many : u ≡ all_units (packed run) = omega (arith, long, u_is) in
    let pairs : n ≡ length (all_pairs (packed run)) = n_is ∙ ap (λ (l : List Pair). length l) (sym cut.all) in
    record {
      some = cut.some;
      each = cut.each;
      all = cut.all;
      rises = rises;
      units = omega (arith, long, few_bytes);
      pairs = omega (arith, n_is, few_pairs);
      spelled = spelled ∙ append_assoc units counts (footer u n) ∙ (λ i. units_are i ++ (counts_are i ++ footer (many i) (pairs i)));
    }

-- ---- the writer's loop

-- the pairs of the open block
abbrev pub opened_of : List Pair → ℕ → ℕ → List Pair
opened_of pairs first at = take (at - first) (drop first pairs)

-- blocks were written, and the pairs from one place up to another are open
pub record Drafted (pairs : List Pair) (first at size : ℕ) (units counts : List ℕ) : Type 0 where
  pub order : first < at
  pub inside : at ≤ length pairs
  pub written : block_bytes (packed pairs) ≡ units ++ block_bytes (packed_after (opened_of pairs first at) (drop at pairs))
  pub counted : count_bytes (packed pairs) ≡ counts ++ count_bytes (packed_after (opened_of pairs first at) (drop at pairs))
  pub summed : size ≡ sizes (opened_of pairs first at)
  pub fits : 2 ≤ length (opened_of pairs first at) → block_size (opened_of pairs first at) ≤ UNIT
  pub within : AreWithin FIRST_LIMITS (take at pairs)

drop_picked : (xs : List Pair) (n : ℕ) (x : Pair) → n < length xs → x ≡ get_or xs n x → drop n xs ≡ x ∷ drop (n + 1) xs
drop_picked xs n x lt e = by_suc xs n lt e ∙ ap (λ (k : ℕ). x ∷ drop k xs) (one_more n)
  where
    one_more : (m : ℕ) → suc m ≡ m + 1
    one_more m = omega arith

    by_suc : (ys : List Pair) (m : ℕ) → m < length ys → x ≡ get_or ys m x → drop m ys ≡ x ∷ drop (suc m) ys
    by_suc [] m l h = absurd (omega arith)
    by_suc (y ∷ ys) zero l h = ap (λ (z : Pair). z ∷ ys) (sym h)
    by_suc (y ∷ ys) (suc m) l h = by_suc ys m (omega (arith, l)) h

take_picked : (ys : List Pair) (m : ℕ) (x : Pair) (zs : List Pair) → drop m ys ≡ x ∷ zs → take (m + 1) ys ≡ take m ys ++ x ∷ []
take_picked ys m x zs e = ap (λ (k : ℕ). take k ys) (one_more m) ∙ by_suc ys m e
  where
    one_more : (k : ℕ) → k + 1 ≡ suc k
    one_more k = omega arith

    head_is : (y : Pair) (more : List Pair) → y ∷ more ≡ x ∷ zs → y ≡ x
    head_is y more h = cc

    none : [] ≡ x ∷ zs → ⊥
    none h = cc

    by_suc : (ws : List Pair) (k : ℕ) → drop k ws ≡ x ∷ zs → take (suc k) ws ≡ take k ws ++ x ∷ []
    by_suc [] zero h = absurd (none h)
    by_suc [] (suc k) h = absurd (none h)
    by_suc (w ∷ ws) zero h = ap (λ (z : Pair). z ∷ []) (head_is w ws h)
    by_suc (w ∷ ws) (suc k) h = ap (λ (l : List Pair). w ∷ l) (by_suc ws k h)

-- the same state by equal values
drafted-same : (pairs : List Pair) (first first2 at size size2 : ℕ) (units units2 counts counts2 : List ℕ) → Drafted pairs first at size units counts → first2 ≡ first → size2 ≡ size → units2 ≡ units → counts2 ≡ counts → Drafted pairs first2 at size2 units2 counts2
drafted-same pairs first first2 at size size2 units units2 counts counts2 d a b e f =
    subst (λ (x : ℕ). Drafted pairs x at size2 units2 counts2) (sym a) (subst (λ (x : ℕ). Drafted pairs first at x units2 counts2) (sym b) (subst (λ (x : List ℕ). Drafted pairs first at size x counts2) (sym e) (subst (λ (x : List ℕ). Drafted pairs first at size units x) (sym f) d)))

-- the open block with one pair more
opened_next : (pairs : List Pair) (first at : ℕ) (p : Pair) → first ≤ at → drop at pairs ≡ p ∷ drop (at + 1) pairs → opened_of pairs first (at + 1) ≡ opened_of pairs first at ++ p ∷ []
opened_next pairs first at p order e =
    let far : first + (at - first) ≡ at = omega (arith, order) in
    let one : (at + 1) - first ≡ (at - first) + 1 = omega (arith, order) in
    ap (λ (k : ℕ). take k (drop first pairs)) one ∙ take_picked (drop first pairs) (at - first) p (drop (at + 1) pairs) (drop-drop (at - first) first pairs ∙ ap (λ (k : ℕ). drop k pairs) far ∙ e)

within_next : (pairs : List Pair) (at : ℕ) (p : Pair) → drop at pairs ≡ p ∷ drop (at + 1) pairs → AreWithin FIRST_LIMITS (take at pairs) → within_limits FIRST_LIMITS p → AreWithin FIRST_LIMITS (take (at + 1) pairs)
within_next pairs at p e before here = subst (AreWithin FIRST_LIMITS) (sym (take_picked pairs at p (drop (at + 1) pairs) e)) (all-append (within_limits FIRST_LIMITS) (take at pairs) (p ∷ []) before (here, tt))

length-opened : (pairs : List Pair) (first at : ℕ) → at ≤ length pairs → length (opened_of pairs first at) ≡ at - first
length-opened pairs first at inside = omega (arith, inside, length-take (at - first) (drop first pairs), length-drop first pairs)

pub drafted-first : (pairs : List Pair) (size : ℕ) (units counts : List ℕ) (p : Pair) → 1 ≤ length pairs → p ≡ get_or pairs 0 p → size ≡ pair_size p → within_limits FIRST_LIMITS p → units ≡ [] → counts ≡ [] → Drafted pairs 0 1 size units counts
unfolding packed
drafted-first [] size units counts p some is size_is within none also = absurd (omega (arith, some))
drafted-first (q ∷ pairs) size units counts p some is size_is within none also = record {
  order = omega arith;
  inside = omega arith;
  written = ap (λ (l : List ℕ). l ++ block_bytes (packed (q ∷ pairs))) (sym none);
  counted = ap (λ (l : List ℕ). l ++ count_bytes (packed (q ∷ pairs))) (sym also);
  summed = omega (arith, size_is, ap pair_size is);
  fits = λ two. absurd (omega (arith, two));
  within = (subst (within_limits FIRST_LIMITS) is within, tt);
}

fits_on : (pairs : List Pair) (first at size more : ℕ) (units counts : List ℕ) (p : Pair) → Drafted pairs first at size units counts → at < length pairs → p ≡ get_or pairs at p → more ≡ pair_size p → within_limits FIRST_LIMITS p
    → leb (head_size ((at - first) + 1) + size + more) UNIT ≡ true → Drafted pairs first (at + 1) (size + more) units counts
fits_on pairs first at size more units counts p d lt is more_is within e =
    let picked = drop_picked pairs at p lt is in
    let opened = opened_of pairs first at in
    let next = opened_next pairs first at p (omega (arith, d.order)) picked in
    let long = length-opened pairs first at d.inside in
    let test : fits_test opened p ≡ true = (λ i. leb (head_size (long i + 1) + sym d.summed i + sym more_is i) UNIT) ∙ e in
    let cut : packed_after opened (drop at pairs) ≡ packed_after (opened_of pairs first (at + 1)) (drop (at + 1) pairs) =
    ap (packed_after opened) picked ∙ packed-fits opened p (drop (at + 1) pairs) test ∙ ap (λ (l : List Pair). packed_after l (drop (at + 1) pairs)) (sym next) in
    record {
      order = omega (arith, d.order);
      inside = omega (arith, lt);
      written = d.written ∙ ap (λ (l : List (List Pair)). units ++ block_bytes l) cut;
      counted = d.counted ∙ ap (λ (l : List (List Pair)). counts ++ count_bytes l) cut;
      summed = omega (arith, d.summed, more_is, ap sizes next, sizes-append opened (p ∷ []));
      fits = λ _. subst (λ (l : List Pair). block_size l ≤ UNIT) (sym next) (fits_unit opened p test);
      within = within_next pairs at p picked d.within within;
    }

pub drafted-fits : (pairs : List Pair) (first at size more : ℕ) (units counts : List ℕ) (p : Pair) (first2 size2 : ℕ) (units2 counts2 : List ℕ) → Drafted pairs first at size units counts → at < length pairs → p ≡ get_or pairs at p → more ≡ pair_size p → within_limits FIRST_LIMITS p
    → leb (head_size ((at - first) + 1) + size + more) UNIT ≡ true → first2 ≡ first → size2 ≡ size + more → units2 ≡ units → counts2 ≡ counts → Drafted pairs first2 (at + 1) size2 units2 counts2
drafted-fits pairs first at size more units counts p first2 size2 units2 counts2 d lt is more_is within e a b f g =
    drafted-same pairs first first2 (at + 1) (size + more) size2 units units2 counts counts2 (fits_on pairs first at size more units counts p d lt is more_is within e) a b f g

full_on : (pairs : List Pair) (first at size more : ℕ) (units counts new_units new_counts : List ℕ) (p : Pair) → Drafted pairs first at size units counts → at < length pairs → p ≡ get_or pairs at p → more ≡ pair_size p → within_limits FIRST_LIMITS p
    → leb (head_size ((at - first) + 1) + size + more) UNIT ≡ false → new_units ≡ units ++ block (opened_of pairs first at) → new_counts ≡ counts ++ unit_counts (opened_of pairs first at) → Drafted pairs at (at + 1) more new_units new_counts
unfolding block_bytes count_bytes
full_on pairs first at size more units counts new_units new_counts p d lt is more_is within e f g =
    let picked = drop_picked pairs at p lt is in
    let opened = opened_of pairs first at in
    let long = length-opened pairs first at d.inside in
    let test : fits_test opened p ≡ false = (λ i. leb (head_size (long i + 1) + sym d.summed i + sym more_is i) UNIT) ∙ e in
    let none : at - at ≡ 0 = omega arith in
    let one : opened_of pairs at (at + 1) ≡ p ∷ [] = opened_next pairs at at p (omega arith) picked ∙ ap (λ (k : ℕ). take k (drop at pairs) ++ p ∷ []) none in
    let rest = packed_after (opened_of pairs at (at + 1)) (drop (at + 1) pairs) in
    let cut : packed_after opened (drop at pairs) ≡ opened ∷ rest =
    ap (packed_after opened) picked ∙ packed-full opened p (drop (at + 1) pairs) test ∙ ap (λ (l : List Pair). opened ∷ packed_after l (drop (at + 1) pairs)) (sym one) in
    record {
      order = omega arith;
      inside = omega (arith, lt);
      written = d.written ∙ ap (λ (l : List (List Pair)). units ++ block_bytes l) cut ∙ sym (append_assoc units (block opened) (block_bytes rest)) ∙ ap (λ (l : List ℕ). l ++ block_bytes rest) (sym f);
      counted = d.counted ∙ ap (λ (l : List (List Pair)). counts ++ count_bytes l) cut ∙ sym (append_assoc counts (unit_counts opened) (count_bytes rest)) ∙ ap (λ (l : List ℕ). l ++ count_bytes rest) (sym g);
      summed = omega (arith, more_is, ap sizes one);
      fits = λ two. absurd (omega (arith, two, ap (λ (l : List Pair). length l) one));
      within = within_next pairs at p picked d.within within;
    }

pub drafted-full : (pairs : List Pair) (first at size more : ℕ) (units counts new_units new_counts : List ℕ) (p : Pair) (first2 size2 : ℕ) → Drafted pairs first at size units counts → at < length pairs → p ≡ get_or pairs at p → more ≡ pair_size p → within_limits FIRST_LIMITS p
    → leb (head_size ((at - first) + 1) + size + more) UNIT ≡ false → first2 ≡ at → size2 ≡ more → new_units ≡ units ++ block (opened_of pairs first at) → new_counts ≡ counts ++ unit_counts (opened_of pairs first at) → Drafted pairs first2 (at + 1) size2 new_units new_counts
drafted-full pairs first at size more units counts new_units new_counts p first2 size2 d lt is more_is within e a b f g =
    drafted-same pairs at first2 (at + 1) more size2 new_units new_units new_counts new_counts (full_on pairs first at size more units counts new_units new_counts p d lt is more_is within e f g) a b refl refl

-- the last block was written
pub drafted-done : (pairs : List Pair) (first at size : ℕ) (units counts new_units new_counts : List ℕ) → Drafted pairs first at size units counts → at ≡ length pairs
    → new_units ≡ units ++ block (opened_of pairs first (length pairs)) → new_counts ≡ counts ++ unit_counts (opened_of pairs first (length pairs))
    → (new_units ≡ block_bytes (packed pairs)) × (new_counts ≡ count_bytes (packed pairs)) × AreWithin FIRST_LIMITS pairs
unfolding block_bytes count_bytes
drafted-done pairs first at size units counts new_units new_counts d end f g =
    let opened = opened_of pairs first at in
    let last : opened_of pairs first (length pairs) ≡ opened = ap (opened_of pairs first) (sym end) in
    let none : drop at pairs ≡ [] = drop_all at pairs (omega (arith, end)) in
    let cut : packed_after opened (drop at pairs) ≡ opened ∷ [] = ap (packed_after opened) none ∙ packed-end opened in (
      f ∙ ap (λ (l : List Pair). units ++ block l) last ∙ ap (λ (l : List ℕ). units ++ l) (sym (append-nil (block opened))) ∙ ap (λ (l : List (List Pair)). units ++ block_bytes l) (sym cut) ∙ sym d.written,
      g ∙ ap (λ (l : List Pair). counts ++ unit_counts l) last ∙ ap (λ (l : List ℕ). counts ++ l) (sym (append-nil (unit_counts opened))) ∙ ap (λ (l : List (List Pair)). counts ++ count_bytes l) (sym cut) ∙ sym d.counted,
      subst (AreWithin FIRST_LIMITS) (take_all at pairs (omega (arith, end))) d.within,
    )

-- ---- the end

-- the five fields of a footer, one after another
pub footer_added : (a b c d e f m v z u n : List ℕ) → b ≡ a ++ m → c ≡ b ++ v → d ≡ c ++ z → e ≡ d ++ u → f ≡ e ++ n → f ≡ a ++ (m ++ (v ++ (z ++ (u ++ n))))
footer_added a b c d e f m v z u n h1 h2 h3 h4 h5 =
    h5 ∙ ap (λ (l : List ℕ). l ++ n) (h4 ∙ ap (λ (l : List ℕ). l ++ u) (h3 ∙ ap (λ (l : List ℕ). l ++ z) (h2 ∙ ap (λ (l : List ℕ). l ++ v) h1)))
    ∙ append_assoc (((a ++ m) ++ v) ++ z) u n ∙ append_assoc ((a ++ m) ++ v) z (u ++ n) ∙ append_assoc (a ++ m) v (z ++ (u ++ n)) ∙ append_assoc a m (v ++ (z ++ (u ++ n)))

-- what a builder answers
record IsBuilt (run : List Pair) (bytes : List ℕ) : Type 0 where
  pub spelled : bytes ≡ table_of (packed run)
  pub table : IsTableOf FIRST_LIMITS (packed run) run bytes

built : (run pairs : List Pair) (units counts lent bytes : List ℕ) → 1 ≤ length run → pairs ≡ run → IsRun run → units ≡ block_bytes (packed pairs) → counts ≡ count_bytes (packed pairs) → AreWithin FIRST_LIMITS pairs → lent ≡ counts
    → bytes ≡ (units ++ lent) ++ footer (length units / UNIT) (length pairs) → length pairs < 2 ^ 32 → length bytes ≤ TABLE_MAX → IsBuilt run bytes
built run pairs units counts lent bytes some same rises units_are counts_are within lent_is spelled few len =
    let short : length units ≤ length bytes = omega (arith, ap (λ (l : List ℕ). length l) spelled, length-append (units ++ lent) (footer (length units / UNIT) (length pairs)), length-append units lent) in
    let table : IsTableOf FIRST_LIMITS (packed run) run bytes =
    packed_table run units lent bytes (length units / UNIT) (length pairs) some (subst (AreWithin FIRST_LIMITS) same within) rises (units_are ∙ ap (λ (l : List Pair). block_bytes (packed l)) same) (lent_is ∙ counts_are ∙ ap (λ (l : List Pair). count_bytes (packed l)) same)
    refl (ap (λ (l : List Pair). length l) same) (omega (arith, short, len)) few spelled in
    record { spelled = table.spelled; table = table }

pub built_bytes : (run pairs : List Pair) (units counts lent : List ℕ) (answer : Result (Vec ℕ) AllocError) → 1 ≤ length run → pairs ≡ run → IsRun run → units ≡ block_bytes (packed pairs) → counts ≡ count_bytes (packed pairs) → AreWithin FIRST_LIMITS pairs → lent ≡ counts
    → IfOk answer (λ bytes. bytes.items ≡ (units ++ lent) ++ footer (length units / UNIT) (length pairs)) → IfOk answer (λ bytes. length pairs < 2 ^ 32) → IfOk answer (λ bytes. length bytes.items ≤ TABLE_MAX) → IfOk answer (λ bytes. bytes.items ≡ table_of (packed run))
built_bytes run pairs units counts lent (Ok bytes) some same rises units_are counts_are within lent_is spelled few len = (built run pairs units counts lent bytes.items some same rises units_are counts_are within lent_is spelled few len).spelled
built_bytes run pairs units counts lent (Err error) some same rises units_are counts_are within lent_is spelled few len = tt

pub built_table : (run pairs : List Pair) (units counts lent : List ℕ) (answer : Result (Vec ℕ) AllocError) → 1 ≤ length run → pairs ≡ run → IsRun run → units ≡ block_bytes (packed pairs) → counts ≡ count_bytes (packed pairs) → AreWithin FIRST_LIMITS pairs → lent ≡ counts
    → IfOk answer (λ bytes. bytes.items ≡ (units ++ lent) ++ footer (length units / UNIT) (length pairs)) → IfOk answer (λ bytes. length pairs < 2 ^ 32) → IfOk answer (λ bytes. length bytes.items ≤ TABLE_MAX) → IfOk answer (λ bytes. IsTable FIRST_LIMITS run bytes.items)
built_table run pairs units counts lent (Ok bytes) some same rises units_are counts_are within lent_is spelled few len = (packed run, (built run pairs units counts lent bytes.items some same rises units_are counts_are within lent_is spelled few len).table)
built_table run pairs units counts lent (Err error) some same rises units_are counts_are within lent_is spelled few len = tt
