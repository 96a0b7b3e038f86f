-- The counts of a table tell where its blocks lie. To know: `blocks_answer`.
use Rattle.std.proofs.Common.{◌≡◌, ℕ, zero, suc, ◌+◌, ◌-◌, ◌*◌, ◌/◌, ◌^◌, cond, eqb, List, [], ◌∷◌, ◌++◌, length, drop, replicate, Result, Ok, Err, refl, sym, ap, ◌∙◌, append_assoc, arith}
use Rattle.std.specs.Int.{w16, to_be_bytes}
use Rattle.std.specs.Prelude.{IfOk}
use Rattle.std.specs.Global.{Vec}
use Rattle.std.specs.declared.alloc.AllocError.{AllocError}
use Rattle.std.specs.List.{AllByRecursion}
use Rattle.std.proofs.lemmas.Bool.{ne_eqb, eq-eqb, cond-false, cond-true}
use Rattle.std.proofs.lemmas.List.{append-nil}
use Rattle.rdb_base.specs.PairFields.{number_at}
use Rattle.rdb_base.specs.declared.pair.Pair.{Pair}
use Rattle.rdb_base.proofs.PairLemmas.{number_again, wide16}
use Rattle.block_code.specs.declared.format.TheConstants.{UNIT, FIRST_LIMITS}
use Rattle.block_code.specs.Blocks.{block, IsBlock}
use Rattle.block_code.specs.Reading.{if_whole}
use Rattle.block_code.proofs.AgainLemmas.{count_small}
use Rattle.table_file.specs.declared.block_place.BlockPlace.{BlockPlace}
use Rattle.table_file.specs.declared.format.TheConstants.{UNIT_AND_COUNT}
use Rattle.table_file.specs.BlockPlaces.{block_places, some_block, further_units, blocks_told, HasBlocks}
use Rattle.table_file.specs.Tables.{units_of, unit_counts, count_bytes, all_units, all_pairs, footer, IsTable}
use Rattle.table_file.proofs.AgainLemmas.{block_units, counts_there}
use Rattle.table_file.proofs.HeldLemmas.{units_by_length}
use Rattle.table_file.proofs.AgainLemmas.{length-table_of}

-- ---- one unit after another

pub further-next : (n : ℕ) (counts : List ℕ) (one : ℕ × List ℕ) → number_at w16 counts ≡ Ok one → one.0 ≡ 0 → further_units (suc n) counts ≡ 1 + further_units n one.1
unfolding further_units
further-next n counts one e none =
    ap (λ (r : Result (ℕ × List ℕ) ℕ). if_whole r (λ x. cond (eqb x.0 0) (1 + further_units n x.1) 0) 0) e
    ∙ cond-true (eqb one.0 0) (1 + further_units n one.1) 0 (eq-eqb one.0 0 none)

pub further-stop : (n : ℕ) (counts : List ℕ) (one : ℕ × List ℕ) → number_at w16 counts ≡ Ok one → (one.0 ≡ 0 → ⊥) → further_units (suc n) counts ≡ 0
unfolding further_units
further-stop n counts one e some =
    ap (λ (r : Result (ℕ × List ℕ) ℕ). if_whole r (λ x. cond (eqb x.0 0) (1 + further_units n x.1) 0) 0) e
    ∙ cond-false (eqb one.0 0) (1 + further_units n one.1) 0 (ne_eqb one.0 0 some)

pub further-cut : (n : ℕ) (counts : List ℕ) (left : ℕ) → number_at w16 counts ≡ Err left → further_units (suc n) counts ≡ 0
unfolding further_units
further-cut n counts left e = ap (λ (r : Result (ℕ × List ℕ) ℕ). if_whole r (λ x. cond (eqb x.0 0) (1 + further_units n x.1) 0) 0) e

pub further-end : (counts : List ℕ) → further_units 0 counts ≡ 0
unfolding further_units
further-end counts = refl

-- the block that begins in a unit
abbrev pub here : ℕ → ℕ → ℕ × List ℕ → BlockPlace
here n place one = record { place = place; count = one.0; len = UNIT * (1 + further_units n one.1) }

pub told-next : (n place : ℕ) (counts : List ℕ) (one : ℕ × List ℕ) → number_at w16 counts ≡ Ok one → blocks_told (suc n) place counts ≡ some_block (here n place one) ++ blocks_told n (place + UNIT) one.1
unfolding blocks_told
told-next n place counts one e = ap (λ (r : Result (ℕ × List ℕ) ℕ). if_whole r (λ x. some_block (here n place x) ++ blocks_told n (place + UNIT) x.1) []) e

pub told-cut : (n place : ℕ) (counts : List ℕ) (left : ℕ) → number_at w16 counts ≡ Err left → blocks_told (suc n) place counts ≡ []
unfolding blocks_told
told-cut n place counts left e = ap (λ (r : Result (ℕ × List ℕ) ℕ). if_whole r (λ x. some_block (here n place x) ++ blocks_told n (place + UNIT) x.1) []) e

pub told-end : (place : ℕ) (counts : List ℕ) → blocks_told 0 place counts ≡ []
unfolding blocks_told
told-end place counts = refl

-- a unit without a count has no block, and one with a count has one
no_block : (n place : ℕ) (rest : List ℕ) → some_block (here n place (0, rest)) ≡ []
no_block n place rest = refl

one_block : (n place : ℕ) (one : ℕ × List ℕ) → (one.0 ≡ 0 → ⊥) → some_block (here n place one) ≡ here n place one ∷ []
one_block n place one some = cond-false (eqb one.0 0) [] (here n place one ∷ []) (ne_eqb one.0 0 some)

-- ---- a loop over units

pub further_goes_on : (whole done n : ℕ) (counts : List ℕ) (one : ℕ × List ℕ) → whole ≡ done + further_units (suc n) counts → number_at w16 counts ≡ Ok one → one.0 ≡ 0 → whole ≡ (done + 1) + further_units n one.1
further_goes_on whole done n counts one so_far e none = let next = further-next n counts one e none in omega (arith, so_far, next)

pub further_stops : (whole done n : ℕ) (counts : List ℕ) (one : ℕ × List ℕ) → whole ≡ done + further_units (suc n) counts → number_at w16 counts ≡ Ok one → (one.0 ≡ 0 → ⊥) → done ≡ whole
further_stops whole done n counts one so_far e some = let stop = further-stop n counts one e some in omega (arith, so_far, stop)

pub further_ends : (whole done n : ℕ) (counts : List ℕ) (left : ℕ) → whole ≡ done + further_units (suc n) counts → number_at w16 counts ≡ Err left → done ≡ whole
further_ends whole done n counts left so_far e = let stop = further-cut n counts left e in omega (arith, so_far, stop)

pub further_done : (whole done : ℕ) (counts : List ℕ) → whole ≡ done + further_units 0 counts → done ≡ whole
further_done whole done counts so_far = let end = further-end counts in omega (arith, so_far, end)

pub told_goes_on : (old new whole : List BlockPlace) (n place next : ℕ) (counts : List ℕ) (one : ℕ × List ℕ) (found : BlockPlace) → whole ≡ old ++ blocks_told (suc n) place counts → number_at w16 counts ≡ Ok one → next ≡ place + UNIT
    → found ≡ here n place one → new ≡ old ++ some_block found → whole ≡ new ++ blocks_told n next one.1
told_goes_on old new whole n place next counts one found so_far e far is added =
    so_far ∙ ap (λ (l : List BlockPlace). old ++ l) (told-next n place counts one e)
    ∙ (λ i. old ++ (some_block (sym is i) ++ blocks_told n (sym far i) one.1))
    ∙ sym (append_assoc old (some_block found) (blocks_told n next one.1))
    ∙ ap (λ (l : List BlockPlace). l ++ blocks_told n next one.1) (sym added)

pub told_stops : (old whole : List BlockPlace) (n place : ℕ) (counts : List ℕ) (left : ℕ) → whole ≡ old ++ blocks_told (suc n) place counts → number_at w16 counts ≡ Err left → old ≡ whole
told_stops old whole n place counts left so_far e = sym (so_far ∙ ap (λ (l : List BlockPlace). old ++ l) (told-cut n place counts left e) ∙ append-nil old)

pub told_done : (old whole : List BlockPlace) (place : ℕ) (counts : List ℕ) → whole ≡ old ++ blocks_told 0 place counts → old ≡ whole
told_done old whole place counts so_far = sym (so_far ∙ ap (λ (l : List BlockPlace). old ++ l) (told-end place counts) ∙ append-nil old)

-- ---- the blocks of a table

two_zeros : (m : ℕ) (rest : List ℕ) → replicate (2 * suc m) 0 ++ rest ≡ to_be_bytes w16 0 ++ (replicate (2 * m) 0 ++ rest)
two_zeros m rest = let two : 2 * suc m ≡ suc (suc (2 * m)) = omega arith in ap (λ (k : ℕ). replicate k 0 ++ rest) two

zero_read : (m : ℕ) (rest : List ℕ) → number_at w16 (replicate (2 * suc m) 0 ++ rest) ≡ Ok (0, replicate (2 * m) 0 ++ rest)
zero_read m rest = ap (number_at w16) (two_zeros m rest) ∙ number_again w16 (2 ^ 16) wide16 0 (replicate (2 * m) 0 ++ rest) (omega arith)

-- so many units without a count, and then one that has one, or none
further_zeros : (m n : ℕ) (rest : List ℕ) → further_units n rest ≡ 0 → further_units (m + n) (replicate (2 * m) 0 ++ rest) ≡ m
further_zeros zero n rest stop = let none : 0 + n ≡ n = omega arith in ap (λ (k : ℕ). further_units k rest) none ∙ stop
further_zeros (suc m) n rest stop =
    let more : suc m + n ≡ suc (m + n) = omega arith in
    let one : 1 + m ≡ suc m = omega arith in
    ap (λ (k : ℕ). further_units k (replicate (2 * suc m) 0 ++ rest)) more
    ∙ further-next (m + n) (replicate (2 * suc m) 0 ++ rest) (0, replicate (2 * m) 0 ++ rest) (zero_read m rest) refl
    ∙ ap (λ (k : ℕ). 1 + k) (further_zeros m n rest stop) ∙ one

told_zeros : (m n place : ℕ) (rest : List ℕ) → blocks_told (m + n) place (replicate (2 * m) 0 ++ rest) ≡ blocks_told n (place + UNIT * m) rest
told_zeros zero n place rest =
    let none : 0 + n ≡ n = omega arith in
    let same : place ≡ place + UNIT * 0 = omega arith in
    (λ i. blocks_told (none i) (same i) rest)
told_zeros (suc m) n place rest =
    let more : suc m + n ≡ suc (m + n) = omega arith in
    let far : (place + UNIT) + UNIT * m ≡ place + UNIT * suc m = omega arith in
    ap (λ (k : ℕ). blocks_told k place (replicate (2 * suc m) 0 ++ rest)) more
    ∙ told-next (m + n) place (replicate (2 * suc m) 0 ++ rest) (0, replicate (2 * m) 0 ++ rest) (zero_read m rest)
    ∙ ap (λ (l : List BlockPlace). l ++ blocks_told (m + n) (place + UNIT) (replicate (2 * m) 0 ++ rest)) (no_block (m + n) place (replicate (2 * m) 0 ++ rest))
    ∙ told_zeros m n (place + UNIT) rest ∙ ap (λ (k : ℕ). blocks_told n k rest) far

-- the next block begins with a count that is not 0
further_blocks : (blocks : List (List Pair)) (more : List ℕ) → AllByRecursion (IsBlock FIRST_LIMITS) blocks → further_units (all_units blocks) (count_bytes blocks ++ more) ≡ 0
unfolding count_bytes
further_blocks [] more each = further-end more
further_blocks (ps ∷ blocks) more each =
    let unit = block_units ps each.0.some in
    let m = units_of ps - 1 in
    let zeros = replicate (2 * m) 0 in
    let cs = count_bytes blocks ++ more in
    let many : all_units (ps ∷ blocks) ≡ suc (m + all_units blocks) = omega (arith, unit.1) in
    let counts : count_bytes (ps ∷ blocks) ++ more ≡ to_be_bytes w16 (length ps) ++ (zeros ++ cs) = append_assoc (unit_counts ps) (count_bytes blocks) more ∙ append_assoc (to_be_bytes w16 (length ps)) zeros cs in
    (λ i. further_units (many i) (counts i))
    ∙ further-stop (m + all_units blocks) (to_be_bytes w16 (length ps) ++ (zeros ++ cs)) (length ps, zeros ++ cs) (number_again w16 (2 ^ 16) wide16 (length ps) (zeros ++ cs) (count_small FIRST_LIMITS ps each.0)) (λ none. absurd (omega (arith, none, each.0.some)))

blocks_are : (place : ℕ) (blocks : List (List Pair)) (more : List ℕ) → AllByRecursion (IsBlock FIRST_LIMITS) blocks → blocks_told (all_units blocks) place (count_bytes blocks ++ more) ≡ block_places place blocks
unfolding count_bytes
blocks_are place [] more each = told-end place more
blocks_are place (ps ∷ blocks) more each =
    let unit = block_units ps each.0.some in
    let m = units_of ps - 1 in
    let n = m + all_units blocks in
    let zeros = replicate (2 * m) 0 in
    let cs = count_bytes blocks ++ more in
    let many : all_units (ps ∷ blocks) ≡ suc n = omega (arith, unit.1) in
    let counts : count_bytes (ps ∷ blocks) ++ more ≡ to_be_bytes w16 (length ps) ++ (zeros ++ cs) = append_assoc (unit_counts ps) (count_bytes blocks) more ∙ append_assoc (to_be_bytes w16 (length ps)) zeros cs in
    let long : UNIT * (1 + further_units n (zeros ++ cs)) ≡ length (block ps) = ap (λ (k : ℕ). UNIT * (1 + k)) (further_zeros m (all_units blocks) cs (further_blocks blocks more each.1)) ∙ omega (arith, unit.0, unit.1) in
    let far : (place + UNIT) + UNIT * m ≡ place + length (block ps) = omega (arith, unit.0, unit.1) in
    (λ i. blocks_told (many i) place (counts i))
    ∙ told-next n place (to_be_bytes w16 (length ps) ++ (zeros ++ cs)) (length ps, zeros ++ cs) (number_again w16 (2 ^ 16) wide16 (length ps) (zeros ++ cs) (count_small FIRST_LIMITS ps each.0))
    ∙ ap (λ (l : List BlockPlace). l ++ blocks_told n (place + UNIT) (zeros ++ cs)) (one_block n place (length ps, zeros ++ cs) (λ none. absurd (omega (arith, none, each.0.some))))
    ∙ (λ i. record { place = place; count = length ps; len = long i } ∷ (told_zeros m (all_units blocks) (place + UNIT) cs ∙ ap (λ (k : ℕ). blocks_told (all_units blocks) k cs) far ∙ blocks_are (place + length (block ps)) blocks more each.1) i)

blocks_there : (run : List Pair) (bytes : List ℕ) (found : List BlockPlace) (units : ℕ) (counts : List ℕ) → IsTable FIRST_LIMITS run bytes → units ≡ length bytes / UNIT_AND_COUNT → counts ≡ drop (UNIT * units) bytes
    → found ≡ blocks_told units 0 counts → HasBlocks run bytes found
blocks_there run bytes found units counts is e f g =
    let cut = is.0 in
    let many : units ≡ all_units cut = e ∙ units_by_length (length bytes) (all_units cut) (ap (λ (l : List ℕ). length l) is.1.spelled ∙ length-table_of FIRST_LIMITS cut is.1.each) in
    let foot = footer (all_units cut) (length (all_pairs cut)) in
    let tail : counts ≡ count_bytes cut ++ foot = f ∙ (λ i. drop (UNIT * many i) (is.1.spelled i)) ∙ counts_there FIRST_LIMITS cut is.1.each in
    (cut, is.1, g ∙ (λ i. blocks_told (many i) 0 (tail i)) ∙ blocks_are 0 cut foot is.1.each)

-- the same of an answer
pub blocks_answer : (run : List Pair) (bytes : List ℕ) (answer : Result (Vec BlockPlace) AllocError) (units : ℕ) (counts : List ℕ) → IsTable FIRST_LIMITS run bytes → units ≡ length bytes / UNIT_AND_COUNT → counts ≡ drop (UNIT * units) bytes
    → IfOk answer (λ found. found.items ≡ blocks_told units 0 counts) → IfOk answer (λ found. HasBlocks run bytes found.items)
blocks_answer run bytes (Ok found) units counts is e f g = blocks_there run bytes found.items units counts is e f g
blocks_answer run bytes (Err error) units counts is e f g = tt
