-- The pairs of a table begin where its counts and offsets tell it. To know: `table_held`, `key_there`.
use Rattle.std.proofs.Common.{◌≡◌, ℕ, zero, suc, ◌+◌, ◌-◌, ◌*◌, ◌/◌, ◌^◌, ◌<◌, ◌≤◌, cond, eqb, ltb, List, [], ◌∷◌, ◌++◌, length, take, drop, get_or, replicate, Result, Ok, Err, IsOk, refl, sym, ap, subst, ◌∙◌, append_assoc, arith}
use Rattle.std.specs.Int.{w16, to_be_bytes}
use Rattle.std.specs.List.{AllByRecursion}
use Rattle.std.proofs.lemmas.List.{drop_at, drop-drop, length-append, map-append}
use Rattle.rdb_base.specs.PairFields.{◌>>=◌, number_at, bytes_at, key_field_at, change_field_at, pair_at, pair_field}
use Rattle.rdb_base.specs.Bytes.{AreBytes}
use Rattle.rdb_base.specs.Runs.{pair_size, sizes}
use Rattle.rdb_base.specs.declared.change.Change.{Change}
use Rattle.rdb_base.specs.declared.pair.Pair.{Pair}
use Rattle.rdb_base.proofs.Lists.{all-append}
use Rattle.rdb_base.proofs.PairLemmas.{AreBytes-drop, number_again, wide16, pair_again, pair_taken, went_well, passed}
use Rattle.rdb_base.proofs.PairLemmas as pairs
use Rattle.block_code.specs.declared.format.TheConstants.{UNIT, FIRST_LIMITS}
use Rattle.block_code.specs.Blocks.{offsets_from, pair_fields, head_size, block_size, padding, block, IsBlock}
use Rattle.block_code.proofs.AgainLemmas.{HavePlaces, places-next as places_left, places_of as places_of_block, count_small, after_count, after_head}
use Rattle.block_code.proofs.CheckLemmas.{first_held}
use Rattle.table_file.specs.declared.format.TheConstants.{FOOTER_LEN, UNIT_AND_COUNT}
use Rattle.table_file.specs.Answers.{IsSomeTable}
use Rattle.table_file.specs.Held.{pair_there, pair_read, pairs_held, ArePlaces, places_in, places_of_units, places_of}
use Rattle.table_file.specs.Tables.{units_of, block_bytes, unit_counts, count_bytes, all_units, all_pairs, footer, table_of, AreWithin, IsTable}
use Rattle.table_file.proofs.PlaceLemmas.{places-next, places-end, units-next, units-end}
use Rattle.table_file.proofs.AgainLemmas.{block_units, counts_there, length-table_of}

abbrev good : {A : Type 0} → A → Result A ℕ
good x = Ok x

good_is : {A : Type 0} (x y : A) → good x ≡ good y → x ≡ y
good_is x y e = cc

abbrev starts_of : ℕ → List Pair → List ℕ
starts_of place [] = []
starts_of place (p ∷ ps) = place ∷ starts_of (place + pair_size p) ps

-- ---- one block

-- the offsets of a block tell where its pairs begin
starts_told : (b place : ℕ) (ps : List Pair) (more : List ℕ) → HavePlaces place ps → places_in b (length ps) (offsets_from place ps ++ more) ≡ starts_of (b + place) ps
unfolding offsets_from
starts_told b place [] more places = places-end b more
starts_told b place (p ∷ ps) more places =
    let rest = offsets_from (place + pair_size p) ps ++ more in
    let sum : b + (place + pair_size p) ≡ (b + place) + pair_size p = omega arith in
    ap (places_in b (suc (length ps))) (append_assoc (to_be_bytes w16 place) (offsets_from (place + pair_size p) ps) more)
    ∙ places-next b (length ps) (to_be_bytes w16 place ++ rest) (place, rest) (number_again w16 (2 ^ 16) wide16 place rest (places.first (omega arith)))
    ∙ ap (λ (l : List ℕ). (b + place) ∷ l) (starts_told b (place + pair_size p) ps more (places_left place p ps places) ∙ ap (λ (k : ℕ). starts_of k ps) sum)

-- these pairs begin at these places
record AreHeld_at (bytes starts : List ℕ) (ps : List Pair) : Type 0 where
  pub pairs : pairs_held bytes starts ≡ ps
  pub places : ArePlaces bytes starts

pairs_begin : (bytes : List ℕ) (s : ℕ) (ps : List Pair) (rest : List ℕ) → AreWithin FIRST_LIMITS ps → drop s bytes ≡ pair_fields ps ++ rest → AreHeld_at bytes (starts_of s ps) ps
unfolding pair_fields
pairs_begin bytes s [] rest within e = record { pairs = refl; places = tt }
pairs_begin bytes s (p ∷ ps) rest within e =
    let parts : drop s bytes ≡ pair_field p.key p.change ++ (pair_fields ps ++ rest) = e ∙ append_assoc (pair_field p.key p.change) (pair_fields ps) rest in
    let here : pair_there bytes s ≡ Ok ((p.key, p.change), pair_fields ps ++ rest) = ap (pair_at FIRST_LIMITS.key_max FIRST_LIMITS.value_max) parts ∙ pair_again FIRST_LIMITS.key_max FIRST_LIMITS.value_max p.key p.change (pair_fields ps ++ rest) first_held.key first_held.value within.0 in
    let next : drop (s + pair_size p) bytes ≡ pair_fields ps ++ rest = sym (drop-drop (pair_size p) s bytes) ∙ ap (drop (pair_size p)) parts ∙ drop_at (pair_field p.key p.change) (pair_fields ps ++ rest) (pair_size p) (pairs.pair_size p.key p.change) in
    let more = pairs_begin bytes (s + pair_size p) ps rest within.1 next in
    record {
      pairs = (λ i. pair_read (here i) ∷ more.pairs i);
      places = (subst IsOk (sym here) refl, more.places);
    }

held-append : (bytes xs ys : List ℕ) (ps qs : List Pair) → AreHeld_at bytes xs ps → AreHeld_at bytes ys qs → AreHeld_at bytes (xs ++ ys) (ps ++ qs)
held-append bytes xs ys ps qs h g = record {
  pairs = map-append (λ start. pair_read (pair_there bytes start)) xs ys ∙ (λ i. h.pairs i ++ g.pairs i);
  places = all-append (λ start. IsOk (pair_there bytes start)) xs ys h.places g.places;
}

-- the pairs of the block that begins at a place
block_held : (bytes : List ℕ) (b : ℕ) (ps : List Pair) (rest : List ℕ) → IsBlock FIRST_LIMITS ps → drop b bytes ≡ block ps ++ rest → AreHeld_at bytes (places_in b (length ps) (drop 2 (drop b bytes))) ps
block_held bytes b ps rest is e =
    let zeros = replicate (padding (block_size ps)) 0 ++ rest in
    let told : places_in b (length ps) (drop 2 (drop b bytes)) ≡ starts_of (b + head_size (length ps)) ps =
    ap (λ (l : List ℕ). places_in b (length ps) (drop 2 l)) e ∙ ap (places_in b (length ps)) (after_count ps rest) ∙ starts_told b (head_size (length ps)) ps (pair_fields ps ++ zeros) (places_of_block FIRST_LIMITS ps is) in
    let first : drop (b + head_size (length ps)) bytes ≡ pair_fields ps ++ zeros = sym (drop-drop (head_size (length ps)) b bytes) ∙ ap (drop (head_size (length ps))) e ∙ after_head ps rest in
    subst (λ (l : List ℕ). AreHeld_at bytes l ps) (sym told) (pairs_begin bytes (b + head_size (length ps)) ps zeros is.within first)

-- ---- all blocks

-- further units have no pairs
skipped : (m n place : ℕ) (bytes rest : List ℕ) → places_of_units (m + n) place (drop place bytes) (replicate (2 * m) 0 ++ rest) ≡ places_of_units n (place + UNIT * m) (drop (place + UNIT * m) bytes) rest
skipped zero n place bytes rest =
    let none : 0 + n ≡ n = omega arith in
    let same : place + UNIT * 0 ≡ place = omega arith in
    ap (λ (k : ℕ). places_of_units k place (drop place bytes) rest) none ∙ ap (λ (k : ℕ). places_of_units n k (drop k bytes) rest) (sym same)
skipped (suc m) n place bytes rest =
    let more : suc m + n ≡ suc (m + n) = omega arith in
    let two : 2 * suc m ≡ suc (suc (2 * m)) = omega arith in
    let far : (place + UNIT) + UNIT * m ≡ place + UNIT * suc m = omega arith in
    let zeros = replicate (2 * m) 0 ++ rest in
    (λ i. places_of_units (more i) place (drop place bytes) (replicate (two i) 0 ++ rest))
    ∙ units-next (m + n) place (drop place bytes) (to_be_bytes w16 0 ++ zeros) (0, zeros) (number_again w16 (2 ^ 16) wide16 0 zeros (omega arith))
    ∙ ap (λ (l : List ℕ). l ++ places_of_units (m + n) (place + UNIT) (drop UNIT (drop place bytes)) zeros) (places-end place (drop 2 (drop place bytes)))
    ∙ ap (λ (l : List ℕ). places_of_units (m + n) (place + UNIT) l zeros) (drop-drop UNIT place bytes)
    ∙ skipped m n (place + UNIT) bytes rest
    ∙ ap (λ (k : ℕ). places_of_units n k (drop k bytes) rest) far

blocks_held : (bytes : List ℕ) (b : ℕ) (blocks : List (List Pair)) (tail more : List ℕ) → AllByRecursion (IsBlock FIRST_LIMITS) blocks → drop b bytes ≡ block_bytes blocks ++ tail
    → AreHeld_at bytes (places_of_units (all_units blocks) b (drop b bytes) (count_bytes blocks ++ more)) (all_pairs blocks)
unfolding block_bytes count_bytes
blocks_held bytes b [] tail more each e = subst (λ (l : List ℕ). AreHeld_at bytes l []) (sym (units-end b (drop b bytes) more)) (record { pairs = refl; places = tt })
blocks_held bytes b (ps ∷ blocks) tail more each e =
    let here = block_units ps each.0.some in
    let m = units_of ps - 1 in
    let zeros = replicate (2 * m) 0 in
    let cs = count_bytes blocks ++ more in
    let n = m + all_units blocks in
    let parts : drop b bytes ≡ block ps ++ (block_bytes blocks ++ tail) = e ∙ append_assoc (block ps) (block_bytes blocks) tail in
    let many : all_units (ps ∷ blocks) ≡ suc n = omega (arith, here.1) in
    let counts : count_bytes (ps ∷ blocks) ++ more ≡ to_be_bytes w16 (length ps) ++ (zeros ++ cs) = append_assoc (unit_counts ps) (count_bytes blocks) more ∙ append_assoc (to_be_bytes w16 (length ps)) zeros cs in
    let far : (b + UNIT) + UNIT * m ≡ b + length (block ps) = omega (arith, here.0, here.1) in
    let told : places_of_units (all_units (ps ∷ blocks)) b (drop b bytes) (count_bytes (ps ∷ blocks) ++ more) ≡ places_in b (length ps) (drop 2 (drop b bytes)) ++ places_of_units (all_units blocks) (b + length (block ps)) (drop (b + length (block ps)) bytes) cs =
    (λ i. places_of_units (many i) b (drop b bytes) (counts i))
    ∙ units-next n b (drop b bytes) (to_be_bytes w16 (length ps) ++ (zeros ++ cs)) (length ps, zeros ++ cs) (number_again w16 (2 ^ 16) wide16 (length ps) (zeros ++ cs) (count_small FIRST_LIMITS ps each.0))
    ∙ ap (λ (l : List ℕ). places_in b (length ps) (drop 2 (drop b bytes)) ++ l)
    (ap (λ (l : List ℕ). places_of_units n (b + UNIT) l (zeros ++ cs)) (drop-drop UNIT b bytes) ∙ skipped m (all_units blocks) (b + UNIT) bytes cs ∙ ap (λ (k : ℕ). places_of_units (all_units blocks) k (drop k bytes) cs) far) in
    let after : drop (b + length (block ps)) bytes ≡ block_bytes blocks ++ tail = sym (drop-drop (length (block ps)) b bytes) ∙ ap (drop (length (block ps))) parts ∙ drop_at (block ps) (block_bytes blocks ++ tail) (length (block ps)) refl in
    subst (λ (l : List ℕ). AreHeld_at bytes l (ps ++ all_pairs blocks)) (sym told)
    (held-append bytes (places_in b (length ps) (drop 2 (drop b bytes))) (places_of_units (all_units blocks) (b + length (block ps)) (drop (b + length (block ps)) bytes) cs) ps (all_pairs blocks)
    (block_held bytes b ps (block_bytes blocks ++ tail) each.0 parts) (blocks_held bytes (b + length (block ps)) blocks tail more each.1 after))

-- ---- the whole

table_of_held : (blocks : List (List Pair)) → AllByRecursion (IsBlock FIRST_LIMITS) blocks → AreHeld_at (table_of blocks) (places_of (all_units blocks) (table_of blocks)) (all_pairs blocks)
unfolding table_of
table_of_held blocks each =
    let bytes = table_of blocks in
    let foot = footer (all_units blocks) (length (all_pairs blocks)) in
    subst (λ (l : List ℕ). AreHeld_at bytes (places_of_units (all_units blocks) 0 bytes l) (all_pairs blocks)) (sym (counts_there FIRST_LIMITS blocks each)) (blocks_held bytes 0 blocks (count_bytes blocks ++ foot) foot each refl)

-- so many units has a table of so many bytes
pub units_by_length : (n u : ℕ) → n ≡ UNIT_AND_COUNT * u + FOOTER_LEN → n / UNIT_AND_COUNT ≡ u
units_by_length n u e = omega (arith, e)

pub table_held : (bytes : List ℕ) (units : ℕ) → IsSomeTable bytes → units ≡ length bytes / UNIT_AND_COUNT → IsTable FIRST_LIMITS (pairs_held bytes (places_of units bytes)) bytes × ArePlaces bytes (places_of units bytes)
table_held bytes units is e =
    let run = is.0 in
    let cut = is.1.0 in
    let table = is.1.1 in
    let many : units ≡ all_units cut = e ∙ units_by_length (length bytes) (all_units cut) (ap (λ (l : List ℕ). length l) table.spelled ∙ length-table_of FIRST_LIMITS cut table.each) in
    let held : AreHeld_at bytes (places_of units bytes) (all_pairs cut) = subst (λ (k : ℕ). AreHeld_at bytes (places_of k bytes) (all_pairs cut)) (sym many) (subst (λ (l : List ℕ). AreHeld_at l (places_of (all_units cut) l) (all_pairs cut)) (sym table.spelled) (table_of_held cut table.each)) in
    (subst (λ (ps : List Pair). IsTable FIRST_LIMITS ps bytes) (sym (held.pairs ∙ table.all)) is.1, held.places)

-- ---- the key of a pair

pub record KeyThere (bytes : List ℕ) (start : ℕ) : Type 0 where
  pub len : ℕ
  pub rest : List ℕ
  pub more : List ℕ
  pub number : number_at w16 (drop start bytes) ≡ Ok (len, rest)
  pub key : bytes_at len rest ≡ Ok ((pair_read (pair_there bytes start)).key, more)

pub key_there : (bytes : List ℕ) (start : ℕ) → IsOk (pair_there bytes start) → KeyThere bytes start
unfolding pair_at key_field_at
key_there bytes start is = by_read (pair_there bytes start) refl is
  where
    by_read : (r : Result ((List ℕ × Change) × List ℕ) ℕ) → pair_there bytes start ≡ r → IsOk r → KeyThere bytes start
    by_read (Ok x) there h =
        let field = drop start bytes in
        let a = went_well (key_field_at FIRST_LIMITS.key_max field) (λ key. change_field_at FIRST_LIMITS.value_max key.1 >>= λ change. good ((key.0, change.0), change.1)) x there in
        let b = went_well (change_field_at FIRST_LIMITS.value_max a.0.1) (λ change. good ((a.0.0, change.0), change.1)) x a.2 in
        let n = went_well (number_at w16 field) (λ k. cond (eqb k.0 0) (Err (length field)) (cond (ltb FIRST_LIMITS.key_max k.0) (Err (length field)) (bytes_at k.0 k.1))) a.0 a.1 in
        let p = passed (eqb n.0.0 0) (length field) (cond (ltb FIRST_LIMITS.key_max n.0.0) (Err (length field)) (bytes_at n.0.0 n.0.1)) a.0 n.2 in
        let q = passed (ltb FIRST_LIMITS.key_max n.0.0) (length field) (bytes_at n.0.0 n.0.1) a.0 p.1 in
        let key : a.0.0 ≡ (pair_read (pair_there bytes start)).key = ap (λ (y : (List ℕ × Change) × List ℕ). y.0.0) (good_is ((a.0.0, b.0.0), b.0.1) x b.2) ∙ ap (λ (s : Result ((List ℕ × Change) × List ℕ) ℕ). (pair_read s).key) (sym there) in
        record { len = n.0.0; rest = n.0.1; more = a.0.1; number = n.1; key = q.1 ∙ ap (λ (l : List ℕ). good (l, a.0.1)) key }
    by_read (Err left) there h = absurd cc

-- ---- sizes

-- what is there was read
pub ok_of : {X : Type 0} (r : Result X ℕ) → IsOk r → (x : X) × (r ≡ Ok x)
ok_of (Ok x) h = (x, refl)
ok_of (Err left) h = absurd cc

-- how many bytes a pair takes
pub size_there : (bytes : List ℕ) (start : ℕ) (x : (List ℕ × Change) × List ℕ) → AreBytes bytes → pair_there bytes start ≡ Ok x
    → (length (drop start bytes) - length x.1 ≡ pair_size (pair_read (pair_there bytes start))) × (length x.1 ≤ length (drop start bytes))
size_there bytes start x fits e =
    let taken = pair_taken FIRST_LIMITS.key_max FIRST_LIMITS.value_max x.0.0 x.0.1 (drop start bytes) x.1 (AreBytes-drop start bytes fits) e in
    let long : length (drop start bytes) ≡ pair_size (pair_read (pair_there bytes start)) + length x.1 =
    ap (λ (l : List ℕ). length l) taken.0 ∙ length-append (pair_field x.0.0 x.0.1) x.1 ∙ ap (λ (k : ℕ). k + length x.1) (pairs.pair_size x.0.0 x.0.1) ∙ ap (λ (r : Result ((List ℕ × Change) × List ℕ) ℕ). pair_size (pair_read r) + length x.1) (sym e) in
    (omega (arith, long), omega (arith, long))

-- the sizes of one pair more
pub sizes-next : (bytes starts : List ℕ) (n s : ℕ) → n < length starts → s ≡ get_or starts n s → sizes (pairs_held bytes (take (n + 1) starts)) ≡ sizes (pairs_held bytes (take n starts)) + pair_size (pair_read (pair_there bytes s))
sizes-next bytes starts n s lt e = ap (λ (m : ℕ). sizes (pairs_held bytes (take m starts))) (one_more n) ∙ by_suc starts n lt e
  where
    one_more : (m : ℕ) → m + 1 ≡ suc m
    one_more m = omega arith

    by_suc : (ys : List ℕ) (m : ℕ) → m < length ys → s ≡ get_or ys m s → sizes (pairs_held bytes (take (suc m) ys)) ≡ sizes (pairs_held bytes (take m ys)) + pair_size (pair_read (pair_there bytes s))
    by_suc [] m l h = absurd (omega arith)
    by_suc (y ∷ ys) zero l h = omega (arith, ap (λ (k : ℕ). pair_size (pair_read (pair_there bytes k))) h)
    by_suc (y ∷ ys) (suc m) l h = let rest = by_suc ys m (omega (arith, l)) h in omega (arith, rest)
