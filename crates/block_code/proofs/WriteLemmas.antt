-- How a block is written, part by part. To know: `offsets_go_on`, `fields_go_on`, `block_written`.
use Rattle.std.proofs.Common.{◌≡◌, ℕ, ◌+◌, ◌-◌, cond, Result, Ok, List, [], ◌∷◌, ◌++◌, length, take, replicate, sym, ap, ◌∙◌, append_assoc, arith}
use Rattle.std.specs.Result.{is_ok}
use Rattle.std.specs.Int.{w16, to_be_bytes}
use Rattle.std.proofs.lemmas.List.{append-nil, length-append, take_all}
use Rattle.rdb_base.specs.Runs.{pair_size, sizes}
use Rattle.rdb_base.specs.PairFields.{pair_field}
use Rattle.rdb_base.specs.declared.pair.Pair.{Pair}
use Rattle.rdb_base.proofs.PairLemmas as pairs
use Rattle.block_code.specs.Blocks.{offsets_from, pair_fields, head_size, block_size, padding, block}
use Rattle.block_code.proofs.AgainLemmas.{length-block}

-- one offset more is there, and one fewer is left
pub offsets_go_on : (old new : List ℕ) (place size : ℕ) (p : Pair) (rest more : List Pair) (whole : List ℕ) → rest ≡ p ∷ more → new ≡ old ++ to_be_bytes w16 place → size ≡ pair_size p → old ++ offsets_from place rest ≡ whole → new ++ offsets_from (place + size) more ≡ whole
unfolding offsets_from
offsets_go_on old new place size p rest more whole e f s so_far =
    (λ i. f i ++ offsets_from (place + s i) more) ∙ append_assoc old (to_be_bytes w16 place) (offsets_from (place + pair_size p) more) ∙ ap (λ (l : List Pair). old ++ offsets_from place l) (sym e) ∙ so_far

pub offsets_done : (old : List ℕ) (place : ℕ) (rest : List Pair) (whole : List ℕ) → rest ≡ [] → old ++ offsets_from place rest ≡ whole → old ≡ whole
unfolding offsets_from
offsets_done old place rest whole e so_far = sym (append-nil old) ∙ ap (λ (l : List Pair). old ++ offsets_from place l) (sym e) ∙ so_far

-- one pair more is there, and one fewer is left
pub fields_go_on : (old new : List ℕ) (p : Pair) (rest more : List Pair) (whole : List ℕ) → rest ≡ p ∷ more → new ≡ old ++ pair_field p.key p.change → old ++ pair_fields rest ≡ whole → new ++ pair_fields more ≡ whole
unfolding pair_fields
fields_go_on old new p rest more whole e f so_far =
    ap (λ (l : List ℕ). l ++ pair_fields more) f ∙ append_assoc old (pair_field p.key p.change) (pair_fields more) ∙ ap (λ (l : List Pair). old ++ pair_fields l) (sym e) ∙ so_far

pub fields_done : (old : List ℕ) (rest : List Pair) (whole : List ℕ) → rest ≡ [] → old ++ pair_fields rest ≡ whole → old ≡ whole
unfolding pair_fields
fields_done old rest whole e so_far = sym (append-nil old) ∙ ap (λ (l : List Pair). old ++ pair_fields l) (sym e) ∙ so_far

-- so much longer
pub number_longer : (old new : List ℕ) (place : ℕ) → new ≡ old ++ to_be_bytes w16 place → length new ≡ length old + 2
number_longer old new place e = ap (λ (l : List ℕ). length l) e ∙ length-append old (to_be_bytes w16 place)

pub pair_longer : (old new : List ℕ) (p : Pair) → new ≡ old ++ pair_field p.key p.change → length new ≡ length old + pair_size p
pair_longer old new p e = ap (λ (l : List ℕ). length l) e ∙ length-append old (pair_field p.key p.change) ∙ ap (λ (k : ℕ). length old + k) (pairs.pair_size p.key p.change)

-- how long a block is, as it is counted before it is written
pub block_long : (ps : List Pair) (first sum fill : ℕ) → first ≡ head_size (length ps) → sum ≡ sizes ps → fill ≡ padding (first + sum) → length (block ps) ≡ (first + sum) + fill
block_long ps first sum fill first_is sum_is fill_is =
    length-block ps ∙ (λ i. (sym first_is i + sym sum_is i) + padding (sym first_is i + sym sum_is i)) ∙ ap (λ (k : ℕ). (first + sum) + k) (sym fill_is)

-- the four parts of a block after what was there
pub block_written : (old a b c d : List ℕ) (ps : List Pair) (first size fill : ℕ) → first ≡ head_size (length ps) → size ≡ block_size ps → fill ≡ padding size
    → a ≡ old ++ to_be_bytes w16 (length ps) → b ≡ a ++ offsets_from first ps → c ≡ b ++ pair_fields ps → d ≡ c ++ replicate fill 0 → d ≡ old ++ block ps
unfolding block
block_written old a b c d ps first size fill first_is size_is fill_is e f g h =
    h ∙ ap (λ (l : List ℕ). l ++ replicate fill 0) (g ∙ ap (λ (l : List ℕ). l ++ pair_fields ps) (f ∙ ap (λ (l : List ℕ). l ++ offsets_from first ps) e))
    ∙ (λ i. (((old ++ to_be_bytes w16 (length ps)) ++ offsets_from (first_is i) ps) ++ pair_fields ps) ++ replicate ((fill_is ∙ ap padding size_is) i) 0)
    ∙ append_assoc ((old ++ to_be_bytes w16 (length ps)) ++ offsets_from (head_size (length ps)) ps) (pair_fields ps) (replicate (padding (block_size ps)) 0)
    ∙ append_assoc (old ++ to_be_bytes w16 (length ps)) (offsets_from (head_size (length ps)) ps) (pair_fields ps ++ replicate (padding (block_size ps)) 0)
    ∙ append_assoc old (to_be_bytes w16 (length ps)) (offsets_from (head_size (length ps)) ps ++ (pair_fields ps ++ replicate (padding (block_size ps)) 0))

-- a list made longer by bytes 00
pub zeros_added : {T E : Type 0} (old new : List ℕ) (len now count : ℕ) (r : Result T E) (x : T) → len ≡ now → now ≡ length old → r ≡ Ok x → new ≡ cond (is_ok r) (take (len + count) old ++ replicate ((len + count) - now) 0) old → new ≡ old ++ replicate count 0
zeros_added {T = T} {E = E} old new len now count r x len_is now_is done e =
    let all : take (len + count) old ≡ old = take_all (len + count) old (omega (arith, len_is, now_is)) in
    let left : (len + count) - now ≡ count = omega (arith, len_is) in
    e ∙ ap (λ (s : Result T E). cond (is_ok s) (take (len + count) old ++ replicate ((len + count) - now) 0) old) done
    ∙ (λ i. all i ++ replicate (left i) 0)
