-- A pair of a block is read where its offset says. To know: `find_pair`.
use Rattle.std.proofs.Common.{◌≡◌, ℕ, zero, suc, ◌+◌, ◌*◌, ◌^◌, ◌<◌, List, [], ◌∷◌, ◌++◌, length, take, drop, replicate, Result, Ok, refl, sym, ap, ◌∙◌, append_assoc, arith}
use Rattle.std.specs.Prelude.{Some, slice_get}
use Rattle.std.specs.Int.{w16, to_be_bytes}
use Rattle.std.proofs.lemmas.List.{drop-drop, append-nil}
use Rattle.std.proofs.Math.Seq.{drop-append-add}
use Rattle.rdb_base.specs.Bytes.{AreBytes}
use Rattle.rdb_base.specs.Runs.{pair_size, sizes}
use Rattle.rdb_base.specs.PairFields.{number_at, pair_at, pair_field}
use Rattle.rdb_base.specs.declared.pair.Pair.{Pair}
use Rattle.rdb_base.specs.declared.pair_field.PairLimits.{PairLimits}
use Rattle.rdb_base.proofs.PairLemmas.{number_again, wide16, pair_again}
use Rattle.rdb_base.proofs.PairLemmas as pairs
use Rattle.block_code.specs.declared.format.TheConstants.{FIRST_LIMITS}
use Rattle.block_code.specs.Blocks.{offsets_from, pair_fields, head_size, block_size, padding, block, IsBlock}
use Rattle.block_code.specs.Laws.{AreHeld}
use Rattle.block_code.specs.Reading.{pairs_of}
use Rattle.block_code.proofs.AgainLemmas.{AreWithin, HavePlaces, places-next, places_of, after_count, after_head}
use Rattle.block_code.proofs.CheckLemmas.{first_held, pairs_there}

abbrev good : {A : Type 0} → A → Result A ℕ
good x = Ok x

-- where the pair at an index begins
abbrev pub start_of : List Pair → ℕ → ℕ
start_of ps i = head_size (length ps) + sizes (take i ps)

-- the number at an index of offsets
offset_in : (place : ℕ) (ps : List Pair) (i : ℕ) (more : List ℕ) → i < length ps → HavePlaces place ps → (rest : List ℕ) × (number_at w16 (drop (2 * i) (offsets_from place ps ++ more)) ≡ Ok (place + sizes (take i ps), rest))
unfolding offsets_from
offset_in place [] i more lt places = absurd (omega arith)
offset_in place (p ∷ ps) zero more lt places =
    let rest = offsets_from (place + pair_size p) ps ++ more in
    let none : place ≡ place + sizes (take 0 (p ∷ ps)) = omega arith in
    (rest, ap (number_at w16) (append_assoc (to_be_bytes w16 place) (offsets_from (place + pair_size p) ps) more) ∙ number_again w16 (2 ^ 16) wide16 place rest (places.first (omega arith)) ∙ ap (λ (k : ℕ). good (k, rest)) none)
offset_in place (p ∷ ps) (suc i) more lt places =
    let found = offset_in (place + pair_size p) ps i more (omega arith) (places-next place p ps places) in
    let two : 2 * suc i ≡ 2 + 2 * i = omega arith in
    let past : drop (2 * suc i) (offsets_from place (p ∷ ps) ++ more) ≡ drop (2 * i) (offsets_from (place + pair_size p) ps ++ more) =
    ap (λ (k : ℕ). drop k (offsets_from place (p ∷ ps) ++ more)) two
    ∙ ap (drop (2 + 2 * i)) (append_assoc (to_be_bytes w16 place) (offsets_from (place + pair_size p) ps) more)
    ∙ drop-append-add (to_be_bytes w16 place) (offsets_from (place + pair_size p) ps ++ more) (2 * i) in
    let sum : (place + pair_size p) + sizes (take i ps) ≡ place + sizes (take (suc i) (p ∷ ps)) = omega arith in
    (found.0, ap (number_at w16) past ∙ found.1 ∙ ap (λ (k : ℕ). good (k, found.0)) sum)

-- the pair at an index of fields
field_in : (limits : PairLimits) (ps : List Pair) (i : ℕ) (more : List ℕ) → AreHeld limits → AreWithin limits ps → i < length ps
    → (p : Pair) × (rest : List ℕ) × (slice_get ps i ≡ Some p) × (pair_at limits.key_max limits.value_max (drop (sizes (take i ps)) (pair_fields ps ++ more)) ≡ Ok ((p.key, p.change), rest))
unfolding pair_fields
field_in limits [] i more held within lt = absurd (omega arith)
field_in limits (p ∷ ps) zero more held within lt =
    (p, pair_fields ps ++ more, refl, ap (pair_at limits.key_max limits.value_max) (append_assoc (pair_field p.key p.change) (pair_fields ps) more) ∙ pair_again limits.key_max limits.value_max p.key p.change (pair_fields ps ++ more) held.key held.value within.0)
field_in limits (p ∷ ps) (suc i) more held within lt =
    let found = field_in limits ps i more held within.1 (omega arith) in
    let past : drop (sizes (take (suc i) (p ∷ ps))) (pair_fields (p ∷ ps) ++ more) ≡ drop (sizes (take i ps)) (pair_fields ps ++ more) =
    ap (λ (k : ℕ). drop (k + sizes (take i ps)) (pair_fields (p ∷ ps) ++ more)) (sym (pairs.pair_size p.key p.change))
    ∙ ap (drop (length (pair_field p.key p.change) + sizes (take i ps))) (append_assoc (pair_field p.key p.change) (pair_fields ps) more)
    ∙ drop-append-add (pair_field p.key p.change) (pair_fields ps ++ more) (sizes (take i ps)) in
    (found.0, found.1, found.2, ap (pair_at limits.key_max limits.value_max) past ∙ found.3)

-- the offset at an index of a block
pub offset_there : (limits : PairLimits) (ps : List Pair) (i : ℕ) (rest : List ℕ) → IsBlock limits ps → i < length ps → (more : List ℕ) × (number_at w16 (drop (2 + 2 * i) (block ps ++ rest)) ≡ Ok (start_of ps i, more))
offset_there limits ps i rest is lt =
    let found = offset_in (head_size (length ps)) ps i (pair_fields ps ++ (replicate (padding (block_size ps)) 0 ++ rest)) lt (places_of limits ps is) in
    (found.0, ap (number_at w16) (sym (drop-drop (2 * i) 2 (block ps ++ rest)) ∙ ap (drop (2 * i)) (after_count ps rest)) ∙ found.1)

-- the pair at an index of a block
pub pair_there : (limits : PairLimits) (ps : List Pair) (i : ℕ) (rest : List ℕ) → AreHeld limits → IsBlock limits ps → i < length ps
    → (p : Pair) × (more : List ℕ) × (slice_get ps i ≡ Some p) × (pair_at limits.key_max limits.value_max (drop (start_of ps i) (block ps ++ rest)) ≡ Ok ((p.key, p.change), more))
pair_there limits ps i rest held is lt =
    let found = field_in limits ps i (replicate (padding (block_size ps)) 0 ++ rest) held is.within lt in
    (found.0, found.1, found.2, ap (pair_at limits.key_max limits.value_max) (sym (drop-drop (sizes (take i ps)) (head_size (length ps)) (block ps ++ rest)) ∙ ap (drop (sizes (take i ps))) (after_head ps rest)) ∙ found.3)

-- what two looks at a block find: the offset at an index, and the pair that begins there
pub record PairIsThere (bytes : List ℕ) (i : ℕ) : Type 0 where
  pub start : ℕ
  pub offset : (more : List ℕ) × (number_at w16 (drop (2 + 2 * i) bytes) ≡ Ok (start, more))
  pub pair : (p : Pair) × (more : List ℕ) × (slice_get (pairs_of bytes) i ≡ Some p) × (pair_at FIRST_LIMITS.key_max FIRST_LIMITS.value_max (drop start bytes) ≡ Ok ((p.key, p.change), more))

pub find_pair : (bytes : List ℕ) (i : ℕ) → AreBytes bytes → i < length (pairs_of bytes) → PairIsThere bytes i
find_pair bytes i fits lt =
    let ps = pairs_of bytes in
    let is = pairs_there bytes i fits lt in
    let same : block ps ++ [] ≡ bytes = append-nil (block ps) ∙ sym is.1 in
    let offset = offset_there FIRST_LIMITS ps i [] is.0 lt in
    let pair = pair_there FIRST_LIMITS ps i [] first_held is.0 lt in
    record {
      start = start_of ps i;
      offset = (offset.0, ap (λ (l : List ℕ). number_at w16 (drop (2 + 2 * i) l)) (sym same) ∙ offset.1);
      pair = (pair.0, pair.1, pair.2, ap (λ (l : List ℕ). pair_at FIRST_LIMITS.key_max FIRST_LIMITS.value_max (drop (start_of ps i) l)) (sym same) ∙ pair.3);
    }
