-- What is found of bytes that may be a block. To know: `checked`, `unchecked`, `pairs_there`.
use Rattle.std.proofs.Common.{◌≡◌, ℕ, ◌-◌, ◌<◌, ◌≤◌, Bool, true, false, cond, eqb, List, [], ◌∷◌, ◌++◌, length, Result, Ok, Err, refl, sym, ap, subst, ◌∙◌, arith}
use Rattle.std.proofs.lemmas.Bool.{eqb-true, ne_eqb}
use Rattle.std.proofs.lemmas.List.{append-nil, nil_from_length}
use Rattle.std.specs.declared.cmp.Ordering.TheVariants.{Less}
use Rattle.std.specs.Prelude.{IfOk, IfErr}
use Rattle.rdb_base.specs.Bytes.{AreBytes}
use Rattle.rdb_base.specs.Order.{key_cmp}
use Rattle.rdb_base.specs.Runs.{IsBelowAll}
use Rattle.rdb_base.specs.PairFields.{placed}
use Rattle.rdb_base.specs.declared.pair.Pair.{Pair}
use Rattle.rdb_base.specs.declared.pair_field.PairLimits.{PairLimits}
use Rattle.rdb_base.proofs.PairLemmas.{went_well}
use Rattle.block_code.specs.declared.format.TheConstants.{FIRST_LIMITS}
use Rattle.block_code.specs.Answers.{HasBlock, HasNone}
use Rattle.block_code.specs.Blocks.{block, IsBlockOf}
use Rattle.block_code.specs.Laws.{AreHeld}
use Rattle.block_code.specs.Reading.{block_at, block_fields, block_of, count_of, pairs_of, pairs_read, ends_of, last_key}
use Rattle.block_code.proofs.StepLemmas.{then-ok, then-err}
use Rattle.block_code.proofs.AgainLemmas.{AreWithin, block_again}
use Rattle.block_code.proofs.TakenLemmas.{block_taken}

abbrev good : {A : Type 0} → A → Result A ℕ
good x = Ok x

good_is : {A : Type 0} (x y : A) → good x ≡ good y → x ≡ y
good_is x y h = cc

abbrev bad : (A : Type 0) → ℕ → Result A ℕ
bad A left = Err left

wrong_is : {A : Type 0} (m n : ℕ) → bad A m ≡ bad A n → m ≡ n
wrong_is m n h = cc

pub first_held : AreHeld FIRST_LIMITS
first_held = record { key = omega arith; value = omega arith }

-- no key is below the empty one
above_none : (key : List ℕ) → 1 ≤ length key → key_cmp [] key ≡ Less
above_none [] some = absurd (omega arith)
above_none (b ∷ key) some = refl

pub all_above_none : (limits : PairLimits) (ps : List Pair) → AreWithin limits ps → IsBelowAll [] ps
all_above_none limits [] within = tt
all_above_none limits (p ∷ ps) within = (above_none p.key within.0.0, all_above_none limits ps within.1)

-- nothing but a block
whole_read : (limits : PairLimits) (bytes : List ℕ) (ps : List Pair) → AreHeld limits → IsBlockOf limits ps bytes → block_fields limits bytes ≡ Ok ps
unfolding block_fields
whole_read limits bytes ps held is =
    then-ok (block_at limits [] bytes) (λ b. cond (eqb (length b.1) 0) (good b.0) (Err (length b.1))) (ps, [])
    (ap (block_at limits []) (is.1 ∙ sym (append-nil (block ps))) ∙ block_again limits [] ps [] held is.0 (all_above_none limits ps is.0.within))

whole_taken : (limits : PairLimits) (bytes : List ℕ) (ps : List Pair) → AreBytes bytes → block_fields limits bytes ≡ Ok ps → IsBlockOf limits ps bytes
unfolding block_fields
whole_taken limits bytes ps fits e =
    let a = went_well (block_at limits [] bytes) (λ b. cond (eqb (length b.1) 0) (good b.0) (Err (length b.1))) ps e in
    by_end a.0 a.1 (eqb (length a.0.1) 0) refl a.2
  where
    by_end : (b : List Pair × List ℕ) → block_at limits [] bytes ≡ Ok b → (t : Bool) → eqb (length b.1) 0 ≡ t → cond t (good b.0) (Err (length b.1)) ≡ good ps → IsBlockOf limits ps bytes
    by_end b there true t h =
        let found = block_taken limits [] bytes b.0 b.1 fits there in
        let none : b.1 ≡ [] = nil_from_length b.1 (eqb-true (length b.1) 0 t) in
        subst (λ (qs : List Pair). IsBlockOf limits qs bytes) (good_is b.0 ps h) (found.0, found.2 ∙ ap (λ (l : List ℕ). block b.0 ++ l) none ∙ append-nil (block b.0))
    by_end b there false t h = absurd cc

placed_ok : {X : Type 0} (bytes : List ℕ) (r : Result X ℕ) (x : X) → placed bytes r ≡ Ok x → r ≡ Ok x
placed_ok bytes (Ok y) x e = e
placed_ok bytes (Err left) x e = absurd cc

-- ---- what a check answers

pub checked : (bytes : List ℕ) (n : ℕ) → AreBytes bytes → Ok n ≡ count_of (block_of bytes) → HasBlock n bytes
checked bytes n fits e = by_read (block_of bytes) refl e
  where
    by_read : (r : Result (List Pair) ℕ) → block_of bytes ≡ r → Ok n ≡ count_of r → HasBlock n bytes
    by_read (Ok ps) there h = let many : n ≡ length ps = good_is n (length ps) h in (ps, whole_taken FIRST_LIMITS bytes ps fits (placed_ok bytes (block_fields FIRST_LIMITS bytes) ps there), sym many)
    by_read (Err place) there h = absurd cc

pub counted : (bytes : List ℕ) (n : ℕ) → Ok n ≡ count_of (block_of bytes) → n ≡ length (pairs_of bytes)
counted bytes n e = by_read (block_of bytes) e
  where
    by_read : (r : Result (List Pair) ℕ) → Ok n ≡ count_of r → n ≡ length (pairs_read r)
    by_read (Ok ps) h = good_is n (length ps) h
    by_read (Err place) h = absurd cc

pub unchecked : (bytes : List ℕ) (place : ℕ) → Err place ≡ count_of (block_of bytes) → HasNone bytes
unchecked bytes place e ps is =
    let read : block_of bytes ≡ Ok ps = ap (placed bytes) (whole_read FIRST_LIMITS bytes ps first_held is) in
    no (e ∙ ap count_of read)
  where
    no : {m n : ℕ} → Err m ≡ good n → ⊥
    no h = absurd cc

-- the pairs of a whole block are those that it was spelled of
pub pairs_there : (bytes : List ℕ) (i : ℕ) → AreBytes bytes → i < length (pairs_of bytes) → IsBlockOf FIRST_LIMITS (pairs_of bytes) bytes
pairs_there bytes i fits lt = by_read (block_of bytes) refl lt
  where
    by_read : (r : Result (List Pair) ℕ) → block_of bytes ≡ r → i < length (pairs_read r) → IsBlockOf FIRST_LIMITS (pairs_read r) bytes
    by_read (Ok ps) there h = whole_taken FIRST_LIMITS bytes ps fits (placed_ok bytes (block_fields FIRST_LIMITS bytes) ps there)
    by_read (Err place) there h = absurd (omega arith)

-- ---- from what a reader keeps to what a check answers

-- nothing was left
pub checked_whole : (bytes last rest : List ℕ) (n : ℕ) → ends_of [] (block_at FIRST_LIMITS [] bytes) ≡ Ok ((n, last), rest) → length rest ≡ 0 → Ok n ≡ count_of (block_of bytes)
unfolding block_fields
checked_whole bytes last rest n e none = by_read (block_at FIRST_LIMITS [] bytes) refl e
  where
    by_read : (r : Result (List Pair × List ℕ) ℕ) → block_at FIRST_LIMITS [] bytes ≡ r → ends_of [] r ≡ Ok ((n, last), rest) → Ok n ≡ count_of (placed bytes (block_fields FIRST_LIMITS bytes))
    by_read (Ok b) there h =
        let is : ((length b.0, last_key [] b.0), b.1) ≡ ((n, last), rest) = good_is ((length b.0, last_key [] b.0), b.1) ((n, last), rest) h in
        let test : eqb (length b.1) 0 ≡ true = ap (λ (x : (ℕ × List ℕ) × List ℕ). eqb (length x.1) 0) is ∙ ap (λ (k : ℕ). eqb k 0) none in
        let read : block_fields FIRST_LIMITS bytes ≡ Ok b.0 = then-ok (block_at FIRST_LIMITS [] bytes) (λ c. cond (eqb (length c.1) 0) (good c.0) (Err (length c.1))) b there ∙ ap (λ (t : Bool). cond t (good b.0) (Err (length b.1))) test in
        sym (ap (λ (r : Result (List Pair) ℕ). count_of (placed bytes r)) read ∙ ap (λ (x : (ℕ × List ℕ) × List ℕ). good x.0.0) is)
    by_read (Err left) there h = absurd cc

-- some was left
pub checked_more : (bytes last rest : List ℕ) (n place : ℕ) → ends_of [] (block_at FIRST_LIMITS [] bytes) ≡ Ok ((n, last), rest) → (length rest ≡ 0 → ⊥) → place ≡ length bytes - length rest → Err place ≡ count_of (block_of bytes)
unfolding block_fields
checked_more bytes last rest n place e some is_place = by_read (block_at FIRST_LIMITS [] bytes) refl e
  where
    by_read : (r : Result (List Pair × List ℕ) ℕ) → block_at FIRST_LIMITS [] bytes ≡ r → ends_of [] r ≡ Ok ((n, last), rest) → Err place ≡ count_of (placed bytes (block_fields FIRST_LIMITS bytes))
    by_read (Ok b) there h =
        let is : ((length b.0, last_key [] b.0), b.1) ≡ ((n, last), rest) = good_is ((length b.0, last_key [] b.0), b.1) ((n, last), rest) h in
        let left : length b.1 ≡ length rest = ap (λ (x : (ℕ × List ℕ) × List ℕ). length x.1) is in
        let test : eqb (length b.1) 0 ≡ false = ne_eqb (length b.1) 0 (λ z. some (sym left ∙ z)) in
        let read : block_fields FIRST_LIMITS bytes ≡ Err (length b.1) = then-ok (block_at FIRST_LIMITS [] bytes) (λ c. cond (eqb (length c.1) 0) (good c.0) (Err (length c.1))) b there ∙ ap (λ (t : Bool). cond t (good b.0) (Err (length b.1))) test in
        sym (ap (λ (r : Result (List Pair) ℕ). count_of (placed bytes r)) read ∙ ap (λ (k : ℕ). Err k) (ap (λ (k : ℕ). length bytes - k) left ∙ sym is_place))
    by_read (Err wrong) there h = absurd cc

-- a field was wrong
pub checked_wrong : (bytes : List ℕ) (left place : ℕ) → ends_of [] (block_at FIRST_LIMITS [] bytes) ≡ Err left → place ≡ length bytes - left → Err place ≡ count_of (block_of bytes)
unfolding block_fields
checked_wrong bytes left place e is_place = by_read (block_at FIRST_LIMITS [] bytes) refl e
  where
    by_read : (r : Result (List Pair × List ℕ) ℕ) → block_at FIRST_LIMITS [] bytes ≡ r → ends_of [] r ≡ Err left → Err place ≡ count_of (placed bytes (block_fields FIRST_LIMITS bytes))
    by_read (Ok b) there h = absurd cc
    by_read (Err wrong) there h =
        let same : wrong ≡ left = wrong_is wrong left h in
        let read : block_fields FIRST_LIMITS bytes ≡ Err wrong = then-err (block_at FIRST_LIMITS [] bytes) (λ c. cond (eqb (length c.1) 0) (good c.0) (Err (length c.1))) wrong there in
        sym (ap (λ (r : Result (List Pair) ℕ). count_of (placed bytes r)) read ∙ ap (λ (k : ℕ). Err k) (ap (λ (k : ℕ). length bytes - k) same ∙ sym is_place))

-- ---- the same of an answer

pub answer-pairs : (bytes : List ℕ) (answer : Result ℕ ℕ) → answer ≡ count_of (block_of bytes) → IfOk answer (λ n. n ≡ length (pairs_of bytes))
answer-pairs bytes (Ok n) e = counted bytes n e
answer-pairs bytes (Err place) e = tt

pub answer-block : (bytes : List ℕ) (answer : Result ℕ ℕ) → AreBytes bytes → answer ≡ count_of (block_of bytes) → IfOk answer (λ n. HasBlock n bytes)
answer-block bytes (Ok n) fits e = checked bytes n fits e
answer-block bytes (Err place) fits e = tt

pub answer-none : (bytes : List ℕ) (answer : Result ℕ ℕ) → answer ≡ count_of (block_of bytes) → IfErr answer (λ place. HasNone bytes)
answer-none bytes (Ok n) e = tt
answer-none bytes (Err place) e = unchecked bytes place e
