-- Fields in a row, read one after another. To know: `after`, `runs-next`, `parts-next`, `fails-so`.
use Rattle.std.proofs.Common.{◌≡◌, ℕ, zero, suc, ◌+◌, ◌<◌, ◌≤◌, Bool, true, false, eqb, ltb, List, [], ◌∷◌, ◌++◌, length, take, drop, Result, Ok, Err, IsOk, refl, sym, ap, subst, ◌∙◌, append_assoc, arith}
use Rattle.std.proofs.lemmas.List.{append-nil, length-take}
use Rattle.std.proofs.lemmas.Bool.{ltb-false, ne_eqb}
use Rattle.rdb_base.specs.PairFields.{◌>>=◌, bytes_at}
use Rattle.rdb_base.proofs.PairLemmas.{went_well, passed}
use Rattle.edition_code.specs.declared.run_field.RunField.{RunField}
use Rattle.edition_code.specs.declared.field_error.FieldError.{FieldError}
use Rattle.edition_code.specs.declared.field_error.FieldError.TheVariants as fields
use Rattle.edition_code.specs.Answers.{FailsField, IfFieldMemory}
use Rattle.edition_code.specs.Values.{PartValue}
use Rattle.edition_code.specs.Editions.{run_numbers, part_numbers}
use Rattle.edition_code.specs.Reading.{run_at, runs_at, index_at, part_head_at, part_at, parts_at}

abbrev good : {A : Type 0} → A → Result A ℕ
good x = Ok x

good_is : {A : Type 0} (x y : A) → good x ≡ good y → x ≡ y
good_is x y e = cc

-- what is read after fields that were read before
abbrev pub after : {X : Type 0} → List X → Result (List X × List ℕ) ℕ → Result (List X × List ℕ) ℕ
after done (Ok more) = Ok (done ++ more.0, more.1)
after done (Err left) = Err left

pub after-none : {X : Type 0} (read : Result (List X × List ℕ) ℕ) → after [] read ≡ read
after-none (Ok more) = refl
after-none (Err left) = refl

again : {X : Type 0} (done : List X) (one : X) (read : Result (List X × List ℕ) ℕ) → after done (read >>= λ more. Ok (one ∷ more.0, more.1)) ≡ after (done ++ one ∷ []) read
again {X} done one (Ok more) = ap (λ (l : List X). Ok (l, more.1)) (sym (append_assoc done (one ∷ []) more.0))
again done one (Err left) = refl

-- a list of fields fails where one of them does
pub fails-so : {X Y : Type 0} (error : FieldError) (one : Result X ℕ) (whole : Result Y ℕ) → ((left : ℕ) → one ≡ Err left → whole ≡ Err left) → FailsField error one → FailsField error whole
fails-so (fields.Bad left) one whole so fails = so left fails
fails-so fields.Memory one whole so fails = tt

pub memory-so : (error : FieldError) (P Q : Type 0) → (P → Q) → IfFieldMemory error P → IfFieldMemory error Q
memory-so (fields.Bad left) P Q so holds = tt
memory-so fields.Memory P Q so holds = so holds

-- bytes that are read are as many as were asked for
pub bytes_at-length : (n : ℕ) (bytes text rest : List ℕ) → bytes_at n bytes ≡ Ok (text, rest) → n ≡ length text
bytes_at-length n bytes text rest e =
    let p = passed (ltb (length bytes) n) (length bytes) (Ok (take n bytes, drop n bytes)) (text, rest) e in
    let long : n ≤ length bytes = ltb-false _ _ p.0 in
    let text_is : take n bytes ≡ text = ap (λ (x : List ℕ × List ℕ). x.0) (good_is (take n bytes, drop n bytes) (text, rest) p.1) in
    omega (arith, length-take n bytes, ap (λ (l : List ℕ). length l) text_is)

-- ---- runs

pub runs-next : (done : List RunField) (n next : ℕ) (before bytes : List ℕ) (one : RunField) (rest : List ℕ) → run_at next before bytes ≡ Ok (one, rest)
    → after done (runs_at (suc n) next before bytes) ≡ after (done ++ one ∷ []) (runs_at n next (before ++ one.number ∷ []) rest)
unfolding runs_at
runs-next done n next before bytes one rest e = rw e (again done one (runs_at n next (before ++ one.number ∷ []) rest))

pub runs-stop : (done : List RunField) (n next : ℕ) (before bytes : List ℕ) (left : ℕ) → run_at next before bytes ≡ Err left → after done (runs_at (suc n) next before bytes) ≡ Err left
unfolding runs_at
runs-stop done n next before bytes left e = rw e refl

pub runs-end : (done : List RunField) (next : ℕ) (before bytes : List ℕ) → after done (runs_at 0 next before bytes) ≡ Ok (done, bytes)
unfolding runs_at
runs-end done next before bytes = ap (λ (l : List RunField). Ok (l, bytes)) (append-nil done)

-- the numbers of one run more
pub run_numbers-pushed : (before : List ℕ) (runs : List RunField) (one : RunField) → (before ++ run_numbers runs) ++ one.number ∷ [] ≡ before ++ run_numbers (runs ++ one ∷ [])
run_numbers-pushed before runs one = append_assoc before (run_numbers runs) (one.number ∷ []) ∙ ap (λ (l : List ℕ). before ++ l) (by_runs runs)
  where
    by_runs : (rs : List RunField) → run_numbers rs ++ one.number ∷ [] ≡ run_numbers (rs ++ one ∷ [])
    by_runs [] = refl
    by_runs (r ∷ rs) = ap (λ (l : List ℕ). r.number ∷ l) (by_runs rs)

-- ---- partitions

pub parts-next : (done : List PartValue) (n next : ℕ) (is_first : Bool) (last before bytes : List ℕ) (one : PartValue) (rest : List ℕ) → part_at next is_first last before bytes ≡ Ok (one, rest)
    → after done (parts_at (suc n) next is_first last before bytes) ≡ after (done ++ one ∷ []) (parts_at n next false one.low (before ++ part_numbers one) rest)
unfolding parts_at
parts-next done n next is_first last before bytes one rest e = rw e (again done one (parts_at n next false one.low (before ++ part_numbers one) rest))

pub parts-stop : (done : List PartValue) (n next : ℕ) (is_first : Bool) (last before bytes : List ℕ) (left : ℕ) → part_at next is_first last before bytes ≡ Err left → after done (parts_at (suc n) next is_first last before bytes) ≡ Err left
unfolding parts_at
parts-stop done n next is_first last before bytes left e = rw e refl

pub parts-end : (done : List PartValue) (next : ℕ) (is_first : Bool) (last before bytes : List ℕ) → after done (parts_at 0 next is_first last before bytes) ≡ Ok (done, bytes)
unfolding parts_at
parts-end done next is_first last before bytes = ap (λ (l : List PartValue). Ok (l, bytes)) (append-nil done)

is_ok : {A : Type 0} (r : Result A ℕ) (x : A) → r ≡ Ok x → IsOk r
is_ok r x e = rw e refl

-- a partition that is read has a head
pub part_head-read : (next : ℕ) (is_first : Bool) (last before bytes : List ℕ) (x : PartValue × List ℕ) → part_at next is_first last before bytes ≡ Ok x → IsOk (part_head_at is_first last bytes)
unfolding part_at
part_head-read next is_first last before bytes x e =
    let a = went_well (part_head_at is_first last bytes) (λ head. runs_at head.0.runs next before head.1 >>= λ runs. index_at head.0.runs next (before ++ run_numbers runs.0) runs.1 >>= λ index. Ok (record { low = head.0.low; base = head.0.base; runs = runs.0; index = index.0 }, index.1)) x e in
    is_ok (part_head_at is_first last bytes) a.0 a.1

-- the first partition's head is whole where that of the one that is read after others is, since these were read
pub first_head : (place : ℕ) (last rest bytes : List ℕ) → (place ≡ 0 → (rest ≡ bytes) × (last ≡ [])) → (0 < place → IsOk (part_head_at true [] bytes)) → IsOk (part_head_at (eqb place 0) last rest) → IsOk (part_head_at true [] bytes)
first_head zero last rest bytes begins first whole = subst (λ (l : List ℕ). IsOk (part_head_at true [] l)) (begins refl).0 (subst (λ (l : List ℕ). IsOk (part_head_at true l rest)) (begins refl).1 whole)
first_head (suc n) last rest bytes begins first whole = first (omega arith)

-- after the first partition comes another one
pub not_first : (place : ℕ) → eqb (place + 1) 0 ≡ false
not_first place = ne_eqb (place + 1) 0 (λ none. omega (arith, none))
