-- Readings, one field after another. To know: `then-ok`, `then-err`, `pairs-next`.
use Rattle.std.proofs.Common.{◌≡◌, ℕ, suc, ◌+◌, ◌-◌, ◌≤◌, List, ◌∷◌, length, Result, Ok, Err, IsOk, refl, sym, ap, subst, ◌∙◌, arith}
use Rattle.std.specs.Int.{w8, w16}
use Rattle.rdb_base.specs.PairFields.{◌>>=◌, GivesField, number_at, pair_at}
use Rattle.rdb_base.specs.declared.bad_field.BadField.{BadField}
use Rattle.rdb_base.specs.declared.change.Change.{Change}
use Rattle.rdb_base.specs.declared.pair.Pair.{Pair}
use Rattle.rdb_base.specs.declared.pair_field.PairLimits.{PairLimits}
use Rattle.rdb_base.proofs.PairLemmas.{IsInside, pair_inside}
use Rattle.block_code.specs.Reading.{number_is, numbers_at, if_whole, offsets_at, next_pair_at, pairs_at, zeros_at, last_key, ends_of}

-- what follows a field that is there
pub then-ok : {A B : Type 0} (r : Result A ℕ) (f : A → Result B ℕ) (x : A) → r ≡ Ok x → (r >>= f) ≡ f x
then-ok {A = A} r f x e = ap (λ (s : Result A ℕ). s >>= f) e

-- and one that is wrong
pub then-err : {A B : Type 0} (r : Result A ℕ) (f : A → Result B ℕ) (left : ℕ) → r ≡ Err left → (r >>= f) ≡ Err left
then-err {A = A} r f left e = ap (λ (s : Result A ℕ). s >>= f) e

-- what gives a reading gives one that is equal
pub gives_so : {X Y : Type 0} (view : X → Y) (r : Result X BadField) (other read : Result Y ℕ) → other ≡ read → GivesField view r read → GivesField view r other
gives_so view r other read e given = subst (GivesField view r) (sym e) given

-- a reading that is there is given
pub given-ok : {X Y : Type 0} (view : X → Y) (r : Result X BadField) (read : Result Y ℕ) (y : Y) → read ≡ Ok y → GivesField view r read → IsOk r
given-ok view (Ok x) read y e given = refl
given-ok view (Err bad) read y e given = absurd cc

abbrev good : {A : Type 0} → A → Result A ℕ
good x = Ok x

good_is : {A : Type 0} (x y : A) → good x ≡ good y → x ≡ y
good_is x y h = cc

-- what is given, seen by the view, is what is read
pub given_is : {X Y : Type 0} (view : X → Y) (r : Result X BadField) (x : X) (read : Result Y ℕ) (y : Y) → r ≡ Ok x → read ≡ Ok y → GivesField view r read → view x ≡ y
given_is {X = X} view r x read y e f given = good_is (view x) y (sym (subst (λ (q : Result X BadField). GivesField view q read) e given) ∙ f)

-- ---- numbers that only have to be there

pub numbers-next : (n : ℕ) (bytes : List ℕ) (one : ℕ × List ℕ) → number_at w16 bytes ≡ Ok one → numbers_at (suc n) bytes ≡ numbers_at n one.1
unfolding numbers_at
numbers-next n bytes one e = then-ok (number_at w16 bytes) (λ x. numbers_at n x.1) one e

pub numbers-stop : (n : ℕ) (bytes : List ℕ) (left : ℕ) → number_at w16 bytes ≡ Err left → numbers_at (suc n) bytes ≡ Err left
unfolding numbers_at
numbers-stop n bytes left e = then-err (number_at w16 bytes) (λ x. numbers_at n x.1) left e

pub numbers-end : (bytes : List ℕ) → numbers_at 0 bytes ≡ Ok bytes
unfolding numbers_at
numbers-end bytes = refl

-- ---- bytes 00

pub zeros-next : (n : ℕ) (bytes rest : List ℕ) → number_is w8 0 bytes ≡ Ok rest → zeros_at (suc n) bytes ≡ zeros_at n rest
unfolding zeros_at
zeros-next n bytes rest e = then-ok (number_is w8 0 bytes) (zeros_at n) rest e

pub zeros-stop : (n : ℕ) (bytes : List ℕ) (left : ℕ) → number_is w8 0 bytes ≡ Err left → zeros_at (suc n) bytes ≡ Err left
unfolding zeros_at
zeros-stop n bytes left e = then-err (number_is w8 0 bytes) (zeros_at n) left e

pub zeros-end : (bytes : List ℕ) → zeros_at 0 bytes ≡ Ok bytes
unfolding zeros_at
zeros-end bytes = refl

-- ---- offsets

-- the offsets after one that is right
abbrev past_offset : PairLimits → ℕ → ℕ → List ℕ → List ℕ → Result (List ℕ) ℕ
past_offset limits n place pairs rest = if_whole (pair_at limits.key_max limits.value_max pairs) (λ pair. offsets_at limits n (place + (length pairs - length pair.1)) rest pair.1) (numbers_at n rest)

pub offsets-next : (limits : PairLimits) (n place : ℕ) (offsets pairs rest : List ℕ) (pair : (List ℕ × Change) × List ℕ) → number_is w16 place offsets ≡ Ok rest → pair_at limits.key_max limits.value_max pairs ≡ Ok pair
    → offsets_at limits (suc n) place offsets pairs ≡ offsets_at limits n (place + (length pairs - length pair.1)) rest pair.1
unfolding offsets_at
offsets-next limits n place offsets pairs rest pair e whole =
    then-ok (number_is w16 place offsets) (past_offset limits n place pairs) rest e
    ∙ ap (λ (r : Result ((List ℕ × Change) × List ℕ) ℕ). if_whole r (λ x. offsets_at limits n (place + (length pairs - length x.1)) rest x.1) (numbers_at n rest)) whole

pub offsets-past : (limits : PairLimits) (n place : ℕ) (offsets pairs rest : List ℕ) (left : ℕ) → number_is w16 place offsets ≡ Ok rest → pair_at limits.key_max limits.value_max pairs ≡ Err left
    → offsets_at limits (suc n) place offsets pairs ≡ numbers_at n rest
unfolding offsets_at
offsets-past limits n place offsets pairs rest left e cut =
    then-ok (number_is w16 place offsets) (past_offset limits n place pairs) rest e
    ∙ ap (λ (r : Result ((List ℕ × Change) × List ℕ) ℕ). if_whole r (λ x. offsets_at limits n (place + (length pairs - length x.1)) rest x.1) (numbers_at n rest)) cut

pub offsets-stop : (limits : PairLimits) (n place : ℕ) (offsets pairs : List ℕ) (left : ℕ) → number_is w16 place offsets ≡ Err left → offsets_at limits (suc n) place offsets pairs ≡ Err left
unfolding offsets_at
offsets-stop limits n place offsets pairs left e = then-err (number_is w16 place offsets) (past_offset limits n place pairs) left e

pub offsets-end : (limits : PairLimits) (place : ℕ) (offsets pairs : List ℕ) → offsets_at limits 0 place offsets pairs ≡ Ok offsets
unfolding offsets_at
offsets-end limits place offsets pairs = refl

-- no more is left after a pair than before it
pub pair_shorter : (limits : PairLimits) (bytes : List ℕ) (pair : (List ℕ × Change) × List ℕ) → pair_at limits.key_max limits.value_max bytes ≡ Ok pair → length pair.1 ≤ length bytes
pair_shorter limits bytes pair e = subst (λ (r : Result ((List ℕ × Change) × List ℕ) ℕ). IsInside (length bytes) r) e (pair_inside limits.key_max limits.value_max bytes)

-- ---- pairs

-- what is read of pairs, with so many before them
abbrev pub more_of : {X : Type 0} → ℕ → Result ((ℕ × List ℕ) × X) ℕ → Result ((ℕ × List ℕ) × X) ℕ
more_of n (Ok x) = Ok ((n + x.0.0, x.0.1), x.1)
more_of n (Err left) = Err left

-- the pairs after one that is right
abbrev past_pair : PairLimits → ℕ → Pair × List ℕ → Result (List Pair × List ℕ) ℕ
past_pair limits n one = pairs_at limits n one.0.key one.1 >>= λ more. Ok (one.0 ∷ more.0, more.1)

one_more : (last : List ℕ) (p : Pair) (r : Result (List Pair × List ℕ) ℕ) → ends_of last (r >>= λ more. Ok (p ∷ more.0, more.1)) ≡ more_of 1 (ends_of p.key r)
one_more last p (Ok more) = let one : length (p ∷ more.0) ≡ 1 + length more.0 = omega arith in ap (λ (k : ℕ). Ok ((k, last_key p.key more.0), more.1)) one
one_more last p (Err left) = refl

pub pairs-next : (limits : PairLimits) (n : ℕ) (last bytes : List ℕ) (one : Pair × List ℕ) → next_pair_at limits last bytes ≡ Ok one → ends_of last (pairs_at limits (suc n) last bytes) ≡ more_of 1 (ends_of one.0.key (pairs_at limits n one.0.key one.1))
unfolding pairs_at
pairs-next limits n last bytes one e = ap (ends_of last) (then-ok (next_pair_at limits last bytes) (past_pair limits n) one e) ∙ one_more last one.0 (pairs_at limits n one.0.key one.1)

pub pairs-stop : (limits : PairLimits) (n : ℕ) (last bytes : List ℕ) (left : ℕ) → next_pair_at limits last bytes ≡ Err left → ends_of last (pairs_at limits (suc n) last bytes) ≡ Err left
unfolding pairs_at
pairs-stop limits n last bytes left e = ap (ends_of last) (then-err (next_pair_at limits last bytes) (past_pair limits n) left e)

pub pairs-end : (limits : PairLimits) (last bytes : List ℕ) → ends_of last (pairs_at limits 0 last bytes) ≡ Ok ((0, last), bytes)
unfolding pairs_at
pairs-end limits last bytes = refl

pub more_of-more : {X : Type 0} (m n : ℕ) (r : Result ((ℕ × List ℕ) × X) ℕ) → more_of m (more_of n r) ≡ more_of (m + n) r
more_of-more m n (Ok x) = let sum : m + (n + x.0.0) ≡ (m + n) + x.0.0 = omega arith in ap (λ (k : ℕ). Ok ((k, x.0.1), x.1)) sum
more_of-more m n (Err left) = refl

pub more_of-none : {X : Type 0} (r : Result ((ℕ × List ℕ) × X) ℕ) → more_of 0 r ≡ r
more_of-none (Ok x) = let same : 0 + x.0.0 ≡ x.0.0 = omega arith in ap (λ (k : ℕ). Ok ((k, x.0.1), x.1)) same
more_of-none (Err left) = refl

-- one pair more was read after some
pub pairs_go_on : {X : Type 0} (done next : ℕ) (whole r s : Result ((ℕ × List ℕ) × X) ℕ) → next ≡ done + 1 → whole ≡ more_of done r → r ≡ more_of 1 s → whole ≡ more_of next s
pairs_go_on done next whole r s n so_far e = so_far ∙ ap (more_of done) e ∙ more_of-more done 1 s ∙ ap (λ (k : ℕ). more_of k s) (sym n)

-- the next one was wrong
pub pairs_stop_here : {X : Type 0} (done left : ℕ) (whole r : Result ((ℕ × List ℕ) × X) ℕ) → whole ≡ more_of done r → r ≡ Err left → whole ≡ Err left
pairs_stop_here done left whole r so_far e = so_far ∙ ap (more_of done) e
