-- The pair field: what is spelled is read back, what is read was spelled, and no wrong place is past the end.
-- To know: `pair_again`, `pair_taken`, `pair_inside`; for other fields `number_again`, `number_taken`, `bytes_again`, `bytes_taken`, `inside-then`.
use Rattle.std.proofs.Common.{◌≡◌, inl, inr, ℕ, ◌+◌, ◌-◌, ◌^◌, ◌<◌, ◌≤◌, Bool, true, false, cond, eqb, ltb, List, ◌++◌, length, take, drop, Result, Ok, Err, refl, sym, ap, subst, ◌∙◌, append_assoc, arith}
use Rattle.std.specs.Int.{Width, w16, w32, w64, byte_len, from_be_bytes, to_be_bytes}
use Rattle.std.proofs.lemmas.Bool.{cases_lt, le-ltb, ltb-false, eqb-true}
use Rattle.std.proofs.lemmas.Bool.Decides.{nat_tests}
use Rattle.std.proofs.lemmas.List.{take_at, drop_at, take-append-drop, length-append, length-take, length-drop, get_or-drop, get_or-take, get_or_past}
use Rattle.std.proofs.lemmas.Nat.{be_bytes_2, be_bytes_4, be_bytes_8, from_be_bytes-to_be_bytes_2, from_be_bytes-to_be_bytes_4, from_be_bytes-to_be_bytes_8}
use Rattle.rdb_base.specs.declared.limits.TheConstants.{DELETION_TAG}
use Rattle.rdb_base.specs.declared.change.Change.{Change}
use Rattle.rdb_base.specs.declared.change.Change.TheVariants as changes
use Rattle.rdb_base.specs.PairFields.{◌>>=◌, IsChangeWithin, IsPairWithin, change_field, pair_field, number_at, bytes_at, key_field_at, change_field_at, pair_at}
use Rattle.rdb_base.specs.Bytes.{AreBytes}
use Rattle.rdb_base.specs.PairLaws.{PairReadsBack, PairWasSpelled, BadFieldIsInside, PairHasSize}

-- ---- what is spelled is read back

-- a number of some width is spelled in that many bytes, and read back
pub record IsWide (w : Width) (limit : ℕ) : Type 0 where
  pub len : (n : ℕ) → length (to_be_bytes w n) ≡ byte_len w
  pub back : (bytes : List ℕ) → length bytes ≡ byte_len w → AreBytes bytes → to_be_bytes w (from_be_bytes w bytes) ≡ bytes
  pub again : (n : ℕ) → n < limit → from_be_bytes w (to_be_bytes w n) ≡ n
  pub below : (bytes : List ℕ) → AreBytes bytes → from_be_bytes w bytes < limit

pub wide16 : IsWide w16 (2 ^ 16)
wide16 = record {
  len = λ n. refl;
  back = λ bytes len fits. be_bytes_2 bytes _ len fits refl;
  again = λ n lt. from_be_bytes-to_be_bytes_2 n lt;
  below = λ bytes fits. omega (arith, fits 0, fits 1);
}

pub wide32 : IsWide w32 (2 ^ 32)
wide32 = record {
  len = λ n. refl;
  back = λ bytes len fits. be_bytes_4 bytes _ len fits refl;
  again = λ n lt. from_be_bytes-to_be_bytes_4 n lt;
  below = λ bytes fits. omega (arith, fits 0, fits 1, fits 2, fits 3);
}

pub wide64 : IsWide w64 (2 ^ 64)
wide64 = record {
  len = λ n. refl;
  back = λ bytes len fits. be_bytes_8 bytes _ len fits refl;
  again = λ n lt. from_be_bytes-to_be_bytes_8 n lt;
  below = λ bytes fits. omega (arith, fits 0, fits 1, fits 2, fits 3, fits 4, fits 5, fits 6, fits 7);
}

pub bytes_again : (text rest : List ℕ) → bytes_at (length text) (text ++ rest) ≡ Ok (text, rest)
bytes_again text rest =
    let long : ltb (length (text ++ rest)) (length text) ≡ false = le-ltb _ _ (omega (arith, length-append text rest)) in
    rw (long, take_at text rest (length text) refl, drop_at text rest (length text) refl) refl

pub number_again : (w : Width) (limit : ℕ) (wide : IsWide w limit) (n : ℕ) (rest : List ℕ) → n < limit → number_at w (to_be_bytes w n ++ rest) ≡ Ok (n, rest)
number_again w limit wide n rest lt =
    let len = wide.len n in
    let long : ltb (length (to_be_bytes w n ++ rest)) (byte_len w) ≡ false = le-ltb _ _ (omega (arith, length-append (to_be_bytes w n) rest)) in
    rw (long, take_at (to_be_bytes w n) rest (byte_len w) len, drop_at (to_be_bytes w n) rest (byte_len w) len, wide.again n lt) refl

key_again : (most : ℕ) (key rest : List ℕ) → most < 2 ^ 16 → 1 ≤ length key → length key ≤ most → key_field_at most (to_be_bytes w16 (length key) ++ key ++ rest) ≡ Ok (key, rest)
unfolding key_field_at
key_again most key rest limit some fits =
    let low : eqb (length key) 0 ≡ false = grind (arith, nat_tests) in
    let high : ltb most (length key) ≡ false = le-ltb _ _ fits in
    rw (number_again w16 (2 ^ 16) wide16 (length key) (key ++ rest) (omega arith), low, high, bytes_again key rest) refl

change_again : (most : ℕ) (change : Change) (rest : List ℕ) → most < 2 ^ 32 - 1 → IsChangeWithin most change → change_field_at most (change_field change ++ rest) ≡ Ok (change, rest)
unfolding change_field_at
change_again most (changes.Put value) rest limit fits =
    let low : eqb (length value) DELETION_TAG ≡ false = grind (arith, nat_tests) in
    let high : ltb most (length value) ≡ false = le-ltb _ _ fits in
    ap (change_field_at most) (append_assoc (to_be_bytes w32 (length value)) value rest) ∙ rw (number_again w32 (2 ^ 32) wide32 (length value) (value ++ rest) (omega arith), low, high, bytes_again value rest) refl
change_again most changes.Del rest limit fits = rw (number_again w32 (2 ^ 32) wide32 DELETION_TAG rest (omega arith)) refl

pub pair_again : PairReadsBack
unfolding pair_at
pair_again key_max value_max key change rest key_limit value_limit within =
    let parts : pair_field key change ++ rest ≡ to_be_bytes w16 (length key) ++ key ++ (change_field change ++ rest) = append_assoc (to_be_bytes w16 (length key)) (key ++ change_field change) rest ∙ ap (λ (t : List ℕ). to_be_bytes w16 (length key) ++ t) (append_assoc key (change_field change) rest) in
    ap (pair_at key_max value_max) parts ∙ rw (key_again key_max key (change_field change ++ rest) key_limit within.0 within.1, change_again value_max change rest value_limit within.2) refl

pub pair_size : PairHasSize
pair_size key (changes.Put value) = omega (arith, length-append key (change_field (changes.Put value)))
pair_size key changes.Del = omega (arith, length-append key (change_field changes.Del))

-- ---- what is read was spelled

pub AreBytes-drop : (n : ℕ) (bytes : List ℕ) → AreBytes bytes → AreBytes (drop n bytes)
AreBytes-drop n bytes h i = rw get_or-drop (h (n + i))

pub AreBytes-take : (n : ℕ) (bytes : List ℕ) → AreBytes bytes → AreBytes (take n bytes)
AreBytes-take n bytes h i =
    elim (cases_lt i n) [
      | inl lt ↦ rw (get_or-take n bytes i 0 lt) (h i)
      | inr le ↦ rw (get_or_past (take n bytes) i 0 (omega (arith, length-take n bytes))) (omega arith)
    ]

abbrev good : {A : Type 0} → A → Result A ℕ
good x = Ok x

good_is : {A : Type 0} (x y : A) → good x ≡ good y → x ≡ y
good_is x y e = cc

-- a reading that went well: so did its first field, and then the rest
pub went_well : {A B : Type 0} (r : Result A ℕ) (f : A → Result B ℕ) (y : B) → (r >>= f) ≡ Ok y → (x : A) × (r ≡ Ok x) × (f x ≡ Ok y)
went_well (Ok x) f y e = (x, refl, e)
went_well (Err d) f y e = absurd cc

-- a test that did not refuse
pub passed : {A : Type 0} (b : Bool) (d : ℕ) (r : Result A ℕ) (y : A) → cond b (Err d) r ≡ Ok y → (b ≡ false) × (r ≡ Ok y)
passed true d r y e = absurd cc
passed false d r y e = (refl, e)

-- a text was taken from the front of bytes, and these are left
pub record Takes (bytes text rest : List ℕ) : Type 0 where
  pub parts : bytes ≡ text ++ rest
  pub rest_fits : AreBytes rest

pub takes-then : (a x b y c : List ℕ) → Takes a x b → Takes b y c → Takes a (x ++ y) c
takes-then a x b y c p q = record { parts = p.parts ∙ ap (λ (t : List ℕ). x ++ t) q.parts ∙ sym (append_assoc x y c); rest_fits = q.rest_fits }

pub bytes_taken : (n : ℕ) (bytes text rest : List ℕ) → AreBytes bytes → bytes_at n bytes ≡ Ok (text, rest) → Takes bytes text rest × (length text ≡ n)
bytes_taken n bytes text rest fits e =
    let p = passed (ltb (length bytes) n) (length bytes) (Ok (take n bytes, drop n bytes)) (text, rest) e in
    let long : n ≤ length bytes = ltb-false _ _ p.0 in
    let both = good_is (take n bytes, drop n bytes) (text, rest) p.1 in
    let len : length (take n bytes) ≡ n = omega (arith, length-take n bytes) in
    let at_front : Takes bytes (take n bytes) (drop n bytes) = record { parts = sym (take-append-drop n bytes); rest_fits = AreBytes-drop n bytes fits } in
    subst (λ (x : List ℕ × List ℕ). Takes bytes x.0 x.1 × (length x.0 ≡ n)) both (at_front, len)

pub number_taken : (w : Width) (limit : ℕ) (wide : IsWide w limit) (bytes : List ℕ) (x : ℕ × List ℕ) → AreBytes bytes → number_at w bytes ≡ Ok x → Takes bytes (to_be_bytes w x.0) x.1 × (x.0 < limit)
number_taken w limit wide bytes x fits e =
    let p = passed (ltb (length bytes) (byte_len w)) (length bytes) (Ok (from_be_bytes w (take (byte_len w) bytes), drop (byte_len w) bytes)) x e in
    let long : byte_len w ≤ length bytes = ltb-false _ _ p.0 in
    let both = good_is (from_be_bytes w (take (byte_len w) bytes), drop (byte_len w) bytes) x p.1 in
    let front_fits = AreBytes-take (byte_len w) bytes fits in
    let len : length (take (byte_len w) bytes) ≡ byte_len w = omega (arith, length-take (byte_len w) bytes) in
    let front : to_be_bytes w (from_be_bytes w (take (byte_len w) bytes)) ≡ take (byte_len w) bytes = wide.back (take (byte_len w) bytes) len front_fits in
    let at_front : Takes bytes (to_be_bytes w (from_be_bytes w (take (byte_len w) bytes))) (drop (byte_len w) bytes) = record { parts = rw front (sym (take-append-drop (byte_len w) bytes)); rest_fits = AreBytes-drop (byte_len w) bytes fits } in
    subst (λ (y : ℕ × List ℕ). Takes bytes (to_be_bytes w y.0) y.1 × (y.0 < limit)) both (at_front, wide.below (take (byte_len w) bytes) front_fits)

not_zero : (m : ℕ) → eqb m 0 ≡ false → 1 ≤ m
not_zero m h = grind (arith, nat_tests)

key_taken : (most : ℕ) (bytes : List ℕ) (x : List ℕ × List ℕ) → AreBytes bytes → key_field_at most bytes ≡ Ok x → Takes bytes (to_be_bytes w16 (length x.0) ++ x.0) x.1 × ((1 ≤ length x.0) × (length x.0 ≤ most))
unfolding key_field_at
key_taken most bytes x fits e =
    let a = went_well (number_at w16 bytes) (λ n. cond (eqb n.0 0) (Err (length bytes)) (cond (ltb most n.0) (Err (length bytes)) (bytes_at n.0 n.1))) x e in
    let n = a.0 in
    let one = number_taken w16 (2 ^ 16) wide16 bytes n fits a.1 in
    let p = passed (eqb n.0 0) (length bytes) (cond (ltb most n.0) (Err (length bytes)) (bytes_at n.0 n.1)) x a.2 in
    let q = passed (ltb most n.0) (length bytes) (bytes_at n.0 n.1) x p.1 in
    let two = bytes_taken n.0 n.1 x.0 x.1 one.0.rest_fits q.1 in
    let both = takes-then bytes (to_be_bytes w16 n.0) n.1 x.0 x.1 one.0 two.0 in
    let low : 1 ≤ n.0 = not_zero n.0 p.0 in
    let high : n.0 ≤ most = ltb-false _ _ q.0 in
    (subst (λ (k : ℕ). Takes bytes (to_be_bytes w16 k ++ x.0) x.1) (sym two.1) both, (omega (arith, two.1), omega (arith, two.1)))

-- the value of a length, as a put
abbrev value_read : ℕ × List ℕ → Result (Change × List ℕ) ℕ
value_read n = bytes_at n.0 n.1 >>= λ value. Ok (changes.Put value.0, value.1)

-- the change after its tag
abbrev tag_read : ℕ → ℕ → ℕ × List ℕ → Result (Change × List ℕ) ℕ
tag_read most left n = cond (eqb n.0 DELETION_TAG) (Ok (changes.Del, n.1)) (cond (ltb most n.0) (Err left) (value_read n))

value_taken : (most : ℕ) (bytes : List ℕ) (n : ℕ × List ℕ) (x : Change × List ℕ) → Takes bytes (to_be_bytes w32 n.0) n.1 → cond (ltb most n.0) (Err (length bytes)) (value_read n) ≡ Ok x → Takes bytes (change_field x.0) x.1 × IsChangeWithin most x.0
value_taken most bytes n x one e =
    let q = passed (ltb most n.0) (length bytes) (value_read n) x e in
    let b = went_well (bytes_at n.0 n.1) (λ value. good (changes.Put value.0, value.1)) x q.1 in
    let value = b.0 in
    let two = bytes_taken n.0 n.1 value.0 value.1 one.rest_fits b.1 in
    let whole = good_is (changes.Put value.0, value.1) x b.2 in
    let both = takes-then bytes (to_be_bytes w32 n.0) n.1 value.0 value.1 one two.0 in
    let high : n.0 ≤ most = ltb-false _ _ q.0 in
    let at_front : Takes bytes (to_be_bytes w32 (length value.0) ++ value.0) value.1 = subst (λ (k : ℕ). Takes bytes (to_be_bytes w32 k ++ value.0) value.1) (sym two.1) both in
    subst (λ (y : Change × List ℕ). Takes bytes (change_field y.0) y.1 × IsChangeWithin most y.0) whole (at_front, omega (arith, two.1))

tag_taken : (most : ℕ) (bytes : List ℕ) (n : ℕ × List ℕ) (x : Change × List ℕ) → Takes bytes (to_be_bytes w32 n.0) n.1 → tag_read most (length bytes) n ≡ Ok x → Takes bytes (change_field x.0) x.1 × IsChangeWithin most x.0
tag_taken most bytes n x one e = by_tag (eqb n.0 DELETION_TAG) refl e
  where
    by_tag : (b : Bool) → eqb n.0 DELETION_TAG ≡ b → cond b (good (changes.Del, n.1)) (cond (ltb most n.0) (Err (length bytes)) (value_read n)) ≡ good x → Takes bytes (change_field x.0) x.1 × IsChangeWithin most x.0
    by_tag true t h =
        let tag : n.0 ≡ DELETION_TAG = eqb-true _ _ t in
        let whole = good_is (changes.Del, n.1) x h in
        let at_front : Takes bytes (to_be_bytes w32 DELETION_TAG) n.1 = subst (λ (k : ℕ). Takes bytes (to_be_bytes w32 k) n.1) tag one in
        subst (λ (y : Change × List ℕ). Takes bytes (change_field y.0) y.1 × IsChangeWithin most y.0) whole (at_front, tt)
    by_tag false t h = value_taken most bytes n x one h

change_taken : (most : ℕ) (bytes : List ℕ) (x : Change × List ℕ) → AreBytes bytes → change_field_at most bytes ≡ Ok x → Takes bytes (change_field x.0) x.1 × IsChangeWithin most x.0
unfolding change_field_at
change_taken most bytes x fits e =
    let a = went_well (number_at w32 bytes) (λ n. tag_read most (length bytes) n) x e in
    let one = number_taken w32 (2 ^ 32) wide32 bytes a.0 fits a.1 in
    tag_taken most bytes a.0 x one.0 a.2

pub pair_taken : PairWasSpelled
unfolding pair_at
pair_taken key_max value_max key change bytes rest fits e =
    let last = λ (k : List ℕ × List ℕ). change_field_at value_max k.1 >>= λ c. good ((k.0, c.0), c.1) in
    let a = went_well (key_field_at key_max bytes) last ((key, change), rest) e in
    let k = a.0 in
    let one = key_taken key_max bytes k fits a.1 in
    let b = went_well (change_field_at value_max k.1) (λ c. good ((k.0, c.0), c.1)) ((key, change), rest) a.2 in
    let c = b.0 in
    let two = change_taken value_max k.1 c one.0.rest_fits b.1 in
    let whole = good_is ((k.0, c.0), c.1) ((key, change), rest) b.2 in
    let both = takes-then bytes (to_be_bytes w16 (length k.0) ++ k.0) k.1 (change_field c.0) c.1 one.0 two.0 in
    let spelled : bytes ≡ pair_field k.0 c.0 ++ c.1 = both.parts ∙ ap (λ (t : List ℕ). t ++ c.1) (append_assoc (to_be_bytes w16 (length k.0)) k.0 (change_field c.0)) in
    subst (λ (y : (List ℕ × Change) × List ℕ). (bytes ≡ pair_field y.0.0 y.0.1 ++ y.1) × IsPairWithin key_max value_max y.0.0 y.0.1) whole (spelled, (one.1.0, one.1.1, two.1))

-- ---- no wrong place is past the end

-- what is left after a field, or from the wrong one on, is at most so much
abbrev pub IsInside : {X : Type 0} → ℕ → Result (X × List ℕ) ℕ → Type 0
IsInside n (Ok x) = length x.1 ≤ n
IsInside n (Err left) = left ≤ n

pub inside-weaker : {X : Type 0} (m n : ℕ) (r : Result (X × List ℕ) ℕ) → m ≤ n → IsInside m r → IsInside n r
inside-weaker m n (Ok x) le h = omega (arith, h, le)
inside-weaker m n (Err left) le h = omega (arith, h, le)

-- one field after another
pub inside-then : {X Y : Type 0} (n : ℕ) (r : Result (X × List ℕ) ℕ) (f : X × List ℕ → Result (Y × List ℕ) ℕ) → IsInside n r → ((x : X × List ℕ) → length x.1 ≤ n → IsInside n (f x)) → IsInside n (r >>= f)
inside-then n (Ok x) f h g = g x h
inside-then n (Err left) f h g = h

pub number_inside : (w : Width) (bytes : List ℕ) → IsInside (length bytes) (number_at w bytes)
number_inside w bytes = by_test (ltb (length bytes) (byte_len w))
  where
    by_test : (b : Bool) → IsInside (length bytes) (cond b (Err (length bytes)) (Ok (from_be_bytes w (take (byte_len w) bytes), drop (byte_len w) bytes)))
    by_test true = omega arith
    by_test false = omega (arith, length-drop (byte_len w) bytes)

pub bytes_inside : (n : ℕ) (bytes : List ℕ) → IsInside (length bytes) (bytes_at n bytes)
bytes_inside n bytes = by_test (ltb (length bytes) n)
  where
    by_test : (b : Bool) → IsInside (length bytes) (cond b (Err (length bytes)) (Ok (take n bytes, drop n bytes)))
    by_test true = omega arith
    by_test false = omega (arith, length-drop n bytes)

inside_test : {X : Type 0} (n left : ℕ) (r : Result (X × List ℕ) ℕ) (b : Bool) → left ≤ n → IsInside n r → IsInside n (cond b (Err left) r)
inside_test n left r true le h = le
inside_test n left r false le h = h

key_inside : (most : ℕ) (bytes : List ℕ) → IsInside (length bytes) (key_field_at most bytes)
unfolding key_field_at
key_inside most bytes =
    inside-then (length bytes) (number_at w16 bytes) (λ n. cond (eqb n.0 0) (Err (length bytes)) (cond (ltb most n.0) (Err (length bytes)) (bytes_at n.0 n.1))) (number_inside w16 bytes)
    (λ n le. inside_test (length bytes) (length bytes) (cond (ltb most n.0) (Err (length bytes)) (bytes_at n.0 n.1)) (eqb n.0 0) (omega arith)
    (inside_test (length bytes) (length bytes) (bytes_at n.0 n.1) (ltb most n.0) (omega arith) (inside-weaker (length n.1) (length bytes) (bytes_at n.0 n.1) le (bytes_inside n.0 n.1))))

change_inside : (most : ℕ) (bytes : List ℕ) → IsInside (length bytes) (change_field_at most bytes)
unfolding change_field_at
change_inside most bytes =
    inside-then (length bytes) (number_at w32 bytes) (λ n. tag_read most (length bytes) n) (number_inside w32 bytes)
    (λ n le. by_tag n le (eqb n.0 DELETION_TAG)
    (inside_test (length bytes) (length bytes) (value_read n) (ltb most n.0) (omega arith)
    (inside-then (length bytes) (bytes_at n.0 n.1) (λ value. Ok (changes.Put value.0, value.1)) (inside-weaker (length n.1) (length bytes) (bytes_at n.0 n.1) le (bytes_inside n.0 n.1)) (λ value short. short))))
  where
    by_tag : (n : ℕ × List ℕ) → length n.1 ≤ length bytes → (b : Bool) → IsInside (length bytes) (cond (ltb most n.0) (Err (length bytes)) (value_read n)) → IsInside (length bytes) (cond b (Ok (changes.Del, n.1)) (cond (ltb most n.0) (Err (length bytes)) (value_read n)))
    by_tag n le true h = le
    by_tag n le false h = h

pub pair_inside : (key_max value_max : ℕ) (bytes : List ℕ) → IsInside (length bytes) (pair_at key_max value_max bytes)
unfolding pair_at
pair_inside key_max value_max bytes =
    inside-then (length bytes) (key_field_at key_max bytes) (λ k. change_field_at value_max k.1 >>= λ c. Ok ((k.0, c.0), c.1)) (key_inside key_max bytes)
    (λ k le. inside-then (length bytes) (change_field_at value_max k.1) (λ c. Ok ((k.0, c.0), c.1)) (inside-weaker (length k.1) (length bytes) (change_field_at value_max k.1) le (change_inside value_max k.1)) (λ c short. short))

pub bad_inside : BadFieldIsInside
bad_inside key_max value_max bytes left e = subst (λ (r : Result ((List ℕ × Change) × List ℕ) ℕ). IsInside (length bytes) r) e (pair_inside key_max value_max bytes)
