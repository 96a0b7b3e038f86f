-- Reading and spelling are inverse. To know: `request_takes` (what is read is spelled so), `request_again` (what is
-- spelled so is read).
use Rattle.rdb_base.specs.declared.limits.TheConstants.{KEY_MAX, VALUE_MAX}
use Rattle.std.proofs.Common.{◌≡◌, ℕ, suc, ◌+◌, ◌^◌, ◌<◌, ◌≤◌, Bool, true, false, cond, eqb, ltb, List, [], ◌∷◌, ◌++◌, length, take, drop, Result, Ok, Err, refl, sym, ap, subst, ◌∙◌, append_assoc, arith, inl, inr, ◌⊎◌}
use Rattle.std.specs.Int.{Width, w16, w32, byte_len, from_be_bytes, to_be_bytes}
use Rattle.std.proofs.lemmas.Bool.{cases_lt, ltb-false, le-ltb, eqb-true}
use Rattle.std.proofs.lemmas.Bool.Decides.{nat_tests}
use Rattle.std.proofs.lemmas.List.{take_at, drop_at, take-append-drop, length-append, length-take, get_or-drop, get_or-take, get_or_past, append-nil, nil_from_length}
use Rattle.std.proofs.lemmas.Nat.{be_bytes_2, be_bytes_4, from_be_bytes-to_be_bytes_2, from_be_bytes-to_be_bytes_4}
use Rattle.rdb_base.specs.Lengths.{IsKeyLength, IsValueLength}
use Rattle.history_core.specs.declared.request.Request.{Request}
use Rattle.history_core.specs.declared.request.Request.TheVariants.{Put, Delete, Get, Sync, Quit}
use Rattle.wire_protocol.specs.declared.codes.TheConstants as codes
use Rattle.rdb_base.specs.Bytes.{AreBytes}
use Rattle.wire_protocol.specs.Grammar.{key_field, value_field, request_body, IsRequest}
use Rattle.wire_protocol.specs.Reading.{◌>>=◌, number_at, bytes_at, key_at, value_at, ended, only_key_at, keyed_at, put_at, request_at}

AreBytes-drop : (n : ℕ) (bytes : List ℕ) → AreBytes bytes → AreBytes (drop n bytes)
AreBytes-drop n bytes h i = rw get_or-drop (h (n + i))

pub AreBytes-take : (n : ℕ) (bytes : List ℕ) → AreBytes bytes → AreBytes (take n bytes)
AreBytes-take n bytes h i =
    elim (cases_lt i n) [
      | inl lt ↦ rw (get_or-take n bytes i 0 lt) (h i)
      | inr le ↦ rw (get_or_past (take n bytes) i 0 (omega (arith, length-take n bytes))) (omega arith)
    ]

AreBytes-rest : (b : ℕ) (bytes : List ℕ) → AreBytes (b ∷ bytes) → AreBytes bytes
AreBytes-rest b bytes h i = h (suc i)

abbrev pub good : {A : Type 0} → A → Result A ℕ
good x = Ok x

pub good_is : {A : Type 0} (x y : A) → good x ≡ good y → x ≡ y
good_is x y e = cc

-- the step before one that went well
went_well : {A B : Type 0} (r : Result A ℕ) (f : A → Result B ℕ) (y : B) → (r >>= f) ≡ Ok y → (x : A) × (r ≡ Ok x) × (f x ≡ Ok y)
went_well (Ok x) f y e = (x, refl, e)
went_well (Err d) f y e = absurd cc

-- a test that did not refuse
passed : {A : Type 0} (b : Bool) (d : ℕ) (r : Result A ℕ) (y : A) → cond b (Err d) r ≡ Ok y → (b ≡ false) × (r ≡ Ok y)
passed true d r y e = absurd cc
passed false d r y e = (refl, e)

held_at_end : {A : Type 0} (b : Bool) (d : ℕ) (x y : A) → cond b (Ok x) (Err d) ≡ Ok y → (b ≡ true) × (x ≡ y)
held_at_end true d x y e = (refl, cc)
held_at_end false d x y e = absurd cc

chosen : {A : Type 0} (b : Bool) (x y z : A) → cond b x y ≡ z → ((b ≡ true) × (x ≡ z)) ⊎ ((b ≡ false) × (y ≡ z))
chosen true x y z e = inl (refl, e)
chosen false x y z e = inr (refl, e)

-- what was taken from the front
record Takes (bytes text rest : List ℕ) : Type 0 where
  pub parts : bytes ≡ text ++ rest
  pub rest_fits : AreBytes rest

Takes-then : (a x b y c : List ℕ) → Takes a x b → Takes b y c → Takes a (x ++ y) c
Takes-then a x b y c p q = record { parts = p.parts ∙ ap (λ (t : List ℕ). x ++ t) q.parts ∙ sym (append_assoc x y c); rest_fits = q.rest_fits }

record IsWide (w : Width) (limit : ℕ) : Type 0 where
  pub len : (n : ℕ) → length (to_be_bytes w n) ≡ byte_len w
  pub back : (bytes : List ℕ) → length bytes ≡ byte_len w → AreBytes bytes → to_be_bytes w (from_be_bytes w bytes) ≡ bytes
  pub again : (n : ℕ) → n < limit → from_be_bytes w (to_be_bytes w n) ≡ n
  pub below : (bytes : List ℕ) → AreBytes bytes → from_be_bytes w bytes < limit

wide16 : IsWide w16 (2 ^ 16)
wide16 = record {
  len = λ n. refl;
  back = λ bytes len fits. be_bytes_2 bytes _ len fits refl;
  again = λ n lt. from_be_bytes-to_be_bytes_2 n lt;
  below = λ bytes fits. omega (arith, fits 0, fits 1);
}

wide32 : IsWide w32 (2 ^ 32)
wide32 = record {
  len = λ n. refl;
  back = λ bytes len fits. be_bytes_4 bytes _ len fits refl;
  again = λ n lt. from_be_bytes-to_be_bytes_4 n lt;
  below = λ bytes fits. omega (arith, fits 0, fits 1, fits 2, fits 3);
}

-- ---- numbers and runs of bytes

bytes_take : (n : ℕ) (bytes text rest : List ℕ) → AreBytes bytes → bytes_at n bytes ≡ Ok (text, rest) → Takes bytes text rest × (length text ≡ n)
bytes_take n bytes text rest fits e =
    let p = passed (ltb (length bytes) n) codes.CUT_FIELD (Ok (take n bytes, drop n bytes)) (text, rest) e in
    let long : n ≤ length bytes = ltb-false _ _ p.0 in
    let both = good_is (take n bytes, drop n bytes) (text, rest) p.1 in
    let len : length (take n bytes) ≡ n = omega (arith, length-take n bytes) in
    let at_front : Takes bytes (take n bytes) (drop n bytes) = record { parts = sym (take-append-drop n bytes); rest_fits = AreBytes-drop n bytes fits } in
    subst (λ (x : List ℕ × List ℕ). Takes bytes x.0 x.1 × (length x.0 ≡ n)) both (at_front, len)

bytes_again : (text rest : List ℕ) → bytes_at (length text) (text ++ rest) ≡ Ok (text, rest)
bytes_again text rest =
    let long : ltb (length (text ++ rest)) (length text) ≡ false = le-ltb _ _ (omega (arith, length-append text rest)) in
    rw (long, take_at text rest (length text) refl, drop_at text rest (length text) refl) refl

number_takes : (w : Width) (limit : ℕ) (wide : IsWide w limit) (bytes : List ℕ) (x : ℕ × List ℕ) → AreBytes bytes → number_at w bytes ≡ Ok x → Takes bytes (to_be_bytes w x.0) x.1 × (x.0 < limit)
number_takes w limit wide bytes x fits e =
    let p = passed (ltb (length bytes) (byte_len w)) codes.CUT_FIELD (Ok (from_be_bytes w (take (byte_len w) bytes), drop (byte_len w) bytes)) x e in
    let long : byte_len w ≤ length bytes = ltb-false _ _ p.0 in
    let both = good_is (from_be_bytes w (take (byte_len w) bytes), drop (byte_len w) bytes) x p.1 in
    let front_fits = AreBytes-take (byte_len w) bytes fits in
    let len : length (take (byte_len w) bytes) ≡ byte_len w = omega (arith, length-take (byte_len w) bytes) in
    let front : to_be_bytes w (from_be_bytes w (take (byte_len w) bytes)) ≡ take (byte_len w) bytes = wide.back (take (byte_len w) bytes) len front_fits in
    let at_front : Takes bytes (to_be_bytes w (from_be_bytes w (take (byte_len w) bytes))) (drop (byte_len w) bytes) = record { parts = rw front (sym (take-append-drop (byte_len w) bytes)); rest_fits = AreBytes-drop (byte_len w) bytes fits } in
    subst (λ (y : ℕ × List ℕ). Takes bytes (to_be_bytes w y.0) y.1 × (y.0 < limit)) both (at_front, wide.below (take (byte_len w) bytes) front_fits)

number_again : (w : Width) (limit : ℕ) (wide : IsWide w limit) (n : ℕ) (rest : List ℕ) → n < limit → number_at w (to_be_bytes w n ++ rest) ≡ Ok (n, rest)
number_again w limit wide n rest lt =
    let len = wide.len n in
    let long : ltb (length (to_be_bytes w n ++ rest)) (byte_len w) ≡ false = le-ltb _ _ (omega (arith, length-append (to_be_bytes w n) rest)) in
    rw (long, take_at (to_be_bytes w n) rest (byte_len w) len, drop_at (to_be_bytes w n) rest (byte_len w) len, wide.again n lt) refl

-- ---- keys and values

not_zero : (m : ℕ) → eqb m 0 ≡ false → 1 ≤ m
not_zero m h = grind (arith, nat_tests)

key_takes : (bytes : List ℕ) (x : List ℕ × List ℕ) → AreBytes bytes → key_at bytes ≡ Ok x → Takes bytes (key_field x.0) x.1 × IsKeyLength (length x.0)
unfolding key_at
key_takes bytes x fits e =
    let a = went_well (number_at w16 bytes) (λ n. cond (eqb n.0 0) (Err codes.BAD_KEY) (cond (ltb KEY_MAX n.0) (Err codes.BAD_KEY) (bytes_at n.0 n.1))) x e in
    let n = a.0 in
    let one = number_takes w16 (2 ^ 16) wide16 bytes n fits a.1 in
    let p = passed (eqb n.0 0) codes.BAD_KEY (cond (ltb KEY_MAX n.0) (Err codes.BAD_KEY) (bytes_at n.0 n.1)) x a.2 in
    let q = passed (ltb KEY_MAX n.0) codes.BAD_KEY (bytes_at n.0 n.1) x p.1 in
    let two = bytes_take n.0 n.1 x.0 x.1 one.0.rest_fits q.1 in
    let both = Takes-then bytes (to_be_bytes w16 n.0) n.1 x.0 x.1 one.0 two.0 in
    let low : 1 ≤ n.0 = not_zero n.0 p.0 in
    let high : n.0 ≤ KEY_MAX = ltb-false _ _ q.0 in
    (subst (λ (k : ℕ). Takes bytes (to_be_bytes w16 k ++ x.0) x.1) (sym two.1) both, (omega (arith, two.1), omega (arith, two.1)))

key_again : (key rest : List ℕ) → IsKeyLength (length key) → key_at (key_field key ++ rest) ≡ Ok (key, rest)
unfolding key_at
key_again key rest fits =
    let low : eqb (length key) 0 ≡ false = grind (arith, nat_tests) in
    let high : ltb KEY_MAX (length key) ≡ false = le-ltb _ _ fits.1 in
    ap key_at (append_assoc (to_be_bytes w16 (length key)) key rest) ∙ rw (number_again w16 (2 ^ 16) wide16 (length key) (key ++ rest) (omega arith), low, high, bytes_again key rest) refl

value_takes : (bytes : List ℕ) (x : List ℕ × List ℕ) → AreBytes bytes → value_at bytes ≡ Ok x → Takes bytes (value_field x.0) x.1 × IsValueLength (length x.0)
unfolding value_at
value_takes bytes x fits e =
    let a = went_well (number_at w32 bytes) (λ n. cond (ltb VALUE_MAX n.0) (Err codes.BAD_VALUE) (bytes_at n.0 n.1)) x e in
    let n = a.0 in
    let one = number_takes w32 (2 ^ 32) wide32 bytes n fits a.1 in
    let q = passed (ltb VALUE_MAX n.0) codes.BAD_VALUE (bytes_at n.0 n.1) x a.2 in
    let two = bytes_take n.0 n.1 x.0 x.1 one.0.rest_fits q.1 in
    let both = Takes-then bytes (to_be_bytes w32 n.0) n.1 x.0 x.1 one.0 two.0 in
    let high : n.0 ≤ VALUE_MAX = ltb-false _ _ q.0 in
    (subst (λ (k : ℕ). Takes bytes (to_be_bytes w32 k ++ x.0) x.1) (sym two.1) both, omega (arith, two.1))

value_again : (value rest : List ℕ) → IsValueLength (length value) → value_at (value_field value ++ rest) ≡ Ok (value, rest)
unfolding value_at
value_again value rest fits =
    let high : ltb VALUE_MAX (length value) ≡ false = le-ltb _ _ fits in
    ap value_at (append_assoc (to_be_bytes w32 (length value)) value rest) ∙ rw (number_again w32 (2 ^ 32) wide32 (length value) (value ++ rest) (omega arith), high, bytes_again value rest) refl

-- ---- requests

record Spells (rest : List ℕ) (fields : Request → List ℕ) (request : Request) : Type 0 where
  pub parts : rest ≡ fields request
  pub fits : IsRequest request

ended_takes : {A : Type 0} (asked read : A) (rest : List ℕ) → ended asked rest ≡ Ok read → (asked ≡ read) × (rest ≡ [])
ended_takes asked read rest e =
    let p = held_at_end (eqb (length rest) 0) codes.TRAILING_BYTES asked read e in
    (p.1, nil_from_length rest (eqb-true _ _ p.0))

put_takes : (bytes : List ℕ) (request : Request) → AreBytes bytes → put_at bytes ≡ Ok request → (codes.PUT ∷ bytes ≡ request_body request) × IsRequest request
unfolding put_at
put_takes bytes request fits e =
    let a = went_well (key_at bytes) (λ key. value_at key.1 >>= λ value. ended (Put (record { key = key.0; value = value.0 })) value.1) request e in
    let b = went_well (value_at a.0.1) (λ value. ended (Put (record { key = a.0.0; value = value.0 })) value.1) request a.2 in
    let c = ended_takes (Put (record { key = a.0.0; value = b.0.0 })) request b.0.1 b.2 in
    let one = key_takes bytes a.0 fits a.1 in
    let two = value_takes a.0.1 b.0 one.0.rest_fits b.1 in
    let both = Takes-then bytes (key_field a.0.0) a.0.1 (value_field b.0.0) b.0.1 one.0 two.0 in
    let whole : bytes ≡ key_field a.0.0 ++ value_field b.0.0 = both.parts ∙ ap (λ (t : List ℕ). (key_field a.0.0 ++ value_field b.0.0) ++ t) c.1 ∙ append-nil (key_field a.0.0 ++ value_field b.0.0) in
    subst (λ (r : Request). (codes.PUT ∷ bytes ≡ request_body r) × IsRequest r) c.0 (ap (λ (t : List ℕ). codes.PUT ∷ t) whole, (one.1, two.1))

only_key_takes : (bytes key : List ℕ) → AreBytes bytes → only_key_at bytes ≡ Ok key → (bytes ≡ key_field key) × IsKeyLength (length key)
unfolding only_key_at
only_key_takes bytes key fits e =
    let a = went_well (key_at bytes) (λ read. ended read.0 read.1) key e in
    let c = ended_takes a.0.0 key a.0.1 a.2 in
    let one = key_takes bytes a.0 fits a.1 in
    let whole : bytes ≡ key_field a.0.0 = one.0.parts ∙ ap (λ (t : List ℕ). key_field a.0.0 ++ t) c.1 ∙ append-nil (key_field a.0.0) in
    subst (λ (k : List ℕ). (bytes ≡ key_field k) × IsKeyLength (length k)) c.0 (whole, one.1)

-- a request that names one key
keyed_takes : (asked : List ℕ → Request) (code : ℕ) (bytes : List ℕ) (request : Request) → ((key : List ℕ) → request_body (asked key) ≡ code ∷ key_field key) → ((key : List ℕ) → IsKeyLength (length key) → IsRequest (asked key)) → AreBytes bytes → keyed_at asked bytes ≡ Ok request → (code ∷ bytes ≡ request_body request) × IsRequest request
keyed_takes asked code bytes request body is fits e =
    let a = went_well (only_key_at bytes) (λ key. good (asked key)) request e in
    let one = only_key_takes bytes a.0 fits a.1 in
    let whole : code ∷ bytes ≡ request_body (asked a.0) = ap (λ (t : List ℕ). code ∷ t) one.0 ∙ sym (body a.0) in
    subst (λ (r : Request). (code ∷ bytes ≡ request_body r) × IsRequest r) (good_is (asked a.0) request a.2) (whole, is a.0 one.1)

-- a request that is its code alone
bare_takes : (asked : Request) (code : ℕ) (rest : List ℕ) (request : Request) → request_body asked ≡ code ∷ [] → IsRequest asked → ended asked rest ≡ Ok request → (code ∷ rest ≡ request_body request) × IsRequest request
bare_takes asked code rest request body is e =
    let c = ended_takes asked request rest e in
    let whole : code ∷ rest ≡ request_body asked = ap (λ (t : List ℕ). code ∷ t) c.1 ∙ sym body in
    subst (λ (r : Request). (code ∷ rest ≡ request_body r) × IsRequest r) c.0 (whole, is)

-- the reading of a code and its fields: what the fields read as where they follow that code, or else by another code
abbrev by_code : ℕ → ℕ → Result Request ℕ → Result Request ℕ → Result Request ℕ
by_code code one read other = cond (eqb code one) read other

-- what is read is spelled so
pub request_takes : (body : List ℕ) (request : Request) → AreBytes body → request_at body ≡ Ok request → (body ≡ request_body request) × IsRequest request
unfolding request_at
request_takes [] request fits e = absurd cc
request_takes (code ∷ rest) request fits e =
    either codes.PUT (put_at rest) after_put (put_takes rest request rest_fits) (
    either codes.DELETE (keyed_at Delete rest) after_delete (keyed_takes Delete codes.DELETE rest request (λ key. refl) (λ key is. is) rest_fits) (
    either codes.GET (keyed_at Get rest) after_get (keyed_takes Get codes.GET rest request (λ key. refl) (λ key is. is) rest_fits) (
    either codes.SYNC (ended Sync rest) after_sync (bare_takes Sync codes.SYNC rest request refl tt) (
    either codes.QUIT (ended Quit rest) (Err codes.NO_REQUEST) (bare_takes Quit codes.QUIT rest request refl tt) (λ f. absurd (no_ok f)))))) e
  where
    rest_fits : AreBytes rest
    rest_fits = AreBytes-rest code rest fits

    after_sync : Result Request ℕ
    after_sync = by_code code codes.QUIT (ended Quit rest) (Err codes.NO_REQUEST)

    after_get : Result Request ℕ
    after_get = by_code code codes.SYNC (ended Sync rest) after_sync

    after_delete : Result Request ℕ
    after_delete = by_code code codes.GET (keyed_at Get rest) after_get

    after_put : Result Request ℕ
    after_put = by_code code codes.DELETE (keyed_at Delete rest) after_delete

    no_ok : {n : ℕ} → Err n ≡ good request → ⊥
    no_ok f = absurd cc

    either : (one : ℕ) (read other : Result Request ℕ) → (read ≡ Ok request → (one ∷ rest ≡ request_body request) × IsRequest request)
        → (other ≡ Ok request → (code ∷ rest ≡ request_body request) × IsRequest request) → by_code code one read other ≡ Ok request → (code ∷ rest ≡ request_body request) × IsRequest request
    either one read other this that f =
        elim (chosen (eqb code one) read other (Ok request) f) [
          | inl p ↦ rw (eqb-true _ _ p.0) (this p.1)
          | inr p ↦ that p.1
        ]

only_key_again : (key : List ℕ) → IsKeyLength (length key) → only_key_at (key_field key) ≡ Ok key
unfolding only_key_at
only_key_again key fits =
    let k : key_at (key_field key) ≡ Ok (key, []) = ap key_at (sym (append-nil (key_field key))) ∙ key_again key [] fits in
    rw k refl

-- what is spelled so is read
pub request_again : (request : Request) → IsRequest request → request_at (request_body request) ≡ Ok request
unfolding request_at put_at
request_again (Put row) fits =
    let value : value_at (value_field row.value) ≡ Ok (row.value, []) = ap value_at (sym (append-nil (value_field row.value))) ∙ value_again row.value [] fits.1 in
    rw (key_again row.key (value_field row.value) fits.0, value) refl
request_again (Delete key) fits = rw (only_key_again key fits) refl
request_again (Get key) fits = rw (only_key_again key fits) refl
request_again Sync fits = refl
request_again Quit fits = refl
