-- Whole messages: a body after its length. To know: `whole_message`, `spelling_read`, `same_request`, `requests_from`.
use Rattle.wire_protocol.specs.declared.limits.TheConstants.{BODY_MAX}
use Rattle.std.proofs.Common.{◌≡◌, ℕ, zero, suc, ◌+◌, ◌-◌, ◌^◌, ◌<◌, ◌≤◌, false, ltb, List, [], ◌∷◌, ◌++◌, length, take, drop, Ok, Err, None, refl, sym, ap, ◌∙◌, append_assoc, arith, inl, inr}
use Rattle.std.specs.Prelude.{IsErrOf}
use Rattle.wire_protocol.specs.declared.body_error.BodyError.{BodyError}
use Rattle.wire_protocol.specs.declared.body_error.BodyError.TheVariants as bodies
use Rattle.wire_protocol.specs.Decoding.{MessageAnswer, refusal}
use Rattle.std.specs.List.{AllByRecursion}
use Rattle.std.specs.Int.{w32, from_be_bytes, to_be_bytes}
use Rattle.std.proofs.lemmas.Bool.{cases_lt, lt-ltb, le-ltb}
use Rattle.std.proofs.lemmas.Bool.Decides.{nat_tests}
use Rattle.std.proofs.lemmas.List.{append-nil, take-append-drop, length-append, length-take, length-drop, take_at, drop_at, take-append-le}
use Rattle.std.proofs.lemmas.Nat.{be_bytes_4, from_be_bytes-to_be_bytes_4}
use Rattle.history_core.specs.declared.request.Request.{Request}
use Rattle.history_core.specs.declared.request.Request.TheVariants.{Put, Delete, Get, Sync, Quit}
use Rattle.rdb_base.specs.Bytes.{AreBytes}
use Rattle.wire_protocol.specs.Grammar.{request_body, spell_request, spell_requests, message, IsRequest}
use Rattle.wire_protocol.specs.Reading.{request_at, Fails, SpellsRequest}
use Rattle.wire_protocol.specs.Messages.{wanted, body_length, is_refused_length, IsWithin}
use Rattle.wire_protocol.proofs.ReadingLemmas.{AreBytes-take, request_again, good_is}

refused_zero : (n : ℕ) → is_refused_length n ≡ false → 1 ≤ n
refused_zero zero e = absurd cc
refused_zero (suc n) e = omega arith

-- where nothing is wanted and the length is lawful, all of the body is there
body_there : (bytes : List ℕ) → wanted bytes ≡ 0 → is_refused_length (body_length bytes) ≡ false → 4 + body_length bytes ≤ length bytes
body_there bytes e lawful =
    elim (cases_lt (length bytes) 4) [
      | inl few ↦ let is : wanted bytes ≡ 4 - length bytes = rw (lt-ltb _ _ few) refl in absurd (omega (arith, sym is ∙ e))
      | inr le ↦ let is : wanted bytes ≡ 4 + body_length bytes - length bytes = rw (le-ltb _ _ le, lawful) refl in omega (arith, sym is ∙ e)
    ]

pub whole_message : (bytes : List ℕ) → AreBytes bytes → IsWithin bytes → wanted bytes ≡ 0 → is_refused_length (body_length bytes) ≡ false → bytes ≡ message (drop 4 bytes)
whole_message bytes fits within e lawful =
    let there = body_there bytes e lawful in
    let some = refused_zero (body_length bytes) lawful in
    let most = (within (omega arith)).2 in
    let len : length (drop 4 bytes) ≡ body_length bytes = omega (arith, length-drop 4 bytes) in
    let four : length (take 4 bytes) ≡ 4 = omega (arith, length-take 4 bytes) in
    let front : to_be_bytes w32 (length (drop 4 bytes)) ≡ take 4 bytes = be_bytes_4 (take 4 bytes) _ four (AreBytes-take 4 bytes fits) len in
    sym (take-append-drop 4 bytes) ∙ ap (λ (t : List ℕ). t ++ drop 4 bytes) (sym front)

abbrev pub IsShort : List ℕ → Type 0
IsShort body = length body < 2 ^ 32

body_short : (request : Request) → IsRequest request → IsShort (request_body request)
body_short (Put row) fits = omega (arith, length-append row.key (to_be_bytes w32 (length row.value) ++ row.value), fits.0, fits.1)
body_short (Delete key) fits = omega (arith, fits)
body_short (Get key) fits = omega (arith, fits)
body_short Sync fits = omega arith
body_short Quit fits = omega arith

-- where two messages stand at one front they are one
pub same_message : (a b x y : List ℕ) → IsShort a → IsShort b → message a ++ x ≡ message b ++ y → (a ≡ b) × (x ≡ y)
same_message a b x y sa sb e =
    let first : to_be_bytes w32 (length a) ≡ to_be_bytes w32 (length b) = ap (take 4) e in
    let len : length a ≡ length b = sym (from_be_bytes-to_be_bytes_4 (length a) sa) ∙ ap (from_be_bytes w32) first ∙ from_be_bytes-to_be_bytes_4 (length b) sb in
    let rest : a ++ x ≡ b ++ y = ap (drop 4) e in
    (sym (take_at a x (length a) refl) ∙ ap (take (length a)) rest ∙ take_at b y (length a) (sym len), sym (drop_at a x (length a) refl) ∙ ap (drop (length a)) rest ∙ drop_at b y (length a) (sym len))

pub same_request : (a b : Request) (x y : List ℕ) → IsRequest a → IsRequest b → spell_request a ++ x ≡ spell_request b ++ y → (a ≡ b) × (x ≡ y)
same_request a b x y fa fb e =
    let s = same_message (request_body a) (request_body b) x y (body_short a fa) (body_short b fb) e in
    (good_is a b (sym (request_again a fa) ∙ ap request_at s.0 ∙ request_again b fb), s.1)

lawful_length : (n : ℕ) → (n ≡ 0 → ⊥) → n ≤ BODY_MAX → is_refused_length n ≡ false
lawful_length n ne le = grind (arith, nat_tests)

-- the names are those of the steps of the call
pub held_is : (held rest : List ℕ) (w n : ℕ) → rest ≡ drop 4 held → AreBytes held → IsWithin held → w ≡ wanted held → w ≡ 0 → n ≡ body_length held → (n ≡ 0 → ⊥) → n ≤ BODY_MAX → held ≡ message rest
held_is held rest w n r fits within e z f ne le =
    let lawful : is_refused_length (body_length held) ≡ false = lawful_length (body_length held) (λ q. ne (f ∙ q)) (omega (arith, f)) in
    whole_message held fits within (sym e ∙ z) lawful ∙ ap message (sym r)

pub refused_answer : (held rest : List ℕ) (w n : ℕ) (e : BodyError) → rest ≡ drop 4 held → held ≡ message rest → w ≡ wanted held → w ≡ 0 → n ≡ body_length held → (n ≡ 0 → ⊥) → n ≤ BODY_MAX → Fails e (request_at rest) → (IsErrOf {T = Request} (Err e) bodies.Memory → SpellsRequest rest) → IsWithin held → MessageAnswer (Err e) held
refused_answer held rest w n (bodies.Bad code) r whole a z f ne le fails memory within =
    let lawful : is_refused_length (body_length held) ≡ false = lawful_length (body_length held) (λ q. ne (f ∙ q)) (omega (arith, f)) in
    let read : request_at (drop 4 held) ≡ Err code = ap request_at (sym r) ∙ fails in
    (sym a ∙ z, rw (lawful, read) refl, within)
refused_answer held rest w n bodies.Memory r whole a z f ne le fails memory within =
    let s = memory refl in
    (s.0, whole ∙ ap message s.1, s.2, s.3, s.4)

-- ---- a spelling at the front of bytes

spelled_length : (request : Request) (more : List ℕ) → IsRequest request → body_length (spell_request request ++ more) ≡ length (request_body request)
spelled_length request more fits = from_be_bytes-to_be_bytes_4 (length (request_body request)) (body_short request fits)

body_lawful : (request : Request) → IsRequest request → is_refused_length (length (request_body request)) ≡ false
body_lawful (Put row) fits = lawful_length (length (request_body (Put row))) (λ e. absurd (omega (arith, e))) (omega (arith, length-append row.key (to_be_bytes w32 (length row.value) ++ row.value), fits.0, fits.1))
body_lawful (Delete key) fits = lawful_length (length (request_body (Delete key))) (λ e. absurd (omega (arith, e))) (omega (arith, fits))
body_lawful Sync fits = refl
body_lawful (Get key) fits = lawful_length (length (request_body (Get key))) (λ e. absurd (omega (arith, e))) (omega (arith, fits))
body_lawful Quit fits = refl

-- nothing is wanted where a whole request stands
pub nothing_wanted : (request : Request) (more : List ℕ) → IsRequest request → wanted (spell_request request ++ more) ≡ 0
nothing_wanted request more fits =
    let bytes = spell_request request ++ more in
    let len : length (spell_request request ++ more) ≡ 4 + length (request_body request) + length more = omega (arith, length-append (request_body request) more) in
    let n = spelled_length request more fits in
    let four : 4 ≤ length (spell_request request ++ more) = omega (arith, len) in
    let long : ltb (length bytes) 4 ≡ false = le-ltb (length bytes) 4 four in
    let lawful : is_refused_length (body_length bytes) ≡ false = ap is_refused_length n ∙ body_lawful request fits in
    let is : wanted bytes ≡ 4 + body_length bytes - length bytes = rw (long, lawful) refl in
    is ∙ omega (arith, n, len)

four_held : (held : List ℕ) → wanted held ≡ 0 → 4 ≤ length held
four_held held e =
    elim (cases_lt (length held) 4) [
      | inl few ↦ let is : wanted held ≡ 4 - length held = rw (lt-ltb _ _ few) refl in absurd (omega (arith, sym is ∙ e))
      | inr le ↦ le
    ]

-- whole bytes at the front of a request's spelling are refused by no test
pub no_refusal : (request : Request) (held more rest : List ℕ) → IsRequest request → IsWithin held → wanted held ≡ 0 → held ++ rest ≡ spell_request request ++ more → refusal held ≡ None
no_refusal request held more rest fits within e is =
    let four = four_held held e in
    let front : take 4 held ≡ take 4 (spell_request request ++ more) = sym (take-append-le 4 held rest four) ∙ ap (take 4) is in
    let n : body_length held ≡ length (request_body request) = ap (from_be_bytes w32) front ∙ spelled_length request more fits in
    let lawful : is_refused_length (body_length held) ≡ false = ap is_refused_length n ∙ body_lawful request fits in
    let there = body_there held e lawful in
    let some = refused_zero (body_length held) lawful in
    let most = (within (omega (arith))).2 in
    let len : length held ≡ length (spell_request request) = omega (arith, n) in
    let same : held ≡ spell_request request = sym (take_at held rest (length held) refl) ∙ ap (take (length held)) is ∙ take_at (spell_request request) more (length held) (sym len) in
    let body : drop 4 held ≡ request_body request = ap (drop 4) same in
    let read : request_at (drop 4 held) ≡ Ok request = ap request_at body ∙ request_again request fits in
    rw (lawful, read) refl

-- the spelling of a request is whole, and reads as that request
pub spelling_read : (request : Request) → IsRequest request → (wanted (spell_request request) ≡ 0) × (refusal (spell_request request) ≡ None) × (request_at (request_body request) ≡ Ok request)
spelling_read request fits =
    let alone : spell_request request ++ [] ≡ spell_request request = append-nil (spell_request request) in
    let n : body_length (spell_request request) ≡ length (request_body request) = sym (ap body_length alone) ∙ spelled_length request [] fits in
    let lawful : is_refused_length (body_length (spell_request request)) ≡ false = ap is_refused_length n ∙ body_lawful request fits in
    let read = request_again request fits in
    (sym (ap wanted alone) ∙ nothing_wanted request [] fits, rw (lawful, read) refl, read)

-- ---- requests one after the other

-- two lists of requests at one front: the longer one goes on where the shorter one ends
pub requests_from : (asked all : List Request) (more : List ℕ) → AllByRecursion IsRequest asked → AllByRecursion IsRequest all → spell_requests all ≡ spell_requests asked ++ more → (rest : List Request) × (all ≡ asked ++ rest) × (spell_requests rest ≡ more) × AllByRecursion IsRequest rest
requests_from [] all more fa fb e = (all, refl, e, fb)
requests_from (q ∷ asked) [] more fa fb e = absurd (omega (arith, ap length e, length-append (spell_request q) (spell_requests asked), length-append (spell_request q ++ spell_requests asked) more))
requests_from (q ∷ asked) (p ∷ all) more fa fb e =
    let s = same_request p q (spell_requests all) (spell_requests asked ++ more) fb.0 fa.0 (e ∙ append_assoc (spell_request q) (spell_requests asked) more) in
    let r = requests_from asked all more fa.1 fb.1 s.1 in
    (r.0, cons_both p q all (asked ++ r.0) s.0 r.1, r.2, r.3)
  where
    cons_both : (p q : Request) (ps qs : List Request) → p ≡ q → ps ≡ qs → p ∷ ps ≡ q ∷ qs
    cons_both p q ps qs a b = cc
