-- Bytes on their way from a reader and to a writer, where they are known. The lemmas to know are `given-through` and
-- `handed_out`.
use Rattle.std.proofs.Common.{◌≡◌, ℕ, ◌+◌, ◌<◌, ◌≤◌, min, List, [], ◌++◌, length, take, drop, Option, None, Some, Result, Ok, Err, sym, ap, ◌∙◌, append-nil, append_assoc, arith}
use Rattle.std.proofs.lemmas.List.{take-append-drop, length-drop, nil_from_length, take_all, drop-drop}
use Rattle.std.proofs.Math.Seq.{take-add}
use Rattle.std.specs.Io.KnownBytes.{Keeps, Appends, Consumes, append_known, prepend_known, IsAtEnd}
use Rattle.std.proofs.KnownBytes.{Appends-trans, prepend_known-read}
use Rattle.link_model.specs.Attempts.{WritesFront}
use Rattle.link_model.specs.Gathered.{given, Gives}

-- what grew by bs, and then stayed
pub Appends-Keeps : (a b c : Option (List ℕ)) (bs : List ℕ) → Appends a b bs → Keeps b c → Appends a c bs
Appends-Keeps None b c bs p q = tt
Appends-Keeps (Some x) None c bs p q = absurd p
Appends-Keeps (Some x) (Some y) None bs p q = absurd q
Appends-Keeps (Some x) (Some y) (Some z) bs p q = q ∙ p

-- n bytes more of what comes after the first i
pub Appends-more : (a b c : Option (List ℕ)) (bytes : List ℕ) (i n : ℕ) → Appends a b (take i bytes)
    → Appends b c (take n (drop i bytes)) → Appends a c (take (i + n) bytes)
Appends-more a b c bytes i n p q = rw (take-add i n bytes)
    (Appends-trans a b c (take i bytes) (take n (drop i bytes)) p q)

-- what a writer gets of the bytes that are held is no longer held
pub given-passed : (a b : Option (List ℕ)) (held rest : List ℕ) (p n : ℕ) → rest ≡ drop p held
    → Appends a b (take n rest) → Keeps (given a p held) (given b (p + n) held)
given-passed None b held rest p n is h = tt
given-passed (Some x) None held rest p n is h = absurd h
given-passed (Some x) (Some y) held rest p n is h =
    let split : take n (drop p held) ++ drop (p + n) held ≡ drop p held =
    ap (λ (t : List ℕ). take n (drop p held) ++ t) (sym (drop-drop n p held)) ∙ take-append-drop n (drop p held) in
    ap (λ (t : List ℕ). t ++ drop (p + n) held) (h ∙ ap (λ (t : List ℕ). x ++ take n t) is)
    ∙ append_assoc x (take n (drop p held)) (drop (p + n) held) ∙ ap (λ (t : List ℕ). x ++ t) split

-- a writer that gets bytes, with nothing after them
through : (a b : Option (List ℕ)) (bs : List ℕ) → Appends a b bs → Appends (append_known a []) (append_known b []) bs
through None b bs q = tt
through (Some x) None bs q = absurd q
through (Some x) (Some y) bs q = append-nil y ∙ q ∙ ap (λ (l : List ℕ). l ++ bs) (sym (append-nil x))

-- a writer that gets bytes while nothing is held
pub given-through : (a b : Option (List ℕ)) (p : ℕ) (held bs : List ℕ) → held ≡ [] → Appends a b bs
    → Appends (given a p held) (given b p held) bs
given-through a b p held bs none h =
    rw (nil_from_length (drop p held) (omega (arith, length-drop p held, ap length none))) (through a b bs h)

-- a write gave a front of its bytes, whatever it answered
pub given_front : {T : Type 0} (r : Result T ℕ) (a b : Option (List ℕ)) (bytes : List ℕ) → WritesFront a b r bytes
    → (n : ℕ) × (n ≤ length bytes) × Appends a b (take n bytes)
given_front (Ok done) a b bytes h = (length bytes, omega arith, rw (take_all (length bytes) bytes (omega arith)) h)
given_front (Err n) a b bytes h = (n, omega (arith, h.0), h.1)

-- where the whole piece was given, each answer says so
pub Gives-all : {T E : Type 0} (old new : Option (List ℕ)) (r : Result T E) (piece : List ℕ) → Appends old new piece
    → Gives old new r piece
Gives-all old new (Ok done) piece h = h
Gives-all old new (Err e) piece h = (length piece, omega arith, rw (take_all (length piece) piece (omega arith)) h)

-- a reader whose bytes were read ahead loses the front that is handed out, and none only at its end
pub handed_out : (a b : Option (List ℕ)) (ahead into new : List ℕ) (n room : ℕ) → Keeps a (prepend_known ahead b)
    → n ≡ min room (length ahead) → take n into ≡ take n ahead → new ≡ drop n ahead
    → 0 < room → (ahead ≡ [] → IsAtEnd b) → Consumes a (prepend_known new b) (take n into)
    × (n ≡ 0 → IsAtEnd (prepend_known new b))
handed_out a b ahead into new n room kept most front rest some end =
    let whole : ahead ≡ take n into ++ new =
    sym (take-append-drop n ahead) ∙ ap (λ (l : List ℕ). l ++ drop n ahead) (sym front)
    ∙ ap (λ (l : List ℕ). take n into ++ l) (sym rest) in
    prepend_known-read a b ahead new (take n into) (n ≡ 0) kept whole (λ none. (
      nil_from_length new (omega (arith, most, some, none, ap length rest, length-drop n ahead)),
      end (nil_from_length ahead (omega (arith, most, some, none))),
    ))
