-- What a decoder holds and lacks after a part of a message came. To know: `fed`, `filled_by`.
use Rattle.std.proofs.Common.{◌≡◌, ℕ, ◌+◌, ◌-◌, ◌<◌, ◌≤◌, Bool, true, false, cond, List, ◌++◌, length, take, drop, Option, Result, Ok, Err, refl, ap, ◌∙◌, sym, append_assoc, arith, inl, inr, min}
use Rattle.std.proofs.Math.Seq.{take-add, take-append-add}
use Rattle.std.specs.Prelude.{IfOk}
use borrow.Rule.Slice.PartMut.{put_mid, post_of}
use Rattle.link_model.specs.Streams.{TakesFront}
use Rattle.std.proofs.lemmas.List.{length-append, length-take, length-drop, take-append-le}
use Rattle.std.proofs.lemmas.Bool.{cases_lt, lt-ltb, le-ltb}
use Rattle.wire_protocol.specs.Filling.{Fills}
use Rattle.wire_protocol.specs.Messages.{wanted, body_length, is_refused_length}

two_parts : (old piece : List ℕ) (n m : ℕ) → (old ++ take n piece) ++ take m (drop n piece) ≡ old ++ take (n + m) piece
two_parts old piece n m = append_assoc old (take n piece) (take m (drop n piece)) ∙ ap (λ (t : List ℕ). old ++ t) (sym (take-add n m piece))

-- what is lacking after a whole length
abbrev lacking : Bool → ℕ → ℕ → ℕ
lacking refused body len = cond refused 0 (4 + body - len)

wanted_after : (bytes : List ℕ) → 4 ≤ length bytes → wanted bytes ≡ lacking (is_refused_length (body_length bytes)) (body_length bytes) (length bytes)
wanted_after bytes le = rw (le-ltb _ _ le) refl

wanted_before : (bytes : List ℕ) → length bytes < 4 → wanted bytes ≡ 4 - length bytes
wanted_before bytes lt = rw (lt-ltb _ _ lt) refl

filled : (refused : Bool) (body len more : ℕ) → more ≡ lacking refused body len → lacking refused body (len + more) ≡ 0
filled true body len more e = refl
filled false body len more e = omega arith

-- so many bytes as are lacking of a body fill it
pub wanted-filled : (bytes part : List ℕ) → 4 ≤ length bytes → length part ≡ wanted bytes → wanted (bytes ++ part) ≡ 0
wanted-filled bytes part le e =
    let long : 4 ≤ length (bytes ++ part) = omega (arith, length-append bytes part) in
    let same : body_length (bytes ++ part) ≡ body_length bytes = rw (take-append-le 4 bytes part le) refl in
    wanted_after (bytes ++ part) long ∙ rw (same, length-append bytes part) (filled (is_refused_length (body_length bytes)) (body_length bytes) (length bytes) (length part) (e ∙ wanted_after bytes le))

four_there : (old p : List ℕ) (n : ℕ) → n ≡ wanted old → n < length p → 4 ≤ length (old ++ take n p)
four_there old p n e lt =
    let len : length (old ++ take n p) ≡ length old + n = omega (arith, length-append old (take n p), length-take n p) in
    elim (cases_lt (length old) 4) [
      | inl few ↦ omega (arith, len, e ∙ wanted_before old few)
      | inr le ↦ omega (arith, len)
    ]

-- where less than the piece was taken, in two parts, nothing is lacking
pub fed_fully : (old p : List ℕ) (n m : ℕ) → n ≡ min (wanted old) (length p) → m ≡ min (wanted (old ++ take n p)) (length (drop n p)) → n + m < length p → wanted ((old ++ take n p) ++ take m (drop n p)) ≡ 0
fed_fully old p n m e f lt =
    let rest : length (drop n p) ≡ length p - n = length-drop n p in
    let first : n ≡ wanted old = omega (arith, e) in
    let second : m ≡ wanted (old ++ take n p) = omega (arith, f, rest) in
    let len : length (take m (drop n p)) ≡ m = omega (arith, length-take m (drop n p), rest) in
    wanted-filled (old ++ take n p) (take m (drop n p)) (four_there old p n first (omega arith)) (len ∙ second)

pub fed_in_two : (old piece : List ℕ) (n m : ℕ) → (old ++ take n piece) ++ take m (drop n piece) ≡ old ++ take (n + m) piece
fed_in_two old piece n m = two_parts old piece n m

-- the same, with the names that the call's steps have
pub fed : (old p front rest b1 : List ℕ) (w1 w2 n m : ℕ) → w1 ≡ wanted old → n ≡ min w1 (length p) → front ≡ take n p → rest ≡ drop n p → b1 ≡ old ++ front → w2 ≡ wanted b1 → m ≡ min w2 (length rest) → n + m < length p
    → wanted ((old ++ take n p) ++ take m (drop n p)) ≡ 0
fed old p front rest b1 w1 w2 n m a e f g h b k lt =
    let one : n ≡ min (wanted old) (length p) = e ∙ ap (λ w. min w (length p)) a in
    let is : b1 ≡ old ++ take n p = h ∙ ap (λ (t : List ℕ). old ++ t) f in
    let two : m ≡ min (wanted (old ++ take n p)) (length (drop n p)) = k ∙ ap (λ w. min w (length rest)) (b ∙ ap (λ (t : List ℕ). wanted t) is) ∙ ap (λ (t : List ℕ). min (wanted (old ++ take n p)) (length t)) g in
    fed_fully old p n m one two lt

-- ---- what a source put after a front

take-put_mid_front : (old part : List ℕ) (front size count : ℕ) → front ≤ length old → count ≤ length part → take (front + count) (put_mid front size old part) ≡ take front old ++ take count part
take-put_mid_front old part front size count within few =
    let len : length (take front old) ≡ front = omega (arith, length-take front old) in
    ap (λ (n : ℕ). take (n + count) (put_mid front size old part)) (sym len)
    ∙ take-append-add (take front old) (part ++ post_of front size old) count
    ∙ ap (λ (t : List ℕ). take front old ++ t) (take-append-le count part (post_of front size old) few)

pub filled_by : {E : Type 0} (old part : List ℕ) (left left_now : Option (List ℕ)) (front end : ℕ) (r : Result ℕ E) → front < end → end ≤ length old → length part ≡ end - front → TakesFront left left_now r part → IfOk r (Fills old left (put_mid front (end - front) old part) left_now front end)
filled_by old part left left_now front end (Ok count) some within len t = record {
  came = take count part;
  bytes = take-put_mid_front old part front (end - front) count (omega arith) t.0;
  rest = t.1;
  len = omega (arith, length-take count part, t.0);
  most = omega (arith, t.0, len);
  last = t.2;
}
filled_by old part left left_now front end (Err e) some within len t = tt
