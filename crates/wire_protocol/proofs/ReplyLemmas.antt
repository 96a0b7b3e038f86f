-- No spelling of a reply begins another's. To know: `same_reply`.
use Rattle.std.proofs.Common.{◌≡◌, ℕ, ◌^◌, ◌<◌, List, [], ◌∷◌, ◌++◌, length, take, drop, refl, sym, ap, ◌∙◌, arith}
use Rattle.std.specs.Int.{w32, w64, from_be_bytes, to_be_bytes}
use Rattle.std.proofs.lemmas.List.{length-append}
use Rattle.std.proofs.lemmas.Nat.{from_be_bytes-to_be_bytes_8}
use Rattle.history_core.specs.declared.reply.Reply.{Reply}
use Rattle.history_core.specs.declared.reply.Reply.TheVariants.{Done, Value, Absent, Synced, Bye, BadMessage, DeviceFault, OutOfMemory, HistorySpent, NumbersSpent}
use Rattle.wire_protocol.specs.declared.codes.TheConstants as codes
use Rattle.wire_protocol.specs.Grammar.{reply_body, spell_reply, value_field}
use Rattle.wire_protocol.specs.Laws.{IsReply}
use Rattle.wire_protocol.proofs.MessageLemmas.{IsShort, same_message}

reply_short : (reply : Reply) → IsReply reply → IsShort (reply_body reply)
reply_short (Done number) fits = omega arith
reply_short (Value front value) fits = omega (arith, fits.1, length-append (to_be_bytes w64 front) (to_be_bytes w32 (length value) ++ value))
reply_short (Absent front) fits = omega arith
reply_short (Synced number) fits = omega arith
reply_short Bye fits = omega arith
reply_short (BadMessage at code) fits = omega (arith, length-append (to_be_bytes w64 at) (code ∷ []))
reply_short (DeviceFault device) fits = omega arith
reply_short OutOfMemory fits = omega arith
reply_short (HistorySpent number) fits = omega arith
reply_short (NumbersSpent next) fits = omega arith

tails : (a b : ℕ) (xs ys : List ℕ) → a ∷ xs ≡ b ∷ ys → xs ≡ ys
tails a b xs ys e = cc

-- a number is read back from its eight bytes
same_number : (m n : ℕ) (xs ys : List ℕ) → m < 2 ^ 64 → n < 2 ^ 64 → to_be_bytes w64 m ++ xs ≡ to_be_bytes w64 n ++ ys → (m ≡ n) × (xs ≡ ys)
same_number m n xs ys fm fn e =
    let first : to_be_bytes w64 m ≡ to_be_bytes w64 n = ap (take 8) e in
    (sym (from_be_bytes-to_be_bytes_8 m fm) ∙ ap (from_be_bytes w64) first ∙ from_be_bytes-to_be_bytes_8 n fn, ap (drop 8) e)

number_alone : (m n : ℕ) → m < 2 ^ 64 → n < 2 ^ 64 → to_be_bytes w64 m ≡ to_be_bytes w64 n → m ≡ n
number_alone m n fm fn e = sym (from_be_bytes-to_be_bytes_8 m fm) ∙ ap (from_be_bytes w64) e ∙ from_be_bytes-to_be_bytes_8 n fn

same_value : (a b : List ℕ) → value_field a ≡ value_field b → a ≡ b
same_value a b e = ap (drop 4) e

-- the code that a body begins with
abbrev pub code_of : List ℕ → ℕ
code_of [] = 0
code_of (code ∷ fields) = code

same_body : (one other : Reply) → IsReply one → IsReply other → reply_body one ≡ reply_body other → one ≡ other
same_body (Done m) (Done n) fm fn e = ap Done (number_alone m n fm fn (tails codes.DONE codes.DONE (to_be_bytes w64 m) (to_be_bytes w64 n) e))
same_body (Value f v) (Value g w) fm fn e =
    let s = same_number f g (value_field v) (value_field w) fm.0 fn.0 (tails codes.VALUE codes.VALUE (to_be_bytes w64 f ++ value_field v) (to_be_bytes w64 g ++ value_field w) e) in
    both f g v w s.0 (same_value v w s.1)
  where
    both : (f g : ℕ) (v w : List ℕ) → f ≡ g → v ≡ w → Value f v ≡ Value g w
    both f g v w a b = cc
same_body (Absent m) (Absent n) fm fn e = ap Absent (number_alone m n fm fn (tails codes.ABSENT codes.ABSENT (to_be_bytes w64 m) (to_be_bytes w64 n) e))
same_body (Synced m) (Synced n) fm fn e = ap Synced (number_alone m n fm fn (tails codes.SYNCED codes.SYNCED (to_be_bytes w64 m) (to_be_bytes w64 n) e))
same_body Bye Bye fm fn e = refl
same_body (BadMessage m c) (BadMessage n d) fm fn e =
    let s = same_number m n (c ∷ []) (d ∷ []) fm fn (tails codes.BAD_MESSAGE codes.BAD_MESSAGE (to_be_bytes w64 m ++ c ∷ []) (to_be_bytes w64 n ++ d ∷ []) e) in
    both m n c d s.0 s.1
  where
    both : (m n c d : ℕ) → m ≡ n → c ∷ [] ≡ d ∷ [] → BadMessage m c ≡ BadMessage n d
    both m n c d a b = cc
same_body (DeviceFault c) (DeviceFault d) fm fn e = cc
same_body OutOfMemory OutOfMemory fm fn e = refl
same_body (HistorySpent m) (HistorySpent n) fm fn e = ap HistorySpent (number_alone m n fm fn (tails codes.HISTORY_SPENT codes.HISTORY_SPENT (to_be_bytes w64 m) (to_be_bytes w64 n) e))
same_body (NumbersSpent m) (NumbersSpent n) fm fn e = ap NumbersSpent (number_alone m n fm fn (tails codes.NUMBERS_SPENT codes.NUMBERS_SPENT (to_be_bytes w64 m) (to_be_bytes w64 n) e))
same_body one other fm fn e = absurd (omega (arith, ap code_of e))

-- two replies at the front of the same bytes are one, and the same bytes follow
pub same_reply : (one other : Reply) (x y : List ℕ) → IsReply one → IsReply other → spell_reply one ++ x ≡ spell_reply other ++ y → (one ≡ other) × (x ≡ y)
same_reply one other x y f g e =
    let s = same_message (reply_body one) (reply_body other) x y (reply_short one f) (reply_short other g) e in
    (same_body one other f g s.0, s.1)
