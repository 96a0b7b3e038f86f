-- What a strip stands for at a journal's end. To know: closed_stands, open_stands, either_stands.
use Rattle.std.specs.Prelude.{IsTrue}
use Rattle.frame_journal.specs.declared.format.TheConstants.{OPEN_GATE, PAYLOAD_MAX}
use Rattle.frame_journal.specs.declared.phase.Phase.{Phase}
use Rattle.frame_journal.specs.declared.phase.Phase.TheVariants.{Fresh, Shut, Ready, Staged, Body, Gate}
use Rattle.frame_journal.specs.JournalState.{ready_in, staged_in}
use Rattle.std.proofs.Common.{◌≡◌, ◌≢◌, inl, inr, ℕ, zero, suc, ◌+◌, ◌-◌, ◌<◌, ◌≤◌, true, List, [], ◌∷◌, ◌++◌, length, get_or, take, drop, refl, sym, ap, subst, ◌∙◌, append_assoc, arith, false, Bool}
use Rattle.std.proofs.lemmas.Bool.{cases_eq}
use Rattle.std.proofs.lemmas.List.{take-append-drop, length-append, length-take-le, length-drop, take_at, drop_at, append-nil, drop-drop, drop_more, get_or-drop}
use Rattle.std.proofs.lemmas.Nat.{from_be_bytes-to_be_bytes_4}
use Rattle.frame_journal.specs.FrameValue.{FrameValue}
use Rattle.frame_journal.specs.Frames.{told_length, is_whole, payload_of, frames_from, frames_of, end_of, IsClosedAt, StandsFor}
use Rattle.frame_journal.specs.Journals.{framed, unframed, IsFramed, standing_to, EndsAt, IsWrittenAt, StandsWithOr, IsSound}
use Rattle.frame_journal.proofs.FrameLemmas.{is_whole-from, is_whole-closed, frames-whole_at, frames-none, frames_split, end_of-append}

-- what is framed, and its length
pub length-framed : (payload : List ℕ) → length (framed payload) ≡ length payload + 5
unfolding framed
length-framed payload = omega (arith, length-append payload (0 ∷ []))

pub told_length-framed : (gate : ℕ) (payload rest : List ℕ) → length payload ≤ PAYLOAD_MAX → told_length (gate ∷ framed payload ++ rest) ≡ length payload
unfolding framed told_length
told_length-framed gate payload rest most = from_be_bytes-to_be_bytes_4 (length payload) (omega arith)

framed_at-five : (gate : ℕ) (payload rest : List ℕ) → take (length payload) (drop 5 (gate ∷ framed payload ++ rest)) ≡ payload
unfolding framed
framed_at-five gate payload rest = ap (take (length payload)) (append_assoc payload (0 ∷ []) rest) ∙ take_at payload ((0 ∷ []) ++ rest) (length payload) refl

pub payload_of-framed : (gate : ℕ) (payload rest : List ℕ) → length payload ≤ PAYLOAD_MAX → payload_of (gate ∷ framed payload ++ rest) ≡ payload
payload_of-framed gate payload rest most =
    ap (λ (n : ℕ). take n (drop 5 (gate ∷ framed payload ++ rest))) (told_length-framed gate payload rest most) ∙ framed_at-five gate payload rest

framed_at-four : (payload : List ℕ) → take (length payload) (drop 4 (framed payload)) ≡ payload
unfolding framed
framed_at-four payload = take_at payload (0 ∷ []) (length payload) refl

pub unframed-framed : (payload : List ℕ) → unframed (framed payload) ≡ payload
unframed-framed payload =
    let less : length (framed payload) - 5 ≡ length payload = omega (arith, length-framed payload) in
    ap (λ (n : ℕ). take n (drop 4 (framed payload))) less ∙ framed_at-four payload

five : (n : ℕ) → 5 + n ≡ suc (suc (suc (suc (suc n))))
five n = omega arith

-- after what is framed stands its closed gate
pub framed-after : (gate : ℕ) (payload rest : List ℕ) → drop (5 + length payload) (gate ∷ framed payload ++ rest) ≡ 0 ∷ rest
unfolding framed
framed-after gate payload rest = ap (λ (n : ℕ). drop n (gate ∷ framed payload ++ rest)) (five (length payload)) ∙ ap (drop (length payload)) (append_assoc payload (0 ∷ []) rest) ∙ drop_at payload ((0 ∷ []) ++ rest) (length payload) refl

-- a frame that is there after an open gate, and no whole one after it
pub frames-framed : (at : ℕ) (payload rest : List ℕ) → 1 ≤ length payload → length payload ≤ PAYLOAD_MAX → frames_from 0 at (OPEN_GATE ∷ framed payload ++ rest) ≡ record { at = at; payload = payload } ∷ []
frames-framed at payload rest some most =
    let bytes = OPEN_GATE ∷ framed payload ++ rest in
    let tells = told_length-framed OPEN_GATE payload rest most in
    let long : length bytes ≡ length payload + 6 + length rest = omega (arith, length-append (framed payload) rest, length-framed payload) in
    let whole : is_whole bytes ≡ true = is_whole-from bytes (record { gate = refl; some = omega (arith, tells); most = omega (arith, tells); room = omega (arith, tells, long) }) in
    let size : 5 + told_length bytes ≡ 5 + length payload = omega (arith, tells) in
    frames-whole_at at (5 + length payload) payload bytes whole size (payload_of-framed OPEN_GATE payload rest most)
    ∙ ap (λ (l : List ℕ). record { at = at; payload = payload } ∷ frames_from 0 (at + (5 + length payload)) l) (framed-after OPEN_GATE payload rest)
    ∙ ap (λ (l : List FrameValue). record { at = at; payload = payload } ∷ l) (frames-none (at + (5 + length payload)) (0 ∷ rest) (is_whole-closed (0 ∷ rest) (omega arith)))

-- a closed gate at the front is followed by no frame
pub frames-closed : (at : ℕ) (bytes : List ℕ) → get_or bytes 0 0 ≢ OPEN_GATE → frames_from 0 at bytes ≡ []
frames-closed at bytes shut = frames-none at bytes (is_whole-closed bytes shut)

-- the same for whole lists
frames_of-split : (bytes other : List ℕ) → take (end_of (frames_of bytes)) other ≡ take (end_of (frames_of bytes)) bytes →
    (0 < end_of (frames_of bytes) → end_of (frames_of bytes) < length other) →
    frames_of other ≡ frames_of bytes ++ frames_from 0 (end_of (frames_of bytes)) (drop (end_of (frames_of bytes)) other)
frames_of-split bytes other same longer =
    let none : 0 + end_of (frames_of bytes) ≡ end_of (frames_of bytes) = omega arith in
    frames_split (length bytes) 0 bytes other (omega arith) same longer
    ∙ ap (λ (n : ℕ). frames_of bytes ++ frames_from 0 n (drop (end_of (frames_of bytes)) other)) none

-- the frames up to the end, and those after it
pub frames_of-end : (bytes : List ℕ) (end : ℕ) → EndsAt bytes end → frames_of bytes ≡ standing_to end bytes ++ frames_from 0 end (drop end bytes)
frames_of-end bytes end ends =
    let front = take end bytes ++ 0 ∷ [] in
    let same : take end bytes ≡ take end front = sym (take_at (take end bytes) (0 ∷ []) end (length-take-le end bytes (omega (arith, ends.inside)))) in
    subst (λ (k : ℕ). frames_of bytes ≡ standing_to end bytes ++ frames_from 0 k (drop k bytes)) ends.whole
    (frames_of-split front bytes
    (subst (λ (k : ℕ). take k bytes ≡ take k front) (sym ends.whole) same)
    (λ some. omega (arith, ends.whole, ends.inside)))

end_within : (end len : ℕ) → (0 < end → end < len) → end ≤ len
end_within zero len inside = omega arith
end_within (suc end) len inside = omega (arith, inside (omega arith))

-- at their end a closed gate ends the frames
pub standing_to-end : (bytes : List ℕ) → (0 < end_of (frames_of bytes) → end_of (frames_of bytes) < length bytes) → standing_to (end_of (frames_of bytes)) bytes ≡ frames_of bytes
standing_to-end bytes inside =
    let end = end_of (frames_of bytes) in
    let front = take end bytes ++ 0 ∷ [] in
    let within : end ≤ length bytes = end_within end (length bytes) inside in
    let long : length (take end bytes) ≡ end = length-take-le end bytes within in
    let none : frames_from 0 end (drop end front) ≡ [] =
    ap (frames_from 0 end) (drop_at (take end bytes) (0 ∷ []) end long) ∙ frames-closed end (0 ∷ []) (omega arith) in
    frames_of-split bytes front (take_at (take end bytes) (0 ∷ []) end long) (λ some. omega (arith, long, length-append (take end bytes) (0 ∷ [])))
    ∙ ap (λ (l : List FrameValue). frames_of bytes ++ l) none ∙ append-nil (frames_of bytes)

-- after a closed gate at the end there is nothing
pub closed_stands : (bytes : List ℕ) (end : ℕ) → EndsAt bytes end → IsClosedAt bytes end → StandsFor (standing_to end bytes) bytes
closed_stands bytes end ends shut =
    let first : get_or (drop end bytes) 0 0 ≡ get_or bytes end 0 = get_or-drop end bytes 0 0 ∙ ap (λ (k : ℕ). get_or bytes k 0) (add_zero end) in
    let none : frames_from 0 end (drop end bytes) ≡ [] = frames-closed end (drop end bytes) (λ open_gate. shut.closed (sym first ∙ open_gate)) in
    record {
      whole = frames_of-end bytes end ends ∙ ap (λ (l : List FrameValue). standing_to end bytes ++ l) none ∙ append-nil (standing_to end bytes);
      gate = λ some. subst (IsClosedAt bytes) (sym ends.whole) shut;
    }
  where
    add_zero : (n : ℕ) → n + 0 ≡ n
    add_zero n = omega arith

-- bytes with a closed gate at place 0 stand for no frame
pub closed_stands_none : (bytes : List ℕ) → IsClosedAt bytes 0 → StandsFor [] bytes
closed_stands_none bytes shut = record { whole = frames-closed 0 bytes shut.closed; gate = λ some. absurd (omega arith) }

-- the byte at a place is the first of what is there
first_at : (bytes : List ℕ) (at : ℕ) → get_or (drop at bytes) 0 0 ≡ get_or bytes at 0
first_at bytes at = get_or-drop at bytes 0 0 ∙ ap (λ (k : ℕ). get_or bytes k 0) (add_nothing at)
  where
    add_nothing : (n : ℕ) → n + 0 ≡ n
    add_nothing n = omega arith

-- after a frame that is there stands its closed gate
pub closed_next : (bytes payload rest : List ℕ) (gate end : ℕ) → drop end bytes ≡ gate ∷ framed payload ++ rest → IsClosedAt bytes (end + (5 + length payload))
closed_next bytes payload rest gate end there =
    let beyond : drop (end + (5 + length payload)) bytes ≡ 0 ∷ rest =
    sym (drop-drop (5 + length payload) end bytes) ∙ ap (drop (5 + length payload)) there ∙ framed-after gate payload rest in
    record {
      inside = omega (arith, ap length beyond, length-drop (end + (5 + length payload)) bytes);
      closed = λ open_gate. absurd (omega (arith, sym (first_at bytes (end + (5 + length payload))) ∙ ap (λ (l : List ℕ). get_or l 0 0) beyond, open_gate));
    }

-- after an open gate the frame stands
pub open_stands : (bytes payload rest : List ℕ) (end : ℕ) → EndsAt bytes end → drop end bytes ≡ OPEN_GATE ∷ framed payload ++ rest → 1 ≤ length payload → length payload ≤ PAYLOAD_MAX →
    StandsFor (standing_to end bytes ++ record { at = end; payload = payload } ∷ []) bytes
open_stands bytes payload rest end ends there some most =
    let frame : FrameValue = record { at = end; payload = payload } in
    let last : end_of (standing_to end bytes ++ frame ∷ []) ≡ end + (5 + length payload) = omega (arith, end_of-append (standing_to end bytes) (frame ∷ []), ends.whole) in
    record {
      whole = frames_of-end bytes end ends ∙ ap (λ (l : List FrameValue). standing_to end bytes ++ l) (ap (frames_from 0 end) there ∙ frames-framed end payload rest some most);
      gate = λ _. subst (IsClosedAt bytes) (sym last) (closed_next bytes payload rest OPEN_GATE end there);
    }

-- where bytes stand for frames, they end at the end of these
pub stands_to : (bytes : List ℕ) (frames : List FrameValue) (end : ℕ) → StandsFor frames bytes → end_of frames ≡ end → end < length bytes → EndsAt bytes end × (standing_to end bytes ≡ frames)
stands_to bytes frames end stands is inside =
    let ends : end_of (frames_of bytes) ≡ end = ap end_of stands.whole ∙ is in
    let same : standing_to end bytes ≡ frames = ap (λ (k : ℕ). standing_to k bytes) (sym ends) ∙ standing_to-end bytes (λ some. omega (arith, ends, inside)) ∙ stands.whole in
    (record { inside = inside; whole = ap end_of same ∙ is }, same)

-- what is written after a gate, and the gate
pub there_is : (bytes staged : List ℕ) (end : ℕ) → end < length bytes → IsWrittenAt bytes end staged → IsFramed staged →
    (rest : List ℕ) × (drop end bytes ≡ get_or bytes end 0 ∷ framed (unframed staged) ++ rest)
there_is bytes staged end inside written is =
    let rest = drop (length staged) (drop (end + 1) bytes) in
    let beyond : drop (end + 1) bytes ≡ framed (unframed staged) ++ rest =
    sym (take-append-drop (length staged) (drop (end + 1) bytes)) ∙ ap (λ (l : List ℕ). l ++ rest) (written.written ∙ is.same) in
    (rest, drop_more bytes end 0 inside ∙ ap (λ (l : List ℕ). get_or bytes end 0 ∷ l) beyond)

-- a staged frame whose gate may be open or closed stands or does not
pub either_stands : (bytes staged : List ℕ) (end : ℕ) → EndsAt bytes end → IsWrittenAt bytes end staged → IsFramed staged →
    StandsWithOr (standing_to end bytes) (record { at = end; payload = unframed staged }) bytes
either_stands bytes staged end ends written is =
    let there = there_is bytes staged end ends.inside written is in
    elim (cases_eq (get_or bytes end 0) OPEN_GATE) [
      | inl open_gate ↦ inr (open_stands bytes (unframed staged) there.0 end ends (there.1 ∙ ap (λ (g : ℕ). g ∷ framed (unframed staged) ++ there.0) open_gate) is.some is.most)
      | inr shut ↦ inl (closed_stands bytes end ends (record { inside = ends.inside; closed = shut }))
    ]

-- a ready journal with nothing staged: its strip stands for its frames
pub ready_stands : (told : Bool) (bytes : List ℕ) (images : List ℕ → Type 0) (phase : Phase) (end : ℕ) (staged : List ℕ) → IsSound told bytes images phase end staged → ready_in phase ≡ true → staged_in phase ≡ false → IsTrue told → StandsFor (standing_to end bytes) bytes
ready_stands told bytes images Ready end staged sound ready idle t = let h = sound.holds t in closed_stands bytes end h.0 h.1
ready_stands told bytes images Fresh end staged sound ready idle t = absurd cc
ready_stands told bytes images Shut end staged sound ready idle t = absurd cc
ready_stands told bytes images Staged end staged sound ready idle t = absurd cc
ready_stands told bytes images Body end staged sound ready idle t = absurd cc
ready_stands told bytes images Gate end staged sound ready idle t = absurd cc
