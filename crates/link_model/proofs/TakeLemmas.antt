-- Bytes that are taken from the front of what is left. The lemma to know is `takes_front`.
use Rattle.std.proofs.Common.{◌≡◌, ℕ, ◌+◌, ◌<◌, ◌≤◌, min, List, [], ◌++◌, length, take, drop, Some, Ok, sym, ap, ◌∙◌, arith}
use Rattle.std.proofs.lemmas.List.{take-append-drop, length-drop, nil_from_length, drop-drop}
use Rattle.link_model.specs.declared.failed.Failed.{Failed}
use Rattle.link_model.specs.Streams.{TakesFront}

-- what was left is what was taken and what is left now
pub taken_front : (bytes into : List ℕ) (at count : ℕ) → take count into ≡ take count (drop at bytes)
    → drop at bytes ≡ take count into ++ drop (at + count) bytes
taken_front bytes into at count front =
    let split : take count (drop at bytes) ++ drop count (drop at bytes) ≡ drop at bytes =
    take-append-drop count (drop at bytes) in
    sym split ∙ rw front (ap (λ (t : List ℕ). take count (drop at bytes) ++ t) (drop-drop count at bytes))

-- none are taken only where none are left
pub none_left : (bytes : List ℕ) (at count room : ℕ) → count ≡ min room (length (drop at bytes)) → 0 < room → count ≡ 0
    → drop (at + count) bytes ≡ []
none_left bytes at count room most some none =
    nil_from_length (drop (at + count) bytes)
    (omega (arith, length-drop (at + count) bytes, length-drop at bytes, most, some, none))

-- a take of as many bytes as there are and as there is room for takes the front
pub takes_front : (bytes rest into : List ℕ) (at count room : ℕ) → rest ≡ drop at bytes → count ≡ min room (length rest)
    → room ≤ length into → take count into ≡ take count rest → 0 < room
    → TakesFront {E = Failed} (Some (drop at bytes)) (Some (drop (at + count) bytes)) (Ok count) into
takes_front bytes rest into at count room left most fits front some =
    let first : take count into ≡ take count (drop at bytes) = front ∙ ap (take count) left in
    let counted : count ≡ min room (length (drop at bytes)) = most ∙ ap (λ (t : List ℕ). min room (length t)) left in (
      omega (arith, most, fits),
      ap (λ (t : List ℕ). Some t) (taken_front bytes into at count first),
      λ none. none_left bytes at count room counted some none,
    )
