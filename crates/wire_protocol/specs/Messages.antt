-- What a decoder holds of a message, and what it still lacks.
use Rattle.std.specs.Prelude.{ℕ, ◌+◌, ◌-◌, ◌≤◌, ◌<◌, ◌^◌, List, length, take, nat_lt, ◌==◌, ◌||◌, Bool, if◌then◌else◌}
use Rattle.std.specs.Int.{w32, from_be_bytes}
use Rattle.wire_protocol.specs.declared.limits.TheConstants.{LENGTH_SIZE, BODY_MAX, MESSAGE_MAX}

-- the bytes held of one message, and where in the input it begins
pub record Held : Type 0 where
  pub at : ℕ
  pub bytes : List ℕ

-- the length that the first bytes of a message give its body
abbrev pub body_length : List ℕ → ℕ
body_length bytes = from_be_bytes w32 (take LENGTH_SIZE bytes)

-- no body has this length
abbrev pub is_refused_length : ℕ → Bool
is_refused_length n = (n == 0) || nat_lt BODY_MAX n

-- how many bytes the length still lacks, or the body once the length is there; a refused length lacks none
abbrev pub wanted : List ℕ → ℕ
wanted bytes =
    if nat_lt (length bytes) LENGTH_SIZE then LENGTH_SIZE - length bytes
    else if is_refused_length (body_length bytes) then 0
    else LENGTH_SIZE + body_length bytes - length bytes

-- these bytes are no more than one message
abbrev pub IsWithin : List ℕ → Type 0
IsWithin bytes = LENGTH_SIZE < length bytes →
    (1 ≤ body_length bytes) × (body_length bytes ≤ BODY_MAX) × (length bytes ≤ LENGTH_SIZE + body_length bytes)

-- what a decoder keeps: its memory has room for the largest message, and the held bytes stand at the front of it
pub record IsHeld (at len : ℕ) (memory : List ℕ) : Type 0 where
  pub within : IsWithin (take len memory)
  pub front : len ≤ length memory
  pub room : MESSAGE_MAX ≤ length memory
  pub place : at + len ≤ 2 ^ 63
