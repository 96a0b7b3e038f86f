-- What a decoder makes of the bytes that it holds.
use Rattle.std.specs.Prelude.{◌≡◌, ◌≢◌, ℕ, ◌+◌, ◌≤◌, ◌<◌, List, [], length, drop, Option, Some, None, Result, Ok, Err, IfSome, ◌++◌, if◌then◌else◌}
use Rattle.std.specs.Io.KnownBytes.{prepend_known}
use Rattle.history_core.specs.declared.request.Request.{Request}
use Rattle.history_core.specs.declared.request.Request.TheVariants.{Sync, Quit}
use Rattle.wire_protocol.specs.declared.codes.TheConstants as codes
use Rattle.wire_protocol.specs.declared.limits.TheConstants.{LENGTH_SIZE}
use Rattle.wire_protocol.specs.declared.wire_error.WireError.{WireError}
use Rattle.wire_protocol.specs.declared.wire_error.WireError.TheVariants.{BadMessage, Memory}
use Rattle.wire_protocol.specs.declared.body_error.BodyError.{BodyError}
use Rattle.wire_protocol.specs.declared.body_error.BodyError.TheVariants as bodies
use Rattle.wire_protocol.specs.Grammar.{spell_request, IsRequest}
use Rattle.wire_protocol.specs.Reading.{request_at}
use Rattle.wire_protocol.specs.Messages.{Held, wanted, body_length, is_refused_length, IsWithin}

-- the message after the held one: it begins where that one ends, and nothing of it is held yet
abbrev pub next_message : Held → Held
next_message held = record { at = held.at + length held.bytes; bytes = [] }

-- the code of a reading that was refused
abbrev pub code_of : Result Request ℕ → Option ℕ
code_of (Ok request) = None
code_of (Err code) = Some code

-- the code of the first test that a whole message fails
abbrev pub refusal : List ℕ → Option ℕ
refusal bytes =
    if is_refused_length (body_length bytes) then Some codes.BAD_LENGTH
    else code_of (request_at (drop LENGTH_SIZE bytes))

-- the spelling of a request that holds bytes of its own: one that names a key
abbrev pub SpellsHolding : List ℕ → Type 0
SpellsHolding bytes =
    (request : Request) × (bytes ≡ spell_request request) × IsRequest request × (request ≢ Sync) × (request ≢ Quit)

-- what was read of the bytes held of a message
abbrev pub MessageAnswer : Result (Option Request) BodyError → List ℕ → Type 0
-- nothing exactly where bytes are lacking
MessageAnswer (Ok None) bytes = 0 < wanted bytes
MessageAnswer (Ok (Some request)) bytes = (bytes ≡ spell_request request) × IsRequest request
MessageAnswer (Err (bodies.Bad code)) bytes = (wanted bytes ≡ 0) × (refusal bytes ≡ Some code) × IsWithin bytes
-- only a request that holds bytes can be out of memory
MessageAnswer (Err bodies.Memory) bytes = SpellsHolding bytes

-- what a decoder answers, and what it then holds
abbrev pub DecoderAnswer : Held → Result (Option Request) WireError → Held → Type 0
DecoderAnswer old (Ok None) new = MessageAnswer (Ok None) old.bytes × (new ≡ old)
DecoderAnswer old (Ok (Some request)) new = MessageAnswer (Ok (Some request)) old.bytes × (new ≡ next_message old)
DecoderAnswer old (Err (BadMessage at code)) new =
    MessageAnswer (Err (bodies.Bad code)) old.bytes × (at ≡ old.at) × (new ≡ old)
-- a message that is out of memory is dropped as if it had been read
DecoderAnswer old (Err Memory) new = MessageAnswer (Err bodies.Memory) old.bytes × (new ≡ next_message old)

-- What came of a source's call: so many bytes went from the front of what is left to the end of what is held, no more
-- than the message lacked and no more than there was room for. None come only at the end of the input.
pub record Takes (old : Held) (left : Option (List ℕ)) (new : Held) (left_now : Option (List ℕ))
    (room count : ℕ) : Type 0 where
  pub came : List ℕ
  pub held : new ≡ record { at = old.at; bytes = old.bytes ++ came }
  pub rest : left ≡ prepend_known came left_now
  pub len : length came ≡ count
  pub lacking : count ≤ wanted old.bytes
  pub most : count ≤ room
  pub last : count ≡ 0 → IfSome left_now (λ bytes. bytes ≡ [])
