-- A body read from left to right, and the code of the first test that it fails.
use Rattle.std.specs.Prelude.{◌≡◌, ◌≢◌, ℕ, List, [], ◌∷◌, length, take, drop, Result, Ok, Err, nat_lt, ◌==◌, if◌then◌else◌}
use Rattle.std.specs.Int.{Width, w16, w32, byte_len, from_be_bytes}
use Rattle.rdb_base.specs.declared.limits.TheConstants.{KEY_MAX, VALUE_MAX}
use Rattle.history_core.specs.declared.request.Request.{Request}
use Rattle.history_core.specs.declared.request.Request.TheVariants.{Put, Delete, Get, Sync, Quit}
use Rattle.wire_protocol.specs.declared.body_error.BodyError.{BodyError}
use Rattle.wire_protocol.specs.declared.refused.Refused.{Refused}
use Rattle.wire_protocol.specs.declared.codes.TheConstants as codes
use Rattle.wire_protocol.specs.Grammar.{request_body, IsRequest}
use Rattle.wire_protocol.specs.declared.body_error.BodyError.TheVariants as errors

-- one step of reading after another; the first refusal stands
infixl 10 ◌>>=◌
abbrev pub ◌>>=◌ : {A B : Type 0} → Result A ℕ → (A → Result B ℕ) → Result B ℕ
(Ok x) >>= f = f x
(Err e) >>= f = Err e

-- an error is that of reading, or memory ran out
abbrev pub Fails : {Y : Type 0} → BodyError → Result Y ℕ → Type 0
Fails errors.Memory read = Unit {0}
Fails (errors.Bad code) read = read ≡ Err code

-- what a function returned of a field, seen by view, is what reading gives
abbrev pub GivesField : {X Y : Type 0} → (X → Y) → Result X Refused → Result Y ℕ → Type 0
GivesField view (Ok x) read = read ≡ Ok (view x)
GivesField view (Err e) read = read ≡ Err e.code

-- the same of a function that may run out of memory
abbrev pub Gives : {X Y : Type 0} → (X → Y) → Result X BodyError → Result Y ℕ → Type 0
Gives view (Ok x) read = read ≡ Ok (view x)
Gives view (Err e) read = Fails e read

-- a number of this width, and the bytes after it
abbrev pub number_at : Width → List ℕ → Result (ℕ × List ℕ) ℕ
number_at w bytes =
    if nat_lt (length bytes) (byte_len w) then Err codes.CUT_FIELD
    else Ok (from_be_bytes w (take (byte_len w) bytes), drop (byte_len w) bytes)

-- so many bytes, and those after them
abbrev pub bytes_at : ℕ → List ℕ → Result (List ℕ × List ℕ) ℕ
bytes_at n bytes = if nat_lt (length bytes) n then Err codes.CUT_FIELD else Ok (take n bytes, drop n bytes)

-- a key, and the bytes after it
unfoldable pub key_at : List ℕ → Result (List ℕ × List ℕ) ℕ
key_at bytes = do
  n ← number_at w16 bytes
  if n.0 == 0 then Err codes.BAD_KEY else if nat_lt KEY_MAX n.0 then Err codes.BAD_KEY else bytes_at n.0 n.1

-- a value, and the bytes after it
unfoldable pub value_at : List ℕ → Result (List ℕ × List ℕ) ℕ
value_at bytes = do
  n ← number_at w32 bytes
  if nat_lt VALUE_MAX n.0 then Err codes.BAD_VALUE else bytes_at n.0 n.1

-- nothing may follow the last field
abbrev pub ended : {A : Type 0} → A → List ℕ → Result A ℕ
ended read rest = if length rest == 0 then Ok read else Err codes.TRAILING_BYTES

-- a key, and nothing after it
unfoldable pub only_key_at : List ℕ → Result (List ℕ) ℕ
only_key_at bytes = do
  key ← key_at bytes
  ended key.0 key.1

-- the fields of a put
unfoldable pub put_at : List ℕ → Result Request ℕ
put_at bytes = do
  key ← key_at bytes
  value ← value_at key.1
  ended (Put (record { key = key.0; value = value.0 })) value.1

-- the one key that a request names
abbrev pub keyed_at : (List ℕ → Request) → List ℕ → Result Request ℕ
keyed_at asked bytes = do
  key ← only_key_at bytes
  Ok (asked key)

-- a body, by its code
unfoldable pub request_at : List ℕ → Result Request ℕ
request_at [] = Err codes.BAD_LENGTH
request_at (code ∷ rest) =
    if code == codes.PUT then put_at rest
    else if code == codes.DELETE then keyed_at Delete rest
    else if code == codes.GET then keyed_at Get rest
    else if code == codes.SYNC then ended Sync rest
    else if code == codes.QUIT then ended Quit rest
    else Err codes.NO_REQUEST

-- it spells a request that holds bytes of its own: one that names a key
abbrev pub SpellsRequest : List ℕ → Type 0
SpellsRequest body =
    (request : Request) × (body ≡ request_body request) × IsRequest request × (request ≢ Sync) × (request ≢ Quit)
