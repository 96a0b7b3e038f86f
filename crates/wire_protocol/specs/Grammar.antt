-- The one spelling of each request and reply.
use Rattle.std.specs.Prelude.{ℕ, List, [], ◌∷◌, ◌++◌, length}
use Rattle.std.specs.List.{flat_map}
use Rattle.std.specs.Int.{w16, w32, w64, to_be_bytes}
use Rattle.rdb_base.specs.Lengths.{IsKeyLength, IsValueLength}
use Rattle.rdb_base.specs.declared.row.Row.{Row}
use Rattle.history_core.specs.declared.request.Request.{Request}
use Rattle.history_core.specs.declared.request.Request.TheVariants.{Put, Delete, Get, Sync, Quit}
use Rattle.history_core.specs.declared.reply.Reply.{Reply}
use Rattle.history_core.specs.declared.reply.Reply.TheVariants as replies
use Rattle.wire_protocol.specs.declared.codes.TheConstants as codes

-- a key after its length
abbrev pub key_field : List ℕ → List ℕ
key_field key = to_be_bytes w16 (length key) ++ key

-- a value after its length
abbrev pub value_field : List ℕ → List ℕ
value_field value = to_be_bytes w32 (length value) ++ value

-- a key and its value
abbrev pub row_field : Row → List ℕ
row_field row = key_field row.key ++ value_field row.value

-- a request's code and its fields
abbrev pub request_body : Request → List ℕ
request_body (Put row) = codes.PUT ∷ row_field row
request_body (Delete key) = codes.DELETE ∷ key_field key
request_body (Get key) = codes.GET ∷ key_field key
request_body Sync = codes.SYNC ∷ []
request_body Quit = codes.QUIT ∷ []

-- a reply's code and its fields
abbrev pub reply_body : Reply → List ℕ
reply_body (replies.Done number) = codes.DONE ∷ to_be_bytes w64 number
reply_body (replies.Value front value) = codes.VALUE ∷ (to_be_bytes w64 front ++ value_field value)
reply_body (replies.Absent front) = codes.ABSENT ∷ to_be_bytes w64 front
reply_body (replies.Synced number) = codes.SYNCED ∷ to_be_bytes w64 number
reply_body replies.Bye = codes.BYE ∷ []
reply_body (replies.BadMessage at code) = codes.BAD_MESSAGE ∷ (to_be_bytes w64 at ++ code ∷ [])
reply_body (replies.DeviceFault device) = codes.DEVICE_FAULT ∷ device ∷ []
reply_body replies.OutOfMemory = codes.OUT_OF_MEMORY ∷ []
reply_body (replies.HistorySpent number) = codes.HISTORY_SPENT ∷ to_be_bytes w64 number
reply_body (replies.NumbersSpent next) = codes.NUMBERS_SPENT ∷ to_be_bytes w64 next

-- a body after its length
abbrev pub message : List ℕ → List ℕ
message body = to_be_bytes w32 (length body) ++ body

-- the message of a request
abbrev pub spell_request : Request → List ℕ
spell_request request = message (request_body request)

-- the message of a reply
abbrev pub spell_reply : Reply → List ℕ
spell_reply reply = message (reply_body reply)

-- requests are spelled one after another
abbrev pub spell_requests : List Request → List ℕ
spell_requests requests = flat_map spell_request requests

-- replies are spelled one after another
abbrev pub spell_replies : List Reply → List ℕ
spell_replies replies = flat_map spell_reply replies

-- a request's key and value have lengths that a request may have
abbrev pub IsRequest : Request → Type 0
IsRequest (Put row) = IsKeyLength (length row.key) × IsValueLength (length row.value)
IsRequest (Delete key) = IsKeyLength (length key)
IsRequest (Get key) = IsKeyLength (length key)
IsRequest Sync = Unit {0}
IsRequest Quit = Unit {0}
