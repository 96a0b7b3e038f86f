-- What holds of every spelling: what is spelled is read, and bytes are the spelling of one list of messages at most.
use Rattle.std.specs.Prelude.{◌≡◌, ℕ, ◌<◌, ◌^◌, List, ◌++◌, length, None, Ok}
use Rattle.rdb_base.specs.Lengths.{IsValueLength}
use Rattle.history_core.specs.declared.request.Request.{Request}
use Rattle.history_core.specs.declared.reply.Reply.{Reply}
use Rattle.history_core.specs.declared.reply.Reply.TheVariants.{Done, Value, Absent, Synced, Bye, BadMessage, DeviceFault, OutOfMemory, HistorySpent, NumbersSpent}
use Rattle.wire_protocol.specs.Grammar.{request_body, spell_request, spell_reply, IsRequest}
use Rattle.wire_protocol.specs.Reading.{request_at}
use Rattle.wire_protocol.specs.Messages.{wanted}
use Rattle.wire_protocol.specs.Decoding.{refusal}

-- the spelling of each request lacks nothing, is refused by no test, and reads as that request
abbrev pub SpellingsAreRead : Type 0
SpellingsAreRead = (request : Request) → IsRequest request →
    (wanted (spell_request request) ≡ 0)
    × (refusal (spell_request request) ≡ None)
    × (request_at (request_body request) ≡ Ok request)

-- two requests at the front of the same bytes are one request, and the same bytes follow
abbrev pub RequestsAreApart : Type 0
RequestsAreApart = (one other : Request) (after_one after_other : List ℕ) → IsRequest one → IsRequest other →
    spell_request one ++ after_one ≡ spell_request other ++ after_other → (one ≡ other) × (after_one ≡ after_other)

-- the numbers of a reply fit their fields
abbrev pub IsReply : Reply → Type 0
IsReply (Done number) = number < 2 ^ 64
IsReply (Value front value) = (front < 2 ^ 64) × IsValueLength (length value)
IsReply (Absent front) = front < 2 ^ 64
IsReply (Synced number) = number < 2 ^ 64
IsReply Bye = Unit {0}
IsReply (BadMessage at code) = at < 2 ^ 64
IsReply (DeviceFault device) = Unit {0}
IsReply OutOfMemory = Unit {0}
IsReply (HistorySpent number) = number < 2 ^ 64
IsReply (NumbersSpent next) = next < 2 ^ 64

-- two replies at the front of the same bytes are one reply, and the same bytes follow
abbrev pub RepliesAreApart : Type 0
RepliesAreApart = (one other : Reply) (after_one after_other : List ℕ) → IsReply one → IsReply other →
    spell_reply one ++ after_one ≡ spell_reply other ++ after_other → (one ≡ other) × (after_one ≡ after_other)
