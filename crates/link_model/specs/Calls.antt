-- What one call of a stream in memory answers, and what it leaves.
use Rattle.std.specs.Prelude.{◌≡◌, ℕ, ◌-◌, ◌<◌, ◌≤◌, min, ◌⊎◌, List, [], ◌++◌, length, take, drop, Contains, Result, Ok, Err}
use Rattle.fault_count.specs.Counts.{one_more}
use Rattle.link_model.specs.MemoryStreams.{SourceState, SinkState, SteadySinkState}

-- the source after a call that failed: nothing is taken
abbrev pub source_failed : SourceState → SourceState
source_failed s = record s { calls = one_more s.calls; faults = one_more s.faults }

-- the source after a call that gave n bytes
abbrev pub source_gave : ℕ → SourceState → SourceState
source_gave n s = record s { bytes = drop n s.bytes; calls = one_more s.calls }

-- a take of at most `room` bytes fails exactly where its call is listed, and gives as many bytes as there are room and
-- bytes for
abbrev pub TakeAnswer : {E : Type 0} → SourceState → SourceState → Result ℕ E → ℕ → Type 0
TakeAnswer old new (Ok n) room = ¬ Contains old.failing old.calls × (n ≡ min room (length old.bytes))
    × (new ≡ source_gave n old)
TakeAnswer old new (Err e) room = Contains old.failing old.calls × (new ≡ source_failed old)

-- the bytes of the piece that a sink takes at most
abbrev pub sink_space : SinkState → ℕ
sink_space k = k.room - length k.bytes

-- the sink after a call that took a piece
abbrev pub sink_took : List ℕ → SinkState → SinkState
sink_took piece k = record k { bytes = k.bytes ++ piece; calls = one_more k.calls }

-- the sink after a call that failed after a front of its piece
abbrev pub sink_failed : List ℕ → SinkState → SinkState
sink_failed front k = record k { bytes = k.bytes ++ front; calls = one_more k.calls; faults = one_more k.faults }

-- a put fails exactly where its call is listed, which takes nothing of the piece, or the piece passes the room, which
-- fills it
abbrev pub PutAnswer : {T E : Type 0} → SinkState → SinkState → Result T E → List ℕ → Type 0
PutAnswer old new (Ok done) piece = ¬ Contains old.failing old.calls × (length piece ≤ sink_space old)
    × (new ≡ sink_took piece old)
PutAnswer old new (Err e) piece = (Contains old.failing old.calls × (new ≡ sink_failed [] old))
    ⊎ (¬ Contains old.failing old.calls × (sink_space old < length piece)
    × (new ≡ sink_failed (take (sink_space old) piece) old))

-- a put fails exactly where the piece passes the room, which fills it
abbrev pub SteadyPutAnswer : {T E : Type 0} → SteadySinkState → SteadySinkState → Result T E → List ℕ → Type 0
SteadyPutAnswer old new (Ok done) piece = let space = old.room - length old.bytes in
    (length piece ≤ space) × (new ≡ record old { bytes = old.bytes ++ piece })
SteadyPutAnswer old new (Err e) piece = let space = old.room - length old.bytes in
    (space < length piece) × (new ≡ record old { bytes = old.bytes ++ take space piece; faults = one_more old.faults })
