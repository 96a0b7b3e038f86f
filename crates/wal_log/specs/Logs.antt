-- What the frames of one strip say of a log.
use Rattle.std.specs.Prelude.{◌≡◌, ℕ, ◌+◌, ◌%◌, ◌<◌, ◌≤◌, List, [], ◌∷◌, ◌++◌, length, take, Result, Ok, Err, ◌==◌, if◌then◌else◌}
use Rattle.frame_journal.specs.FrameValue.{FrameValue}
use Rattle.frame_journal.specs.Frames.{frames_of, HasNoTorn}
use Rattle.rdb_base.specs.declared.entry.Entry.{Entry}
use Rattle.entry_code.specs.Payloads.{Header, header_of, entries_of}
use Rattle.disk_model.specs.declared.limits.TheConstants.{LOG_STRIPS}
use Rattle.wal_log.specs.declared.log_error.LogError.{LogError}
use Rattle.wal_log.specs.declared.log_error.LogError.TheVariants.{BadEntry, LogGap}

-- the strip on which a segment stands
abbrev pub strip_of : ℕ → ℕ
strip_of number = number % LOG_STRIPS

infixl 10 ◌>>=◌
-- the next reading, after one that went well
abbrev pub ◌>>=◌ : {A B : Type 0} → Result A LogError → (A → Result B LogError) → Result B LogError
(Ok x) >>= f = f x
(Err e) >>= f = Err e

-- what was read of a frame of this strip, or the place of its first wrong byte
abbrev pub in_frame : {X : Type 0} → ℕ → FrameValue → Result X ℕ → Result X LogError
in_frame strip frame (Ok x) = Ok x
in_frame strip frame (Err at) = Err (BadEntry strip frame.at at)

-- the header that a frame is, of a segment that stands on this strip
unfoldable pub header_in : ℕ → FrameValue → Result Header LogError
header_in strip frame = do
  header ← in_frame strip frame (header_of frame.payload)
  if strip_of header.segment == strip then Ok header else Err (BadEntry strip frame.at 1)

-- these entries, and then those that are read
abbrev pub joined : List Entry → Result (List Entry) LogError → Result (List Entry) LogError
joined entries (Ok more) = Ok (entries ++ more)
joined entries (Err e) = Err e

-- the entries of these frames, where the first of them is to have this number
unfoldable pub entries_in : ℕ → ℕ → List FrameValue → Result (List Entry) LogError
entries_in strip end [] = Ok []
entries_in strip end (frame ∷ frames) = do
  found ← in_frame strip frame (entries_of frame.payload)
  if found.first == end then joined found.entries (entries_in strip (end + length found.entries) frames) else Err (LogGap end found.first)

-- the entries after a header, which has to be this segment's and to begin with this number
unfoldable pub after_header : ℕ → ℕ → Header → List FrameValue → Result (List Entry) LogError
after_header number first header frames = if header.segment == number then (do
  entries ← entries_in (strip_of number) header.first frames
  if header.first == first then Ok entries else Err (LogGap first header.first)) else Err (LogGap first header.first)

-- the entries of a log on one strip that is to begin in this segment, with this number
unfoldable pub alone : ℕ → ℕ → List FrameValue → Result (List Entry) LogError
alone number first [] = Ok []
alone number first (frame ∷ frames) = do
  header ← header_in (strip_of number) frame
  after_header number first header frames

-- a strip with these bytes has these entries, with no header torn
pub record HasEntries (number first : ℕ) (entries : List Entry) (bytes : List ℕ) : Type 0 where
  pub whole : HasNoTorn bytes
  pub read : alone number first (frames_of bytes) ≡ Ok entries

-- A frame stands on a strip with these bytes. Where a log is read there (`HasEntries`), it is the header, of this segment
-- and with this first number.
abbrev pub HasHeader : List ℕ → Type 0
HasHeader bytes = 0 < length (frames_of bytes)

-- it has the first so many of these entries, no fewer than these
pub record HasFrontOf (number first : ℕ) (entries : List Entry) (least : ℕ) (bytes : List ℕ) : Type 0 where
  pub many : ℕ
  pub enough : least ≤ many
  pub within : many ≤ length entries
  pub has : HasEntries number first (take many entries) bytes
