-- What the frames of a log's strips say: which segments are live, and the entries that they have.
use Rattle.std.specs.Prelude.{ℕ, zero, suc, ◌+◌, ◌≤◌, List, [], ◌∷◌, length, drop, get_or, Option, Some, None, Result, Ok, Err, nat_lt, ◌==◌, if◌then◌else◌}
use Rattle.frame_journal.specs.FrameValue.{FrameValue}
use Rattle.entry_code.specs.Payloads.{Header}
use Rattle.disk_model.specs.declared.limits.TheConstants.{LOG_STRIPS}
use Rattle.rdb_base.specs.declared.limits.TheConstants.{NUMBER_MAX}
use Rattle.wal_log.specs.declared.log_error.LogError.{LogError}
use Rattle.wal_log.specs.declared.log_error.LogError.TheVariants.{LogGap}
use Rattle.wal_log.specs.Logs.{◌>>=◌, strip_of, header_in, entries_in}
use Rattle.wal_log.specs.LogValues.{SegmentValue, LogValue, end_from}

-- the header that a strip begins with, if it has a frame: it names the strip's segment
unfoldable pub header_on : ℕ → List FrameValue → Result (Option Header) LogError
header_on strip [] = Ok None
header_on strip (frame ∷ frames) = do
  header ← header_in strip frame
  Ok (Some header)

-- the headers of strips, one by one, of which the first strip has this number
unfoldable pub headers_from : ℕ → List (List FrameValue) → Result (List (Option Header)) LogError
headers_from strip [] = Ok []
headers_from strip (frames ∷ strips) = do
  header ← header_on strip frames
  headers ← headers_from (strip + 1) strips
  Ok (header ∷ headers)

-- this header, if it names that segment
abbrev pub if_names : ℕ → Option Header → Option Header
if_names segment None = None
if_names segment (Some header) = if header.segment == segment then Some header else None

-- the header of a segment, if the strip on which it stands names it
abbrev pub header_of_segment : List (Option Header) → ℕ → Option Header
header_of_segment headers segment = if_names segment (get_or headers (strip_of segment) None)

-- a live segment and those after it; where it is not live, none
abbrev pub and_after : Option Header → List Header → List Header
and_after None live = []
and_after (Some header) live = header ∷ live

-- the live segments from this number on, as long as the strip of each names it, and at most so many
unfoldable pub live_from : List (Option Header) → ℕ → ℕ → List Header
live_from headers zero segment = []
live_from headers (suc most) segment = and_after (header_of_segment headers segment) (live_from headers most (segment + 1))

-- the frames after a segment's header
abbrev pub frames_of_segment : List (List FrameValue) → ℕ → List FrameValue
frames_of_segment strips segment = drop 1 (get_or strips (strip_of segment) [])

-- a live segment with its entries, which has to begin with this number; so has each of its frames with the number at which
-- its entries stand
unfoldable pub content_of : List (List FrameValue) → ℕ → Header → Result SegmentValue LogError
content_of strips end header = if header.first == end then (do
  entries ← entries_in (strip_of header.segment) end (frames_of_segment strips header.segment)
  Ok (record { segment = header.segment; first = end; entries = entries })) else Err (LogGap end header.first)

-- live segments with their entries, in order, of which the first has to begin with this number
unfoldable pub contents_from : List (List FrameValue) → ℕ → List Header → Result (List SegmentValue) LogError
contents_from strips end [] = Ok []
contents_from strips end (header ∷ live) = do
  segment ← content_of strips end header
  segments ← contents_from strips (end + length segment.entries) live
  Ok (segment ∷ segments)

-- where the first live segment begins; 0 where none is live
abbrev pub start_of : List Header → ℕ
start_of [] = 0
start_of (header ∷ live) = header.first

-- the first number of the lowest strip's segment that is not below this one
abbrev pub stray_from : ℕ → List (Option Header) → Option ℕ
stray_from next [] = None
stray_from next (None ∷ headers) = stray_from next headers
stray_from next (Some header ∷ headers) = if nat_lt header.segment next then stray_from next headers else Some header.first

-- a log, if no segment is left over after it
abbrev pub if_none_left : LogValue → Option ℕ → Result LogValue LogError
if_none_left log None = Ok log
if_none_left log (Some found) = Err (LogGap log.end found)

-- The log that live segments have. They are numbered from `first` on, one after another: so a segment that is not below
-- `first` and is not live is one that is not below the number after theirs.
unfoldable pub log_of_live : ℕ → List (List FrameValue) → List (Option Header) → List Header → Result LogValue LogError
log_of_live first strips headers live = do
  segments ← contents_from strips (start_of live) live
  if_none_left (record { start = start_of live; end = end_from (start_of live) segments; segments = segments }) (stray_from (first + length live) headers)

-- the log on strips with these frames, whose live segments begin with this one
unfoldable pub log_of : ℕ → List (List FrameValue) → Result LogValue LogError
log_of first strips = do
  headers ← headers_from 0 strips
  log_of_live first strips headers (live_from headers LOG_STRIPS first)

-- what each header meets
abbrev pub IsHeaderWithin : Option Header → Type 0
IsHeaderWithin None = Unit {0}
IsHeaderWithin (Some header) = (header.segment ≤ header.first) × (header.first ≤ NUMBER_MAX)
