-- Several strips read one by one: their headers (`headers-next`), the live segments (`live-next`), their contents
-- (`contents-next`). A log that is read meets `IsContent` (`contents-placed`, `live-contents_numbered`).
use Rattle.std.proofs.Common.{◌≡◌, ℕ, zero, suc, ◌+◌, ◌-◌, get_or, ◌<◌, ◌≤◌, Bool, true, false, cond, eqb, ltb, List, [], ◌∷◌, ◌++◌, length, drop, Option, Some, None, Result, Ok, Err, refl, sym, ap, subst, ◌∙◌, append_assoc, arith}
use Rattle.std.proofs.lemmas.Bool.{eqb-true, ltb-false}
use Rattle.std.proofs.lemmas.List.{append-nil, drop_more}
use Rattle.std.specs.List.{AllByRecursion}
use Rattle.std.specs.Int.{w64}
use Rattle.frame_journal.specs.FrameValue.{FrameValue}
use Rattle.rdb_base.specs.declared.entry.Entry.{Entry}
use Rattle.rdb_base.specs.declared.limits.TheConstants.{NUMBER_MAX}
use Rattle.rdb_base.specs.PairFields.{number_at, placed}
use Rattle.rdb_base.proofs.PairLemmas.{went_well, passed}
use Rattle.entry_code.specs.declared.format.TheConstants.{HEADER_KIND}
use Rattle.entry_code.specs.Payloads.{Header, header_of, header_fields, kind_at, ended}
use Rattle.wal_log.specs.declared.log_error.LogError.{LogError}
use Rattle.wal_log.specs.declared.log_error.LogError.TheVariants.{BadEntry, LogGap}
use Rattle.wal_log.specs.declared.log_error.LogError.TheVariants as logs
use Rattle.wal_log.specs.Answers.{FailsLog}
use Rattle.wal_log.specs.Logs.{◌>>=◌, strip_of, in_frame, header_in, entries_in}
use Rattle.wal_log.specs.LogValues.{SegmentValue, AreNumberedFrom, AreNumbered, ArePlaced, end_from}
use Rattle.wal_log.specs.Segments.{header_on, headers_from, if_names, header_of_segment, and_after, live_from, frames_of_segment, content_of, contents_from, start_of, IsHeaderWithin}

abbrev good : {A : Type 0} → A → Result A LogError
good x = Ok x

-- ---- an error that stands for a whole reading

pub fails-whole : {A B : Type 0} (error : LogError) (read : Result A LogError) (whole : Result B LogError) → ((e : LogError) → read ≡ Err e → whole ≡ Err e) → FailsLog error read → FailsLog error whole
fails-whole logs.Memory read whole so fails = tt
fails-whole (logs.Fault unit) read whole so fails = fails
fails-whole (logs.TornHeader s at) read whole so fails = fails
fails-whole (logs.BadEntry s f at) read whole so fails = so (BadEntry s f at) fails
fails-whole (logs.LogGap want found) read whole so fails = so (LogGap want found) fails

drop_past : {X : Type 0} (xs : List X) (i : ℕ) → length xs ≤ i → drop i xs ≡ []
drop_past [] zero le = refl
drop_past [] (suc i) le = refl
drop_past (x ∷ xs) zero le = absurd (omega (arith, le))
drop_past (x ∷ xs) (suc i) le = drop_past xs i (omega (arith, le))

-- ---- the headers of strips

-- what is read after headers that were read before
abbrev pub headers_after : List (Option Header) → Result (List (Option Header)) LogError → Result (List (Option Header)) LogError
headers_after done (Ok more) = Ok (done ++ more)
headers_after done (Err error) = Err error

header_again : (done : List (Option Header)) (header : Option Header) (read : Result (List (Option Header)) LogError) → headers_after done (read >>= λ headers. Ok (header ∷ headers)) ≡ headers_after (done ++ header ∷ []) read
header_again done header (Ok more) = ap (λ (l : List (Option Header)). Ok l) (sym (append_assoc done (header ∷ []) more))
header_again done header (Err error) = refl

headers-step : (strip : ℕ) (done : List (Option Header)) (header : Option Header) (frames : List FrameValue) (strips : List (List FrameValue)) → header_on strip frames ≡ Ok header → headers_after done (headers_from strip (frames ∷ strips)) ≡ headers_after (done ++ header ∷ []) (headers_from (strip + 1) strips)
unfolding headers_from
headers-step strip done header frames strips e = rw e (header_again done header (headers_from (strip + 1) strips))

headers-halt : (strip : ℕ) (done : List (Option Header)) (error : LogError) (frames : List FrameValue) (strips : List (List FrameValue)) → header_on strip frames ≡ Err error → headers_after done (headers_from strip (frames ∷ strips)) ≡ Err error
unfolding headers_from
headers-halt strip done error frames strips e = rw e refl

pub headers-next : (strip : ℕ) (done : List (Option Header)) (header : Option Header) (strips : List (List FrameValue)) (i : ℕ) (d : List FrameValue) → i < length strips → header_on strip (get_or strips i d) ≡ Ok header → headers_after done (headers_from strip (drop i strips)) ≡ headers_after (done ++ header ∷ []) (headers_from (strip + 1) (drop (i + 1) strips))
headers-next strip done header strips i d lt e = ap (λ (l : List (List FrameValue)). headers_after done (headers_from strip l)) (drop_more strips i d lt) ∙ headers-step strip done header (get_or strips i d) (drop (i + 1) strips) e

pub headers-stop : (error : LogError) (strip : ℕ) (done : List (Option Header)) (strips : List (List FrameValue)) (i : ℕ) (d : List FrameValue) (whole : Result (List (Option Header)) LogError) → i < length strips → FailsLog error (header_on strip (get_or strips i d)) → whole ≡ headers_after done (headers_from strip (drop i strips)) → FailsLog error whole
headers-stop error strip done strips i d whole lt fails is = fails-whole error (header_on strip (get_or strips i d)) whole (λ e h. is ∙ ap (λ (l : List (List FrameValue)). headers_after done (headers_from strip l)) (drop_more strips i d lt) ∙ headers-halt strip done e (get_or strips i d) (drop (i + 1) strips) h) fails

headers-nil : (strip : ℕ) (done : List (Option Header)) → headers_after done (headers_from strip []) ≡ Ok done
unfolding headers_from
headers-nil strip done = ap (λ (l : List (Option Header)). Ok l) (append-nil done)

pub headers-end : (strip : ℕ) (done : List (Option Header)) (strips : List (List FrameValue)) (i : ℕ) → length strips ≤ i → headers_after done (headers_from strip (drop i strips)) ≡ Ok done
headers-end strip done strips i le = ap (λ (l : List (List FrameValue)). headers_after done (headers_from strip l)) (drop_past strips i le) ∙ headers-nil strip done

-- ---- what a header meets

ended_is : (header x : Header) (bytes : List ℕ) → ended header bytes ≡ Ok x → header ≡ x
ended_is header x bytes e = ended_by (eqb (length bytes) 0) e
  where
    ended_by : (b : Bool) → cond b (Ok header) (Err (length bytes)) ≡ Ok x → header ≡ x
    ended_by true h = cc
    ended_by false h = absurd cc

fields-within : (bytes : List ℕ) (header : Header) → header_fields bytes ≡ Ok header → (header.segment ≤ header.first) × (header.first ≤ NUMBER_MAX)
unfolding header_fields
fields-within bytes header e =
    let a = went_well (kind_at HEADER_KIND bytes) _ header e in
    let b = went_well (number_at w64 a.0) _ header a.2 in
    let c = went_well (number_at w64 b.0.1) _ header b.2 in
    let p = passed (ltb c.0.0 b.0.0) (length b.0.1) _ header c.2 in
    let q = passed (ltb NUMBER_MAX c.0.0) (length b.0.1) _ header p.1 in
    let is = ended_is (record { segment = b.0.0; first = c.0.0 }) header c.0.1 q.1 in
    subst (λ (h : Header). (h.segment ≤ h.first) × (h.first ≤ NUMBER_MAX)) is (ltb-false _ _ p.0, ltb-false _ _ q.0)

placed-ok : (bytes : List ℕ) (read : Result Header ℕ) (header : Header) → placed bytes read ≡ Ok header → read ≡ Ok header
placed-ok bytes (Ok x) header e = e
placed-ok bytes (Err left) header e = absurd cc

framed-ok : (strip : ℕ) (frame : FrameValue) (read : Result Header ℕ) (f : Header → Result Header LogError) (header : Header) → (in_frame strip frame read >>= f) ≡ Ok header → (x : Header) × (read ≡ Ok x) × (f x ≡ Ok header)
framed-ok strip frame (Ok x) f header e = (x, refl, e)
framed-ok strip frame (Err at) f header e = absurd cc

tested-ok : (b : Bool) (x header : Header) (error : LogError) → cond b (Ok x) (Err error) ≡ Ok header → x ≡ header
tested-ok true x header error e = cc
tested-ok false x header error e = absurd cc

header_in-within : (strip : ℕ) (frame : FrameValue) (header : Header) → header_in strip frame ≡ Ok header → IsHeaderWithin (Some header)
unfolding header_in
header_in-within strip frame header e =
    let a = framed-ok strip frame (header_of frame.payload) _ header e in
    let is = tested-ok (eqb (strip_of a.0.segment) strip) a.0 header (BadEntry strip frame.at 1) a.2 in
    subst (λ (h : Header). (h.segment ≤ h.first) × (h.first ≤ NUMBER_MAX)) is (fields-within frame.payload a.0 (placed-ok frame.payload (header_fields frame.payload) a.0 a.1))

header_ok : (read : Result Header LogError) (x : Option Header) → (read >>= λ header. Ok (Some header)) ≡ Ok x → ((header : Header) → read ≡ Ok header → IsHeaderWithin (Some header)) → IsHeaderWithin x
header_ok (Ok header) x e so = subst IsHeaderWithin (some_is e) (so header refl)
  where
    some_is : good (Some header) ≡ good x → Some header ≡ x
    some_is h = cc
header_ok (Err error) x e so = absurd cc

pub header_on-within : (strip : ℕ) (frames : List FrameValue) (header : Option Header) → header_on strip frames ≡ Ok header → IsHeaderWithin header
unfolding header_on
header_on-within strip [] None e = tt
header_on-within strip [] (Some header) e = absurd cc
header_on-within strip (frame ∷ frames) header e = header_ok (header_in strip frame) header e (λ h is. header_in-within strip frame h is)

pub within-push : (headers : List (Option Header)) (header : Option Header) → AllByRecursion IsHeaderWithin headers → IsHeaderWithin header → AllByRecursion IsHeaderWithin (headers ++ header ∷ [])
within-push [] header all one = (one, tt)
within-push (first ∷ headers) header all one = (all.0, within-push headers header all.1 one)

within-get : (headers : List (Option Header)) (i : ℕ) → AllByRecursion IsHeaderWithin headers → IsHeaderWithin (get_or headers i None)
within-get [] i all = tt
within-get (first ∷ headers) zero all = all.0
within-get (first ∷ headers) (suc i) all = within-get headers i all.1

if_names-within : (segment : ℕ) (found : Option Header) → IsHeaderWithin found → IsHeaderWithin (if_names segment found)
if_names-within segment None within = tt
if_names-within segment (Some header) within = by_test (eqb header.segment segment)
  where
    by_test : (b : Bool) → IsHeaderWithin (cond b (Some header) None)
    by_test true = within
    by_test false = tt

-- ---- the live segments

-- the first live segment's first number is within its limit
pub start-within : (headers : List (Option Header)) (most segment : ℕ) → AllByRecursion IsHeaderWithin headers → start_of (live_from headers most segment) ≤ NUMBER_MAX
unfolding live_from
start-within headers zero segment all = omega arith
start-within headers (suc most) segment all = by_header (header_of_segment headers segment) (live_from headers most (segment + 1)) (if_names-within segment (get_or headers (strip_of segment) None) (within-get headers (strip_of segment) all))
  where
    by_header : (found : Option Header) (live : List Header) → IsHeaderWithin found → start_of (and_after found live) ≤ NUMBER_MAX
    by_header None live within = omega arith
    by_header (Some header) live within = within.1

if_names-some : (segment : ℕ) (found : Option Header) (header : Header) → if_names segment found ≡ Some header → header.segment ≡ segment
if_names-some segment None header e = absurd cc
if_names-some segment (Some x) header e = by_test (eqb x.segment segment) refl e
  where
    by_test : (b : Bool) → eqb x.segment segment ≡ b → cond b (Some x) None ≡ Some header → header.segment ≡ segment
    by_test true is h = let same : x ≡ header = cc in subst (λ (k : Header). k.segment ≡ segment) same (eqb-true _ _ is)
    by_test false is h = absurd cc

-- a header that names a segment names that one
pub named-segment : (headers : List (Option Header)) (segment : ℕ) (header : Header) → header_of_segment headers segment ≡ Some header → header.segment ≡ segment
named-segment headers segment header e = if_names-some segment (get_or headers (strip_of segment) None) header e

live-step : (headers : List (Option Header)) (most segment : ℕ) (header : Header) → header_of_segment headers segment ≡ Some header → live_from headers (suc most) segment ≡ header ∷ live_from headers most (segment + 1)
unfolding live_from
live-step headers most segment header e = ap (λ (found : Option Header). and_after found (live_from headers most (segment + 1))) e

live-halt : (headers : List (Option Header)) (most segment : ℕ) → header_of_segment headers segment ≡ None → live_from headers (suc most) segment ≡ []
unfolding live_from
live-halt headers most segment e = ap (λ (found : Option Header). and_after found (live_from headers most (segment + 1))) e

live-zero : (headers : List (Option Header)) (segment : ℕ) → live_from headers 0 segment ≡ []
unfolding live_from
live-zero headers segment = refl

-- one live segment more, where so many were looked for
pub live-next : (headers : List (Option Header)) (most i segment : ℕ) (done : List Header) (header : Header) → i < most → header_of_segment headers segment ≡ Some header → done ++ live_from headers (most - i) segment ≡ (done ++ header ∷ []) ++ live_from headers (most - (i + 1)) (segment + 1)
live-next headers most i segment done header lt e =
    let one : most - i ≡ suc (most - (i + 1)) = omega (arith, lt) in
    ap (λ (n : ℕ). done ++ live_from headers n segment) one
    ∙ ap (λ (l : List Header). done ++ l) (live-step headers (most - (i + 1)) segment header e)
    ∙ sym (append_assoc done (header ∷ []) (live_from headers (most - (i + 1)) (segment + 1)))

pub live-stop : (headers : List (Option Header)) (most i segment : ℕ) (done : List Header) → i < most → header_of_segment headers segment ≡ None → done ++ live_from headers (most - i) segment ≡ done
live-stop headers most i segment done lt e =
    let one : most - i ≡ suc (most - (i + 1)) = omega (arith, lt) in
    ap (λ (n : ℕ). done ++ live_from headers n segment) one
    ∙ ap (λ (l : List Header). done ++ l) (live-halt headers (most - (i + 1)) segment e)
    ∙ append-nil done

pub live-end : (headers : List (Option Header)) (most i segment : ℕ) (done : List Header) → most ≤ i → done ++ live_from headers (most - i) segment ≡ done
live-end headers most i segment done le =
    let none : most - i ≡ 0 = omega (arith, le) in
    ap (λ (n : ℕ). done ++ live_from headers n segment) none ∙ ap (λ (l : List Header). done ++ l) (live-zero headers segment) ∙ append-nil done

-- ---- their contents

-- what is read after segments that were read before
abbrev pub contents_after : List SegmentValue → Result (List SegmentValue) LogError → Result (List SegmentValue) LogError
contents_after done (Ok more) = Ok (done ++ more)
contents_after done (Err error) = Err error

content_again : (done : List SegmentValue) (segment : SegmentValue) (read : Result (List SegmentValue) LogError) → contents_after done (read >>= λ segments. Ok (segment ∷ segments)) ≡ contents_after (done ++ segment ∷ []) read
content_again done segment (Ok more) = ap (λ (l : List SegmentValue). Ok l) (sym (append_assoc done (segment ∷ []) more))
content_again done segment (Err error) = refl

contents-step : (strips : List (List FrameValue)) (end : ℕ) (done : List SegmentValue) (segment : SegmentValue) (header : Header) (live : List Header) → content_of strips end header ≡ Ok segment → contents_after done (contents_from strips end (header ∷ live)) ≡ contents_after (done ++ segment ∷ []) (contents_from strips (end + length segment.entries) live)
unfolding contents_from
contents-step strips end done segment header live e = rw e (content_again done segment (contents_from strips (end + length segment.entries) live))

contents-halt : (strips : List (List FrameValue)) (end : ℕ) (done : List SegmentValue) (error : LogError) (header : Header) (live : List Header) → content_of strips end header ≡ Err error → contents_after done (contents_from strips end (header ∷ live)) ≡ Err error
unfolding contents_from
contents-halt strips end done error header live e = rw e refl

pub contents-next : (strips : List (List FrameValue)) (end : ℕ) (done : List SegmentValue) (segment : SegmentValue) (live : List Header) (i : ℕ) (d : Header) → i < length live → content_of strips end (get_or live i d) ≡ Ok segment → contents_after done (contents_from strips end (drop i live)) ≡ contents_after (done ++ segment ∷ []) (contents_from strips (end + length segment.entries) (drop (i + 1) live))
contents-next strips end done segment live i d lt e = ap (λ (l : List Header). contents_after done (contents_from strips end l)) (drop_more live i d lt) ∙ contents-step strips end done segment (get_or live i d) (drop (i + 1) live) e

pub contents-stop : (error : LogError) (strips : List (List FrameValue)) (end : ℕ) (done : List SegmentValue) (live : List Header) (i : ℕ) (d : Header) (whole : Result (List SegmentValue) LogError) → i < length live → FailsLog error (content_of strips end (get_or live i d)) → whole ≡ contents_after done (contents_from strips end (drop i live)) → FailsLog error whole
contents-stop error strips end done live i d whole lt fails is = fails-whole error (content_of strips end (get_or live i d)) whole (λ e h. is ∙ ap (λ (l : List Header). contents_after done (contents_from strips end l)) (drop_more live i d lt) ∙ contents-halt strips end done e (get_or live i d) (drop (i + 1) live) h) fails

contents-none : (strips : List (List FrameValue)) (end : ℕ) (done : List SegmentValue) → contents_after done (contents_from strips end []) ≡ Ok done
unfolding contents_from
contents-none strips end done = ap (λ (l : List SegmentValue). Ok l) (append-nil done)

pub contents-end : (strips : List (List FrameValue)) (end : ℕ) (done : List SegmentValue) (live : List Header) (i : ℕ) → length live ≤ i → contents_after done (contents_from strips end (drop i live)) ≡ Ok done
contents-end strips end done live i le = ap (λ (l : List Header). contents_after done (contents_from strips end l)) (drop_past live i le) ∙ contents-none strips end done

-- the number after segments, with one more
pub end_from-push : (start : ℕ) (segments : List SegmentValue) (segment : SegmentValue) → end_from start (segments ++ segment ∷ []) ≡ end_from start segments + length segment.entries
end_from-push start [] segment = refl
end_from-push start (first ∷ segments) segment = end_from-push (start + length first.entries) segments segment

-- ---- what a log that is read meets

content_is : (strips : List (List FrameValue)) (end : ℕ) (header : Header) (segment : SegmentValue) → content_of strips end header ≡ Ok segment → (segment.segment ≡ header.segment) × (segment.first ≡ end)
unfolding content_of
content_is strips end header segment e = by_test (eqb header.first end) (entries_in (strip_of header.segment) end (frames_of_segment strips header.segment)) e
  where
    by_read : (read : Result (List Entry) LogError) → (read >>= λ entries. Ok (record { segment = header.segment; first = end; entries = entries })) ≡ Ok segment → (segment.segment ≡ header.segment) × (segment.first ≡ end)
    by_read (Ok entries) h = let same : record { segment = header.segment; first = end; entries = entries } ≡ segment = cc in subst (λ (s : SegmentValue). (s.segment ≡ header.segment) × (s.first ≡ end)) same (refl, refl)
    by_read (Err error) h = absurd cc

    by_test : (b : Bool) (read : Result (List Entry) LogError) → cond b (read >>= λ entries. Ok (record { segment = header.segment; first = end; entries = entries })) (Err (LogGap end header.first)) ≡ Ok segment → (segment.segment ≡ header.segment) × (segment.first ≡ end)
    by_test true read h = by_read read h
    by_test false read h = absurd cc

went_on : {A B : Type 0} (read : Result A LogError) (f : A → Result B LogError) (y : B) → (read >>= f) ≡ Ok y → (x : A) × (read ≡ Ok x) × (f x ≡ Ok y)
went_on (Ok x) f y e = (x, refl, e)
went_on (Err error) f y e = absurd cc

more_is : (segment : SegmentValue) (more segments : List SegmentValue) (f : List SegmentValue → Result (List SegmentValue) LogError) → ((l : List SegmentValue) → f l ≡ Ok (segment ∷ l)) → f more ≡ Ok segments → segment ∷ more ≡ segments
more_is segment more segments f is e = good_list (sym (is more) ∙ e)
  where
    good_list : good (segment ∷ more) ≡ good segments → segment ∷ more ≡ segments
    good_list h = cc

contents-parts : (strips : List (List FrameValue)) (end : ℕ) (header : Header) (live : List Header) (segments : List SegmentValue) → contents_from strips end (header ∷ live) ≡ Ok segments
    → (segment : SegmentValue) × (more : List SegmentValue) × (content_of strips end header ≡ Ok segment) × (contents_from strips (end + length segment.entries) live ≡ Ok more) × (segment ∷ more ≡ segments)
unfolding contents_from
contents-parts strips end header live segments e =
    let a = went_on (content_of strips end header) _ segments e in
    let b = went_on (contents_from strips (end + length a.0.entries) live) _ segments a.2 in
    (a.0, b.0, a.1, b.1, more_is a.0 b.0 segments (λ l. Ok (a.0 ∷ l)) (λ l. refl) b.2)

contents-nil : (strips : List (List FrameValue)) (end : ℕ) (segments : List SegmentValue) → contents_from strips end [] ≡ Ok segments → [] ≡ segments
unfolding contents_from
contents-nil strips end segments e = good_nil e
  where
    good_nil : good [] ≡ good segments → [] ≡ segments
    good_nil h = cc

pub contents-placed : (strips : List (List FrameValue)) (end : ℕ) (live : List Header) (segments : List SegmentValue) → contents_from strips end live ≡ Ok segments → ArePlaced end segments
contents-placed strips end [] segments e = subst (ArePlaced end) (contents-nil strips end segments e) tt
contents-placed strips end (header ∷ live) segments e =
    let a = contents-parts strips end header live segments e in
    subst (ArePlaced end) a.4 ((content_is strips end header a.0 a.2).1, contents-placed strips (end + length a.0.entries) live a.1 a.3)

-- headers that are numbered one after another
abbrev AreHeadersFrom : ℕ → List Header → Type 0
AreHeadersFrom number [] = Unit {0}
AreHeadersFrom number (header ∷ live) = (header.segment ≡ number) × AreHeadersFrom (number + 1) live

live-numbered : (headers : List (Option Header)) (most segment : ℕ) → AreHeadersFrom segment (live_from headers most segment)
unfolding live_from
live-numbered headers zero segment = tt
live-numbered headers (suc most) segment = by_header (header_of_segment headers segment) (live_from headers most (segment + 1)) refl (live-numbered headers most (segment + 1))
  where
    by_header : (found : Option Header) (live : List Header) → header_of_segment headers segment ≡ found → AreHeadersFrom (segment + 1) live → AreHeadersFrom segment (and_after found live)
    by_header None live is more = tt
    by_header (Some header) live is more = (named-segment headers segment header is, more)

contents-numbered : (strips : List (List FrameValue)) (end number : ℕ) (live : List Header) (segments : List SegmentValue) → AreHeadersFrom number live → contents_from strips end live ≡ Ok segments → AreNumberedFrom number segments
contents-numbered strips end number [] segments numbered e = subst (AreNumberedFrom number) (contents-nil strips end segments e) tt
contents-numbered strips end number (header ∷ live) segments numbered e =
    let a = contents-parts strips end header live segments e in
    subst (AreNumberedFrom number) a.4 ((content_is strips end header a.0 a.2).0 ∙ numbered.0, contents-numbered strips (end + length a.0.entries) (number + 1) live a.1 numbered.1 a.3)

pub live-contents_numbered : (strips : List (List FrameValue)) (headers : List (Option Header)) (end most first : ℕ) (segments : List SegmentValue) → contents_from strips end (live_from headers most first) ≡ Ok segments → AreNumberedFrom first segments
live-contents_numbered strips headers end most first segments e = contents-numbered strips end first (live_from headers most first) segments (live-numbered headers most first) e

pub numbered-from : (number : ℕ) (segments : List SegmentValue) → AreNumberedFrom number segments → AreNumbered segments
numbered-from number [] numbered = tt
numbered-from number (segment ∷ segments) numbered = subst (λ (n : ℕ). AreNumberedFrom (n + 1) segments) (sym numbered.0) numbered.1
