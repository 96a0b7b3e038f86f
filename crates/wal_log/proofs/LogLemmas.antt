-- What frames say of a log, with one frame more.
use Rattle.std.proofs.Common.{◌≡◌, ℕ, ◌+◌, get_or, ◌<◌, ◌≤◌, Bool, true, false, cond, eqb, List, [], ◌∷◌, ◌++◌, length, take, Result, Ok, Err, refl, sym, ap, subst, ◌∙◌, append_assoc, arith}
use Rattle.std.proofs.lemmas.Bool.{eqb-true}
use Rattle.std.proofs.lemmas.Bool.Decides.{nat_tests}
use Rattle.std.proofs.lemmas.List.{length-append, append-nil, take_at}
use Rattle.frame_journal.specs.FrameValue.{FrameValue}
use Rattle.frame_journal.specs.Frames.{end_of, StandsFor, HasNoTorn}
use Rattle.rdb_base.specs.declared.entry.Entry.{Entry}
use Rattle.rdb_base.specs.declared.limits.TheConstants.{NUMBER_MAX}
use Rattle.entry_code.specs.Payloads.{Header, header_of, header_payload, entries_of}
use Rattle.entry_code.proofs.EntryLemmas.{header_again}
use Rattle.wal_log.specs.declared.log_error.LogError.{LogError}
use Rattle.wal_log.specs.declared.log_error.LogError.TheVariants.{BadEntry, LogGap}
use Rattle.wal_log.specs.declared.log_error.LogError.TheVariants as logs
use Rattle.wal_log.specs.Answers.{FailsLog}
use Rattle.wal_log.specs.Logs.{◌>>=◌, strip_of, in_frame, header_in, joined, entries_in, after_header, alone, HasEntries, HasFrontOf}

-- bytes that stand for frames have no torn header
pub stands_whole : (frames : List FrameValue) (bytes : List ℕ) → StandsFor frames bytes → HasNoTorn bytes
stands_whole frames bytes stands at torn =
    let end : end_of frames ≡ at = ap end_of (sym stands.whole) ∙ torn.end in
    let some : 0 < end_of frames = omega (arith, torn.above, end) in
    (stands.gate some).closed (ap (λ (k : ℕ). get_or bytes k 0) end ∙ torn.open_gate)

pub has_of : (number first : ℕ) (frames : List FrameValue) (entries : List Entry) (bytes : List ℕ) → StandsFor frames bytes → alone number first frames ≡ Ok entries → HasEntries number first entries bytes
has_of number first frames entries bytes stands read = record { whole = stands_whole frames bytes stands; read = ap (alone number first) stands.whole ∙ read }

-- no frame, no entry
pub alone_none : (number first : ℕ) → alone number first [] ≡ Ok []
unfolding alone
alone_none number first = refl

pub alone_header : (number first at : ℕ) → number ≤ first → first ≤ NUMBER_MAX → alone number first (record { at = at; payload = header_payload number first } ∷ []) ≡ Ok []
unfolding alone header_in after_header entries_in
alone_header number first at le most =
    let strip : eqb (strip_of number) (strip_of number) ≡ true = grind (arith, nat_tests) in
    let same : eqb number number ≡ true = grind (arith, nat_tests) in
    let from : eqb first first ≡ true = grind (arith, nat_tests) in
    steps (header_of (header_payload number first)) (header_again number first le most) strip same from
  where
    steps : (read : Result Header ℕ) → read ≡ Ok (record { segment = number; first = first }) → eqb (strip_of number) (strip_of number) ≡ true → eqb number number ≡ true → eqb first first ≡ true
        → ((in_frame (strip_of number) (record { at = at; payload = header_payload number first }) read >>= λ header. cond (eqb (strip_of header.segment) (strip_of number)) (Ok header) (Err (BadEntry (strip_of number) at 1))) >>= λ header. after_header number first header []) ≡ Ok []
    steps read e strip same from = rw (e, strip, same, from) refl

again : (strip end : ℕ) (frames : List FrameValue) (entries more found : List Entry) → entries_in strip end frames ≡ Ok more → joined found (Ok more) ≡ Ok entries → found ++ more ≡ entries
again strip end frames entries more found e f = cc

joined_ok : (found : List Entry) (read : Result (List Entry) LogError) (entries : List Entry) → joined found read ≡ Ok entries → (more : List Entry) × (read ≡ Ok more) × (found ++ more ≡ entries)
joined_ok found (Ok more) entries e = (more, refl, cc)
joined_ok found (Err error) entries e = absurd cc

found_ok : {X : Type 0} (strip : ℕ) (frame : FrameValue) (read : Result X ℕ) (f : X → Result (List Entry) LogError) (entries : List Entry) → (in_frame strip frame read >>= f) ≡ Ok entries → (x : X) × (read ≡ Ok x) × (f x ≡ Ok entries)
found_ok strip frame (Ok x) f entries e = (x, refl, e)
found_ok strip frame (Err at) f entries e = absurd cc

tested : {A : Type 0} (b : Bool) (x y : Result A LogError) (error : LogError) (z : A) → y ≡ Err error → cond b x y ≡ Ok z → (b ≡ true) × (x ≡ Ok z)
tested true x y error z f e = (refl, e)
tested false x y error z f e = absurd cc

-- one frame more, whose entries go on where these end
pub entries_in-more : (strip end : ℕ) (frames : List FrameValue) (frame : FrameValue) (entries more : List Entry) → entries_in strip end frames ≡ Ok entries → entries_of frame.payload ≡ Ok (record { first = end + length entries; entries = more }) → entries_in strip end (frames ++ frame ∷ []) ≡ Ok (entries ++ more)
unfolding entries_in
entries_in-more strip end [] frame entries more e f =
    let none : entries ≡ [] = cc in
    let same : eqb (end + length entries) end ≡ true = grind (arith, nat_tests, ap (λ (l : List Entry). length l) none) in
    rw (f, same) (ap (λ (l : List Entry). Ok l) (append-nil more ∙ ap (λ (l : List Entry). l ++ more) (sym none)))
entries_in-more strip end (first ∷ frames) frame entries more e f =
    let a = found_ok strip first (entries_of first.payload) (λ found. cond (eqb found.first end) (joined found.entries (entries_in strip (end + length found.entries) frames)) (Err (LogGap end found.first))) entries e in
    let b = tested (eqb a.0.first end) (joined a.0.entries (entries_in strip (end + length a.0.entries) frames)) (Err (LogGap end a.0.first)) (LogGap end a.0.first) entries refl a.2 in
    let c = joined_ok a.0.entries (entries_in strip (end + length a.0.entries) frames) entries b.1 in
    let len : length entries ≡ length a.0.entries + length c.0 = ap (λ (l : List Entry). length l) (sym c.2) ∙ length-append a.0.entries c.0 in
    let g : entries_of frame.payload ≡ Ok (record { first = (end + length a.0.entries) + length c.0; entries = more }) = f ∙ ap (λ (k : ℕ). Ok (record { first = k; entries = more })) (omega (arith, len)) in
    let rest = entries_in-more strip (end + length a.0.entries) frames frame c.0 more c.1 g in
    rw (a.1, b.0, rest) (ap (λ (l : List Entry). Ok l) (sym (append_assoc a.0.entries c.0 more) ∙ ap (λ (l : List Entry). l ++ more) c.2))

-- ---- frame by frame

pub joined-none : (read : Result (List Entry) LogError) → joined [] read ≡ read
joined-none (Ok more) = refl
joined-none (Err error) = refl

joined-joined : (xs ys : List Entry) (read : Result (List Entry) LogError) → joined xs (joined ys read) ≡ joined (xs ++ ys) read
joined-joined xs ys (Ok more) = ap (λ (l : List Entry). Ok l) (sym (append_assoc xs ys more))
joined-joined xs ys (Err error) = refl

pub joined-next : (strip end : ℕ) (done more : List Entry) (frame : FrameValue) (frames : List FrameValue) → in_frame strip frame (entries_of frame.payload) ≡ Ok (record { first = end; entries = more }) → joined done (entries_in strip end (frame ∷ frames)) ≡ joined (done ++ more) (entries_in strip (end + length more) frames)
unfolding entries_in
joined-next strip end done more frame frames e =
    let same : eqb end end ≡ true = grind (arith, nat_tests) in
    rw (e, same) (joined-joined done more (entries_in strip (end + length more) frames))

pub joined-gap : (strip end first : ℕ) (done more : List Entry) (frame : FrameValue) (frames : List FrameValue) → in_frame strip frame (entries_of frame.payload) ≡ Ok (record { first = first; entries = more }) → (first ≡ end → ⊥) → joined done (entries_in strip end (frame ∷ frames)) ≡ Err (LogGap end first)
unfolding entries_in
joined-gap strip end first done more frame frames e apart =
    let other : eqb first end ≡ false = grind (arith, nat_tests, apart) in
    rw (e, other) refl

pub joined-stop : (error : LogError) (strip end : ℕ) (done : List Entry) (frame : FrameValue) (frames : List FrameValue) (whole : Result (List Entry) LogError) → FailsLog error (in_frame strip frame (entries_of frame.payload)) → whole ≡ joined done (entries_in strip end (frame ∷ frames)) → FailsLog error whole
unfolding entries_in
joined-stop logs.Memory strip end done frame frames whole fails e = tt
joined-stop (logs.Fault unit) strip end done frame frames whole fails e = fails
joined-stop (logs.TornHeader s at) strip end done frame frames whole fails e = fails
joined-stop (logs.BadEntry s f at) strip end done frame frames whole fails e = e ∙ rw fails refl
joined-stop (logs.LogGap want found) strip end done frame frames whole fails e = e ∙ rw fails refl

pub joined-end : (strip end : ℕ) (done : List Entry) → joined done (entries_in strip end []) ≡ Ok done
unfolding entries_in
joined-end strip end done = ap (λ (l : List Entry). Ok l) (append-nil done)

header_ok : (read : Result Header LogError) (f : Header → Result (List Entry) LogError) (entries : List Entry) → (read >>= f) ≡ Ok entries → (header : Header) × (read ≡ Ok header) × (f header ≡ Ok entries)
header_ok (Ok header) f entries e = (header, refl, e)
header_ok (Err error) f entries e = absurd cc

entries_ok : (read : Result (List Entry) LogError) (f : List Entry → Result (List Entry) LogError) (entries : List Entry) → (read >>= f) ≡ Ok entries → (found : List Entry) × (read ≡ Ok found) × (f found ≡ Ok entries)
entries_ok (Ok found) f entries e = (found, refl, e)
entries_ok (Err error) f entries e = absurd cc

after_header-more : (number first : ℕ) (header : Header) (frames : List FrameValue) (frame : FrameValue) (entries more : List Entry) → after_header number first header frames ≡ Ok entries → entries_of frame.payload ≡ Ok (record { first = first + length entries; entries = more }) → after_header number first header (frames ++ frame ∷ []) ≡ Ok (entries ++ more)
unfolding after_header
after_header-more number first header frames frame entries more e f =
    let a = tested (eqb header.segment number) (entries_in (strip_of number) header.first frames >>= λ found. cond (eqb header.first first) (Ok found) (Err (LogGap first header.first))) (Err (LogGap first header.first)) (LogGap first header.first) entries refl e in
    let b = entries_ok (entries_in (strip_of number) header.first frames) (λ found. cond (eqb header.first first) (Ok found) (Err (LogGap first header.first))) entries a.1 in
    let c = tested (eqb header.first first) (Ok b.0) (Err (LogGap first header.first)) (LogGap first header.first) entries refl b.2 in
    let is : header.first ≡ first = eqb-true _ _ c.0 in
    let found_is : b.0 ≡ entries = cc in
    let read : entries_in (strip_of number) header.first frames ≡ Ok entries = b.1 ∙ ap (λ (l : List Entry). Ok l) found_is in
    let g : entries_of frame.payload ≡ Ok (record { first = header.first + length entries; entries = more }) = f ∙ ap (λ (k : ℕ). Ok (record { first = k + length entries; entries = more })) (sym is) in
    rw (a.0, entries_in-more (strip_of number) header.first frames frame entries more read g, c.0) refl

-- a frame of the next entries after a header and others
pub alone-more : (number first : ℕ) (frames : List FrameValue) (frame : FrameValue) (entries more : List Entry) → 0 < length frames → alone number first frames ≡ Ok entries → entries_of frame.payload ≡ Ok (record { first = first + length entries; entries = more }) → alone number first (frames ++ frame ∷ []) ≡ Ok (entries ++ more)
unfolding alone
alone-more number first [] frame entries more some e f = absurd (omega arith)
alone-more number first (head ∷ frames) frame entries more some e f =
    let a = header_ok (header_in (strip_of number) head) (λ header. after_header number first header frames) entries e in
    rw a.1 (after_header-more number first a.0 frames frame entries more a.2 f)

-- the front of a list that begins with it
take_front : (xs ys : List Entry) → take (length xs) (xs ++ ys) ≡ xs
take_front xs ys = take_at xs ys (length xs) refl

pub front_of : (number first : ℕ) (xs ys : List Entry) (least : ℕ) (bytes : List ℕ) → least ≤ length xs → HasEntries number first xs bytes → HasFrontOf number first (xs ++ ys) least bytes
front_of number first xs ys least bytes le has = record { many = length xs; enough = le; within = omega (arith, length-append xs ys); has = subst (λ (l : List Entry). HasEntries number first l bytes) (sym (take_front xs ys)) has }

-- a front that is no shorter than all is all
pub front_all : (number first : ℕ) (entries : List Entry) (least : ℕ) (bytes : List ℕ) → least ≡ length entries → HasFrontOf number first entries least bytes → HasEntries number first entries bytes
front_all number first entries least bytes e front =
    let many : front.many ≡ length entries = omega (arith, e, front.enough, front.within) in
    let whole : take front.many entries ≡ entries = ap (λ (n : ℕ). take n entries) many ∙ ap (take (length entries)) (sym (append-nil entries)) ∙ take_front entries [] in
    subst (λ (l : List Entry). HasEntries number first l bytes) whole front.has
