-- What frames say of a strip, and two strips of a manifest: `last_frame-append`, `on_strip-more`, `both_ways`.
use Rattle.std.proofs.Common.{◌≡◌, inl, inr, ◌⊎◌, ℕ, ◌+◌, ◌-◌, ◌<◌, ◌≤◌, Bool, true, false, cond, eqb, ltb, get_or, List, [], ◌∷◌, ◌++◌, length, Option, Some, None, Result, Ok, Err, refl, sym, ap, subst, ◌∙◌, arith}
use Rattle.std.proofs.lemmas.Bool.Decides.{nat_tests}
use Rattle.frame_journal.specs.FrameValue.{FrameValue}
use Rattle.frame_journal.specs.Frames.{frames_of, end_of, frame_size, StandsFor, HasNoTorn}
use Rattle.edition_code.specs.Values.{EditionValue}
use Rattle.edition_code.specs.Editions.{initial_edition}
use Rattle.edition_code.specs.Reading.{edition_of}
use Rattle.manifest_core.specs.declared.manifest_error.ManifestError.{ManifestError}
use Rattle.manifest_core.specs.Manifests.{last_after, last_frame, placed, on_strip, gate_of, greater, manifest_of, HasEdition}

last_after-append : (head : FrameValue) (frames : List FrameValue) (frame : FrameValue) → last_after head (frames ++ frame ∷ []) ≡ frame
last_after-append head [] frame = refl
last_after-append head (next ∷ frames) frame = last_after-append next frames frame

abbrev some_frame : FrameValue → Option FrameValue
some_frame frame = Some frame

-- the last of frames is the one that is put after them
pub last_frame-append : (frames : List FrameValue) (frame : FrameValue) → last_frame (frames ++ frame ∷ []) ≡ Some frame
last_frame-append [] frame = refl
last_frame-append (head ∷ frames) frame = ap some_frame (last_after-append head frames frame)

last_after-at : (head : FrameValue) (frames : List FrameValue) (default : FrameValue) → get_or (head ∷ frames) (length frames) default ≡ last_after head frames
last_after-at head [] default = refl
last_after-at head (next ∷ frames) default = last_after-at next frames default

-- the last of frames is the one at the last place
pub last_frame-at : (frames : List FrameValue) (frame default : FrameValue) → 1 ≤ length frames → frame ≡ get_or frames (length frames - 1) default → last_frame frames ≡ Some frame
last_frame-at [] frame default some is = absurd (omega (arith, some))
last_frame-at (head ∷ frames) frame default some is =
    let place : length (head ∷ frames) - 1 ≡ length frames = omega arith in
    ap some_frame (sym (is ∙ ap (λ (k : ℕ). get_or (head ∷ frames) k default) place ∙ last_after-at head frames default))

end_of-last : (head : FrameValue) (frames : List FrameValue) → frame_size (last_after head frames) ≤ end_of (head ∷ frames)
end_of-last head [] = omega arith
end_of-last head (next ∷ frames) = omega (arith, end_of-last next frames)

-- a last frame is as long as all, at most
pub last_frame-end : (frames : List FrameValue) (frame : FrameValue) → last_frame frames ≡ Some frame → frame_size frame ≤ end_of frames
last_frame-end [] frame e = absurd cc
last_frame-end (head ∷ frames) frame e = subst (λ (f : FrameValue). frame_size f ≤ end_of (head ∷ frames)) (is e) (end_of-last head frames)
  where
    is : last_frame (head ∷ frames) ≡ Some frame → last_after head frames ≡ frame
    is e = cc

pub on_strip-none : on_strip [] ≡ Ok None
unfolding on_strip
on_strip-none = refl

pub on_strip-more : (frames : List FrameValue) (frame : FrameValue) (edition : EditionValue) → edition_of frame.payload ≡ Ok edition → on_strip (frames ++ frame ∷ []) ≡ Ok (Some edition)
unfolding on_strip
on_strip-more frames frame edition e = rw (last_frame-append frames frame, e) refl

-- bytes that stand for frames have no torn header
pub stands_whole : (frames : List FrameValue) (bytes : List ℕ) → StandsFor frames bytes → HasNoTorn bytes
stands_whole frames bytes stands at torn =
    let end : end_of frames ≡ at = ap end_of (sym stands.whole) ∙ torn.end in
    let some : 0 < end_of frames = omega (arith, torn.above, end) in
    (stands.gate some).closed (ap (λ (k : ℕ). get_or bytes k 0) end ∙ torn.open_gate)

-- a strip with these bytes has this edition, or none, with no header torn
pub record Shows (edition : Option EditionValue) (bytes : List ℕ) : Type 0 where
  pub whole : HasNoTorn bytes
  pub read : on_strip (frames_of bytes) ≡ Ok edition

pub shows_of : (frames : List FrameValue) (edition : Option EditionValue) (bytes : List ℕ) → on_strip frames ≡ Ok edition → StandsFor frames bytes → Shows edition bytes
shows_of frames edition bytes read stands = record { whole = stands_whole frames bytes stands; read = ap on_strip stands.whole ∙ read }

-- of what two strips have, this is the edition of the greater number
abbrev pub Newest : EditionValue → Option EditionValue → Option EditionValue → Type 0
Newest edition None None = edition ≡ initial_edition
Newest edition (Some one) None = edition ≡ one
Newest edition None (Some other) = edition ≡ other
Newest edition (Some one) (Some other) = ((edition ≡ one) × (other.number < one.number)) ⊎ ((edition ≡ other) × (one.number < other.number))

pub newest-turned : (edition : EditionValue) (one other : Option EditionValue) → Newest edition one other → Newest edition other one
newest-turned edition None None newest = newest
newest-turned edition (Some one) None newest = newest
newest-turned edition None (Some other) newest = newest
newest-turned edition (Some one) (Some other) (inl newest) = inr newest
newest-turned edition (Some one) (Some other) (inr newest) = inl newest

abbrev good : EditionValue → Result EditionValue ManifestError
good edition = Ok edition

greater-newest : (gate : ℕ) (edition : EditionValue) (one other : Option EditionValue) → Newest edition one other → greater gate one other ≡ Ok edition
greater-newest gate edition None None newest = ap good (sym newest)
greater-newest gate edition (Some one) None newest = ap good (sym newest)
greater-newest gate edition None (Some other) newest = ap good (sym newest)
greater-newest gate edition (Some one) (Some other) (inl newest) =
    let apart : eqb one.number other.number ≡ false = grind (arith, nat_tests, newest.1) in
    let above : ltb one.number other.number ≡ false = grind (arith, nat_tests, newest.1) in
    rw (apart, above) (ap good (sym newest.0))
greater-newest gate edition (Some one) (Some other) (inr newest) =
    let apart : eqb one.number other.number ≡ false = grind (arith, nat_tests, newest.1) in
    let above : ltb one.number other.number ≡ true = grind (arith, nat_tests, newest.1) in
    rw (apart, above) (ap good (sym newest.0))

pub has_newest : (edition : EditionValue) (one other : Option EditionValue) (x y : List ℕ) → Newest edition one other → Shows one x → Shows other y → HasEdition edition x y
unfolding manifest_of
has_newest edition one other x y newest first second = record {
  whole_first = first.whole;
  whole_second = second.whole;
  read = rw (first.read, second.read) (greater-newest (gate_of (frames_of y)) edition one other newest);
}

-- two strips have this edition, whichever of them is the first
pub record EitherWay (edition : EditionValue) (x y : List ℕ) : Type 0 where
  pub forth : HasEdition edition x y
  pub back : HasEdition edition y x

pub both_ways : (edition : EditionValue) (one other : Option EditionValue) (x y : List ℕ) → Newest edition one other → Shows one x → Shows other y → EitherWay edition x y
both_ways edition one other x y newest first second = record {
  forth = has_newest edition one other x y newest first second;
  back = has_newest edition other one y x (newest-turned edition one other newest) second first;
}

abbrev pub OneWay : EditionValue → EditionValue → List ℕ → List ℕ → Type 0
OneWay one other x y = EitherWay one x y ⊎ EitherWay other x y
