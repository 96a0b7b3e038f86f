-- What the frames of two strips say of a manifest.
use Rattle.std.specs.Prelude.{◌≡◌, ◌⊎◌, ℕ, ◌+◌, ◌-◌, List, [], ◌∷◌, length, Option, Some, None, Result, Ok, Err, nat_lt, ◌==◌, if◌then◌else◌}
use Rattle.disk_model.specs.declared.limits.TheConstants.{MANIFEST_A, MANIFEST_B}
use Rattle.frame_journal.specs.FrameValue.{FrameValue}
use Rattle.frame_journal.specs.Frames.{frames_of, end_of, HasNoTorn}
use Rattle.edition_code.specs.Values.{EditionValue}
use Rattle.edition_code.specs.Reading.{edition_of}
use Rattle.edition_code.specs.Editions.{initial_edition}
use Rattle.manifest_core.specs.declared.limits.TheConstants.{FRAME_HEAD}
use Rattle.manifest_core.specs.declared.manifest_error.ManifestError.{ManifestError}
use Rattle.manifest_core.specs.declared.manifest_error.ManifestError.TheVariants.{BadManifest}

-- the last of a frame and those after it
abbrev pub last_after : FrameValue → List FrameValue → FrameValue
last_after frame [] = frame
last_after frame (next ∷ frames) = last_after next frames

-- the last of these frames, if there is one
abbrev pub last_frame : List FrameValue → Option FrameValue
last_frame [] = None
last_frame (frame ∷ frames) = Some (last_after frame frames)

-- the place in the strip at which the gate of the last frame stands, where its payload has so many bytes
abbrev pub gate_before : ℕ → List FrameValue → ℕ
gate_before len frames = end_of frames - (FRAME_HEAD + len)

-- the edition that was read of a payload, which begins at this place of the strip; or the place of its first wrong byte
abbrev pub placed : ℕ → Result EditionValue ℕ → Result (Option EditionValue) ℕ
placed begins (Ok edition) = Ok (Some edition)
placed begins (Err at) = Err (begins + at)

-- the edition that the last frame is; none where there is no frame
abbrev pub in_last : List FrameValue → Option FrameValue → Result (Option EditionValue) ℕ
in_last frames None = Ok None
in_last frames (Some frame) = placed (gate_before (length frame.payload) frames + FRAME_HEAD) (edition_of frame.payload)

-- the edition that a strip with these frames has, or the place in the strip of the first wrong byte
unfoldable pub on_strip : List FrameValue → Result (Option EditionValue) ℕ
on_strip frames = in_last frames (last_frame frames)

-- the place at which the gate of the last frame stands
abbrev pub gate_in : List FrameValue → Option FrameValue → ℕ
gate_in frames None = 0
gate_in frames (Some frame) = gate_before (length frame.payload) frames

abbrev pub gate_of : List FrameValue → ℕ
gate_of frames = gate_in frames (last_frame frames)

infixl 10 ◌>>=◌
-- the next reading, after one that went well
abbrev pub ◌>>=◌ : {A B : Type 0} → Result A ManifestError → (A → Result B ManifestError) → Result B ManifestError
(Ok x) >>= f = f x
(Err e) >>= f = Err e

-- what was read of this strip, or the place of its first wrong byte
abbrev pub of_strip : {X : Type 0} → ℕ → Result X ℕ → Result X ManifestError
of_strip strip (Ok x) = Ok x
of_strip strip (Err at) = Err (BadManifest strip at)

-- The edition of the greater number; the initial one where neither strip has any. Two of one number are wrong at the
-- second strip's frame.
abbrev pub greater : ℕ → Option EditionValue → Option EditionValue → Result EditionValue ManifestError
greater gate None None = Ok initial_edition
greater gate (Some first) None = Ok first
greater gate None (Some second) = Ok second
greater gate (Some first) (Some second) = if first.number == second.number then Err (BadManifest MANIFEST_B gate) else if nat_lt first.number second.number then Ok second else Ok first

-- the edition that two strips with these frames stand for, or why they stand for none
unfoldable pub manifest_of : List FrameValue → List FrameValue → Result EditionValue ManifestError
manifest_of first second = do
  a ← of_strip MANIFEST_A (on_strip first)
  b ← of_strip MANIFEST_B (on_strip second)
  greater (gate_of second) a b

-- two strips with these bytes stand for this edition, with no header torn
pub record HasEdition (edition : EditionValue) (first second : List ℕ) : Type 0 where
  pub whole_first : HasNoTorn first
  pub whole_second : HasNoTorn second
  pub read : manifest_of (frames_of first) (frames_of second) ≡ Ok edition

-- they stand for the one edition or for the other
abbrev pub HasOne : EditionValue → EditionValue → List ℕ → List ℕ → Type 0
HasOne one other first second = HasEdition one first second ⊎ HasEdition other first second
