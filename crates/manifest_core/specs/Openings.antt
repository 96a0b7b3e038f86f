-- What an opening answers.
use Rattle.std.specs.Prelude.{◌≡◌, ◌⊎◌, ℕ, true, false, List, Option, Result, Ok, Err, Bool, None, if◌then◌else◌}
use Rattle.disk_model.specs.Crashes.{Narrows}
use Rattle.disk_model.specs.declared.limits.TheConstants.{MANIFEST_A, MANIFEST_B}
use Rattle.disk_model.specs.declared.strip.Strip.{Ghosts}
use Rattle.frame_journal.specs.Devices.{SameStrip, KeepsBytes, LeavesNoMore, Spans, IsSynced}
use Rattle.frame_journal.specs.FrameValue.{FrameValue}
use Rattle.frame_journal.specs.Frames.{frames_of, IsTornAt, HasNoTorn}
use Rattle.frame_journal.specs.declared.journal_error.JournalError.{JournalError}
use Rattle.frame_journal.specs.declared.journal_error.JournalError.TheVariants as journals
use Rattle.edition_code.specs.Values.{EditionValue}
use Rattle.manifest_core.specs.declared.manifest_error.ManifestError.{ManifestError}
use Rattle.manifest_core.specs.declared.manifest_error.ManifestError.TheVariants.{Fault, TornHeader, BadManifest, Memory}
use Rattle.manifest_core.specs.Manifests.{manifest_of, on_strip}
use Rattle.manifest_core.specs.ManifestState.{ManifestState, first_strip, second_strip}
use Rattle.manifest_core.specs.Commits.{FaultOf, CountsStay}
use Rattle.manifest_core.specs.Kept.{Leads}

-- the strips that are given back, in a manifest or by themselves
abbrev pub first_of : {S E : Type 0} → Result (ManifestState S × E) (S × S × ManifestError) → S
first_of (Ok found) = first_strip found.0
first_of (Err refused) = refused.0

abbrev pub second_of : {S E : Type 0} → Result (ManifestState S × E) (S × S × ManifestError) → S
second_of (Ok found) = second_strip found.0
second_of (Err refused) = refused.1

-- the strip was synced and read, by at most so many calls, and nothing was written to it
pub record IsOnlyRead {S : Type 0} (strip : Ghosts S) (most : ℕ) (old new : S) : Type 0 where
  pub same : SameStrip strip most old new
  pub content : KeepsBytes strip old new
  pub images : Narrows (strip.may_leave old) (strip.may_leave new)
  pub crash : LeavesNoMore strip old new
  pub time : Spans strip old new

-- why two strips with these bytes are no manifest: a torn header of the first, of the second, then what the frames say
abbrev pub IsRefused : ManifestError → List ℕ → List ℕ → Type 0
IsRefused (TornHeader strip at) first second = ((strip ≡ MANIFEST_A) × IsTornAt first at) ⊎ ((strip ≡ MANIFEST_B) × HasNoTorn first × IsTornAt second at)
IsRefused (BadManifest strip at) first second = HasNoTorn first × HasNoTorn second × (manifest_of (frames_of first) (frames_of second) ≡ Err (BadManifest strip at))
IsRefused (Fault unit) first second = Unit {0}
IsRefused Memory first second = Unit {0}

-- an error that speaks of a strip's bytes speaks of bytes that are synced
abbrev pub IsOfSynced : {S : Type 0} → Ghosts S → S → S → ManifestError → Type 0
IsOfSynced strip a b (TornHeader number at) = ((number ≡ MANIFEST_A) × IsSynced strip a) ⊎ ((number ≡ MANIFEST_B) × IsSynced strip a × IsSynced strip b)
IsOfSynced strip a b (BadManifest number at) = IsSynced strip a × IsSynced strip b
IsOfSynced strip a b (Fault unit) = Unit {0}
IsOfSynced strip a b Memory = Unit {0}

-- a fault is one unit of the one book or of the other; at any other error both counts stayed
abbrev pub OpenCause : {S : Type 0} → Ghosts S → S → S → S → S → ManifestError → Type 0
OpenCause strip old_a old_b new_a new_b (Fault unit) = FaultOf strip old_a old_b new_a new_b unit
OpenCause strip old_a old_b new_a new_b (TornHeader number at) = CountsStay strip old_a old_b new_a new_b
OpenCause strip old_a old_b new_a new_b (BadManifest number at) = CountsStay strip old_a old_b new_a new_b
OpenCause strip old_a old_b new_a new_b Memory = CountsStay strip old_a old_b new_a new_b

-- a journal's refusal, as that of a manifest
abbrev pub ManifestErrorOf : ℕ → JournalError → ManifestError → Type 0
ManifestErrorOf number (journals.Fault unit) error = error ≡ Fault unit
ManifestErrorOf number (journals.TornHeader at) error = error ≡ TornHeader number at
ManifestErrorOf number journals.Memory error = error ≡ Memory

-- if reading fails, the error is the one that the definition has there, or out of memory
abbrev pub FailsManifest : {Y : Type 0} → ManifestError → Result Y ManifestError → Type 0
FailsManifest Memory read = Unit {0}
FailsManifest (Fault unit) read = ⊥
FailsManifest (TornHeader strip at) read = ⊥
FailsManifest (BadManifest strip at) read = read ≡ Err (BadManifest strip at)

abbrev pub GivesManifest : {X Y : Type 0} → (X → Y) → Result X ManifestError → Result Y ManifestError → Type 0
GivesManifest view (Ok x) read = read ≡ Ok (view x)
GivesManifest view (Err e) read = FailsManifest e read

-- what the current strip has and what the other one has, of what the first and the second have
abbrev pub here_of : {T : Type 0} → Bool → T → T → T
here_of on_second first second = if on_second then second else first

abbrev pub there_of : {T : Type 0} → Bool → T → T → T
there_of on_second first second = if on_second then first else second

-- The strip that has the edition that stands is the current one. Where neither has any, it is the second.
pub record IsPicked (on_second : Bool) (edition : EditionValue) (first second : Option EditionValue) : Type 0 where
  pub leads : Leads edition (here_of on_second first second) (there_of on_second first second)
  pub none : here_of on_second first second ≡ None → there_of on_second first second ≡ None
  pub neither : first ≡ None → second ≡ None → on_second ≡ true

-- what was read of the frames of both strips
pub record IsFound (first second : List FrameValue) (on_second : Bool) (edition : EditionValue) : Type 0 where
  pub on_first : Option EditionValue
  pub of_second : Option EditionValue
  pub first_has : on_strip first ≡ Ok on_first
  pub second_has : on_strip second ≡ Ok of_second
  pub picked : IsPicked on_second edition on_first of_second
