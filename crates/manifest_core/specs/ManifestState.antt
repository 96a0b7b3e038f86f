-- A manifest as contracts see it.
use Rattle.std.specs.Prelude.{Bool, if◌then◌else◌}
use Rattle.frame_journal.specs.JournalState.{JournalState}
use Rattle.edition_code.specs.Values.{EditionValue}

-- The journal that is written to, and the other one; whether the second strip is written to; the last edition that was
-- opened or whose commit succeeded; the edition that the strips surely stand for, and the newest one that they may stand
-- for. These two are the same where no frame is in doubt.
pub record ManifestState (S : Type 0) : Type 0 where
  pub current : JournalState S
  pub other : JournalState S
  pub on_second : Bool
  pub last : EditionValue
  pub stands : EditionValue
  pub newest : EditionValue

abbrev pub first_strip : {S : Type 0} → ManifestState S → S
first_strip manifest = if manifest.on_second then manifest.other.strip else manifest.current.strip

abbrev pub second_strip : {S : Type 0} → ManifestState S → S
second_strip manifest = if manifest.on_second then manifest.current.strip else manifest.other.strip
