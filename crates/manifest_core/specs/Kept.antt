-- What a manifest keeps of its journals.
use Rattle.std.specs.Prelude.{◌≡◌, ℕ, ◌<◌, Bool, true, false, List, Option, Some, None, Ok, if◌then◌else◌}
use Rattle.disk_model.specs.declared.strip.Strip.{Ghosts}
use Rattle.frame_journal.specs.FrameValue.{FrameValue}
use Rattle.frame_journal.specs.JournalState.{JournalState, is_ready, has_staged}
use Rattle.frame_journal.specs.Journals.{standing, survivors}
use Rattle.edition_code.specs.Values.{EditionValue}
use Rattle.edition_code.specs.Reading.{edition_of}
use Rattle.edition_code.specs.Editions.{initial_edition}
use Rattle.manifest_core.specs.Manifests.{on_strip}
use Rattle.manifest_core.specs.Pairs.{IfBoth}

-- the frames that stand in a journal; in one that is not ready, those that a clear that failed may have left
abbrev pub kept_frames : {S : Type 0} → Ghosts S → JournalState S → List FrameValue
kept_frames strip journal = if is_ready journal then standing strip journal else survivors strip journal

-- the edition that stands where the current strip has the first of these, and the other one the second, which is older
abbrev pub Leads : EditionValue → Option EditionValue → Option EditionValue → Type 0
Leads stands None None = stands ≡ initial_edition
Leads stands None (Some there) = stands ≡ there
Leads stands (Some here) None = stands ≡ here
Leads stands (Some here) (Some there) = (stands ≡ here) × (there.number < here.number)

-- what the frames of both journals say, where contracts see their bytes
pub record Reads {S : Type 0} (strip : Ghosts S) (current other : JournalState S) (stands : EditionValue) : Type 0 where
  pub here : Option EditionValue
  pub there : Option EditionValue
  pub current_has : on_strip (kept_frames strip current) ≡ Ok here
  pub other_has : on_strip (kept_frames strip other) ≡ Ok there
  pub leads : Leads stands here there
  -- a strip is only ever cleared while nothing stands on it that is not older than what the current one has
  pub waits : is_ready current ≡ false → (here ≡ None) × (there ≡ None)
  pub guards : is_ready other ≡ false → here ≡ None → there ≡ None
  pub empty : here ≡ None → current.end ≡ 0

pub record IsKept {S : Type 0} (strip : Ghosts S) (current other : JournalState S) (stands newest : EditionValue) : Type 0 where
  pub idle : has_staged other ≡ false
  pub settled : has_staged current ≡ false → newest ≡ stands
  pub staged : has_staged current ≡ true → (edition_of current.payload ≡ Ok newest) × (stands.number < newest.number)
  pub reads : IfBoth strip current.strip other.strip (Reads strip current other stands)
