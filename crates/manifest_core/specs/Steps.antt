-- The steps of a commit.
use Rattle.std.specs.Prelude.{◌≡◌, ℕ, ◌+◌, Bool, true, false, not, ◌||◌, nat_le, if◌then◌else◌}
use Rattle.frame_journal.specs.Frames.{frame_size}
use Rattle.frame_journal.specs.JournalState.{JournalState, is_ready, has_staged, staged_frame}
use Rattle.manifest_core.specs.ManifestState.{ManifestState}
use Rattle.manifest_core.specs.declared.limits.TheConstants.{STRIP_FULL}

-- a journal is not ready, or its frames reach the place at which a strip is full
abbrev pub is_full : {S : Type 0} → JournalState S → Bool
is_full journal = not (is_ready journal) || nat_le STRIP_FULL journal.end

-- the end of a journal once its staged frame, if it has one, stands
abbrev pub settled_end : {S : Type 0} → JournalState S → ℕ
settled_end journal = if has_staged journal then journal.end + frame_size (staged_frame journal) else journal.end

-- the same of a journal once its staged frame, if it has one, stands
abbrev pub is_full_settled : {S : Type 0} → JournalState S → Bool
is_full_settled journal = not (is_ready journal) || nat_le STRIP_FULL (settled_end journal)

-- the strips changed places, if that was asked for; else nothing changed
abbrev pub IsTurn : {S : Type 0} → Bool → ManifestState S → ManifestState S → Type 0
IsTurn true old new = (new.on_second ≡ not old.on_second) × (new.other ≡ old.current)
IsTurn false old new = new ≡ old
