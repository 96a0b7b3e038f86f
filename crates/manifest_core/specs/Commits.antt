-- What a commit leaves of the strips at each moment, and what it answers.
use Rattle.std.specs.Prelude.{◌≡◌, ◌⊎◌, ℕ, ◌≤◌, false, Result, IfErr, OnOk}
use Rattle.disk_model.specs.Books.{BookName}
use Rattle.disk_model.specs.declared.strip.Strip.{Ghosts}
use Rattle.disk_model.specs.declared.device_error.DeviceError.{DeviceError}
use Rattle.disk_model.specs.declared.device_error.DeviceError.TheVariants as device
use Rattle.fault_count.specs.Counts.{RoseByOne}
use Rattle.frame_journal.specs.JournalState.{has_staged}
use Rattle.rdb_base.specs.declared.limits.TheConstants.{NUMBER_MAX}
use Rattle.edition_code.specs.Values.{EditionValue}
use Rattle.manifest_core.specs.declared.commit_error.CommitError.{CommitError}
use Rattle.manifest_core.specs.declared.commit_error.CommitError.TheVariants.{Fault, NumbersSpent, Memory}
use Rattle.manifest_core.specs.Manifests.{HasOne}
use Rattle.manifest_core.specs.ManifestState.{ManifestState, first_strip, second_strip}
use Rattle.manifest_core.specs.Pairs.{PairCalls}

-- A commit that went on settles the frame in doubt, if there is one, and then writes its edition. While it settles,
-- crashes leave what surely stood or the edition in doubt; from then on the newest edition from before, or the new one.
-- The strips between the two parts are `first` and `second`. With nothing in doubt the first part makes no call.
pub record InTwoParts {S : Type 0} (strip : Ghosts S) (old new : ManifestState S) (edition : EditionValue) : Type 0 where
  pub first : S
  pub second : S
  pub nothing : has_staged old.current ≡ false → (first ≡ first_strip old) × (second ≡ second_strip old)
  pub settling : PairCalls strip 4 (first_strip old) (second_strip old) first second (HasOne old.stands old.newest)
  pub writing : PairCalls strip 8 first second (first_strip new) (second_strip new) (HasOne old.newest edition)

-- what crashes within a commit leave: it came no further than to settle the frame in doubt, or it went on
abbrev pub CommitCrashes : {S : Type 0} → Ghosts S → ManifestState S → ManifestState S → EditionValue → Type 0
CommitCrashes strip old new edition = PairCalls strip 4 (first_strip old) (second_strip old) (first_strip new) (second_strip new) (HasOne old.stands old.newest) ⊎ InTwoParts strip old new edition

-- these surely stand, and are the newest that may stand
abbrev pub MayStand : {S : Type 0} → EditionValue → EditionValue → ManifestState S → Type 0
MayStand stands newest manifest = (manifest.stands ≡ stands) × (manifest.newest ≡ newest)

-- What may stand after a commit that failed: what might before, where the edition in doubt was not settled. Else that one
-- surely stands; and the new one is in doubt, if it was staged.
abbrev pub IsStopped : {S : Type 0} → ManifestState S → ManifestState S → EditionValue → Type 0
IsStopped old new edition = MayStand old.stands old.newest new ⊎ MayStand old.newest old.newest new ⊎ MayStand old.newest edition new

-- a fault is one unit of the one book or of the other, drawn in this call
pub record DrawnFrom (unit book : BookName) (before now : ℕ) (other_before other_now : ℕ) : Type 0 where
  pub unit_of : unit ≡ book
  pub rose : RoseByOne before now
  pub other : other_now ≡ other_before

-- both counts stay
abbrev pub Stay : ℕ → ℕ → ℕ → ℕ → Type 0
Stay a_before a_now b_before b_now = (a_now ≡ a_before) × (b_now ≡ b_before)

-- a fault of a call of two strips
abbrev pub FaultOf : {S : Type 0} → Ghosts S → S → S → S → S → BookName → Type 0
FaultOf strip old_a old_b new_a new_b unit =
    DrawnFrom unit (strip.book old_a) (strip.count old_a) (strip.count new_a) (strip.count old_b) (strip.count new_b)
    ⊎ DrawnFrom unit (strip.book old_b) (strip.count old_b) (strip.count new_b) (strip.count old_a) (strip.count new_a)

abbrev pub CountsStay : {S : Type 0} → Ghosts S → S → S → S → S → Type 0
CountsStay strip old_a old_b new_a new_b = Stay (strip.count old_a) (strip.count new_a) (strip.count old_b) (strip.count new_b)

-- why a device's call of a step failed
abbrev pub StepCause : {S : Type 0} → Ghosts S → S → S → S → S → DeviceError → Type 0
StepCause strip old_a old_b new_a new_b (device.Fault unit) = FaultOf strip old_a old_b new_a new_b unit
StepCause strip old_a old_b new_a new_b device.Memory = CountsStay strip old_a old_b new_a new_b

-- Why a commit failed. No number is left exactly where the last edition's next one is not below 2^62.
abbrev pub CommitCause : {S : Type 0} → Ghosts S → ManifestState S → S → S → CommitError → Type 0
CommitCause strip old new_a new_b (Fault unit) = FaultOf strip (first_strip old) (second_strip old) new_a new_b unit
CommitCause strip old new_a new_b (NumbersSpent next) = (next ≡ old.last.next) × (NUMBER_MAX ≤ next) × CountsStay strip (first_strip old) (second_strip old) new_a new_b
CommitCause strip old new_a new_b Memory = CountsStay strip (first_strip old) (second_strip old) new_a new_b
