-- What a journal keeps of its strip's bytes, phase by phase.
use Rattle.std.specs.Prelude.{◌≡◌, ◌⊎◌, ℕ, ◌+◌, ◌-◌, ◌^◌, ◌<◌, ◌≤◌, Bool, false, List, [], ◌∷◌, ◌++◌, length, take, drop, if◌then◌else◌}
use Rattle.std.specs.Bool.{MatchBool}
use Rattle.std.specs.Int.{w32, to_be_bytes}
use Rattle.disk_model.specs.declared.strip.Strip.{Ghosts}
use Rattle.disk_model.specs.Calls.{IfTold}
use Rattle.disk_model.specs.Strips.{Torn}
use Rattle.frame_journal.specs.Devices.{OfBytes, OfImages}
use Rattle.frame_journal.specs.declared.format.TheConstants.{OPEN_GATE, CLOSED_GATE, PAYLOAD_MAX, LENGTH_SIZE, FRAMING}
use Rattle.frame_journal.specs.declared.phase.Phase.{Phase}
use Rattle.frame_journal.specs.declared.phase.Phase.TheVariants.{Fresh, Shut, Ready, Staged, Body, Gate}
use Rattle.frame_journal.specs.FrameValue.{FrameValue}
use Rattle.frame_journal.specs.Frames.{frames_of, end_of, IsClosedAt, StandsFor}
use Rattle.frame_journal.specs.JournalState.{JournalState, ready_in, closing_in, opening_in, closes_gate, staged_frame}

-- what stands after a frame's gate: the payload's length, the payload, and a closed gate
unfoldable pub framed : List ℕ → List ℕ
framed payload = to_be_bytes w32 (length payload) ++ payload ++ CLOSED_GATE ∷ []

-- the payload in that
abbrev pub unframed : List ℕ → List ℕ
unframed staged = take (length staged - FRAMING) (drop LENGTH_SIZE staged)

-- a payload in range is framed there
pub record IsFramed (staged : List ℕ) : Type 0 where
  pub same : staged ≡ framed (unframed staged)
  pub some : 1 ≤ length (unframed staged)
  pub most : length (unframed staged) ≤ PAYLOAD_MAX

-- the frames that stand before this end: the whole frames of the bytes before it, with a closed gate put after them
abbrev pub standing_to : ℕ → List ℕ → List FrameValue
standing_to end bytes = frames_of (take end bytes ++ CLOSED_GATE ∷ [])

-- the frames that stand in a ready journal's strip, without the staged one; in a journal that is not ready there are none
abbrev pub standing : {S : Type 0} → Ghosts S → JournalState S → List FrameValue
standing strip journal = standing_to journal.end (strip.content journal.strip)

-- these frames, and the staged one after them
abbrev pub with_staged : {S : Type 0} → Ghosts S → JournalState S → List FrameValue
with_staged strip journal = standing strip journal ++ staged_frame journal ∷ []

-- these frames stand in the journal, if contracts see the strip's bytes
abbrev pub HasStanding : {S : Type 0} → Ghosts S → JournalState S → List FrameValue → Type 0
HasStanding strip journal frames = OfBytes strip journal.strip (λ bytes. standing_to journal.end bytes ≡ frames)

-- these bytes with an open gate at place 0
abbrev pub opened : List ℕ → List ℕ
opened bytes = OPEN_GATE ∷ drop 1 bytes

-- the frames that stand, or that stood before a clear began to close the gate at place 0
abbrev pub covered : List ℕ → List FrameValue
covered bytes = frames_of (opened bytes)

-- the frames that may still stand after a clear that failed; there are none if the gate at place 0 is already closed and
-- synced
abbrev pub survivors : {S : Type 0} → Ghosts S → JournalState S → List FrameValue
survivors strip journal = if closes_gate journal then covered (strip.content journal.strip) else []

-- these frames are those that may survive a clear, if contracts see the strip's bytes
abbrev pub HasSurvivors : {S : Type 0} → Ghosts S → JournalState S → List FrameValue → Type 0
HasSurvivors strip journal frames = IfTold (strip.tells journal.strip) (survivors strip journal ≡ frames)

-- whole frames end there, and a byte follows
pub record EndsAt (bytes : List ℕ) (end : ℕ) : Type 0 where
  pub inside : end < length bytes
  pub whole : end_of (standing_to end bytes) ≡ end

-- these are staged after the gate at that place
pub record IsWrittenAt (bytes : List ℕ) (end : ℕ) (staged : List ℕ) : Type 0 where
  pub written : take (length staged) (drop (end + 1) bytes) ≡ staged

-- what a phase knows of the bytes
abbrev pub HoldsIn : Phase → List ℕ → ℕ → List ℕ → Type 0
HoldsIn Fresh bytes end staged = StandsFor (covered bytes) (opened bytes)
HoldsIn Shut bytes end staged = IsClosedAt bytes 0
HoldsIn Ready bytes end staged = EndsAt bytes end × IsClosedAt bytes end
HoldsIn Staged bytes end staged = EndsAt bytes end × IsClosedAt bytes end
HoldsIn Body bytes end staged = EndsAt bytes end × IsClosedAt bytes end
HoldsIn Gate bytes end staged = EndsAt bytes end × IsWrittenAt bytes end staged

-- what a phase knows of each image that a crash may leave of these bytes
abbrev pub LeftIn : Phase → List ℕ → ℕ → List ℕ → Type 0
LeftIn Fresh bytes end image = drop 1 image ≡ drop 1 bytes
LeftIn Shut bytes end image = IsClosedAt image 0
LeftIn Ready bytes end image = image ≡ bytes
LeftIn Staged bytes end image = image ≡ bytes
LeftIn Body bytes end image = take (end + 1) image ≡ take (end + 1) bytes
LeftIn Gate bytes end image = Torn end 1 bytes image

-- what a phase has staged
abbrev pub StagedIn : Phase → List ℕ → Type 0
StagedIn Fresh staged = staged ≡ []
StagedIn Shut staged = staged ≡ []
StagedIn Ready staged = staged ≡ []
StagedIn Staged staged = IsFramed staged
StagedIn Body staged = IsFramed staged
StagedIn Gate staged = IsFramed staged

-- a journal's numbers are sound, and so is what they say of the strip's bytes, if contracts see them
pub record IsSound (told : Bool) (bytes : List ℕ) (images : List ℕ → Type 0) (phase : Phase) (end : ℕ) (staged : List ℕ) : Type 0 where
  pub below : end + length staged ≤ 2 ^ 63
  pub begins : ready_in phase ≡ false → end ≡ 0
  pub stages : StagedIn phase staged
  pub holds : IfTold told (HoldsIn phase bytes end staged)
  pub leaves : IfTold told ((image : List ℕ) → images image → LeftIn phase bytes end image)

-- the bytes stand for no frame, or for these
abbrev pub StandsForNoneOr : List FrameValue → List ℕ → Type 0
StandsForNoneOr frames bytes = StandsFor [] bytes ⊎ StandsFor frames bytes

-- the bytes stand for these frames, with that one after them or without
abbrev pub StandsWithOr : List FrameValue → FrameValue → List ℕ → Type 0
StandsWithOr frames frame bytes = StandsFor frames bytes ⊎ StandsFor (frames ++ frame ∷ []) bytes

-- the bytes stand for a journal's frames, with the staged one or without
abbrev pub StandsWithOrWithout : {S : Type 0} → Ghosts S → JournalState S → List ℕ → Type 0
StandsWithOrWithout strip journal bytes = StandsWithOr (standing strip journal) (staged_frame journal) bytes

-- What an image of a journal's strip stands for, by how far the journal has come: where it is ready for its frames, with
-- the staged one after them or without once that is written; else for none, or for those that a clear may leave.
abbrev pub StandsBy : Phase → List ℕ → ℕ → List ℕ → List ℕ → Type 0
StandsBy phase bytes end payload image = MatchBool (ready_in phase)
    (MatchBool (opening_in phase) (StandsWithOr (standing_to end bytes) (record { at = end; payload = payload }) image) (StandsFor (standing_to end bytes) image))
    (StandsForNoneOr (if closing_in phase end then covered bytes else []) image)

abbrev pub StandsIn : {S : Type 0} → Ghosts S → JournalState S → List ℕ → Type 0
StandsIn strip journal image = StandsBy journal.phase (strip.content journal.strip) journal.end journal.payload image

-- a journal's strip stands so as a read gives it, and so does each image that a crash may leave now
pub record Leaves {S : Type 0} (strip : Ghosts S) (journal : JournalState S) : Type 0 where
  pub content : OfBytes strip journal.strip (StandsIn strip journal)
  pub images : OfImages strip journal.strip (StandsIn strip journal)

-- the bytes are one closed gate
pub record IsEmptied (bytes : List ℕ) : Type 0 where
  pub one : length bytes ≡ 1
  pub closed : IsClosedAt bytes 0
