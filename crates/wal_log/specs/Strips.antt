-- What an opening of a log does with each of its strips.
use Rattle.std.specs.Prelude.{◌≡◌, ◌⊎◌, ℕ, zero, suc, false, IsTrue, List, [], ◌∷◌, ◌++◌, map}
use Rattle.std.specs.List.{AllByRecursion}
use Rattle.fault_count.specs.Counts.{RoseByOne}
use Rattle.disk_model.specs.Books.{BookName}
use Rattle.disk_model.specs.Crashes.{Narrows}
use Rattle.disk_model.specs.declared.strip.Strip.{Ghosts}
use Rattle.frame_journal.specs.Devices.{SameStrip, KeepsBytes, LeavesNoMore, Spans, IsSynced, OfBytes}
use Rattle.frame_journal.specs.Frames.{frames_of, HasNoTorn}
use Rattle.frame_journal.specs.FrameValue.{FrameValue}
use Rattle.frame_journal.specs.JournalState.{JournalState, has_staged}

-- the strip in a journal
abbrev pub strip_in : {S : Type 0} → JournalState S → S
strip_in journal = journal.strip

-- the strip was synced and read, by at most three calls, and nothing was written to it
pub record IsOnlyRead {S : Type 0} (strip : Ghosts S) (old new : S) : Type 0 where
  pub same : SameStrip strip 3 old new
  pub content : KeepsBytes strip old new
  pub images : Narrows (strip.may_leave old) (strip.may_leave new)
  pub crash : LeavesNoMore strip old new
  pub time : Spans strip old new

-- each of them was, in this order
abbrev pub AreOnlyRead : {S : Type 0} → Ghosts S → List S → List S → Type 0
AreOnlyRead strip [] [] = Unit {0}
AreOnlyRead strip [] (new ∷ news) = ⊥
AreOnlyRead strip (old ∷ olds) [] = ⊥
AreOnlyRead strip (old ∷ olds) (new ∷ news) = IsOnlyRead strip old new × AreOnlyRead strip olds news

-- the strip was opened as a journal, in which nothing is staged: it was only read, is synced, and no call failed
pub record IsOpened {S : Type 0} (strip : Ghosts S) (old : S) (journal : JournalState S) : Type 0 where
  pub only : IsOnlyRead strip old journal.strip
  pub count : strip.count journal.strip ≡ strip.count old
  pub synced : IsSynced strip journal.strip
  pub idle : has_staged journal ≡ false

-- each of them was, in this order
abbrev pub AreOpened : {S : Type 0} → Ghosts S → List S → List (JournalState S) → Type 0
AreOpened strip [] [] = Unit {0}
AreOpened strip [] (journal ∷ journals) = ⊥
AreOpened strip (old ∷ olds) [] = ⊥
AreOpened strip (old ∷ olds) (journal ∷ journals) = IsOpened strip old journal × AreOpened strip olds journals

-- the strip was opened as a journal, and these are its frames: no header is torn
pub record IsRead {S : Type 0} (strip : Ghosts S) (old : S) (journal : JournalState S) (frames : List FrameValue) : Type 0 where
  pub opened : IsOpened strip old journal
  pub whole : OfBytes strip old HasNoTorn
  pub stands : OfBytes strip old (λ bytes. frames_of bytes ≡ frames)

-- each of them was, in this order
abbrev pub AreRead : {S : Type 0} → Ghosts S → List S → List (JournalState S) → List (List FrameValue) → Type 0
AreRead strip [] [] [] = Unit {0}
AreRead strip [] [] (frames ∷ more) = ⊥
AreRead strip [] (journal ∷ journals) more = ⊥
AreRead strip (old ∷ olds) [] more = ⊥
AreRead strip (old ∷ olds) (journal ∷ journals) [] = ⊥
AreRead strip (old ∷ olds) (journal ∷ journals) (frames ∷ more) = IsRead strip old journal frames × AreRead strip olds journals more

-- the first of these strips were opened, and these are left
pub record HasRead {S : Type 0} (strip : Ghosts S) (strips left : List S) (journals : List (JournalState S)) (frames : List (List FrameValue)) : Type 0 where
  pub done : List S
  pub split : strips ≡ done ++ left
  pub read : AreRead strip done journals frames

-- this holds of the bytes of all strips, in order, if contracts see them
abbrev pub OfAllBytes : {S : Type 0} → Ghosts S → List S → (List (List ℕ) → Type 0) → Type 0
OfAllBytes strip strips P = AllByRecursion (λ s. IsTrue (strip.tells s)) strips → P (map strip.content strips)

-- the first so many strips are synced
abbrev pub AreSynced : {S : Type 0} → Ghosts S → ℕ → List S → Type 0
AreSynced strip zero strips = Unit {0}
AreSynced strip (suc many) [] = Unit {0}
AreSynced strip (suc many) (s ∷ strips) = IsSynced strip s × AreSynced strip many strips

-- no call of a strip failed
abbrev pub AllCountsStay : {S : Type 0} → Ghosts S → List S → List S → Type 0
AllCountsStay strip [] news = Unit {0}
AllCountsStay strip (old ∷ olds) [] = ⊥
AllCountsStay strip (old ∷ olds) (new ∷ news) = (strip.count new ≡ strip.count old) × AllCountsStay strip olds news

-- one call of one strip failed, whose book this is
abbrev pub OneCountRose : {S : Type 0} → Ghosts S → BookName → List S → List S → Type 0
OneCountRose strip book [] news = ⊥
OneCountRose strip book (old ∷ olds) [] = ⊥
OneCountRose strip book (old ∷ olds) (new ∷ news) = ((book ≡ strip.book old) × RoseByOne (strip.count old) (strip.count new) × AllCountsStay strip olds news)
    ⊎ ((strip.count new ≡ strip.count old) × OneCountRose strip book olds news)
