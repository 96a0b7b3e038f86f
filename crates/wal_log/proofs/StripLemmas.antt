-- Strips that are opened one after another: with one more (`read-next`), up to one that is refused (`torn-at`, `back-at`,
-- `cause-at`, `synced-at`), and all of them (`read-only`, `read-counts`, `read-synced`, `read-bytes`).
use Rattle.std.proofs.Common.{◌≡◌, inl, inr, ℕ, zero, suc, ◌+◌, ◌<◌, List, [], ◌∷◌, ◌++◌, length, map, Result, Ok, Err, refl, sym, ap, subst, ◌∙◌, append_assoc, arith}
use Rattle.std.specs.Prelude.{IsTrue, reverse}
use Rattle.std.specs.List.{AllByRecursion}
use Rattle.std.proofs.lemmas.List.{append-nil, reverse-append}
use Rattle.std.proofs.Math.Nat.{mod-eq_of_lt}
use Rattle.disk_model.specs.declared.limits.TheConstants.{LOG_STRIPS}
use Rattle.disk_model.specs.declared.strip.Strip.{Ghosts}
use Rattle.frame_journal.specs.Causes.{OpeningCause}
use Rattle.frame_journal.specs.Devices.{SameStrip, IsSynced, OfBytes}
use Rattle.frame_journal.specs.FrameValue.{FrameValue}
use Rattle.frame_journal.specs.Frames.{frames_of, IsTornAt, HasNoTorn}
use Rattle.frame_journal.specs.JournalState.{JournalState}
use Rattle.frame_journal.specs.Openings.{TellsTorn, TornIsSynced}
use Rattle.frame_journal.specs.declared.journal_error.JournalError.{JournalError}
use Rattle.frame_journal.specs.declared.journal_error.JournalError.TheVariants as openings
use Rattle.wal_log.specs.declared.log_error.LogError.{LogError}
use Rattle.wal_log.specs.declared.log_error.LogError.TheVariants.{Fault, TornHeader, BadEntry, LogGap, Memory}
use Rattle.wal_log.specs.Answers.{LogErrorOf, FailsLog}
use Rattle.wal_log.specs.Logs.{strip_of}
use Rattle.wal_log.specs.LogValues.{LogValue}
use Rattle.wal_log.specs.Segments.{log_of}
use Rattle.wal_log.specs.Openings.{HasLog, IsNoLog, IsFirstTorn, IsTornFirst, IsLogRefused, AreOfSynced, OpenCause}
use Rattle.wal_log.specs.Strips.{strip_in, IsOnlyRead, AreOnlyRead, AreOpened, IsRead, AreRead, HasRead, OfAllBytes, AreSynced, AllCountsStay, OneCountRose}

-- the last of a list is the first of its reverse
pub reverse-pop : {X : Type 0} (xs ys : List X) (x : X) → xs ≡ ys ++ x ∷ [] → reverse xs ≡ x ∷ reverse ys
reverse-pop xs ys x e = ap reverse e ∙ reverse-append ys (x ∷ [])

-- one of the eight strips is the strip of its own number
pub small-strip : (n : ℕ) → n < LOG_STRIPS → strip_of n ≡ n
small-strip n lt = mod-eq_of_lt lt

module _ {S : Type 0} (strip : Ghosts S) where
  -- since this moment there is no other
  abbrev pub OnlyNow : Type 0
  OnlyNow = (s : S) (c : List ℕ) → strip.left_since s (strip.moment s) c → strip.may_leave s c

  abbrev pub AreTold : List S → Type 0
  AreTold strips = AllByRecursion (λ s. IsTrue (strip.tells s)) strips

  -- ---- one more

  read-push : (olds : List S) (old : S) (journals : List (JournalState S)) (journal : JournalState S) (more : List (List FrameValue)) (frames : List FrameValue) → AreRead strip olds journals more → IsRead strip old journal frames → AreRead strip (olds ++ old ∷ []) (journals ++ journal ∷ []) (more ++ frames ∷ [])
  read-push [] old [] journal [] frames all one = (one, tt)
  read-push [] old [] journal (f ∷ more) frames all one = absurd all
  read-push [] old (j ∷ journals) journal more frames all one = absurd all
  read-push (o ∷ olds) old [] journal more frames all one = absurd all
  read-push (o ∷ olds) old (j ∷ journals) journal [] frames all one = absurd all
  read-push (o ∷ olds) old (j ∷ journals) journal (f ∷ more) frames all one = (all.0, read-push olds old journals journal more frames all.1 one)

  pub read-begin : (strips : List S) → HasRead strip strips strips [] []
  read-begin strips = record { done = []; split = refl; read = tt }

  pub read-next : (strips : List S) (old : S) (left : List S) (journals : List (JournalState S)) (journal : JournalState S) (more : List (List FrameValue)) (frames : List FrameValue) → HasRead strip strips (old ∷ left) journals more → IsRead strip old journal frames → HasRead strip strips left (journals ++ journal ∷ []) (more ++ frames ∷ [])
  read-next strips old left journals journal more frames has one = record {
    done = has.done ++ old ∷ [];
    split = has.split ∙ sym (append_assoc has.done (old ∷ []) left);
    read = read-push has.done old journals journal more frames has.read one;
  }

  pub read-all : (strips : List S) (journals : List (JournalState S)) (frames : List (List FrameValue)) → HasRead strip strips [] journals frames → AreRead strip strips journals frames
  read-all strips journals frames has = subst (λ (l : List S). AreRead strip l journals frames) (sym (has.split ∙ append-nil has.done)) has.read

  -- ---- strips that are left alone

  same-none : (s : S) → SameStrip strip 3 s s
  same-none s = record { book = refl; tells = refl; tells_images = refl; calls = omega arith }

  only-none : OnlyNow → (s : S) → IsOnlyRead strip s s
  only-none now s = record {
    same = same-none s;
    content = λ told. refl;
    images = λ c leaves. leaves;
    crash = λ c since. now s c since;
    time = record { later = omega arith; nothing_else = λ t c le since. inl since; keeps = λ t c le past. past };
  }

  only-alone : OnlyNow → (strips : List S) → AreOnlyRead strip strips strips
  only-alone now [] = tt
  only-alone now (s ∷ strips) = (only-none now s, only-alone now strips)

  counts-alone : (strips : List S) → AllCountsStay strip strips strips
  counts-alone [] = tt
  counts-alone (s ∷ strips) = (refl, counts-alone strips)

  pub back-none : OnlyNow → (olds news : List S) → news ≡ olds → AreOnlyRead strip olds news
  back-none now olds news e = subst (λ (l : List S). AreOnlyRead strip olds l) (sym e) (only-alone now olds)

  pub counts-none : (olds news : List S) → news ≡ olds → AllCountsStay strip olds news
  counts-none olds news e = subst (λ (l : List S). AllCountsStay strip olds l) (sym e) (counts-alone olds)

  -- ---- up to one that is refused

  back-list : OnlyNow → (olds : List S) (journals : List (JournalState S)) (frames : List (List FrameValue)) (old new : S) (left : List S) → AreRead strip olds journals frames → IsOnlyRead strip old new → AreOnlyRead strip (olds ++ old ∷ left) (map strip_in journals ++ new ∷ left)
  back-list now [] [] [] old new left all one = (one, only-alone now left)
  back-list now [] [] (f ∷ frames) old new left all one = absurd all
  back-list now [] (j ∷ journals) frames old new left all one = absurd all
  back-list now (o ∷ olds) [] frames old new left all one = absurd all
  back-list now (o ∷ olds) (j ∷ journals) [] old new left all one = absurd all
  back-list now (o ∷ olds) (j ∷ journals) (f ∷ frames) old new left all one = (all.0.opened.only, back-list now olds journals frames old new left all.1 one)

  pub back-at : OnlyNow → (strips : List S) (journals : List (JournalState S)) (frames : List (List FrameValue)) (old new : S) (left : List S) → HasRead strip strips (old ∷ left) journals frames → IsOnlyRead strip old new → AreOnlyRead strip strips (map strip_in journals ++ new ∷ left)
  back-at now strips journals frames old new left has one = subst (λ (l : List S). AreOnlyRead strip l (map strip_in journals ++ new ∷ left)) (sym has.split) (back-list now has.done journals frames old new left has.read one)

  counts-list : (olds : List S) (journals : List (JournalState S)) (frames : List (List FrameValue)) (old new : S) (left : List S) → AreRead strip olds journals frames → strip.count new ≡ strip.count old → AllCountsStay strip (olds ++ old ∷ left) (map strip_in journals ++ new ∷ left)
  counts-list [] [] [] old new left all one = (one, counts-alone left)
  counts-list [] [] (f ∷ frames) old new left all one = absurd all
  counts-list [] (j ∷ journals) frames old new left all one = absurd all
  counts-list (o ∷ olds) [] frames old new left all one = absurd all
  counts-list (o ∷ olds) (j ∷ journals) [] old new left all one = absurd all
  counts-list (o ∷ olds) (j ∷ journals) (f ∷ frames) old new left all one = (all.0.opened.count, counts-list olds journals frames old new left all.1 one)

  cause-list : (olds : List S) (journals : List (JournalState S)) (frames : List (List FrameValue)) (old new : S) (left : List S) (number : ℕ) (error : JournalError) (told : LogError) → AreRead strip olds journals frames → OpeningCause (strip.book old) (strip.count old) (strip.count new) error → LogErrorOf number error told → OpenCause strip (olds ++ old ∷ left) (map strip_in journals ++ new ∷ left) told
  cause-list olds journals frames old new left number (openings.Fault unit) told all cause is = subst (OpenCause strip (olds ++ old ∷ left) (map strip_in journals ++ new ∷ left)) (sym is) (rose olds journals frames all)
    where
      rose : (olds : List S) (journals : List (JournalState S)) (frames : List (List FrameValue)) → AreRead strip olds journals frames → OneCountRose strip unit (olds ++ old ∷ left) (map strip_in journals ++ new ∷ left)
      rose [] [] [] all = inl (cause.0, cause.1, counts-alone left)
      rose [] [] (f ∷ frames) all = absurd all
      rose [] (j ∷ journals) frames all = absurd all
      rose (o ∷ olds) [] frames all = absurd all
      rose (o ∷ olds) (j ∷ journals) [] all = absurd all
      rose (o ∷ olds) (j ∷ journals) (f ∷ frames) all = inr (all.0.opened.count, rose olds journals frames all.1)
  cause-list olds journals frames old new left number (openings.TornHeader at) told all cause is = subst (OpenCause strip (olds ++ old ∷ left) (map strip_in journals ++ new ∷ left)) (sym is) (counts-list olds journals frames old new left all cause)
  cause-list olds journals frames old new left number openings.Memory told all cause is = subst (OpenCause strip (olds ++ old ∷ left) (map strip_in journals ++ new ∷ left)) (sym is) (counts-list olds journals frames old new left all cause)

  pub cause-at : (strips : List S) (journals : List (JournalState S)) (frames : List (List FrameValue)) (old new : S) (left : List S) (number : ℕ) (error : JournalError) (told : LogError) → HasRead strip strips (old ∷ left) journals frames → OpeningCause (strip.book old) (strip.count old) (strip.count new) error → LogErrorOf number error told → OpenCause strip strips (map strip_in journals ++ new ∷ left) told
  cause-at strips journals frames old new left number error told has cause is = subst (λ (l : List S). OpenCause strip l (map strip_in journals ++ new ∷ left) told) (sym has.split) (cause-list has.done journals frames old new left number error told has.read cause is)

  first_torn : (olds : List S) (journals : List (JournalState S)) (frames : List (List FrameValue)) (old : S) (left : List S) (next at : ℕ) → AreRead strip olds journals frames → AreTold (olds ++ old ∷ left) → OfBytes strip old (λ bytes. IsTornAt bytes at) → IsFirstTorn (next + length journals) at next (map strip.content (olds ++ old ∷ left))
  first_torn [] [] [] old left next at all told torn = inl (omega arith, torn told.0)
  first_torn [] [] (f ∷ frames) old left next at all told torn = absurd all
  first_torn [] (j ∷ journals) frames old left next at all told torn = absurd all
  first_torn (o ∷ olds) [] frames old left next at all told torn = absurd all
  first_torn (o ∷ olds) (j ∷ journals) [] old left next at all told torn = absurd all
  first_torn (o ∷ olds) (j ∷ journals) (f ∷ frames) old left next at all told torn =
      let more = first_torn olds journals frames old left (next + 1) at all.1 told.1 torn in
      let same : (next + 1) + length journals ≡ next + length (j ∷ journals) = omega arith in
      inr (all.0.whole told.0, subst (λ (n : ℕ). IsFirstTorn n at (next + 1) (map strip.content (olds ++ old ∷ left))) same more)

  pub torn-at : (strips : List S) (journals : List (JournalState S)) (frames : List (List FrameValue)) (old : S) (left : List S) (error : JournalError) (told : LogError) → HasRead strip strips (old ∷ left) journals frames → strip_of (length journals) ≡ length journals → OfBytes strip old (TellsTorn error) → LogErrorOf (length journals) error told → OfAllBytes strip strips (IsTornFirst told)
  torn-at strips journals frames old left (openings.TornHeader at) told has small torn is = λ tells.
      let first = first_torn has.done journals frames old left 0 at has.read (subst AreTold has.split tells) torn in
      let number : 0 + length journals ≡ length journals = omega arith in
      let torn_there = subst (λ (n : ℕ). IsFirstTorn n at 0 (map strip.content (has.done ++ old ∷ left))) number first in
      let here : IsFirstTorn (length journals) at 0 (map strip.content strips) = subst (λ (l : List S). IsFirstTorn (length journals) at 0 (map strip.content l)) (sym has.split) torn_there in
      subst (λ (e : LogError). IsTornFirst e (map strip.content strips)) (sym (is ∙ ap (λ (n : ℕ). TornHeader n at) small)) here
  torn-at strips journals frames old left (openings.Fault unit) told has small torn is = λ tells. subst (λ (e : LogError). IsTornFirst e (map strip.content strips)) (sym is) tt
  torn-at strips journals frames old left openings.Memory told has small torn is = λ tells. subst (λ (e : LogError). IsTornFirst e (map strip.content strips)) (sym is) tt

  synced_list : (olds : List S) (journals : List (JournalState S)) (frames : List (List FrameValue)) (new : S) (left : List S) → AreRead strip olds journals frames → IsSynced strip new → AreSynced strip (length journals + 1) (map strip_in journals ++ new ∷ left)
  synced_list [] [] [] new left all one = (one, tt)
  synced_list [] [] (f ∷ frames) new left all one = absurd all
  synced_list [] (j ∷ journals) frames new left all one = absurd all
  synced_list (o ∷ olds) [] frames new left all one = absurd all
  synced_list (o ∷ olds) (j ∷ journals) [] new left all one = absurd all
  synced_list (o ∷ olds) (j ∷ journals) (f ∷ frames) new left all one =
      let same : suc (length journals + 1) ≡ length (j ∷ journals) + 1 = omega arith in
      subst (λ (n : ℕ). AreSynced strip n (map strip_in (j ∷ journals) ++ new ∷ left)) same (all.0.opened.synced, synced_list olds journals frames new left all.1 one)

  pub synced-at : (strips : List S) (journals : List (JournalState S)) (frames : List (List FrameValue)) (old new : S) (left : List S) (error : JournalError) (told : LogError) → HasRead strip strips (old ∷ left) journals frames → strip_of (length journals) ≡ length journals → TornIsSynced strip new error → LogErrorOf (length journals) error told → AreOfSynced strip (map strip_in journals ++ new ∷ left) told
  synced-at strips journals frames old new left (openings.TornHeader at) told has small synced is =
      subst (AreOfSynced strip (map strip_in journals ++ new ∷ left)) (sym (is ∙ ap (λ (n : ℕ). TornHeader n at) small)) (synced_list has.done journals frames new left has.read synced)
  synced-at strips journals frames old new left (openings.Fault unit) told has small synced is = subst (AreOfSynced strip (map strip_in journals ++ new ∷ left)) (sym is) tt
  synced-at strips journals frames old new left openings.Memory told has small synced is = subst (AreOfSynced strip (map strip_in journals ++ new ∷ left)) (sym is) tt

  -- ---- all of them

  pub read-length : (olds : List S) (journals : List (JournalState S)) (frames : List (List FrameValue)) → AreRead strip olds journals frames → length frames ≡ length olds
  read-length [] [] [] all = refl
  read-length [] [] (f ∷ frames) all = absurd all
  read-length [] (j ∷ journals) frames all = absurd all
  read-length (o ∷ olds) [] frames all = absurd all
  read-length (o ∷ olds) (j ∷ journals) [] all = absurd all
  read-length (o ∷ olds) (j ∷ journals) (f ∷ frames) all = ap (λ (n : ℕ). suc n) (read-length olds journals frames all.1)

  pub read-opened : (olds : List S) (journals : List (JournalState S)) (frames : List (List FrameValue)) → AreRead strip olds journals frames → AreOpened strip olds journals
  read-opened [] [] [] all = tt
  read-opened [] [] (f ∷ frames) all = absurd all
  read-opened [] (j ∷ journals) frames all = absurd all
  read-opened (o ∷ olds) [] frames all = absurd all
  read-opened (o ∷ olds) (j ∷ journals) [] all = absurd all
  read-opened (o ∷ olds) (j ∷ journals) (f ∷ frames) all = (all.0.opened, read-opened olds journals frames all.1)

  opened-only : (olds : List S) (journals : List (JournalState S)) → AreOpened strip olds journals → AreOnlyRead strip olds (map strip_in journals)
  opened-only [] [] all = tt
  opened-only [] (j ∷ journals) all = absurd all
  opened-only (o ∷ olds) [] all = absurd all
  opened-only (o ∷ olds) (j ∷ journals) all = (all.0.only, opened-only olds journals all.1)

  opened-counts : (olds : List S) (journals : List (JournalState S)) → AreOpened strip olds journals → AllCountsStay strip olds (map strip_in journals)
  opened-counts [] [] all = tt
  opened-counts [] (j ∷ journals) all = absurd all
  opened-counts (o ∷ olds) [] all = absurd all
  opened-counts (o ∷ olds) (j ∷ journals) all = (all.0.count, opened-counts olds journals all.1)

  opened-synced : (many : ℕ) (olds : List S) (journals : List (JournalState S)) → AreOpened strip olds journals → AreSynced strip many (map strip_in journals)
  opened-synced zero olds journals all = tt
  opened-synced (suc many) [] [] all = tt
  opened-synced (suc many) [] (j ∷ journals) all = absurd all
  opened-synced (suc many) (o ∷ olds) [] all = absurd all
  opened-synced (suc many) (o ∷ olds) (j ∷ journals) all = (all.0.synced, opened-synced many olds journals all.1)

  pub read-only : (olds : List S) (journals : List (JournalState S)) (frames : List (List FrameValue)) (news : List S) → news ≡ map strip_in journals → AreRead strip olds journals frames → AreOnlyRead strip olds news
  read-only olds journals frames news e all = subst (λ (l : List S). AreOnlyRead strip olds l) (sym e) (opened-only olds journals (read-opened olds journals frames all))

  pub read-counts : (olds : List S) (journals : List (JournalState S)) (frames : List (List FrameValue)) (news : List S) → news ≡ map strip_in journals → AreRead strip olds journals frames → AllCountsStay strip olds news
  read-counts olds journals frames news e all = subst (λ (l : List S). AllCountsStay strip olds l) (sym e) (opened-counts olds journals (read-opened olds journals frames all))

  pub read-synced : (many : ℕ) (olds : List S) (journals : List (JournalState S)) (frames : List (List FrameValue)) (news : List S) → news ≡ map strip_in journals → AreRead strip olds journals frames → AreSynced strip many news
  read-synced many olds journals frames news e all = subst (λ (l : List S). AreSynced strip many l) (sym e) (opened-synced many olds journals (read-opened olds journals frames all))

  read-whole : (olds : List S) (journals : List (JournalState S)) (frames : List (List FrameValue)) → AreRead strip olds journals frames → AreTold olds → AllByRecursion HasNoTorn (map strip.content olds)
  read-whole [] [] [] all told = tt
  read-whole [] [] (f ∷ frames) all told = absurd all
  read-whole [] (j ∷ journals) frames all told = absurd all
  read-whole (o ∷ olds) [] frames all told = absurd all
  read-whole (o ∷ olds) (j ∷ journals) [] all told = absurd all
  read-whole (o ∷ olds) (j ∷ journals) (f ∷ frames) all told = (all.0.whole told.0, read-whole olds journals frames all.1 told.1)

  read-frames : (olds : List S) (journals : List (JournalState S)) (frames : List (List FrameValue)) → AreRead strip olds journals frames → AreTold olds → map frames_of (map strip.content olds) ≡ frames
  read-frames [] [] [] all told = refl
  read-frames [] [] (f ∷ frames) all told = absurd all
  read-frames [] (j ∷ journals) frames all told = absurd all
  read-frames (o ∷ olds) [] frames all told = absurd all
  read-frames (o ∷ olds) (j ∷ journals) [] all told = absurd all
  read-frames (o ∷ olds) (j ∷ journals) (f ∷ frames) all told =
      ap (λ (l : List FrameValue). l ∷ map frames_of (map strip.content olds)) (all.0.stands told.0) ∙ ap (λ (l : List (List FrameValue)). f ∷ l) (read-frames olds journals frames all.1 told.1)

  pub read-log : (first : ℕ) (log : LogValue) (olds : List S) (journals : List (JournalState S)) (frames : List (List FrameValue)) → AreRead strip olds journals frames → log_of first frames ≡ Ok log → OfAllBytes strip olds (HasLog first log)
  read-log first log olds journals frames all read = λ told. record {
    whole = read-whole olds journals frames all told;
    read = ap (log_of first) (read-frames olds journals frames all told) ∙ read;
  }

  no_log : (first : ℕ) (error : LogError) (olds : List S) (journals : List (JournalState S)) (frames : List (List FrameValue)) → AreRead strip olds journals frames → log_of first frames ≡ Err error → OfAllBytes strip olds (IsNoLog first error)
  no_log first error olds journals frames all read = λ told. record {
    whole = read-whole olds journals frames all told;
    read = ap (log_of first) (read-frames olds journals frames all told) ∙ read;
  }

  pub read-refused : (first : ℕ) (error : LogError) (olds : List S) (journals : List (JournalState S)) (frames : List (List FrameValue)) → AreRead strip olds journals frames → FailsLog error (log_of first frames) → OfAllBytes strip olds (IsLogRefused first error)
  read-refused first (BadEntry s frame at) olds journals frames all fails = no_log first (BadEntry s frame at) olds journals frames all fails
  read-refused first (LogGap want found) olds journals frames all fails = no_log first (LogGap want found) olds journals frames all fails
  read-refused first (TornHeader s at) olds journals frames all fails = absurd fails
  read-refused first (Fault unit) olds journals frames all fails = absurd fails
  read-refused first Memory olds journals frames all fails = λ told. tt

  -- an error of the frames is no fault, and speaks of all strips
  pub fails-cause : (error : LogError) (olds news : List S) (read : Result LogValue LogError) → FailsLog error read → AllCountsStay strip olds news → OpenCause strip olds news error
  fails-cause (BadEntry s frame at) olds news read fails stay = stay
  fails-cause (LogGap want found) olds news read fails stay = stay
  fails-cause (TornHeader s at) olds news read fails stay = stay
  fails-cause (Fault unit) olds news read fails stay = absurd fails
  fails-cause Memory olds news read fails stay = stay

  pub fails-synced : (error : LogError) (news : List S) (read : Result LogValue LogError) → FailsLog error read → ((many : ℕ) → AreSynced strip many news) → AreOfSynced strip news error
  fails-synced (BadEntry s frame at) news read fails synced = synced LOG_STRIPS
  fails-synced (LogGap want found) news read fails synced = synced LOG_STRIPS
  fails-synced (TornHeader s at) news read fails synced = synced (s + 1)
  fails-synced (Fault unit) news read fails synced = tt
  fails-synced Memory news read fails synced = tt
