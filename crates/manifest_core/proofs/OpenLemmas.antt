-- What an opening finds: `kept-found`, `has-read`, `refused-read`.
use Rattle.std.proofs.Common.{◌≡◌, inl, inr, ◌⊎◌, ℕ, ◌+◌, ◌<◌, ◌≤◌, Bool, true, false, List, [], ◌∷◌, length, Option, Some, None, Result, Ok, Err, refl, sym, ap, subst, ◌∙◌, arith}
use Rattle.std.specs.Prelude.{nat_lt, if◌then◌else◌}
use Rattle.std.proofs.lemmas.Bool.{lt-ltb}
use Rattle.disk_model.specs.declared.strip.Strip.{Ghosts}
use Rattle.frame_journal.specs.FrameValue.{FrameValue}
use Rattle.frame_journal.specs.Frames.{frames_of, end_of, StandsFor, HasNoTorn}
use Rattle.frame_journal.specs.JournalState.{JournalState, is_ready, has_staged}
use Rattle.frame_journal.specs.Journals.{standing, HasStanding, HasSurvivors}
use Rattle.edition_code.specs.Values.{EditionValue}
use Rattle.edition_code.specs.Reading.{edition_of}
use Rattle.manifest_core.specs.declared.manifest_error.ManifestError.{ManifestError}
use Rattle.manifest_core.specs.declared.manifest_error.ManifestError.TheVariants.{Fault, TornHeader, BadManifest, Memory}
use Rattle.manifest_core.specs.Manifests.{placed, on_strip, manifest_of, HasEdition}
use Rattle.manifest_core.specs.Kept.{kept_frames, Leads, Reads, IsKept}
use Rattle.manifest_core.specs.Openings.{here_of, there_of, IsPicked, IsFound, IsRefused, FailsManifest}
use Rattle.manifest_core.proofs.ReadLemmas.{on_strip-none, stands_whole}
use Rattle.manifest_core.proofs.KeptLemmas.{not_both, kept_ready, kept_waiting}

placed_some : (begins : ℕ) (read : Result EditionValue ℕ) → placed begins read ≡ Ok None → ⊥
placed_some begins (Ok edition) e = absurd cc
placed_some begins (Err at) e = absurd cc

-- a strip without an edition has no frame
on_strip-empty : (frames : List FrameValue) → on_strip frames ≡ Ok None → frames ≡ []
unfolding on_strip
on_strip-empty [] e = refl
on_strip-empty (frame ∷ frames) e = absurd (placed_some _ _ e)

-- what was found of a strip when it was opened as a journal
pub record IsOpened {S : Type 0} (strip : Ghosts S) (journal : JournalState S) (frames : List FrameValue) : Type 0 where
  pub stood : HasStanding strip journal frames
  pub survive : HasSurvivors strip journal frames
  pub end : journal.end ≡ end_of frames
  pub ready : is_ready journal ≡ nat_lt 0 (length frames)
  pub idle : has_staged journal ≡ false

nil_of : (frames : List FrameValue) → nat_lt 0 (length frames) ≡ false → frames ≡ []
nil_of [] e = refl
nil_of (frame ∷ frames) e = absurd (not_both (nat_lt 0 (length (frame ∷ frames))) (lt-ltb _ _ (omega arith)) e)

abbrev ok_of : Option EditionValue → Result (Option EditionValue) ℕ
ok_of edition = Ok edition

none_is : (edition : Option EditionValue) → ok_of None ≡ ok_of edition → edition ≡ None
none_is None e = refl
none_is (Some edition) e = absurd cc

module _ {S : Type 0} (strip : Ghosts S) where
  kept_opened : (journal : JournalState S) (frames : List FrameValue) → IsOpened strip journal frames → strip.tells journal.strip ≡ true → kept_frames strip journal ≡ frames
  kept_opened journal frames opened told = by_ready (is_ready journal) refl
    where
      by_ready : (b : Bool) → is_ready journal ≡ b → kept_frames strip journal ≡ frames
      by_ready true ready = kept_ready strip journal ready ∙ opened.stood told
      by_ready false waits = kept_waiting strip journal waits ∙ opened.survive told

  kept-found : (current other : JournalState S) (of_current of_other : List FrameValue) (edition : EditionValue) (here there : Option EditionValue) → IsOpened strip current of_current → IsOpened strip other of_other → on_strip of_current ≡ Ok here → on_strip of_other ≡ Ok there → Leads edition here there → (here ≡ None → there ≡ None) → IsKept strip current other edition edition
  kept-found current other of_current of_other edition here there opened_current opened_other read_current read_other leads none = record {
    idle = opened_other.idle;
    settled = λ h. refl;
    staged = λ h. absurd (not_both (has_staged current) h opened_current.idle);
    reads = λ told_current told_other. record {
      here = here;
      there = there;
      current_has = ap on_strip (kept_opened current of_current opened_current told_current) ∙ read_current;
      other_has = ap on_strip (kept_opened other of_other opened_other told_other) ∙ read_other;
      leads = leads;
      waits = λ h. (no_here h, none (no_here h));
      guards = λ h e. none e;
      empty = λ e. opened_current.end ∙ ap end_of (on_strip-empty of_current (read_current ∙ ap ok_of e));
    };
  }
    where
      no_here : is_ready current ≡ false → here ≡ None
      no_here h = none_is here (sym on_strip-none ∙ ap on_strip (sym (nil_of of_current (sym opened_current.ready ∙ h))) ∙ read_current)

  -- the journals of two strips in which an edition was found
  pub kept-both : (on_second : Bool) (first second : JournalState S) (of_first of_second : List FrameValue) (edition : EditionValue) → IsOpened strip first of_first → IsOpened strip second of_second → IsFound of_first of_second on_second edition → IsKept strip (here_of on_second first second) (there_of on_second first second) edition edition
  kept-both true first second of_first of_second edition opened_first opened_second found = kept-found second first of_second of_first edition found.of_second found.on_first opened_second opened_first found.second_has found.first_has found.picked.leads found.picked.none
  kept-both false first second of_first of_second edition opened_first opened_second found = kept-found first second of_first of_second edition found.on_first found.of_second opened_first opened_second found.first_has found.second_has found.picked.leads found.picked.none

-- the bytes have the edition that was read of their frames
pub has-read : (of_first of_second : List FrameValue) (edition : EditionValue) (x y : List ℕ) → StandsFor of_first x → StandsFor of_second y → manifest_of of_first of_second ≡ Ok edition → HasEdition edition x y
has-read of_first of_second edition x y first second read = record {
  whole_first = stands_whole of_first x first;
  whole_second = stands_whole of_second y second;
  read = ap (λ (f : List FrameValue). manifest_of f (frames_of y)) first.whole ∙ ap (manifest_of of_first) second.whole ∙ read;
}

-- or none, for the reason that was read
pub refused-read : (error : ManifestError) (of_first of_second : List FrameValue) (x y : List ℕ) → StandsFor of_first x → StandsFor of_second y → FailsManifest error (manifest_of of_first of_second) → IsRefused error x y
refused-read (Fault unit) of_first of_second x y first second fails = tt
refused-read (TornHeader strip at) of_first of_second x y first second fails = absurd fails
refused-read (BadManifest strip at) of_first of_second x y first second fails = (stands_whole of_first x first, stands_whole of_second y second, ap (λ (f : List FrameValue). manifest_of f (frames_of y)) first.whole ∙ ap (manifest_of of_first) second.whole ∙ fails)
refused-read Memory of_first of_second x y first second fails = tt
