-- What a journal's strip stands for, whatever a call answered. To know: `stands-sound`.
use Rattle.std.proofs.Common.{inl, ℕ, List, refl, sym, subst}
use Rattle.disk_model.specs.FileLaws.{torn_same}
use Rattle.disk_model.specs.declared.strip.Strip.{Ghosts}
use Rattle.frame_journal.specs.declared.phase.Phase.{Phase}
use Rattle.frame_journal.specs.declared.phase.Phase.TheVariants.{Fresh, Shut, Ready, Staged, Body, Gate}
use Rattle.frame_journal.specs.Frames.{StandsFor}
use Rattle.frame_journal.specs.Journals.{unframed, standing_to, HoldsIn, LeftIn, StagedIn, IsSound, StandsBy, Leaves}
use Rattle.frame_journal.proofs.JournalLemmas.{closed_stands, closed_stands_none}
use Rattle.frame_journal.proofs.PhaseLemmas.{gate-either}
use Rattle.frame_journal.proofs.CrashLemmas.{first-stands, front-stands}

-- an image that agrees with the bytes as the phase says
pub stands-image : (phase : Phase) (bytes : List ℕ) (end : ℕ) (staged image : List ℕ) → StagedIn phase staged → HoldsIn phase bytes end staged → LeftIn phase bytes end image → StandsBy phase bytes end (unframed staged) image
stands-image Fresh bytes end staged image stages holds left = first-stands bytes image holds left
stands-image Shut bytes end staged image stages holds left = inl (closed_stands_none image left)
stands-image Ready bytes end staged image stages holds left = subst (StandsFor (standing_to end bytes)) (sym left) (closed_stands bytes end holds.0 holds.1)
stands-image Staged bytes end staged image stages holds left = subst (StandsFor (standing_to end bytes)) (sym left) (closed_stands bytes end holds.0 holds.1)
stands-image Body bytes end staged image stages holds left = front-stands end bytes image holds.0 holds.1 left
stands-image Gate bytes end staged image stages holds left = gate-either bytes staged image end holds.0 holds.1 stages left

-- the bytes themselves agree so
pub left-own : (phase : Phase) (bytes : List ℕ) (end : ℕ) (staged : List ℕ) → HoldsIn phase bytes end staged → LeftIn phase bytes end bytes
left-own Fresh bytes end staged holds = refl
left-own Shut bytes end staged holds = holds
left-own Ready bytes end staged holds = refl
left-own Staged bytes end staged holds = refl
left-own Body bytes end staged holds = refl
left-own Gate bytes end staged holds = torn_same end 1 bytes

-- a sound journal
pub stands-sound : {S : Type 0} (strip : Ghosts S) (s : S) (phase : Phase) (end : ℕ) (staged : List ℕ) → IsSound (strip.tells s) (strip.content s) (strip.may_leave s) phase end staged → Leaves strip (record { strip = s; phase = phase; end = end; payload = unframed staged })
stands-sound strip s phase end staged sound = record {
  content = λ told. stands-image phase (strip.content s) end staged (strip.content s) sound.stages (sound.holds told) (left-own phase (strip.content s) end staged (sound.holds told));
  images = λ told image left. stands-image phase (strip.content s) end staged image sound.stages (sound.holds told) (sound.leaves told image left);
}
