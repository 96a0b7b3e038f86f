-- What editions name stands: each file of an edition that counts is there, with its run.
use Rattle.std.specs.Prelude.{◌≡◌, ◌⊎◌, ℕ, ◌+◌, ◌≤◌, ◌<◌, List, [], ◌∷◌, length, Option, IfSome, Some}
use Rattle.std.specs.BTreeMap.{is_at}
use Rattle.std.specs.List.{AllByRecursion}
use Rattle.std.specs.Map.{lookup}
use Rattle.std.specs.Ordering.{nat_cmp}
use Rattle.rdb_base.specs.declared.pair.Pair.{Pair}
use Rattle.store_core.specs.EditionLaws.{AreNumberedFrom}
use Rattle.store_core.specs.Laws.{LedTo}
use Rattle.store_core.specs.Worlds.{World}
use Rattle.store_core.specs.declared.draft.Draft.{Draft}
use Rattle.store_core.specs.declared.edition.Edition.{Edition}
use Rattle.store_core.specs.declared.edition_part.EditionPart.{EditionPart}
use Rattle.store_core.specs.declared.run_file.RunFile.{RunFile}
use Rattle.store_core.specs.declared.store_answer.StoreAnswer.{StoreAnswer}
use Rattle.store_core.specs.declared.store_event.StoreEvent.{StoreEvent}

-- the run that stands under a number
abbrev pub run_at : List (ℕ × List Pair) → ℕ → Option (List Pair)
run_at files number = lookup (is_at (nat_cmp number)) files

-- a file stands: its run, under its number
abbrev pub Stands : List (ℕ × List Pair) → RunFile → Type 0
Stands files file = run_at files file.number ≡ Some file.run

-- it stands, and its number was drawn before this one
abbrev pub StandsBelow : List (ℕ × List Pair) → ℕ → RunFile → Type 0
StandsBelow files number file = Stands files file × (file.number < number)

-- so of all files of partitions, and of an edition where there is one
abbrev pub PartsStand : List (ℕ × List Pair) → ℕ → List EditionPart → Type 0
PartsStand files number parts = AllByRecursion (λ (part : EditionPart). AllByRecursion (StandsBelow files number) part.runs) parts

abbrev pub EditionStands : List (ℕ × List Pair) → ℕ → Option Edition → Type 0
EditionStands files number edition = IfSome edition (λ e. PartsStand files number e.parts × (e.number < number))

-- one of some files
abbrev pub IsAmong : RunFile → List RunFile → Type 0
IsAmong file [] = ⊥
IsAmong file (one ∷ others) = (file ≡ one) ⊎ IsAmong file others

-- a file of a draft: it stands, or the draft still lacks it
abbrev pub IsKnown : List (ℕ × List Pair) → ℕ → List RunFile → RunFile → Type 0
IsKnown files number lacking file = StandsBelow files number file ⊎ IsAmong file lacking

-- what the claim reads of a world
pub record Shelf : Type 0 where
  pub next : ℕ
  pub files : List (ℕ × List Pair)
  pub used : List EditionPart
  pub stands : Edition
  pub gated : Option Edition

abbrev pub shelf_of : World → Shelf
shelf_of w = record { next = w.next; files = w.files; used = w.used.parts; stands = w.stands; gated = w.gated }

-- The files that a draft lacks have the numbers from one on, all files that count have lower ones, and the draft's others stand. An
-- edition of the draft's number lacks nothing.
pub record DraftIsShelved (s : Shelf) (d : Draft) : Type 0 where
  pub at : ℕ
  pub numbered : AreNumberedFrom at d.lacking
  pub upto : at + length d.lacking ≤ d.edition.number
  pub drawn : d.edition.number < s.next
  pub files : AllByRecursion (λ (part : EditionPart). AllByRecursion (IsKnown s.files at d.lacking) part.runs) d.edition.parts
  pub used : PartsStand s.files at s.used
  pub stands : PartsStand s.files at s.stands.parts
  pub gated : IfSome s.gated (λ e. PartsStand s.files at e.parts)
  pub settled : s.stands.number ≡ d.edition.number → d.lacking ≡ []
  pub written : IfSome s.gated (λ e. e.number ≡ d.edition.number → d.lacking ≡ [])

pub record IsShelved (s : Shelf) (made : Option Draft) : Type 0 where
  pub used : PartsStand s.files s.next s.used
  pub stands : PartsStand s.files s.next s.stands.parts
  pub number : s.stands.number < s.next
  pub gated : EditionStands s.files s.next s.gated
  pub draft : IfSome made (λ d. DraftIsShelved s d)

abbrev pub Shelved : World → Type 0
Shelved w = IsShelved (shelf_of w) w.draft

-- each file of the used, the settled and the gated edition stands
pub record FilesStand (w : World) : Type 0 where
  pub used : PartsStand w.files w.next w.used.parts
  pub stands : PartsStand w.files w.next w.stands.parts
  pub gated : EditionStands w.files w.next w.gated

abbrev pub NamedFilesStand : Type 0
NamedFilesStand = (before : List StoreEvent) (told : List StoreAnswer) (w : World) → LedTo before told w → FilesStand w
