-- What holds of every draft: it is the compaction by the plan, and each number is drawn once.
use Rattle.std.specs.Prelude.{◌≡◌, ℕ, ◌+◌, Bool, List, [], ◌∷◌, length}
use Rattle.partition_plan.specs.Compactions.{age_of, plan_of, compaction, all_carried, parts_after}
use Rattle.store_core.specs.Editions.{all_plain, files_of_all, next_after_all}
use Rattle.store_core.specs.Steps.{new_pairs, news_of, decisions_of, draft_of}
use Rattle.store_core.specs.Worlds.{World}
use Rattle.store_core.specs.declared.part_news.PartNews.{PartNews}
use Rattle.store_core.specs.declared.part_task.PartTask.{PartTask}
use Rattle.store_core.specs.declared.run_file.RunFile.{RunFile}

-- the ages of what is new, in the partitions' order
abbrev pub ages_in : ℕ → List PartNews → List ℕ
ages_in active [] = []
ages_in active (one ∷ others) = age_of active one.oldest ∷ ages_in active others

-- the decisions are the plan's, and what is carried on and the partitions, without their files, are those of the compaction by them
pub record IsCompaction (w : World) (may_abort : Bool) : Type 0 where
  pub decided : decisions_of w may_abort ≡ plan_of may_abort (all_plain w.used.parts) (new_pairs w) (ages_in w.installed.number (news_of w))
  pub carried : (draft_of w (decisions_of w may_abort)).carried ≡ all_carried (compaction (decisions_of w may_abort) (all_plain w.used.parts) (new_pairs w))
  pub parts : all_plain (draft_of w (decisions_of w may_abort)).edition.parts
      ≡ parts_after (all_plain w.used.parts) (compaction (decisions_of w may_abort) (all_plain w.used.parts) (new_pairs w))

abbrev pub DraftIsCompaction : Type 0
DraftIsCompaction = (w : World) (may_abort : Bool) → IsCompaction w may_abort

-- files with this number, the next one, and so on
abbrev pub AreNumberedFrom : ℕ → List RunFile → Type 0
AreNumberedFrom next [] = Unit {0}
AreNumberedFrom next (file ∷ files) = (file.number ≡ next) × AreNumberedFrom (next + 1) files

-- the new files have the numbers from the next one on, in their order, and the number after theirs is the edition's own
pub record IsDrawn (next : ℕ) (tasks : List PartTask) : Type 0 where
  pub files : AreNumberedFrom next (files_of_all next tasks)
  pub own : next_after_all next tasks ≡ next + length (files_of_all next tasks)

abbrev pub NumbersAreDrawnOnce : Type 0
NumbersAreDrawnOnce = (next : ℕ) (tasks : List PartTask) → IsDrawn next tasks
