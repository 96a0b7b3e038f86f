-- The edition that a compaction makes: what is new in each partition and what becomes of it, the files with their numbers, the
-- partitions' bases, and the first log segment that is needed.
use Rattle.std.specs.Prelude.{ℕ, ◌+◌, ◌&&◌, Bool, nat_le, max, min, List, [], ◌∷◌, ◌++◌, drop, get_or, length, map, Option, Some, None, if◌then◌else◌}
use Rattle.rdb_base.specs.Levels.{pairs_below}
use Rattle.rdb_base.specs.Pages.{pairs_from}
use Rattle.rdb_base.specs.Ranges.{in_range}
use Rattle.rdb_base.specs.declared.entry.Entry.{Entry}
use Rattle.rdb_base.specs.declared.pair.Pair.{Pair}
use Rattle.partition_plan.specs.declared.decision.Decision.{Decision}
use Rattle.partition_plan.specs.declared.decision.Decision.TheVariants.{Abort}
use Rattle.partition_plan.specs.declared.part_size.PartSize.{PartSize}
use Rattle.partition_plan.specs.Plans.{planned}
use Rattle.partition_plan.specs.Pieces.{PieceState, pieces_of, carried_of}
use Rattle.partition_plan.specs.Compactions.{PartRuns, age_of, member_of, is_aborted}
use Rattle.store_core.specs.declared.edition.Edition.{Edition}
use Rattle.store_core.specs.declared.edition_part.EditionPart.{EditionPart}
use Rattle.store_core.specs.declared.memtable.Memtable.{Memtable}
use Rattle.store_core.specs.declared.part_news.PartNews.{PartNews}
use Rattle.store_core.specs.declared.part_task.PartTask.{PartTask}
use Rattle.store_core.specs.declared.run_file.RunFile.{RunFile}

-- ---- partitions without their files

-- the runs of files
abbrev pub runs_in : List RunFile → List (List Pair)
runs_in files = map (λ (file : RunFile). file.run) files

-- a partition as its low bound and its runs
abbrev pub plain : EditionPart → PartRuns
plain part = record { low = part.low; runs = runs_in part.runs }

abbrev pub all_plain : List EditionPart → List PartRuns
all_plain parts = map plain parts

-- ---- log segments: each memtable has one of its own, with its number, which begins at its base

-- the last of some memtables, the oldest first, that begins at a number or below it; `found` where there is none
abbrev pub last_from : ℕ → List Memtable → ℕ → ℕ
last_from found [] number = found
last_from found (memtable ∷ memtables) number = last_from (if nat_le memtable.base number then memtable.number else found) memtables number

-- the segment that has the entry of a number
abbrev pub segment_with : List Memtable → ℕ → ℕ
segment_with memtables number = last_from 0 memtables number

abbrev pub segment_with_some : List Memtable → Option ℕ → Option ℕ
segment_with_some memtables None = None
segment_with_some memtables (Some number) = Some (segment_with memtables number)

-- the number of the first of these entries, which are numbered from `number` on, that is not below a base and whose key is in a range
abbrev pub first_inside : List ℕ → Option (List ℕ) → ℕ → ℕ → List Entry → Option ℕ
first_inside low high base number [] = None
first_inside low high base number (entry ∷ entries) =
    if nat_le base number && in_range low high entry.key then Some number else first_inside low high base (number + 1) entries

-- The segment of a partition's oldest new entry: of the first one in its range that is not below its base, also where it was
-- overwritten since. The entries are numbered from 0 on.
abbrev pub oldest_of : List Memtable → List Entry → Option (List ℕ) → EditionPart → Option ℕ
oldest_of memtables entries high part = segment_with_some memtables (first_inside part.low high part.base 0 entries)

-- ---- what is new in each partition

-- the bound after the first of some partitions, where there is one
abbrev pub high_of : List EditionPart → Option (List ℕ)
high_of [] = None
high_of (part ∷ parts) = Some part.low

-- new pairs cut at the partitions' bounds, with the segments of the oldest new entries
abbrev pub news_in : List Memtable → List Entry → List EditionPart → List Pair → List PartNews
news_in memtables entries [] new = []
news_in memtables entries (part ∷ []) new = record { part = part; new = new; oldest = oldest_of memtables entries None part } ∷ []
news_in memtables entries (part ∷ next ∷ parts) new =
    record { part = part; new = pairs_below next.low new; oldest = oldest_of memtables entries (Some next.low) part }
    ∷ news_in memtables entries (next ∷ parts) (pairs_from new next.low)

-- ---- what is decided

-- the members of the plan from an index on: the partitions that have new pairs, with their sizes and ages
abbrev pub sizes_in : ℕ → ℕ → List PartNews → List PartSize
sizes_in active index [] = []
sizes_in active index (one ∷ others) = member_of index (plain one.part) one.new (age_of active one.oldest) ++ sizes_in active (index + 1) others

-- the decisions for them
abbrev pub decisions_in : Bool → ℕ → List PartNews → List Decision
decisions_in may_abort active all = planned may_abort 0 (length all) (sizes_in active 0 all)

-- a task for each partition: the next decision where there are new pairs, else an abort, which leaves it as it is
abbrev pub task : PartNews → Decision → PartTask
task one decision = record { part = one.part; new = one.new; oldest = one.oldest; decision = decision }

abbrev pub decision_of : List Decision → List Pair → Decision
decision_of decisions [] = Abort
decision_of decisions (pair ∷ new) = get_or decisions 0 Abort

abbrev pub decisions_after : List Decision → List Pair → List Decision
decisions_after decisions [] = decisions
decisions_after decisions (pair ∷ new) = drop 1 decisions

abbrev pub tasks_in : List Decision → List PartNews → List PartTask
tasks_in decisions [] = []
tasks_in decisions (one ∷ others) = task one (decision_of decisions one.new) ∷ tasks_in (decisions_after decisions one.new) others

-- the pieces that a task makes of its partition
abbrev pub pieces_in : PartTask → List PieceState
pieces_in task = pieces_of task.decision task.part.low (runs_in task.part.runs) task.new

-- all that tasks carry on
abbrev pub carried_in : List PartTask → List Pair
carried_in [] = []
carried_in (task ∷ tasks) = carried_of task.decision task.new ++ carried_in tasks

-- ---- numbers: partition by partition, and in each piece by piece, a new run's file gets the next one

-- the next number, after a run where there is one
abbrev pub next_after : ℕ → Option (List Pair) → ℕ
next_after next None = next
next_after next (Some run) = next + 1

-- the next number after those of pieces
abbrev pub next_after_pieces : ℕ → List PieceState → ℕ
next_after_pieces next [] = next
next_after_pieces next (piece ∷ pieces) = next_after_pieces (next_after next piece.run) pieces

-- the next number after those of all tasks
abbrev pub next_after_all : ℕ → List PartTask → ℕ
next_after_all next [] = next
next_after_all next (task ∷ tasks) = next_after_all (next_after_pieces next (pieces_in task)) tasks

-- a new run's file above others, where there is a run
abbrev pub with_file : ℕ → Option (List Pair) → List RunFile → List RunFile
with_file next None files = files
with_file next (Some run) files = record { number = next; run = run } ∷ files

-- the new files of pieces, in the order of their numbers
abbrev pub files_of_pieces : ℕ → List PieceState → List RunFile
files_of_pieces next [] = []
files_of_pieces next (piece ∷ pieces) = with_file next piece.run (files_of_pieces (next_after next piece.run) pieces)

-- the new files of all tasks, in the order of their numbers
abbrev pub files_of_all : ℕ → List PartTask → List RunFile
files_of_all next [] = []
files_of_all next (task ∷ tasks) = files_of_pieces next (pieces_in task) ++ files_of_all (next_after_pieces next (pieces_in task)) tasks

-- ---- the first segment that is needed, and the bases

-- the lesser of a number and one that may be there
abbrev pub least : Option ℕ → ℕ → ℕ
least None other = other
least (Some number) other = min number other

-- whether a task carries new pairs on
abbrev pub is_carried : PartTask → Bool
is_carried task = is_aborted task.decision task.new

-- The first segment that an edition needs beside its files: the least one with an oldest entry that is carried on, or else the
-- active one, which is `first` before the first task.
abbrev pub first_needed : ℕ → List PartTask → ℕ
first_needed first [] = first
first_needed first (task ∷ tasks) = first_needed (if is_carried task then least task.oldest first else first) tasks

-- Where a partition's base is after a compaction of all entries below `upto`: there; but where new pairs are carried on, it stays, or
-- rises to the number at which the first needed segment begins.
abbrev pub base_after : ℕ → ℕ → PartTask → ℕ
base_after upto begins task = if is_carried task then max task.part.base begins else upto

-- ---- partitions after a compaction

-- the partitions that pieces are, with this base, where these are the old files
abbrev pub parts_of_pieces : ℕ → ℕ → List RunFile → List PieceState → List EditionPart
parts_of_pieces next base old [] = []
parts_of_pieces next base old (piece ∷ pieces) =
    record { low = piece.low; base = base; runs = with_file next piece.run (if piece.keeps_old then old else []) }
    ∷ parts_of_pieces (next_after next piece.run) base old pieces

-- the partitions after all tasks
abbrev pub parts_of_all : ℕ → ℕ → ℕ → List PartTask → List EditionPart
parts_of_all next upto begins [] = []
parts_of_all next upto begins (task ∷ tasks) =
    parts_of_pieces next (base_after upto begins task) task.part.runs (pieces_in task)
    ++ parts_of_all (next_after_pieces next (pieces_in task)) upto begins tasks

-- ---- the edition

-- The edition after these tasks, which take all entries below `upto`, where `first` is the first segment that is needed and begins at
-- `begins`. The numbers are drawn from `next` on: the files' first, and last its own.
abbrev pub edition_of : ℕ → ℕ → ℕ → ℕ → List PartTask → Edition
edition_of next upto first begins tasks =
    record {
      number = next_after_all next tasks;
      next = next_after_all next tasks + 1;
      first = first;
      parts = parts_of_all next upto begins tasks;
    }
