-- Tasks with numbered files are the compaction. To know: `carried_in-compaction`, `all_plain-compaction`.
use Rattle.std.proofs.Common.{◌≡◌, ℕ, Bool, true, false, cond, List, [], ◌∷◌, ◌++◌, drop, get_or, map, refl, ap, ◌∙◌}
use Rattle.std.specs.Prelude.{Option, Some, None}
use Rattle.rdb_base.specs.Levels.{pairs_below}
use Rattle.rdb_base.specs.Pages.{pairs_from}
use Rattle.rdb_base.specs.declared.entry.Entry.{Entry}
use Rattle.rdb_base.specs.declared.pair.Pair.{Pair}
use Rattle.partition_plan.specs.declared.decision.Decision.{Decision}
use Rattle.partition_plan.specs.declared.decision.Decision.TheVariants.{Abort}
use Rattle.partition_plan.specs.Pieces.{PieceState, pieces_of, carried_of, with_run, runs_of_piece}
use Rattle.partition_plan.specs.Compactions.{PartRuns, Treated, news, spread, compacted, all_carried, piece_parts, parts_after}
use Rattle.store_core.specs.Editions.{runs_in, plain, all_plain, news_in, task, decision_of, decisions_after, tasks_in, pieces_in, carried_in, with_file, next_after, next_after_pieces, base_after, parts_of_pieces, parts_of_all}
use Rattle.store_core.specs.declared.edition_part.EditionPart.{EditionPart}
use Rattle.store_core.specs.declared.memtable.Memtable.{Memtable}
use Rattle.store_core.specs.declared.part_news.PartNews.{PartNews}
use Rattle.store_core.specs.declared.run_file.RunFile.{RunFile}

all_plain-append : (xs ys : List EditionPart) → all_plain (xs ++ ys) ≡ all_plain xs ++ all_plain ys
all_plain-append [] ys = refl
all_plain-append (x ∷ xs) ys = ap (λ (parts : List PartRuns). plain x ∷ parts) (all_plain-append xs ys)

runs_in-with_file : (next : ℕ) (run : Option (List Pair)) (files : List RunFile) → runs_in (with_file next run files) ≡ with_run run (runs_in files)
runs_in-with_file next None files = refl
runs_in-with_file next (Some run) files = refl

runs_in-kept : (keeps : Bool) (old : List RunFile) → runs_in (cond keeps old []) ≡ cond keeps (runs_in old) []
runs_in-kept true old = refl
runs_in-kept false old = refl

runs_in-piece : (next : ℕ) (old : List RunFile) (piece : PieceState) → runs_in (with_file next piece.run (cond piece.keeps_old old [])) ≡ runs_of_piece (runs_in old) piece
runs_in-piece next old piece = runs_in-with_file next piece.run (cond piece.keeps_old old []) ∙ ap (with_run piece.run) (runs_in-kept piece.keeps_old old)

-- of one partition
all_plain-parts_of_pieces : (next base : ℕ) (old : List RunFile) (pieces : List PieceState) → all_plain (parts_of_pieces next base old pieces) ≡ piece_parts (runs_in old) pieces
all_plain-parts_of_pieces next base old [] = refl
all_plain-parts_of_pieces next base old (piece ∷ pieces) =
    (λ i. record { low = piece.low; runs = runs_in-piece next old piece i } ∷ all_plain-parts_of_pieces (next_after next piece.run) base old pieces i)

-- what is new in partitions, without the segments
abbrev pub new_in : PartNews → List Pair
new_in one = one.new

abbrev pub all_new : List PartNews → List (List Pair)
all_new all = map new_in all

pub all_new-news_in : (ms : List Memtable) (es : List Entry) (parts : List EditionPart) (new : List Pair) → all_new (news_in ms es parts new) ≡ news (all_plain parts) new
all_new-news_in ms es [] new = refl
all_new-news_in ms es (part ∷ []) new = refl
all_new-news_in ms es (part ∷ next ∷ parts) new = ap (λ (rest : List (List Pair)). pairs_below next.low new ∷ rest) (all_new-news_in ms es (next ∷ parts) (pairs_from new next.low))

-- the partitions of which something is told
abbrev pub part_in : PartNews → EditionPart
part_in one = one.part

pub parts-news_in : (ms : List Memtable) (es : List Entry) (parts : List EditionPart) (new : List Pair) → map part_in (news_in ms es parts new) ≡ parts
parts-news_in ms es [] new = refl
parts-news_in ms es (part ∷ []) new = refl
parts-news_in ms es (part ∷ next ∷ parts) new = ap (λ (rest : List EditionPart). part ∷ rest) (parts-news_in ms es (next ∷ parts) (pairs_from new next.low))

-- tasks carry on what the compaction does
carried_in-tasks : (ds : List Decision) (all : List PartNews) → carried_in (tasks_in ds all) ≡ all_carried (compacted (spread ds (all_new all)) (all_plain (map part_in all)) (all_new all))
carried_in-tasks ds [] = refl
carried_in-tasks ds (one ∷ others) = by_new one.new (carried_in-tasks ds others) (carried_in-tasks (drop 1 ds) others)
  where
    by_new : (new : List Pair)
        → carried_in (tasks_in ds others) ≡ all_carried (compacted (spread ds (all_new others)) (all_plain (map part_in others)) (all_new others))
        → carried_in (tasks_in (drop 1 ds) others) ≡ all_carried (compacted (spread (drop 1 ds) (all_new others)) (all_plain (map part_in others)) (all_new others))
        → carried_of (decision_of ds new) new ++ carried_in (tasks_in (decisions_after ds new) others)
        ≡ all_carried (compacted (spread ds (new ∷ all_new others)) (plain one.part ∷ all_plain (map part_in others)) (new ∷ all_new others))
    by_new [] none some = none
    by_new (pair ∷ new) none some = ap (λ (rest : List Pair). carried_of (get_or ds 0 Abort) (pair ∷ new) ++ rest) some

-- the partitions after tasks are those after the compaction
all_plain-tasks : (next upto begins : ℕ) (ds : List Decision) (all : List PartNews)
    → all_plain (parts_of_all next upto begins (tasks_in ds all)) ≡ parts_after (all_plain (map part_in all)) (compacted (spread ds (all_new all)) (all_plain (map part_in all)) (all_new all))
all_plain-tasks next upto begins ds [] = refl
all_plain-tasks next upto begins ds (one ∷ others) =
    let first = task one (decision_of ds one.new) in
    let pieces = parts_of_pieces next (base_after upto begins first) one.part.runs (pieces_in first) in
    let next_one = next_after_pieces next (pieces_in first) in
    let rest = parts_of_all next_one upto begins (tasks_in (decisions_after ds one.new) others) in
    all_plain-append pieces rest
    ∙ ap (λ (parts : List PartRuns). parts ++ all_plain rest) (all_plain-parts_of_pieces next (base_after upto begins first) one.part.runs (pieces_in first))
    ∙ by_new next_one one.new (all_plain-tasks next_one upto begins ds others) (all_plain-tasks next_one upto begins (drop 1 ds) others)
  where
    by_new : (next_one : ℕ) (new : List Pair)
        → all_plain (parts_of_all next_one upto begins (tasks_in ds others)) ≡ parts_after (all_plain (map part_in others)) (compacted (spread ds (all_new others)) (all_plain (map part_in others)) (all_new others))
        → all_plain (parts_of_all next_one upto begins (tasks_in (drop 1 ds) others)) ≡ parts_after (all_plain (map part_in others)) (compacted (spread (drop 1 ds) (all_new others)) (all_plain (map part_in others)) (all_new others))
        → piece_parts (runs_in one.part.runs) (pieces_of (decision_of ds new) one.part.low (runs_in one.part.runs) new) ++ all_plain (parts_of_all next_one upto begins (tasks_in (decisions_after ds new) others))
        ≡ parts_after (plain one.part ∷ all_plain (map part_in others)) (compacted (spread ds (new ∷ all_new others)) (plain one.part ∷ all_plain (map part_in others)) (new ∷ all_new others))
    by_new next_one [] none some = ap (λ (parts : List PartRuns). piece_parts (runs_in one.part.runs) (pieces_of Abort one.part.low (runs_in one.part.runs) []) ++ parts) none
    by_new next_one (pair ∷ new) none some = ap (λ (parts : List PartRuns). piece_parts (runs_in one.part.runs) (pieces_of (get_or ds 0 Abort) one.part.low (runs_in one.part.runs) (pair ∷ new)) ++ parts) some

-- the compaction that the tasks of partitions and new pairs above them are
abbrev pub compaction_in : List Decision → List EditionPart → List Pair → List Treated
compaction_in ds parts new = compacted (spread ds (news (all_plain parts) new)) (all_plain parts) (news (all_plain parts) new)

pub carried_in-compaction : (ms : List Memtable) (es : List Entry) (ds : List Decision) (parts : List EditionPart) (new : List Pair) → carried_in (tasks_in ds (news_in ms es parts new)) ≡ all_carried (compaction_in ds parts new)
carried_in-compaction ms es ds parts new =
    carried_in-tasks ds (news_in ms es parts new)
    ∙ (λ i. all_carried (compacted (spread ds (all_new-news_in ms es parts new i)) (all_plain (parts-news_in ms es parts new i)) (all_new-news_in ms es parts new i)))

pub all_plain-compaction : (ms : List Memtable) (es : List Entry) (next upto begins : ℕ) (ds : List Decision) (parts : List EditionPart) (new : List Pair)
    → all_plain (parts_of_all next upto begins (tasks_in ds (news_in ms es parts new))) ≡ parts_after (all_plain parts) (compaction_in ds parts new)
all_plain-compaction ms es next upto begins ds parts new =
    all_plain-tasks next upto begins ds (news_in ms es parts new)
    ∙ (λ i. parts_after (all_plain (parts-news_in ms es parts new i)) (compacted (spread ds (all_new-news_in ms es parts new i)) (all_plain (parts-news_in ms es parts new i)) (all_new-news_in ms es parts new i)))
