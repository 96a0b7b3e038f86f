-- A draft is the compaction by the plan, with numbers from the next one on. To know: `draft-compaction`, `files-drawn`.
use Rattle.std.proofs.Common.{◌≡◌, ℕ, suc, ◌+◌, List, [], ◌∷◌, ◌++◌, length, map, refl, ap, ◌∙◌, subst, arith, length-append}
use Rattle.std.specs.Prelude.{Option, Some, None}
use Rattle.rdb_base.specs.declared.pair.Pair.{Pair}
use Rattle.partition_plan.specs.declared.part_size.PartSize.{PartSize}
use Rattle.partition_plan.specs.Plans.{planned}
use Rattle.partition_plan.specs.Pieces.{PieceState}
use Rattle.partition_plan.specs.Compactions.{age_of, member_of, members_of}
use Rattle.store_core.specs.EditionLaws.{ages_in, DraftIsCompaction, AreNumberedFrom, NumbersAreDrawnOnce}
use Rattle.store_core.specs.Editions.{plain, all_plain, sizes_in, pieces_in, next_after_pieces, files_of_pieces, files_of_all}
use Rattle.store_core.specs.Steps.{new_pairs, news_of, decisions_of, begins_of}
use Rattle.store_core.specs.Worlds.{memtables}
use Rattle.store_core.specs.declared.part_news.PartNews.{PartNews}
use Rattle.store_core.specs.declared.run_file.RunFile.{RunFile}
use Rattle.store_core.proofs.NumberLemmas.{all_new, part_in, all_new-news_in, parts-news_in, carried_in-compaction, all_plain-compaction}

-- the members of the plan are those of partitions, new data and ages
sizes_in-members : (active index : ℕ) (all : List PartNews) → sizes_in active index all ≡ members_of index (all_plain (map part_in all)) (all_new all) (ages_in active all)
sizes_in-members active index [] = refl
sizes_in-members active index (one ∷ others) = ap (λ (rest : List PartSize). member_of index (plain one.part) one.new (age_of active one.oldest) ++ rest) (sizes_in-members active (index + 1) others)

length-parts : (all : List PartNews) → length all ≡ length (all_plain (map part_in all))
length-parts [] = refl
length-parts (one ∷ others) = ap suc (length-parts others)

pub draft-compaction : DraftIsCompaction
draft-compaction w may_abort =
    let all = news_of w in
    let active = w.installed.number in
    let parts = parts-news_in (memtables w) w.log w.used.parts (new_pairs w) in
    let new = all_new-news_in (memtables w) w.log w.used.parts (new_pairs w) in
    let ds = decisions_of w may_abort in
    record {
      decided =
          (λ i. planned may_abort 0 (length-parts all i) (sizes_in-members active 0 all i))
          ∙ (λ i. planned may_abort 0 (length (all_plain (parts i))) (members_of 0 (all_plain (parts i)) (new i) (ages_in active all)));
      carried = carried_in-compaction (memtables w) w.log ds w.used.parts (new_pairs w);
      parts = all_plain-compaction (memtables w) w.log w.next w.installed.base (begins_of w ds) ds w.used.parts (new_pairs w);
    }

-- ---- numbers

numbered-append : (next : ℕ) (xs ys : List RunFile) → AreNumberedFrom next xs → AreNumberedFrom (next + length xs) ys → AreNumberedFrom next (xs ++ ys)
numbered-append next [] ys h more = subst (λ (n : ℕ). AreNumberedFrom n ys) (omega arith) more
numbered-append next (x ∷ xs) ys h more = (h.0, numbered-append (next + 1) xs ys h.1 (subst (λ (n : ℕ). AreNumberedFrom n ys) (omega arith) more))

-- the files of pieces have the numbers from the next one on, and those after them begin where these end
record PiecesDrawn (next : ℕ) (pieces : List PieceState) : Type 0 where
  files : AreNumberedFrom next (files_of_pieces next pieces)
  after : next_after_pieces next pieces ≡ next + length (files_of_pieces next pieces)

pieces-drawn : (next : ℕ) (pieces : List PieceState) → PiecesDrawn next pieces
pieces-drawn next [] = record { files = tt; after = omega arith }
pieces-drawn next (piece ∷ pieces) = by_run piece.run (λ n. pieces-drawn n pieces)
  where
    by_run : (run : Option (List Pair)) → ((n : ℕ) → PiecesDrawn n pieces) → PiecesDrawn next (record { low = piece.low; keeps_old = piece.keeps_old; run = run } ∷ pieces)
    by_run None rest = let r = rest next in record { files = r.files; after = r.after }
    by_run (Some run) rest = let r = rest (next + 1) in let a = r.after in record { files = (refl, r.files); after = omega (arith, a) }

pub files-drawn : NumbersAreDrawnOnce
files-drawn next [] = record { files = tt; own = omega arith }
files-drawn next (task ∷ tasks) =
    let first = pieces-drawn next (pieces_in task) in
    let after = next_after_pieces next (pieces_in task) in
    let rest = files-drawn after tasks in
    let files = files_of_pieces next (pieces_in task) in
    let len = length-append files (files_of_all after tasks) in
    let a = first.after in
    let own = rest.own in
    record {
      files = numbered-append next files (files_of_all after tasks) first.files (subst (λ (n : ℕ). AreNumberedFrom n (files_of_all after tasks)) first.after rest.files);
      own = omega (arith, len, a, own);
    }
