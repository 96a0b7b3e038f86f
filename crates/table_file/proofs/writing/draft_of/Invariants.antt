use Rattle.table_file.proofs.PackLemmas.{Drafted}
use Rattle.table_file.proofs.writing.draft_of.Given as goal

-- what was written, and which pairs are open
abbrev pub invariant-pairs : goal.invariant-pairs
invariant-pairs l = record {
  drafted : Drafted l.fn.pairs l.first l.at l.size l.draft.units.items l.draft.counts.items;
}
