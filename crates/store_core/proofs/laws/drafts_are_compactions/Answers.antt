use Rattle.store_core.proofs.DraftLemmas.{draft-compaction, files-drawn}
use Rattle.store_core.proofs.laws.drafts_are_compactions.Goals as goal

pub returns-clause-compaction : goal.returns-clause-compaction
returns-clause-compaction c = draft-compaction

pub returns-clause-numbers : goal.returns-clause-numbers
returns-clause-numbers c = files-drawn
