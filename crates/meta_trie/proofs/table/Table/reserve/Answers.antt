use Rattle.meta_trie.proofs.LookupLemmas.{same-at}
use Rattle.meta_trie.proofs.table.Table.reserve.Goals as goal

pub returns-clause-same : goal.returns-clause-same
returns-clause-same c = λ p. same-at (λ k. k.items) p c.args.self.now.nodes.entries c.reserve.new.self.entries c.reserve.ensures.entries.2
