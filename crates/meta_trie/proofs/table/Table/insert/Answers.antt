use Rattle.meta_trie.proofs.LookupLemmas.{set-at}
use Rattle.meta_trie.proofs.table.Table.insert.Goals as goal

pub returns-clause-set : goal.returns-clause-set
returns-clause-set c = λ p. set-at (λ k. k.items) c.args.prefix.items p c.args.node c.args.self.now.nodes.entries c.insert-inserted.new.self.entries c.in-Ok.ensures.updates.3 c.in-Ok.ensures.updates.1
