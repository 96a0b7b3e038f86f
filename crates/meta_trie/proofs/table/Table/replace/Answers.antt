use Rattle.std.proofs.Common.{rules}
use Rattle.meta_trie.proofs.LookupLemmas.{set-at}
use Rattle.meta_trie.proofs.table.Table.replace.Goals as goal

pub returns-in-Some-clause-set : goal.returns-in-Some-clause-set
returns-in-Some-clause-set c =
    let written = (c.get_mut.follows.holds c.args.node).3 (search rules) in
    λ p. set-at (λ k. k.items) c.args.prefix.now p c.args.node c.args.self.now.nodes.entries (c.get_mut.follows.lender c.args.node).entries written.3 written.1
