use Rattle.meta_trie.proofs.SameLemmas.{trie-same}
use Rattle.meta_trie.proofs.preparing.make_ready.Goals as goal

pub returns-in-Ok-clause-trie : goal.returns-in-Ok-clause-trie
returns-in-Ok-clause-trie c =
    trie-same c.args.leaves.now.items c.prepare.new.leaves.items c.args.table.now c.prepare.new.table (c.in-Ok.ensures).leaves (c.in-Ok.ensures).table (c.in-Ok.ensures).count c.requires.trie
