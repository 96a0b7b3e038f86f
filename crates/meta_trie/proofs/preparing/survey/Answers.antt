use Rattle.std.proofs.Common.{take}
use Rattle.meta_trie.specs.Leaves.{all_of}
use Rattle.meta_trie.specs.Tables.{node_at}
use Rattle.meta_trie.proofs.FindLemmas.{has-empty, has-shorter, is_none, deepest-of, site-one}
use Rattle.meta_trie.proofs.preparing.survey.Goals as goal

pub longest-len-requires-clause-first : goal.longest-len-requires-clause-first
longest-len-requires-clause-first g c = has-empty _ _ (node_at c.args.table.now) c.requires.trie.stands c.requires.trie.root

pub longest-len-requires-clause-closed : goal.longest-len-requires-clause-closed
longest-len-requires-clause-closed g c = has-shorter _ _ (node_at c.args.table.now) c.requires.trie.stands c.args.anchor.now

pub returns-clause-deepest : goal.returns-clause-deepest
returns-clause-deepest g c =
    site-one (all_of c.args.leaves.now) c.args.anchor.now c.longest-len.result c.requires.trie.root
    (deepest-of _ _ (node_at c.args.table.now) c.requires.trie.stands c.args.anchor.now c.longest-len.result c.longest-len.ensures.within c.longest-len.ensures.there c.longest-len.ensures.longest)

pub returns-clause-there : goal.returns-clause-there
returns-clause-there g c = λ n le. has-shorter _ _ (node_at c.args.table.now) c.requires.trie.stands c.args.anchor.now n c.longest-len.result le c.longest-len.ensures.there

pub returns-clause-absent : goal.returns-clause-absent
returns-clause-absent g c = λ n lt le. is_none (node_at c.args.table.now (take n c.args.anchor.now)) (c.longest-len.ensures.longest n lt le)
