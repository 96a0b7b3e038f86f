use Rattle.meta_trie.proofs.BitLemmas.{no_bit, first_bit}
use Rattle.meta_trie.proofs.next_bytes.first_from.Goals as goal

pub returns-then-left-eq0 : goal.returns-then-left-eq0
returns-then-left-eq0 c = no_bit c.args.word c.args.from c.requires c.if-left-eq0.true

pub returns-else-left-eq0 : goal.returns-else-left-eq0
returns-else-left-eq0 c =
    let first = first_bit c.args.word c.args.from c.requires c.ranges.word.fits c.if-left-eq0.false in
    (first.from_on, first.inside, first.set, first.first)
