use Rattle.meta_trie.specs.Leaves.{all_of}
use Rattle.meta_trie.specs.Tries.{Anchored}
use Rattle.meta_trie.proofs.AmongLemmas.{BestAmong}
use Rattle.meta_trie.proofs.finding.among_all.Given as goal

abbrev pub invariant-anchors : goal.invariant-anchors
invariant-anchors l = (a : Anchored) × BestAmong (all_of l.leaves) l.key l.place l.best a
