use Rattle.std.proofs.Common.{◌≡◌, drop}
use Rattle.meta_trie.specs.Tries.{best_of, root}
use Rattle.worm_core.specs.Worlds.{all_anchored}
use Rattle.worm_core.proofs.entering.leaf_of.Given as goal

-- what is still to be looked at gives, with the best one so far, what all give
abbrev pub invariant-splits : goal.invariant-splits
invariant-splits l = best_of l.key (record { anchor = l.anchor; leaf = l.leaf }) (all_anchored (drop l.split-index l.table)) ≡ best_of l.key root (all_anchored l.table)
