use Rattle.std.proofs.Common.{List, ap, ◌∙◌, subst}
use Rattle.meta_trie.specs.Tries.{Anchored, IsThere}
use Rattle.table_switch.specs.Published.{all_appended}
use Rattle.table_switch.proofs.trie_writer.TrieWriter.has.Goals as goal

pub returns-clause-there : goal.returns-clause-there
returns-clause-there g c = λ yes. subst (λ (z : List Anchored). IsThere z c.args.anchor.now) (c.self.invariant.added ∙ ap all_appended c.self.view_is) (c.has.ensures.there yes)
