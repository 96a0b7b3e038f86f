use Rattle.std.proofs.Common.{ap, ◌∙◌}
use Rattle.table_switch.specs.Published.{front_of}
use Rattle.table_switch.proofs.WriterLemmas.{writer-all}
use Rattle.table_switch.proofs.trie_writer.TrieWriter.front.Goals as goal

pub returns : goal.returns
returns g c = c.front.ensures ∙ (writer-all _ c.self.inside.roll _ _ _ c.self.invariant ∙ ap front_of c.self.view_is)
