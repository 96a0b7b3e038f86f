use Rattle.std.proofs.Common.{ℕ, List, sym, ap, ◌∙◌, subst}
use Rattle.meta_trie.specs.Tries.{Anchored, IsNew}
use Rattle.table_switch.specs.Published.{all_appended}
use Rattle.table_switch.proofs.trie_writer.TrieWriter.append.Goals as goal

pub add-requires-clause-new : goal.add-requires-clause-new
add-requires-clause-new g c =
    let bytes = c.as_bytes-anchor.result.now in
    subst (λ (z : List Anchored). IsNew z bytes) (sym (c.reserve.ensures.same ∙ c.self.invariant.added ∙ ap all_appended c.self.view_is))
    (subst (λ (z : List ℕ). IsNew (all_appended c.args.self.now) z) (sym c.as_bytes-anchor.ensures.bytes) c.requires.new)
