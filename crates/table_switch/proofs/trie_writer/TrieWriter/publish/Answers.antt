use Rattle.std.proofs.Common.{ap, ◌∙◌}
use Rattle.table_switch.specs.Published.{CopyState, WriterState, all_appended, anchors_of}
use Rattle.table_switch.proofs.WriterLemmas.{writer-after, told-added, on_ok, on_err}
use Rattle.table_switch.proofs.trie_writer.TrieWriter.publish.Goals as goal

pub publish_all-requires : goal.publish_all-requires
publish_all-requires g c = record { next = c.self.invariant.next }

pub invariant_of-self : goal.invariant_of-self
invariant_of-self g c =
    let e = c.publish_all.ensures in
    writer-after _ _ _ _ _ _ _ _ c.publish_all.result c.self.invariant e.published e.pending e.known e.refused e.kept e.knew

pub returns-clause-published : goal.returns-clause-published
returns-clause-published g c = on_ok _ _ (λ p. ap (λ (s : CopyState). s.added) p ∙ (told-added _ _ ∙ ap all_appended c.self.view_is)) c.publish_all.result c.publish_all.ensures.published

pub returns-clause-pending : goal.returns-clause-pending
returns-clause-pending g c = on_ok _ _ (λ p. ap anchors_of p) c.publish_all.result c.publish_all.ensures.pending

pub returns-clause-refused : goal.returns-clause-refused
returns-clause-refused g c = on_err _ _ (λ p. ap (λ (s : CopyState). s.added) p ∙ ap (λ (s : WriterState). s.published) c.self.view_is) c.publish_all.result c.publish_all.ensures.refused

pub returns-clause-kept : goal.returns-clause-kept
returns-clause-kept g c = on_err _ _ (λ p. ap anchors_of p ∙ ap (λ (s : WriterState). s.pending) c.self.view_is) c.publish_all.result c.publish_all.ensures.kept
