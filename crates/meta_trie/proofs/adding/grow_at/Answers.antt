use Rattle.std.proofs.Common.{sym, ap, ◌∙◌, take}
use Rattle.std.specs.Ordering.{is_lt}
use Rattle.rdb_base.specs.Order.{key_cmp}
use Rattle.meta_trie.specs.Growths.{first_of}
use Rattle.meta_trie.specs.Tables.{node_at}
use Rattle.meta_trie.proofs.FrontLemmas.{set-here, grown-here}
use Rattle.meta_trie.proofs.adding.grow_at.Goals as goal

pub returns-clause-grown : goal.returns-clause-grown
returns-clause-grown c =
    let anchor = c.args.anchor.now in
    let len = c.args.len in
    let leaves = c.args.leaves.now in
    let n = c.in-Some.node.now in (
      c.grown.result,
      set-here c.args.table.now c.replace.new.self c.split_at.result.0.now (take len anchor) c.grown.result c.replace.ensures.set c.split_at.ensures.front,
      grown-here leaves anchor len c.args.place c.first_byte-next.result n c.grown.result c.is_below-less.result c.is_below-more.result c.index-leaves-node.result c.index-leaves-node-2.result
          c.requires.next
          (c.first_byte-next.ensures ∙ ap first_of c.split_at.ensures.back)
          (c.is_below-less.ensures ∙ ap (λ z. is_lt (key_cmp anchor z)) c.as_slice.ensures.value)
          (c.is_below-more.ensures ∙ ap (λ z. is_lt (key_cmp z anchor)) c.as_slice-2.ensures.value)
          (c.requires.stands n (ap (node_at c.args.table.now) (sym c.split_at.ensures.front) ∙ sym c.in-Some.ensures.node))
          c.grown.ensures,
    )
