use Rattle.std.proofs.Common.{◌≡◌, List, sym, ap, ◌∙◌, subst}
use Rattle.std.specs.Ordering.{is_lt}
use Rattle.std.specs.declared.cmp.Ordering.TheVariants.{Less}
use Rattle.rdb_base.specs.Order.{key_cmp}
use Rattle.rdb_base.proofs.KeyOrder.{less_from_test}
use Rattle.meta_trie.specs.Tries.{Anchored}
use Rattle.memory_bench.specs.Rising.{NoneAbove}
use Rattle.memory_bench.proofs.RisingLemmas.{none_above-push}
use Rattle.memory_bench.proofs.finds.add_above.Goals as goal

pub returns-in-Ok : goal.returns-in-Ok
returns-in-Ok g c = λ yes.
    let last = c.args.last.now in
    let anchor = c.args.anchor.now in
    let above : key_cmp last anchor ≡ Less = less_from_test (key_cmp last anchor) (ap is_lt (sym c.compare_bytes.ensures) ∙ sym c.is_lt.ensures ∙ c.if-is_lt.true) in
    subst (λ (added : List Anchored). NoneAbove added anchor) (sym (c.in-Ok.ensures).added)
    (none_above-push c.args.trie.now.added last anchor c.args.leaf c.requires.rising above)
