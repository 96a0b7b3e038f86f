use Rattle.std.proofs.Common.{List, sym, ◌∙◌, ap, subst}
use Rattle.rdb_base.specs.Runs.{IsRun, change_at}
use Rattle.rdb_base.specs.declared.pair.Pair.{Pair}
use Rattle.worm_leaf.specs.Leaves.{LeafState}
use Rattle.worm_leaf.proofs.KeyPlaceLemmas.{change_at-here, change_at-absent}
use Rattle.worm_leaf.proofs.leaf.Leaf.find.Goals as goal

pub returns-then-has_key_at : goal.returns-then-has_key_at
returns-then-has_key_at c =
    let rises : IsRun c.as_slice-pairs.result.now = subst IsRun (sym c.as_slice-pairs.ensures.value) c.self.invariant.0.rises in
    sym (change_at-here c.as_slice-pairs.result.now c.args.key.now c.place_in-place.result c.index-pairs-place.result rises c.place_in-place.ensures (sym c.has_key_at.ensures ∙ c.if-has_key_at.true))
    ∙ ap (λ (run : List Pair). change_at run c.args.key.now) (c.as_slice-pairs.ensures.value ∙ ap (λ (leaf : LeafState). leaf.pairs) c.self.view_is)

pub returns-else-has_key_at : goal.returns-else-has_key_at
returns-else-has_key_at c =
    let rises : IsRun c.as_slice-pairs.result.now = subst IsRun (sym c.as_slice-pairs.ensures.value) c.self.invariant.0.rises in
    sym (change_at-absent c.as_slice-pairs.result.now c.args.key.now c.place_in-place.result rises c.place_in-place.ensures (sym c.has_key_at.ensures ∙ c.if-has_key_at.false))
    ∙ ap (λ (run : List Pair). change_at run c.args.key.now) (c.as_slice-pairs.ensures.value ∙ ap (λ (leaf : LeafState). leaf.pairs) c.self.view_is)
