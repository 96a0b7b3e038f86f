use Rattle.std.proofs.Common.{◌≡◌, ◌+◌, ◌<◌, ◌⊎◌, inl, inr, true, length, ap, ◌∙◌, arith}
use Rattle.std.specs.Prelude.{is_some, if◌then◌else◌}
use Rattle.rdb_base.specs.Runs.{change_at}
use Rattle.worm_leaf.specs.declared.limits.TheConstants.{LEAF_PAIRS_MAX}
use Rattle.worm_leaf.specs.Leaves.{LeafState, bound, covers}
use Rattle.worm_leaf.proofs.LeafLemmas.{leaf-put, length-put}
use Rattle.worm_leaf.proofs.leaf.Leaf.put_reserved.Goals as goal

pub invariant_of-self : goal.invariant_of-self
invariant_of-self c =
    let pairs = c.self.inside.pairs.items in
    let new = c.put_in.new.pairs.items in
    let there = is_some c.put_in.result in
    let len : length new ≡ (if there then length pairs else length pairs + 1) = c.put_in.ensures.len in
    let room : (length pairs < LEAF_PAIRS_MAX) ⊎ (there ≡ true) = elim c.requires.room [
      | inl lt ↦ inl (omega (arith, lt, ap (λ (leaf : LeafState). length leaf.pairs) c.self.view_is))
      | inr some ↦ inr (ap is_some (c.put_in.ensures.old ∙ ap (λ (leaf : LeafState). change_at leaf.pairs c.args.pair.key) c.self.view_is) ∙ some)
    ] in (
      leaf-put c.self.inside.low (bound c.self.inside.bounded c.self.inside.high) pairs new c.args.pair c.self.invariant.0
          (ap (λ (leaf : LeafState). covers leaf c.args.pair.key) c.self.view_is ∙ c.requires.covered) c.put_in.ensures.set
          (length-put there (length pairs) (length new) len c.self.invariant.0.most room),
      c.put_in.ensures.capacity ∙ c.self.invariant.1,
    )
