use Rattle.std.proofs.Common.{◌≡◌, true, List, ℕ, length, take, drop, sym, ap, ◌∙◌, subst, arith}
use Rattle.std.specs.Prelude.{Some, slice_get}
use Rattle.std.proofs.lemmas.List.{length-take, length-drop}
use Rattle.std.specs.declared.cmp.Ordering.TheVariants.{Less}
use Rattle.rdb_base.specs.Order.{key_cmp}
use Rattle.rdb_base.specs.declared.pair.Pair.{Pair}
use Rattle.worm_leaf.specs.Anchors.{IsAnchor, PartsAt}
use Rattle.worm_leaf.specs.Leaves.{LeafState, IsLeaf, bound, covers}
use Rattle.worm_leaf.proofs.LeafLemmas.{leaf-left, leaf-right, some_at, split-inside}
use Rattle.worm_leaf.proofs.leaf.Leaf.split_into.Goals as goal

pub invariant_of-self : goal.invariant_of-self
invariant_of-self c =
    let low = c.self.inside.low in
    let high = bound c.self.inside.bounded c.self.inside.high in
    let pairs = c.self.inside.pairs.items in
    let anchor = c.part_at.new.anchor in
    let full : length pairs ≡ 64 = ap (λ (leaf : LeafState). length leaf.pairs) c.self.view_is ∙ c.requires.full in
    let parts : PartsAt pairs 32 anchor = subst (λ (run : List Pair). PartsAt run 32 anchor) c.as_slice.ensures.value c.part_at.ensures in
    let last : (p : Pair) × (slice_get pairs 31 ≡ Some p) = some_at pairs 31 (omega (arith, full)) in
    let first : (p : Pair) × (slice_get pairs 32 ≡ Some p) = some_at pairs 32 (omega (arith, full)) in
    let is : IsAnchor last.0.key first.0.key anchor = parts last.0 first.0 last.1 first.1 in
    let base : IsLeaf (record { low = low; high = Some anchor; pairs = take 32 pairs }) = leaf-left low high pairs 31 last.0 first.0 anchor c.self.invariant.0 last.1 is (omega (arith, full, length-take 32 pairs)) in (
      subst (λ (z : List ℕ). IsLeaf (record { low = low; high = Some z; pairs = c.move_from.new.from.items })) (sym (c.set-2.ensures ∙ c.as_bytes-2.ensures.bytes))
          (subst (λ (xs : List Pair). IsLeaf (record { low = low; high = Some anchor; pairs = xs })) (sym c.move_from.ensures.from) base),
      c.move_from.ensures.from_room ∙ c.self.invariant.1,
    )

pub invariant_of-right : goal.invariant_of-right
invariant_of-right c =
    let low = c.self.inside.low in
    let bounded = c.self.inside.bounded in
    let high = bound bounded c.self.inside.high in
    let pairs = c.self.inside.pairs.items in
    let anchor = c.part_at.new.anchor in
    let full : length pairs ≡ 64 = ap (λ (leaf : LeafState). length leaf.pairs) c.self.view_is ∙ c.requires.full in
    let parts : PartsAt pairs 32 anchor = subst (λ (run : List Pair). PartsAt run 32 anchor) c.as_slice.ensures.value c.part_at.ensures in
    let last : (p : Pair) × (slice_get pairs 31 ≡ Some p) = some_at pairs 31 (omega (arith, full)) in
    let first : (p : Pair) × (slice_get pairs 32 ≡ Some p) = some_at pairs 32 (omega (arith, full)) in
    let is : IsAnchor last.0.key first.0.key anchor = parts last.0 first.0 last.1 first.1 in
    let base : IsLeaf (record { low = anchor; high = high; pairs = drop 32 pairs }) = leaf-right low high pairs 32 last.0 first.0 anchor c.self.invariant.0 first.1 is (omega (arith, full, length-drop 32 pairs)) in (
      subst (λ (z : List ℕ). IsLeaf (record { low = z; high = bound bounded c.swap.new.y; pairs = c.move_from.new.to.items })) (sym (c.set.ensures ∙ c.as_bytes.ensures.bytes))
          (subst (λ (z : List ℕ). IsLeaf (record { low = anchor; high = bound bounded z; pairs = c.move_from.new.to.items })) (sym c.swap.ensures.y_after)
          (subst (λ (xs : List Pair). IsLeaf (record { low = anchor; high = high; pairs = xs })) (sym c.move_from.ensures.to) base)),
      c.move_from.ensures.to_room ∙ c.right.invariant.1,
    )

pub returns-clause-anchor : goal.returns-clause-anchor
returns-clause-anchor c =
    let anchor = c.part_at.new.anchor in
    subst (λ (run : List Pair). PartsAt run 32 anchor) (c.as_slice.ensures.value ∙ ap (λ (leaf : LeafState). leaf.pairs) c.self.view_is) c.part_at.ensures

pub returns-clause-inside : goal.returns-clause-inside
returns-clause-inside c =
    let anchor = c.part_at.new.anchor in
    subst (λ (old : LeafState). (key_cmp old.low anchor ≡ Less) × (covers old anchor ≡ true)) c.self.view_is
    (split-inside _ anchor c.self.invariant.0 (ap (λ (old : LeafState). length old.pairs) c.self.view_is ∙ c.requires.full)
    (subst (λ (run : List Pair). PartsAt run 32 anchor) c.as_slice.ensures.value c.part_at.ensures))
