use Rattle.std.proofs.Common.{◌≡◌, ◌<◌, ◌++◌, ℕ, length, get_or, ap, ◌∙◌, sym, subst, arith}
use Rattle.std.proofs.lemmas.List.{length-set, get_or_default}
use Rattle.worm_leaf.specs.Leaves.{LeafState, unused}
use Rattle.leaf_table.specs.Tables.{leaf_at}
use Rattle.leaf_table.proofs.MoveLemmas.{room-next, moved-next, ahead-next, all-at}
use Rattle.leaf_table.proofs.emptying.move_all.Goals as goal

pub move_into-requires : goal.move_into-requires
move_into-requires c =
    let leaves = c.loop-i.leaves in
    let order = c.args.order.now in
    let i = c.loop-i.i in
    let lt : i < length order = c.loop-i-test.true in
    let within : get_or order i 0 < length leaves = subst (λ len. get_or order i 0 < len) (sym c.loop-i.invariant.len) (all-at (λ (n : ℕ). n < length c.args.leaves.now) order i lt c.requires.within) in
    let leaf : get_or leaves (get_or order i 0) c.index-leaves-order.result ≡ leaf_at leaves (get_or order i 0) = get_or_default leaves (get_or order i 0) c.index-leaves-order.result unused within in
    let room = room-next c.args.leaves.now leaves order i lt c.loop-i.invariant.ahead c.args.run.now.items c.loop-i.run.items c.loop-i.invariant.moved in
    record { room = omega (arith, room, ap (λ (x : LeafState). length x.pairs) leaf, c.requires.room, c.loop-i.invariant.room, c.loop-i.run.ok.0, c.args.run.now.ok.0) }

pub loop-i-preserved : goal.loop-i-preserved
loop-i-preserved c =
    let leaves = c.loop-i.leaves in
    let order = c.args.order.now in
    let i = c.loop-i.i in
    let lt : i < length order = c.loop-i-test.true in
    let within : get_or order i 0 < length leaves = subst (λ len. get_or order i 0 < len) (sym c.loop-i.invariant.len) (all-at (λ (n : ℕ). n < length c.args.leaves.now) order i lt c.requires.within) in
    let leaf : get_or leaves (get_or order i 0) c.index-leaves-order.result ≡ leaf_at leaves (get_or order i 0) = get_or_default leaves (get_or order i 0) c.index-leaves-order.result unused within in
    record {
      moved = moved-next c.args.leaves.now leaves order i lt c.loop-i.invariant.ahead c.args.run.now.items c.loop-i.run.items c.move_into.new.run.items c.loop-i.invariant.moved
          (c.move_into.ensures.moved ∙ ap (λ (x : LeafState). c.loop-i.run.items ++ x.pairs) leaf);
      ahead = ahead-next c.args.leaves.now leaves order i lt c.loop-i.invariant.ahead c.move_into.new.self c.requires.once;
      len = length-set leaves (get_or order i 0) c.move_into.new.self ∙ c.loop-i.invariant.len;
      room = omega (arith, c.loop-i.invariant.room, c.move_into.ensures.capacity);
    }
