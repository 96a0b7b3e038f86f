use Rattle.std.proofs.Common.{◌≡◌, Bool, true, false, not, get_or, set, refl, sym, ap, ◌∙◌, subst}
use Rattle.std.specs.Cmp.Lexicographic.{same_text}
use Rattle.std.proofs.lemmas.Option.{get_or_from_slice_get}
use Rattle.rdb_base.specs.declared.pair.Pair.{Pair}
use Rattle.worm_leaf.specs.Leaves.{LeafState, covers}
use Rattle.worm_core.specs.Events.{HasRoom, put_in}
use Rattle.worm_core.proofs.putting.put_pair.Goals as goal

true_from_not : (b : Bool) → not b ≡ false → true ≡ b
true_from_not true e = refl
true_from_not false e = absurd cc

pub put_reserved-old-requires-clause-covered : goal.put_reserved-old-requires-clause-covered
put_reserved-old-requires-clause-covered c =
    let s = c.in_ok-walker.ensures.stands in
    let walker = c.in_ok-walker.walker.now in
    let leaf = c.in_ok-walker.leaf.now in
    let key : walker.key ≡ c.args.pair.key = same_text walker.key c.args.pair.key (true_from_not _ (sym c.ne.ensures ∙ c.if-ne.false)) in
    let here : get_or c.args.leaves.now walker.leaf c.index-leaves-place.result ≡ leaf = get_or_from_slice_get c.args.leaves.now walker.leaf leaf c.index-leaves-place.result s.on in
    subst (λ (l : LeafState). covers l c.args.pair.key ≡ true) (sym here) (ap (covers leaf) (sym key) ∙ sym c.is_covered.ensures ∙ c.if-not-is_covered.false)

pub put_reserved-old-requires-clause-room : goal.put_reserved-old-requires-clause-room
put_reserved-old-requires-clause-room c =
    let s = c.in_ok-walker.ensures.stands in
    let walker = c.in_ok-walker.walker.now in
    let leaf = c.in_ok-walker.leaf.now in
    let here : get_or c.args.leaves.now walker.leaf c.index-leaves-place.result ≡ leaf = get_or_from_slice_get c.args.leaves.now walker.leaf leaf c.index-leaves-place.result s.on in
    subst (λ (l : LeafState). HasRoom l c.args.pair.key) (sym here) (c.has_room.ensures.0 c.if-not-has_room.false)

pub returns-clause-put : goal.returns-clause-put
returns-clause-put c =
    let s = c.in_ok-walker.ensures.stands in
    let walker = c.in_ok-walker.walker.now in
    let leaf = c.in_ok-walker.leaf.now in
    let here : get_or c.args.leaves.now walker.leaf c.index-leaves-place.result ≡ leaf = get_or_from_slice_get c.args.leaves.now walker.leaf leaf c.index-leaves-place.result s.on in
    record {
      walker = walker;
      leaf = leaf;
      stands = s;
      inside = sym c.is_covered.ensures ∙ c.if-not-is_covered.false;
      same_key = sym (same_text walker.key c.args.pair.key (true_from_not _ (sym c.ne.ensures ∙ c.if-ne.false)));
      room = c.has_room.ensures.0 c.if-not-has_room.false;
      effect = ap (set c.args.leaves.now walker.leaf) (c.put_reserved-old.ensures.set ∙ ap (λ (l : LeafState). put_in l c.args.pair) here);
    }
