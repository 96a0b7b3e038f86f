use Rattle.std.proofs.Common.{◌≡◌, ◌<◌, ℕ, List, [], ◌∷◌, ◌++◌, length, get_or, set, refl, sym, ap, ◌∙◌, arith}
use Rattle.std.specs.Prelude.{Some, slice_get}
use Rattle.std.proofs.lemmas.Option.{slice_get_read}
use Rattle.rdb_base.proofs.PlaceLemmas.{some_injective}
use Rattle.worm_leaf.specs.Leaves.{LeafState}
use Rattle.worm_leaf.specs.declared.limits.TheConstants.{LEAF_PAIRS_MAX}
use Rattle.worm_core.proofs.PartLemmas.{full-is, split-is}
use Rattle.worm_core.proofs.splitting.split_leaf.Goals as goal

pub returns-clause-split : goal.returns-clause-split
returns-clause-split c =
    let leaves = c.args.leaves.now.items in
    let splits = c.args.splits.now.items in
    let number = c.args.number in
    let used = c.len-used.result in
    let looked : LeafState = c.index.result.now in
    let old : LeafState = c.index_mut.result.now in
    let count : used ≡ length leaves = omega arith in
    let lt : number < length leaves = omega arith in
    let kept : c.reserve.new.self.items ≡ leaves = c.in_ok-reserve.ensures.items in
    let seen : slice_get leaves number ≡ Some looked = slice_get_read leaves (length leaves) number looked refl lt c.index.ensures in
    let at : slice_get leaves number ≡ Some old = slice_get_read leaves (length leaves) number old refl lt (c.index_mut.ensures.value ∙ ap (λ (l : List LeafState). get_or l number old) kept) in
    let full : length looked.pairs ≡ LEAF_PAIRS_MAX = full-is _ _ c.is_full.result c.is_full.ensures.answer c.if-not-is_full.false in
    split-is leaves _ splits _ number used old c.split_into.new.self c.split_into.new.right c.split_into.new.anchor at count c.if-used-ge-LEAVES_MAX.false
    (ap (λ (l : LeafState). length l.pairs) (some_injective old looked (sym at ∙ seen)) ∙ full) c.split_into.ensures.anchor c.split_into.ensures.left c.split_into.ensures.right
    (c.push_reserved.ensures.items ∙ ap (λ (l : List LeafState). set l number c.split_into.new.self ++ c.split_into.new.right ∷ []) kept)
    (c.push_reserved-2.ensures.items ∙ ap (λ l. l ++ record { anchor = c.split_into.new.anchor; leaf = used } ∷ []) c.in_ok-reserve-2.ensures.items)
