use Rattle.std.proofs.Common.{◌≡◌, ◌<◌, ◌+◌, ℕ, true, false, List, length, get_or, sym, ap, ◌∙◌, subst, arith}
use Rattle.std.specs.Prelude.{◌&&◌}
use Rattle.std.specs.Ordering.{is_le, is_lt}
use Rattle.rdb_base.specs.Order.{key_cmp}
use Rattle.meta_trie.specs.Leaves.{all_of}
use Rattle.meta_trie.specs.Tries.{Anchored, root}
use Rattle.meta_trie.proofs.AmongLemmas.{BestAmong, among-first, among-next, among-all}
use Rattle.meta_trie.proofs.FindLemmas.{pick-in}
use Rattle.meta_trie.proofs.finding.among_all.Goals as goal
use Rattle.meta_trie.proofs.finding.among_all.Goals.{then-is_better, else-is_better}

pub anchors-init : goal.anchors-init
anchors-init c = (root, among-first (all_of c.args.leaves.now) c.args.key.now c.requires.root)

pub bounds-leaves-best : goal.bounds-leaves-best
bounds-leaves-best c = pick-in c.args.leaves.now c.anchors.best c.anchors.invariant.0 c.anchors.invariant.1.pick

pub anchors-preserved : goal.anchors-preserved
anchors-preserved c =
    let leaves = c.args.leaves.now in
    let key = c.args.key.now in
    let place = c.anchors.place in
    let best = c.anchors.best in
    let d = c.index-leaves-place.result in
    let e = c.index-leaves-best.result in
    let next = c.as_slice-anchor.result.now in
    let is : (is_le (key_cmp (get_or leaves place d).anchor.items key) && is_lt (key_cmp (get_or leaves best e).anchor.items (get_or leaves place d).anchor.items)) ≡ c.is_better.result =
    ap (λ (z : List ℕ). is_le (key_cmp z key) && is_lt (key_cmp (get_or leaves best e).anchor.items z)) (sym c.as_slice-anchor.ensures.value)
    ∙ ap (λ (z : List ℕ). is_le (key_cmp next key) && is_lt (key_cmp z next)) (sym c.as_slice.ensures.value)
    ∙ sym c.is_better.ensures in
    let lt : place < length leaves = omega (arith, c.anchors-test.true) in
    elim c.if-is_better.branch [
      | then-is_better w ↦ subst (λ (k : ℕ). (x : Anchored) × BestAmong (all_of leaves) key (place + 1) k x) (sym w.best-is)
          (among-next leaves key place best d e c.anchors.invariant.0 c.anchors.invariant.1 lt true (is ∙ w.if-is_better.true))
      | else-is_better w ↦ subst (λ (k : ℕ). (x : Anchored) × BestAmong (all_of leaves) key (place + 1) k x) (sym w.best-is)
          (among-next leaves key place best d e c.anchors.invariant.0 c.anchors.invariant.1 lt false (is ∙ w.if-is_better.false))
    ]

pub returns : goal.returns
returns c = record { best = among-all c.args.leaves.now c.args.key.now c.anchors.place c.anchors.best (omega (arith, c.anchors-test.false)) c.anchors.invariant }
