use Rattle.std.proofs.Common.{◌≡◌, ◌+◌, ◌&&◌, Bool, true, false, List, ℕ, drop, sym, ap, ◌∙◌, subst}
use Rattle.std.specs.Ordering.{is_le, is_lt}
use Rattle.rdb_base.specs.Order.{key_cmp}
use Rattle.meta_trie.specs.Tries.{Anchored, best_of, root}
use Rattle.worm_core.specs.Worlds.{all_anchored}
use Rattle.worm_core.proofs.PartLemmas.{best-next}
use Rattle.worm_core.proofs.entering.leaf_of.Goals as goal
use Rattle.worm_core.proofs.entering.leaf_of.Goals.{then-is_better, else-is_better}

pub splits-preserved : goal.splits-preserved
splits-preserved c =
    let table = c.args.table.now in
    let key = c.args.key.now in
    let i = c.splits.split-index in
    let split = c.split-item.result in
    let best : Anchored = record { anchor = c.splits.anchor.now; leaf = c.splits.leaf } in
    let all : Anchored = best_of key root (all_anchored table) in
    let next : c.as_bytes-next.result.now ≡ split.anchor = c.as_bytes-next.ensures.bytes in
    let test : c.is_better.result ≡ (is_le (key_cmp split.anchor key) && is_lt (key_cmp best.anchor split.anchor))
    = c.is_better.ensures ∙ ap (λ (z : List ℕ). is_le (key_cmp z key) && is_lt (key_cmp best.anchor z)) next in
    elim c.if-is_better.branch [
      | then-is_better w ↦ subst (λ (b : Anchored). best_of key b (all_anchored (drop (i + 1) table)) ≡ all)
          (λ j. record { anchor = sym (ap (λ b. b.now) w.anchor-is ∙ next) j; leaf = sym w.leaf-is j })
          (best-next table key best all i split true c.splits-test.true c.split-item.is (sym w.if-is_better.true ∙ test) c.splits.invariant)
      | else-is_better w ↦ subst (λ (b : Anchored). best_of key b (all_anchored (drop (i + 1) table)) ≡ all)
          (λ j. record { anchor = sym (ap (λ b. b.now) w.anchor-is) j; leaf = sym w.leaf-is j })
          (best-next table key best all i split false c.splits-test.true c.split-item.is (sym w.if-is_better.false ∙ test) c.splits.invariant)
    ]
