use Rattle.std.proofs.Common.{◌≡◌, ◌-◌, ◌/◌, ℕ, Bool, true, false, sym, ap, ◌∙◌, arith, length, take, inl, inr}
use Rattle.std.specs.Prelude.{is_some}
use Rattle.std.proofs.Math.Nat.{mul-div-le}
use Rattle.std.proofs.lemmas.Bool.{cases_Bool}
use Rattle.rdb_base.proofs.HalvingLemmas.{bound-half}
use Rattle.meta_trie.specs.Tables.{node_at}
use Rattle.meta_trie.proofs.finding.longest.Goals as goal

pub halves-preserved-then-has_node : goal.halves-preserved-then-has_node
halves-preserved-then-has_node g c =
    let i = c.halves.invariant in
    let low = c.halves.low in
    let high = c.halves.high in
    let middle = high - (high - low) / 2 in
    let half = mul-div-le (high - low) 2 in
    record {
      ordered = omega (arith, half);
      within = i.within;
      there = ap (λ x. is_some (node_at c.args.table.now x)) (sym c.split_at.ensures.front) ∙ sym c.has_node.ensures.answer ∙ c.if-has_node.true;
      above = i.above;
      rises = omega (arith, i.rises, c.has_node.ensures.cost);
      left = bound-half (length c.args.key.now) c.args.steps.now c.halves.steps c.has_node.new.steps (high - low) (high - middle) (omega (arith, c.has_node.ensures.cost)) (omega (arith, half)) (omega (arith, c.halves-test.true)) i.left;
    }

pub halves-preserved : goal.halves-preserved
halves-preserved g c =
    let i = c.halves.invariant in
    let low = c.halves.low in
    let high = c.halves.high in
    let middle = high - (high - low) / 2 in
    let has : ℕ → Bool = λ n. is_some (node_at c.args.table.now (take n c.args.key.now)) in
    let half = mul-div-le (high - low) 2 in
    let some = c.halves-test.true in
    let none : has middle ≡ false = ap (λ x. is_some (node_at c.args.table.now x)) (sym c.split_at.ensures.front) ∙ sym c.has_node.ensures.answer ∙ c.if-has_node.false in
    record {
      ordered = omega (arith, half, some);
      within = omega (arith, i.within);
      there = i.there;
      above = λ n over most. elim (cases_Bool (has n)) [
        | inl is ↦ absurd (both (has middle) none (c.requires.closed middle n (omega (arith, over)) is))
        | inr not ↦ not
      ];
      rises = omega (arith, i.rises, c.has_node.ensures.cost);
      left = bound-half (length c.args.key.now) c.args.steps.now c.halves.steps c.has_node.new.steps (high - low) (middle - 1 - low) (omega (arith, c.has_node.ensures.cost)) (omega (arith, half, some)) (omega (arith, some)) i.left;
    }
  where
    both : (b : Bool) → b ≡ false → b ≡ true → ⊥
    both b e f = absurd cc
