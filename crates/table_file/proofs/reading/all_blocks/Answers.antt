use Rattle.std.proofs.Common.{◌≡◌, ℕ, suc, ◌+◌, ◌-◌, sym, ap, ◌∙◌, arith}
use Rattle.std.proofs.lemmas.Bool.{eqb-true, eqb-false}
use Rattle.table_file.specs.TableReading.{blocks_at, wrong_of}
use Rattle.table_file.proofs.StepLemmas.{blocks-next, blocks-stop, blocks-none, blocks-end}
use Rattle.table_file.proofs.reading.all_blocks.Goals as goal

pub turns-preserved : goal.turns-preserved
turns-preserved c =
    let step : c.args.most - c.turns.done ≡ suc (c.args.most - (c.turns.done + 1)) = omega (arith, c.turns-test.true) in
    record { so_far = c.turns.invariant.so_far ∙ ap (λ (n : ℕ). wrong_of (blocks_at c.args.limits c.args.tail.now n c.turns.last.now c.turns.units.now c.turns.counts.now)) step ∙ blocks-next c.args.limits c.args.tail.now _ c.turns.last.now c.turns.units.now c.turns.counts.now _ _ _ (eqb-false _ 0 (sym c.is_empty.ensures ∙ c.if-is_empty.false)) c.in-Ok.ensures }

pub returns-then-is_empty : goal.returns-then-is_empty
returns-then-is_empty c = sym (c.turns.invariant.so_far ∙ ap wrong_of (blocks-none c.args.limits c.args.tail.now _ c.turns.last.now c.turns.units.now c.turns.counts.now (eqb-true _ 0 (sym c.is_empty.ensures ∙ c.if-is_empty.true))))

pub returns-in-Err : goal.returns-in-Err
returns-in-Err c =
    let step : c.args.most - c.turns.done ≡ suc (c.args.most - (c.turns.done + 1)) = omega (arith, c.turns-test.true) in
    sym (c.turns.invariant.so_far ∙ ap (λ (n : ℕ). wrong_of (blocks_at c.args.limits c.args.tail.now n c.turns.last.now c.turns.units.now c.turns.counts.now)) step ∙ blocks-stop c.args.limits c.args.tail.now _ c.turns.last.now c.turns.units.now c.turns.counts.now _ (eqb-false _ 0 (sym c.is_empty.ensures ∙ c.if-is_empty.false)) c.in-Err.ensures)

pub returns : goal.returns
returns c =
    let none : c.args.most - c.turns.done ≡ 0 = omega (arith, c.turns-test.false) in
    sym (c.turns.invariant.so_far ∙ ap (λ (n : ℕ). wrong_of (blocks_at c.args.limits c.args.tail.now n c.turns.last.now c.turns.units.now c.turns.counts.now)) none ∙ ap wrong_of (blocks-end c.args.limits c.args.tail.now c.turns.last.now c.turns.units.now c.turns.counts.now))
