use Rattle.std.proofs.Common.{◌≡◌, ℕ, suc, ◌+◌, ◌-◌, sym, ap, ◌∙◌, arith}
use Rattle.table_file.specs.TableReading.{sum_at}
use Rattle.table_file.proofs.StepLemmas.{plus, plus-none, sum_goes_on, sum_stops, sum_is_whole}
use Rattle.table_file.proofs.fields.sum_of.Goals as goal

pub counts-init : goal.counts-init
counts-init c =
    let all : c.args.count ≡ c.args.count - 0 = omega arith in
    record {
      so_far = sym (plus-none (sum_at c.args.count c.args.counts.now)) ∙ ap (λ (n : ℕ). plus 0 (sum_at n c.args.counts.now)) all;
      most = omega arith;
    }

pub counts-preserved : goal.counts-preserved
counts-preserved c =
    let step : c.args.count - c.counts.done ≡ suc (c.args.count - (c.counts.done + 1)) = omega (arith, c.counts-test.true) in
    record {
      so_far = sum_goes_on _ c.counts.sum _ c.counts.rest.now _ (c.counts.invariant.so_far ∙ ap (λ (n : ℕ). plus c.counts.sum (sum_at n c.counts.rest.now)) step) c.in-Ok.ensures;
      most = omega (arith, c.counts.invariant.most, c.counts-test.true);
    }

pub returns-in-Err : goal.returns-in-Err
returns-in-Err c =
    let step : c.args.count - c.counts.done ≡ suc (c.args.count - (c.counts.done + 1)) = omega (arith, c.counts-test.true) in
    sum_stops _ c.counts.sum _ c.counts.rest.now _ (c.counts.invariant.so_far ∙ ap (λ (n : ℕ). plus c.counts.sum (sum_at n c.counts.rest.now)) step) c.in-Err.ensures

pub returns : goal.returns
returns c =
    let none : c.args.count - c.counts.done ≡ 0 = omega (arith, c.counts-test.false) in
    sum_is_whole _ c.counts.sum c.counts.rest.now (c.counts.invariant.so_far ∙ ap (λ (n : ℕ). plus c.counts.sum (sum_at n c.counts.rest.now)) none)
