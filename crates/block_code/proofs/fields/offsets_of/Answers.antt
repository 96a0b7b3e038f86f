use Rattle.std.proofs.Common.{◌≡◌, ℕ, suc, ◌+◌, ◌-◌, ap, ◌∙◌, arith}
use Rattle.block_code.specs.Reading.{offsets_at}
use Rattle.block_code.proofs.StepLemmas.{offsets-next, offsets-past, offsets-stop, offsets-end, pair_shorter, gives_so}
use Rattle.block_code.proofs.fields.offsets_of.Goals as goal

pub overflow_sub-place : goal.overflow_sub-place
overflow_sub-place c = pair_shorter c.args.limits c.offsets.next.now _ c.in-Ok-read_pair.ensures

pub offsets-preserved : goal.offsets-preserved
offsets-preserved c =
    let step : c.args.count - c.offsets.done ≡ suc (c.args.count - (c.offsets.done + 1)) = omega (arith, c.offsets-test.true) in
    let shorter = pair_shorter c.args.limits c.offsets.next.now _ c.in-Ok-read_pair.ensures in
    record {
      so_far = c.offsets.invariant.so_far ∙ ap (λ (n : ℕ). offsets_at c.args.limits n c.offsets.place c.offsets.rest.now c.offsets.next.now) step
          ∙ offsets-next c.args.limits _ c.offsets.place c.offsets.rest.now c.offsets.next.now _ _ c.in-Ok.ensures c.in-Ok-read_pair.ensures;
      inside = omega (arith, shorter, c.offsets.invariant.inside);
    }

pub returns-in-Err : goal.returns-in-Err
returns-in-Err c =
    let step : c.args.count - c.offsets.done ≡ suc (c.args.count - (c.offsets.done + 1)) = omega (arith, c.offsets-test.true) in
    c.offsets.invariant.so_far ∙ ap (λ (n : ℕ). offsets_at c.args.limits n c.offsets.place c.offsets.rest.now c.offsets.next.now) step
    ∙ offsets-stop c.args.limits _ c.offsets.place c.offsets.rest.now c.offsets.next.now _ c.in-Err.ensures

pub returns-in-Err-read_pair : goal.returns-in-Err-read_pair
returns-in-Err-read_pair c =
    let step : c.args.count - c.offsets.done ≡ suc ((c.args.count - c.offsets.done) - 1) = omega (arith, c.offsets-test.true) in
    gives_so (λ x. x.now) c.numbers_of.result _ _
    (c.offsets.invariant.so_far ∙ ap (λ (n : ℕ). offsets_at c.args.limits n c.offsets.place c.offsets.rest.now c.offsets.next.now) step
    ∙ offsets-past c.args.limits _ c.offsets.place c.offsets.rest.now c.offsets.next.now _ _ c.in-Ok.ensures c.in-Err-read_pair.ensures)
    c.numbers_of.ensures

pub returns : goal.returns
returns c =
    let none : c.args.count - c.offsets.done ≡ 0 = omega (arith, c.offsets-test.false) in
    c.offsets.invariant.so_far ∙ ap (λ (n : ℕ). offsets_at c.args.limits n c.offsets.place c.offsets.rest.now c.offsets.next.now) none
    ∙ offsets-end c.args.limits c.offsets.place c.offsets.rest.now c.offsets.next.now
