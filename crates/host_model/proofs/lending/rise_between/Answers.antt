use Rattle.std.proofs.Common.{◌≡◌, ◌^◌, ◌+◌, ◌-◌, min, take, get_or, rules, arith}
use Rattle.host_model.specs.Lent.{rise_of}
use Rattle.host_model.proofs.LendingLemmas.{none_fell-at, rise_of-next, rise_of-all, all_fit}
use Rattle.host_model.proofs.lending.rise_between.Goals as goal

pub overflow_sub-latest : goal.overflow_sub-latest
overflow_sub-latest c = omega (arith, none_fell-at c.args.before.now c.args.now.now c.counts.i c.requires, c.count_at.ensures)

pub counts-preserved : goal.counts-preserved
counts-preserved c =
    let before = c.args.before.now in
    let now = c.args.now.now in
    let next : rise_of (take (c.counts.i + 1) before) (take (c.counts.i + 1) now) ≡ rise_of (take c.counts.i before) (take c.counts.i now) + (get_or now c.counts.i 0 - get_or before c.counts.i 0) = rise_of-next before now c.counts.i (search rules) in
    let rise : c.saturating_add-rise.result ≡ min (rise_of (take (c.counts.i + 1) before) (take (c.counts.i + 1) now)) (2 ^ 64 - 1) = omega (arith, c.counts.invariant, c.saturating_add-rise.ensures, c.count_at.ensures, next) in
    rise

pub returns-clause-rise : goal.returns-clause-rise
returns-clause-rise c = omega (arith, c.counts.invariant, rise_of-all c.args.before.now c.args.now.now c.counts.i c.requires c.counts-test.false)

pub returns-clause-fit : goal.returns-clause-fit
returns-clause-fit c = all_fit c.args.now.now (λ i. omega (arith, c.type_inv.now i))
