use Rattle.std.proofs.Common.{List, subst, sym, ap, length, arith}
use Rattle.std.specs.List.{AllByRecursion}
use Rattle.edition_code.specs.declared.run_field.RunField.{RunField}
use Rattle.edition_code.specs.Laws.{IsRunHeld}
use Rattle.edition_code.proofs.WriteLemmas.{runs_go_on, runs_done}
use Rattle.edition_code.proofs.encoding.add_runs.Goals as goal

pub runs-preserved : goal.runs-preserved
runs-preserved c = record {
  so_far = runs_go_on c.runs.out.items c.add_run.new.out.items c.in-Some.one.now c.runs.rest.now c.in-Some.more.now _ c.in-Some.ensures.some c.add_run.ensures.items c.runs.invariant.so_far;
  held = λ h. c.runs.invariant.held (subst (λ (l : List RunField). AllByRecursion IsRunHeld l) (sym c.in-Some.ensures.some) (c.add_run.ensures.held, h));
  len = omega (arith, c.add_run.ensures.len, c.runs.invariant.len, ap (λ (l : List RunField). length l) c.in-Some.ensures.some);
  capacity = omega (arith, c.runs.invariant.capacity, c.add_run.ensures.capacity);
}

pub returns-clause-items : goal.returns-clause-items
returns-clause-items c = runs_done c.runs.out.items c.runs.rest.now _ (c.split.ensures.none c.in_default.is) c.runs.invariant.so_far

pub returns-clause-held : goal.returns-clause-held
returns-clause-held c = c.runs.invariant.held (subst (λ (l : List RunField). AllByRecursion IsRunHeld l) (sym (c.split.ensures.none c.in_default.is)) tt)

pub returns-clause-len : goal.returns-clause-len
returns-clause-len c = omega (arith, c.runs.invariant.len, ap (λ (l : List RunField). length l) (c.split.ensures.none c.in_default.is))
