use Rattle.std.proofs.Common.{◌≡◌, ℕ, suc, ◌+◌, ◌-◌, ◌++◌, ◌∷◌, [], List, sym, ap, ◌∙◌, arith}
use Rattle.std.proofs.lemmas.List.{append-nil}
use Rattle.edition_code.specs.declared.run_field.RunField.{RunField}
use Rattle.edition_code.specs.Editions.{run_numbers}
use Rattle.edition_code.specs.Reading.{run_at, runs_at}
use Rattle.edition_code.proofs.ReadLemmas.{after, after-none, runs-next, runs-stop, runs-end, fails-so, run_numbers-pushed}
use Rattle.edition_code.proofs.files.runs.Goals as goal

pub runs-init : goal.runs-init
runs-init c =
    let all : c.args.count ≡ c.args.count - 0 = omega arith in
    record {
      so_far = sym (after-none (runs_at c.args.count c.args.next c.args.seen.now c.args.bytes.now))
          ∙ ap (λ (n : ℕ). after [] (runs_at n c.args.next c.args.seen.now c.args.bytes.now)) all
          ∙ ap (λ (l : List RunField). after l (runs_at (c.args.count - 0) c.args.next c.args.seen.now c.args.bytes.now)) (sym c.in_ok-runs.ensures.items);
      seen = sym (append-nil c.args.seen.now) ∙ ap (λ (l : List RunField). c.args.seen.now ++ run_numbers l) (sym c.in_ok-runs.ensures.items);
    }

pub runs-preserved : goal.runs-preserved
runs-preserved c =
    let step : c.args.count - c.runs.done ≡ suc (c.args.count - (c.runs.done + 1)) = omega (arith, c.runs-test.true) in
    record {
      so_far = rw (c.in-Ok-push.ensures.items, c.in-Ok.ensures.seen) (c.runs.invariant.so_far ∙ ap (λ (n : ℕ). after c.runs.runs.items (runs_at n c.args.next c.runs.seen c.runs.rest.now)) step
          ∙ runs-next c.runs.runs.items (c.args.count - (c.runs.done + 1)) c.args.next c.runs.seen c.runs.rest.now c.in-Ok.one c.in-Ok.more.now c.in-Ok.ensures.exact);
      seen = c.in-Ok.ensures.seen ∙ ap (λ (l : List ℕ). l ++ c.in-Ok.one.number ∷ []) c.runs.invariant.seen ∙ run_numbers-pushed c.args.seen.now c.runs.runs.items c.in-Ok.one
          ∙ ap (λ (l : List RunField). c.args.seen.now ++ run_numbers l) (sym c.in-Ok-push.ensures.items);
    }

pub returns-in-Err-clause-exact : goal.returns-in-Err-clause-exact
returns-in-Err-clause-exact c =
    let step : c.args.count - c.runs.done ≡ suc (c.args.count - (c.runs.done + 1)) = omega (arith, c.runs-test.true) in
    fails-so c.in-Err.error (run_at c.args.next c.runs.seen c.runs.rest.now) _
    (λ left e. c.runs.invariant.so_far ∙ ap (λ (n : ℕ). after c.runs.runs.items (runs_at n c.args.next c.runs.seen c.runs.rest.now)) step
    ∙ runs-stop c.runs.runs.items (c.args.count - (c.runs.done + 1)) c.args.next c.runs.seen c.runs.rest.now left e)
    c.in-Err.ensures.exact

pub returns-clause-exact : goal.returns-clause-exact
returns-clause-exact c =
    let none : c.args.count - c.runs.done ≡ 0 = omega (arith, c.runs-test.false) in
    c.runs.invariant.so_far ∙ ap (λ (n : ℕ). after c.runs.runs.items (runs_at n c.args.next c.runs.seen c.runs.rest.now)) none ∙ runs-end c.runs.runs.items c.args.next c.runs.seen c.runs.rest.now
