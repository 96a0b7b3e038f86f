use Rattle.std.proofs.Common.{◌≡◌, ℕ, suc, ◌+◌, ◌-◌, refl, ap, ◌∙◌, ◌∷◌, [], length, arith}
use Rattle.std.proofs.lemmas.List.{length-append}
use Rattle.entry_code.specs.Payloads.{entries_at}
use Rattle.entry_code.proofs.EntryLemmas.{after, after-next, after-end, fails-after, first_read, memory-so}
use Rattle.entry_code.proofs.decoding.entries_after.Goals as goal

pub loop-place-preserved : goal.loop-place-preserved
loop-place-preserved c =
    let step : c.args.count - c.loop-place.place ≡ suc (c.args.count - (c.loop-place.place + 1)) = omega (arith, c.loop-place-test.true) in
    record {
      so_far = rw c.in-Ok-push.ensures.items (c.loop-place.invariant.so_far ∙ ap (λ (n : ℕ). after c.loop-place.entries.items (entries_at n c.loop-place.rest.now)) step ∙ after-next c.loop-place.entries.items _ c.loop-place.rest.now _ _ c.in-Ok.ensures.exact);
      many = omega (arith, ap (λ l. length l) c.in-Ok-push.ensures.items, length-append c.loop-place.entries.items (c.in-Ok.entry ∷ []), c.loop-place.invariant.many);
      begins = λ none. absurd (omega (arith, none));
      first = λ some. first_read c.loop-place.place c.loop-place.rest.now c.args.bytes.now c.loop-place.invariant.begins c.loop-place.invariant.first (rw c.in-Ok.ensures.exact refl);
    }

pub returns-in-Err-clause-exact : goal.returns-in-Err-clause-exact
returns-in-Err-clause-exact c =
    let step : c.args.count - c.loop-place.place ≡ suc (c.args.count - (c.loop-place.place + 1)) = omega (arith, c.loop-place-test.true) in
    fails-after _ c.loop-place.entries.items _ c.loop-place.rest.now _ c.in-Err.ensures.exact (c.loop-place.invariant.so_far ∙ ap (λ (n : ℕ). after c.loop-place.entries.items (entries_at n c.loop-place.rest.now)) step)

pub returns-clause-exact : goal.returns-clause-exact
returns-clause-exact c =
    let none : c.args.count - c.loop-place.place ≡ 0 = omega (arith, c.loop-place-test.false) in
    c.loop-place.invariant.so_far ∙ ap (λ (n : ℕ). after c.loop-place.entries.items (entries_at n c.loop-place.rest.now)) none ∙ after-end c.loop-place.entries.items c.loop-place.rest.now

pub returns-in-Err-clause-memory : goal.returns-in-Err-clause-memory
returns-in-Err-clause-memory c =
    memory-so c.in-Err.error _ _ (first_read c.loop-place.place c.loop-place.rest.now c.args.bytes.now c.loop-place.invariant.begins c.loop-place.invariant.first) c.in-Err.ensures.memory
