-- The counts of calls that go on where a signal interrupts them. The lemmas to know are `interrupted-more` and
-- `interrupted-kept`.
use Rattle.std.proofs.Common.{◌≡◌, ℕ, ◌+◌, refl, ap, ◌∙◌, arith}
use Rattle.link_model.specs.declared.attempts.CallCounts.{CallCounts}
use Rattle.link_model.specs.declared.attempts.CallError.{CallError}
use Rattle.link_model.specs.declared.attempts.CallError.TheVariants.{Interrupted, Failed}
use Rattle.link_model.specs.Attempts.{IsCountedAs, WereInterrupted}

-- no call yet
pub interrupted-none : (a : CallCounts) → WereInterrupted 0 a a
interrupted-none a = record { later = omega arith; counted = omega arith; kept = refl }

-- a call that succeeded counts nothing
pub interrupted-kept : (n : ℕ) (a b c : CallCounts) → WereInterrupted n a b → c ≡ b → WereInterrupted n a c
interrupted-kept n a b c h same = rw same h

-- one interrupt more
pub interrupted-more : (n : ℕ) (a b c : CallCounts) (error : CallError) → WereInterrupted n a b → error ≡ Interrupted
    → IsCountedAs b c error → WereInterrupted (n + 1) a c
interrupted-more n a b c Interrupted h is (more, rose) =
    let interrupts = ap (λ (t : CallCounts). t.interrupts) more in
    record {
      later = omega (arith, h.later, rose);
      counted = omega (arith, h.later, h.counted, interrupts, rose);
      kept = ap (λ (t : CallCounts). t.failures) more ∙ h.kept;
    }
interrupted-more n a b c Failed h is counted = absurd cc
