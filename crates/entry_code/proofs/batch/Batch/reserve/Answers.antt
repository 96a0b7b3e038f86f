use Rattle.std.proofs.Common.{◌∙◌, ap, arith}
use Rattle.entry_code.proofs.BatchLemmas.{batch_headed}
use Rattle.entry_code.proofs.batch.Batch.reserve.Goals as goal

pub invariant_of-self-then-len-lt-ENTRIES_HEAD : goal.invariant_of-self-then-len-lt-ENTRIES_HEAD
invariant_of-self-then-len-lt-ENTRIES_HEAD c = batch_headed c.self.inside.bytes.items _ _ _ _ _ (omega (arith, c.if-len-lt-ENTRIES_HEAD.true, c.len.ensures)) c.make_head.ensures.len (ap (λ b. b.lent) c.self.view_is ∙ c.requires.here) c.self.invariant
