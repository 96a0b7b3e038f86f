use Rattle.std.proofs.Common.{arith}
use Rattle.edition_code.proofs.NumberLemmas.{kept-mark, kept-insert}
use Rattle.edition_code.proofs.file_numbers.FileNumbers.add.Goals as goal

pub invariant_of-self-then-number-self : goal.invariant_of-self-then-number-self
invariant_of-self-then-number-self c =
    rw c.push.ensures (kept-mark c.self.inside.most c.self.inside.marks.items c.mark.new.marks.items c.self.inside.others c.self.inside.told c.args.number (omega (arith, c.if-number-self.true)) c.self.invariant c.in_ok-new.ensures.marked)

pub invariant_of-self-2 : goal.invariant_of-self-2
invariant_of-self-2 c =
    rw c.push-2.ensures (kept-insert c.self.inside.most c.self.inside.marks.items c.self.inside.others c.insert.new.self c.self.inside.told c.args.number (omega (arith, c.if-number-self.false)) c.self.invariant c.in-Ok.ensures.updates.0)
