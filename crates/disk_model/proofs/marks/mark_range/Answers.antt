-- What stands before the range, the range, and what stands after it.
use Rattle.std.proofs.Common.{rules}
use Rattle.disk_model.proofs.MarkLemmas.{marks-range}
use Rattle.disk_model.proofs.marks.mark_range.Goals as goal

pub returns : goal.returns
returns c = marks-range c.args.byte c.args.bytes.now c.split_at_mut-rest.result.0.now c.split_at_mut-rest.result.1.now c.split_at_mut-range.result.0.now c.split_at_mut-range.result.1.now c.fill.new.self c.args.at c.args.count
    c.split_at_mut-rest.ensures.value (search rules) c.split_at_mut-range.ensures.value (search rules) (search rules)
