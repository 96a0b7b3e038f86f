use Rattle.std.proofs.Common.{rules}
use Rattle.table_switch.proofs.WriterLemmas.{writer-made}
use Rattle.table_switch.proofs.switch.writer_of.Goals as goal

pub invariant_of-result : goal.invariant_of-result
invariant_of-result g c = writer-made _ c.open-roll.result _ _ _ (search rules) (search rules) (search rules) (search rules) (search rules)
