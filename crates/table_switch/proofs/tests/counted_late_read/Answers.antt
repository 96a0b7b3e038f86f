use Rattle.table_switch.proofs.RisingLemmas.{keeps-step, self-next}
use Rattle.table_switch.proofs.tests.counted_late_read.Goals as goal

pub enter_as-requires : goal.enter_as-requires
enter_as-requires g c published views kept at = keeps-step _ _ published published views (self-next published kept.0) kept at
