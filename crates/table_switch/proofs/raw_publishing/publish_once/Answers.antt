use Rattle.std.proofs.Common.{sym, subst}
use Rattle.table_switch.specs.Published.{CopyState, IsNext}
use Rattle.table_switch.proofs.RisingLemmas.{keeps-step}
use Rattle.table_switch.proofs.raw_publishing.publish_once.Goals as goal

pub publish_as-requires : goal.publish_as-requires
publish_as-requires g c next is views kept at =
    let now : CopyState = c.args.writer.desk.shown.value in
    keeps-step c.args.writer.desk.place.id _ now next views (subst (IsNext now) (sym is) c.requires.next) kept at
