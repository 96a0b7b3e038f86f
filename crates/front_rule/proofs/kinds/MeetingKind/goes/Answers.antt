use Rattle.front_rule.proofs.KeepLemmas.{Goes-meet}
use Rattle.front_rule.proofs.kinds.MeetingKind.goes.Goals as goal

pub returns : goal.returns
returns c = Goes-meet
