use Rattle.worm_core.proofs.PromiseLemmas.{answers-right}
use Rattle.worm_core.proofs.laws.answers_are_right.Goals as goal

pub returns : goal.returns
returns c = answers-right
