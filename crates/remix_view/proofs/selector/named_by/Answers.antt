use Rattle.remix_view.proofs.RankLemmas.{mask_of_runs}
use Rattle.remix_view.proofs.selector.named_by.Goals as goal

pub returns : goal.returns
returns c = mask_of_runs c.args.selectors c.args.run c.requires
