use Rattle.std.proofs.Common.{arith}
use Rattle.remix_view.proofs.RankLemmas.{rank_of_mask}
use Rattle.remix_view.proofs.selector.rank_before.Goals as goal

pub returns : goal.returns
returns c = rank_of_mask c.args.selectors.now c.args.run c.args.place c.named_by-named.result (omega arith) c.requires c.named_by-named.ensures
