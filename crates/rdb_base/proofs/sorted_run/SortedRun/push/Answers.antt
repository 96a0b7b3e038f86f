use Rattle.rdb_base.proofs.SizeLemmas.{run-pushed}
use Rattle.rdb_base.proofs.sorted_run.SortedRun.push.Goals as goal

pub invariant_of-self-2 : goal.invariant_of-self-2
invariant_of-self-2 c =
    run-pushed c.self.inside.pairs.items c.push.new.self.items c.args.pair c.self.inside.size c.size-more.result
    c.in_ok-push.ensures.items c.self.invariant.0 c.self.invariant.1 c.self.invariant.2
    (rw c.self.view_is c.requires.above) c.size-more.ensures.size c.size-more.ensures.most
