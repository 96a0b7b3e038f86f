use Rattle.std.proofs.Common.{arith, rules}
use Rattle.host_model.proofs.LendingLemmas.{within-more}
use Rattle.host_model.proofs.lending.Lending.take_back.Goals as goal

pub invariant_of-self-clause-within : goal.invariant_of-self-clause-within
invariant_of-self-clause-within g c = within-more c.args.self.now.faults _ c.args.self.now.counts c.args.counts c.requires.risen c.rise_between.ensures.fit (search rules) (omega (arith, c.rise_by.ensures.risen, c.rise_between.ensures.rise))
