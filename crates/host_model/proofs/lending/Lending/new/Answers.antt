use Rattle.std.proofs.Common.{[], arith}
use Rattle.host_model.proofs.LendingLemmas.{within-more}
use Rattle.host_model.proofs.lending.Lending.new.Goals as goal

pub invariant_of-result-clause-within : goal.invariant_of-result-clause-within
invariant_of-result-clause-within g c = within-more 0 _ [] c.args.counts tt c.rise_between.ensures.fit tt (omega (arith, c.rise_by.ensures.risen, c.rise_between.ensures.rise))
