use Rattle.std.proofs.Common.{map, Vec}
use Rattle.partition_merge.proofs.KeptLemmas.{kept-pieces}
use Rattle.partition_merge.proofs.carrying.carry_out.Goals as goal

pub returns-clause-kept : goal.returns-clause-kept
returns-clause-kept g c =
    kept-pieces (λ (pieces : Vec _ _). pieces.items) c.args.decision c.args.part.now.low (map g.T.Runs.run c.args.part.now.runs) c.args.new.now c.carry_alone.result c.carry_alone.ensures.rises c.carry_alone.ensures.pieces
