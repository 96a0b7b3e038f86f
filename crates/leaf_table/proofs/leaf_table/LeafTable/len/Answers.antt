use Rattle.std.proofs.Common.{List, subst}
use Rattle.rdb_base.specs.Runs.{IsRun}
use Rattle.worm_leaf.specs.Leaves.{LeafState}
use Rattle.leaf_table.specs.Chains.{pairs_of}
use Rattle.leaf_table.proofs.CallLemmas.{IsRun-table}
use Rattle.leaf_table.proofs.leaf_table.LeafTable.len.Goals as goal

pub returns-clause-rises : goal.returns-clause-rises
returns-clause-rises c = subst (λ (chain : List LeafState). IsRun (pairs_of chain)) c.self.view_is (IsRun-table c.self.inside.leaves.items c.self.inside.order.items c.self.invariant.0.parts)
