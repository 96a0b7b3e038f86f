use Rattle.std.proofs.Common.{List, sym, subst}
use Rattle.rdb_base.specs.Runs.{IsRun}
use Rattle.worm_leaf.specs.Leaves.{LeafState}
use Rattle.leaf_table.specs.Chains.{pairs_of}
use Rattle.leaf_table.specs.Tables.{IsOnce}
use Rattle.leaf_table.proofs.CallLemmas.{once, IsRun-table}
use Rattle.leaf_table.proofs.leaf_table.LeafTable.move_into.Goals as goal

pub move_all-requires-clause-once : goal.move_all-requires-clause-once
move_all-requires-clause-once c = subst IsOnce (sym c.as_slice.ensures.value) (once c.self.inside.leaves.items c.self.inside.order.items c.self.invariant.0.parts)

pub returns-clause-rises : goal.returns-clause-rises
returns-clause-rises c = subst (λ (chain : List LeafState). IsRun (pairs_of chain)) c.self.view_is (IsRun-table c.self.inside.leaves.items c.self.inside.order.items c.self.invariant.0.parts)
