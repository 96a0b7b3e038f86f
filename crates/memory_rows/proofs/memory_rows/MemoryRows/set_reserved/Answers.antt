use Rattle.std.proofs.Common.{◌≡◌, List, ap, ◌∙◌}
use Rattle.rdb_base.specs.Levels.{over, with_pair}
use Rattle.rdb_base.specs.declared.pair.Pair.{Pair}
use Rattle.rdb_base.proofs.LevelLemmas.{over-with_pair}
use Rattle.leaf_table.specs.Chains.{pairs_of}
use Rattle.memory_rows.specs.Memories.{MemoryState, level}
use Rattle.memory_rows.proofs.memory_rows.MemoryRows.set_reserved.Goals as goal

pub returns-clause-set : goal.returns-clause-set
returns-clause-set c =
    ap (λ (newer : List Pair). over newer c.self.inside.older) c.set_in.ensures
    ∙ over-with_pair (pairs_of c.self.inside.table) c.self.inside.older c.args.pair c.self.invariant
    ∙ ap (λ (m : MemoryState). with_pair (level m) c.args.pair) c.self.view_is
