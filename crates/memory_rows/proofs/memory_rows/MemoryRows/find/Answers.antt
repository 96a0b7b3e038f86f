use Rattle.std.proofs.Common.{◌≡◌, sym, ap, subst, ◌∙◌}
use Rattle.rdb_base.specs.Runs.{IsRun, change_at}
use Rattle.rdb_base.proofs.ChangeLemmas.{change_at-over}
use Rattle.rdb_base.proofs.RunLemmas.{IsRun-over}
use Rattle.leaf_table.specs.Chains.{pairs_of}
use Rattle.memory_rows.specs.Memories.{MemoryState, level}
use Rattle.memory_rows.proofs.memory_rows.MemoryRows.find.Goals as goal

pub returns-clause-change : goal.returns-clause-change
returns-clause-change c =
    c.find_in.ensures ∙ sym (change_at-over (pairs_of c.self.inside.table) c.self.inside.older c.args.key.now)
    ∙ ap (λ (m : MemoryState). change_at (level m) c.args.key.now) c.self.view_is

pub returns-clause-rises : goal.returns-clause-rises
returns-clause-rises c = subst (λ (m : MemoryState). IsRun (level m)) c.self.view_is (IsRun-over (pairs_of c.self.inside.table) c.self.inside.older c.self.invariant)
