use Rattle.std.proofs.Common.{◌≡◌, List, ◌++◌, sym, ap, subst, ◌∙◌}
use Rattle.rdb_base.specs.Runs.{IsRun}
use Rattle.rdb_base.specs.Levels.{over}
use Rattle.rdb_base.specs.declared.pair.Pair.{Pair}
use Rattle.rdb_base.proofs.RunLemmas.{IsRun-over}
use Rattle.memory_rows.proofs.memory_rows.MemoryRows.merge.Goals as goal

pub of-requires : goal.of-requires
of-requires c =
    let newer = c.move_into.new.run.items in
    let older = c.into_pairs-older.result.items in
    let rises : IsRun older = subst IsRun (sym c.into_pairs-older.ensures.pairs) c.into_pairs-older.ensures.rises in
    let all = c.merge_into.ensures ∙ ap (λ (pairs : List Pair). pairs ++ over newer older) c.in_ok-merged.ensures.items in
    record { rises = subst IsRun (sym all) (IsRun-over newer older rises) }
