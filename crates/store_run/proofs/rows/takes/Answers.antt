use Rattle.std.proofs.Common.{sym, ap, ◌∙◌}
use Rattle.rdb_base.specs.Maps.{changed}
use Rattle.rdb_base.specs.declared.change.Change.{Change}
use Rattle.store_run.specs.Rows.{rows_of}
use Rattle.store_run.proofs.RowLemmas.{changed-no_value}
use Rattle.store_run.proofs.rows.takes.Goals as goal

pub returns-in-Del : goal.returns-in-Del
returns-in-Del c none =
    ap (λ (change : Change). changed (rows_of c.args.rows.now) c.args.key.now change) c.in-Del.is
    ∙ changed-no_value (rows_of c.args.rows.now) c.args.key.now c.get.result c.get.ensures.rises c.get.ensures.value (sym c.is_some.ensures ∙ none)
