use Rattle.table_file.proofs.PackLemmas.{built_bytes, built_table}
use Rattle.table_file.proofs.builder.TableBuilder.build.Goals as goal

pub returns-clause-bytes : goal.returns-clause-bytes
returns-clause-bytes c = built_bytes c.args.run.now c.as_slice-pairs.result.now c.in_ok-units.field-0.units.items c.in_ok-units.field-0.counts.items c.as_slice.result.now c.finished.result c.requires c.as_slice-pairs.ensures.pairs c.as_slice-pairs.ensures.rises c.in_ok-units.ensures.units c.in_ok-units.ensures.counts c.in_ok-units.ensures.within c.as_slice.ensures.value c.finished.ensures.spelled c.finished.ensures.few c.finished.ensures.len

pub returns-clause-table : goal.returns-clause-table
returns-clause-table c = built_table c.args.run.now c.as_slice-pairs.result.now c.in_ok-units.field-0.units.items c.in_ok-units.field-0.counts.items c.as_slice.result.now c.finished.result c.requires c.as_slice-pairs.ensures.pairs c.as_slice-pairs.ensures.rises c.in_ok-units.ensures.units c.in_ok-units.ensures.counts c.in_ok-units.ensures.within c.as_slice.ensures.value c.finished.ensures.spelled c.finished.ensures.few c.finished.ensures.len
