use Rattle.block_code.specs.declared.format.TheConstants.{FIRST_LIMITS}
use Rattle.block_code.proofs.CheckLemmas.{first_held}
use Rattle.table_file.proofs.AgainLemmas.{one_run}
use Rattle.table_file.proofs.builder.TableBuilder.table.Goals as goal

pub returns-clause-run : goal.returns-clause-run
returns-clause-run c = one_run FIRST_LIMITS _ c.args.run.now c.in_ok-bytes.bytes.items first_held c.in_ok-table.ensures.run c.in_ok-bytes.ensures.table
