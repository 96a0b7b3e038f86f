use Rattle.table_file.proofs.AgainLemmas.{table_again, one_run}
use Rattle.table_file.proofs.TakenLemmas.{table_taken, wrong_where_no_table}
use Rattle.table_file.proofs.laws.tables_read_back.Goals as goal

pub returns-clause-table : goal.returns-clause-table
returns-clause-table c = table_again

pub returns-clause-spelled : goal.returns-clause-spelled
returns-clause-spelled c = table_taken

pub returns-clause-one : goal.returns-clause-one
returns-clause-one c = one_run

pub returns-clause-wrong : goal.returns-clause-wrong
returns-clause-wrong c = wrong_where_no_table
