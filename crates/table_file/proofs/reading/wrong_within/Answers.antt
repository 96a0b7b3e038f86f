use Rattle.table_file.specs.TableReading.{table_fields}
use Rattle.table_file.proofs.StepLemmas.{placed-none, placed-some}
use Rattle.table_file.proofs.reading.wrong_within.Goals as goal

pub returns-in-Ok : goal.returns-in-Ok
returns-in-Ok c = placed-none c.args.bytes.now (table_fields c.args.limits c.args.bytes.now) c.in-Ok.ensures

pub returns-in-Err : goal.returns-in-Err
returns-in-Err c = placed-some c.args.bytes.now _ _ (table_fields c.args.limits c.args.bytes.now) c.in-Err.ensures c.place.ensures
