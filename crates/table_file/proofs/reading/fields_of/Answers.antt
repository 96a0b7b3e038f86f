use Rattle.std.proofs.Common.{rules, ◌≡◌, [], sym, ap, ◌∙◌}
use Rattle.std.specs.Prelude.{Some}
use Rattle.table_file.specs.Answers.{left_of}
use Rattle.table_file.specs.TableReading.{blocks_at, wrong_of}
use Rattle.table_file.proofs.StepLemmas.{table-short, table-footer, table-blocks}
use Rattle.table_file.proofs.reading.fields_of.Goals as goal

pub returns-then-bytes-lt-FOOTER_LEN : goal.returns-then-bytes-lt-FOOTER_LEN
returns-then-bytes-lt-FOOTER_LEN c = sym (ap wrong_of (table-short c.args.limits c.args.bytes.now c.if-bytes-lt-FOOTER_LEN.true))

pub returns-in_err-units : goal.returns-in_err-units
returns-in_err-units c =
    let handed : left_of c.from_residual.result ≡ Some c.in_err-units.field-0.0.left = search rules in
    handed ∙ sym (ap wrong_of (table-footer c.args.limits c.args.bytes.now _ c.if-bytes-lt-FOOTER_LEN.false c.in_err-units.ensures))

pub returns : goal.returns
returns c =
    c.all_blocks.ensures
    ∙ (λ i. wrong_of (blocks_at c.args.limits (c.after.ensures i) c.in_ok-units.units [] (c.front.ensures i) (c.after.ensures i)))
    ∙ sym (ap wrong_of (table-blocks c.args.limits c.args.bytes.now _ c.if-bytes-lt-FOOTER_LEN.false c.in_ok-units.ensures))
