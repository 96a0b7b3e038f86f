use Rattle.std.proofs.Common.{rules, ◌≡◌, sym, ap, subst, ◌∙◌}
use Rattle.sha2.specs.Sha256.{sha256}
use Rattle.block_code.specs.declared.format.TheConstants.{FIRST_LIMITS}
use Rattle.table_file.specs.Answers.{IsNoTable}
use Rattle.table_file.specs.TableReading.{first_wrong}
use Rattle.table_file.proofs.table.Table.open.Goals as goal

pub returns-in-Some : goal.returns-in-Some
returns-in-Some c =
    let same : sha256 c.args.bytes.items ≡ c.args.digest.now = search rules in
    (same, sym (c.in-Some.ensures.exact ∙ ap (first_wrong FIRST_LIMITS) c.as_slice-2.ensures.value), subst IsNoTable c.as_slice-2.ensures.value c.in-Some.ensures.none)
