use Rattle.std.proofs.Common.{ℕ, List, ap, ◌∙◌, length, arith}
use Rattle.rdb_base.specs.PairFields.{pair_at, lent_change}
use Rattle.rdb_base.specs.declared.change.Change.{Change}
use Rattle.block_code.specs.declared.format.TheConstants.{FIRST_LIMITS}
use Rattle.block_code.proofs.StepLemmas.{given_is}
use Rattle.table_file.specs.Held.{pair_there}
use Rattle.table_file.proofs.HeldLemmas.{ok_of, size_there}
use Rattle.table_file.proofs.held.size_in.Goals as goal

pub overflow_sub-result : goal.overflow_sub-result
overflow_sub-result c =
    let there = ok_of (pair_there c.args.bytes.now c.args.start) c.requires in
    let is = given_is (λ x. ((x.0.key.now, lent_change x.0.change), x.1.now)) c.read_pair.result c.unwrap.result _ _ c.unwrap.ensures (ap (pair_at FIRST_LIMITS.key_max FIRST_LIMITS.value_max) c.after-field.ensures ∙ there.1) c.read_pair.ensures in
    omega (arith, (size_there c.args.bytes.now c.args.start there.0 (λ i. omega (arith, c.type_inv.bytes i)) there.1).1, ap (λ (x : (List ℕ × Change) × List ℕ). length x.1) is, ap (λ (l : List ℕ). length l) c.after-field.ensures)

pub returns-clause-size : goal.returns-clause-size
returns-clause-size c =
    let there = ok_of (pair_there c.args.bytes.now c.args.start) c.requires in
    let is = given_is (λ x. ((x.0.key.now, lent_change x.0.change), x.1.now)) c.read_pair.result c.unwrap.result _ _ c.unwrap.ensures (ap (pair_at FIRST_LIMITS.key_max FIRST_LIMITS.value_max) c.after-field.ensures ∙ there.1) c.read_pair.ensures in
    omega (arith, (size_there c.args.bytes.now c.args.start there.0 (λ i. omega (arith, c.type_inv.bytes i)) there.1).0, ap (λ (x : (List ℕ × Change) × List ℕ). length x.1) is, ap (λ (l : List ℕ). length l) c.after-field.ensures)
