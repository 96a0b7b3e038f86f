use Rattle.std.proofs.Common.{◌≡◌, ℕ, List, drop, sym, ap, ◌∙◌, arith}
use Rattle.std.specs.Prelude.{Some}
use Rattle.std.specs.Int.{w16}
use Rattle.rdb_base.specs.PairFields.{number_at, pair_at, lent_change}
use Rattle.rdb_base.specs.declared.change.Change.{Change}
use Rattle.block_code.specs.declared.format.TheConstants.{FIRST_LIMITS}
use Rattle.block_code.proofs.StepLemmas.{given-ok, given_is}
use Rattle.block_code.proofs.LentLemmas.{find_pair}
use Rattle.block_code.proofs.lent.lent_pair.Goals as goal

pub unwrap-offset-requires : goal.unwrap-offset-requires
unwrap-offset-requires c =
    let there = find_pair c.args.block.now c.args.index (λ i. omega (arith, c.type_inv.block i)) c.requires in
    given-ok (λ x. (x.0, x.1.now)) c.u16_at.result _ _ (ap (number_at w16) c.after.ensures ∙ there.offset.1) c.u16_at.ensures

pub unwrap-requires : goal.unwrap-requires
unwrap-requires c =
    let there = find_pair c.args.block.now c.args.index (λ i. omega (arith, c.type_inv.block i)) c.requires in
    let found = given_is (λ x. (x.0, x.1.now)) c.u16_at.result c.unwrap-offset.result _ _ c.unwrap-offset.ensures (ap (number_at w16) c.after.ensures ∙ there.offset.1) c.u16_at.ensures in
    let from : c.after-2.result.now ≡ drop there.start c.args.block.now = c.after-2.ensures ∙ ap (λ (x : ℕ × List ℕ). drop x.0 c.args.block.now) found in
    given-ok (λ x. ((x.0.key.now, lent_change x.0.change), x.1.now)) c.read_pair.result _ _ (ap (pair_at FIRST_LIMITS.key_max FIRST_LIMITS.value_max) from ∙ there.pair.3) c.read_pair.ensures

pub returns : goal.returns
returns c =
    let there = find_pair c.args.block.now c.args.index (λ i. omega (arith, c.type_inv.block i)) c.requires in
    let found = given_is (λ x. (x.0, x.1.now)) c.u16_at.result c.unwrap-offset.result _ _ c.unwrap-offset.ensures (ap (number_at w16) c.after.ensures ∙ there.offset.1) c.u16_at.ensures in
    let from : c.after-2.result.now ≡ drop there.start c.args.block.now = c.after-2.ensures ∙ ap (λ (x : ℕ × List ℕ). drop x.0 c.args.block.now) found in
    let is = given_is (λ x. ((x.0.key.now, lent_change x.0.change), x.1.now)) c.read_pair.result c.unwrap.result _ _ c.unwrap.ensures (ap (pair_at FIRST_LIMITS.key_max FIRST_LIMITS.value_max) from ∙ there.pair.3) c.read_pair.ensures in
    there.pair.2 ∙ ap (λ (x : (List ℕ × Change) × List ℕ). Some (record { key = x.0.0; change = x.0.1 })) (sym is)
