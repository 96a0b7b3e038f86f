use Rattle.std.proofs.Common.{ℕ, List, ap, ◌∙◌}
use Rattle.std.specs.Int.{w16}
use Rattle.rdb_base.specs.PairFields.{number_at, bytes_at}
use Rattle.block_code.proofs.StepLemmas.{given-ok, given_is}
use Rattle.table_file.proofs.HeldLemmas.{key_there}
use Rattle.table_file.proofs.held.key_in.Goals as goal

pub unwrap-len-requires : goal.unwrap-len-requires
unwrap-len-requires c =
    let there = key_there c.args.bytes.now c.args.start c.requires in
    given-ok (λ x. (x.0, x.1.now)) c.u16_at.result _ _ (ap (number_at w16) c.after.ensures ∙ there.number) c.u16_at.ensures

pub unwrap-requires : goal.unwrap-requires
unwrap-requires c =
    let there = key_there c.args.bytes.now c.args.start c.requires in
    let found = given_is (λ x. (x.0, x.1.now)) c.u16_at.result c.unwrap-len.result _ _ c.unwrap-len.ensures (ap (number_at w16) c.after.ensures ∙ there.number) c.u16_at.ensures in
    given-ok (λ x. (x.0.now, x.1.now)) c.slice_at.result _ _ (ap (λ (x : ℕ × List ℕ). bytes_at x.0 x.1) found ∙ there.key) c.slice_at.ensures

pub returns : goal.returns
returns c =
    let there = key_there c.args.bytes.now c.args.start c.requires in
    let found = given_is (λ x. (x.0, x.1.now)) c.u16_at.result c.unwrap-len.result _ _ c.unwrap-len.ensures (ap (number_at w16) c.after.ensures ∙ there.number) c.u16_at.ensures in
    let is = given_is (λ x. (x.0.now, x.1.now)) c.slice_at.result c.unwrap.result _ _ c.unwrap.ensures (ap (λ (x : ℕ × List ℕ). bytes_at x.0 x.1) found ∙ there.key) c.slice_at.ensures in
    ap (λ (x : List ℕ × List ℕ). x.0) is
