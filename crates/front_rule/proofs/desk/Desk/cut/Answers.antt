use Rattle.std.proofs.Common.{◌<◌, ap, sym, ◌∙◌, arith}
use Rattle.front_rule.proofs.RuleLemmas.{Splits-last}
use Rattle.front_rule.proofs.desk.Desk.cut.Goals as goal

pub split_seat-requires : goal.split_seat-requires
split_seat-requires g c =
    let here = ap (λ t. t.shared.table_id) c.deref.ensures ∙ c.args.self.now.table_is in
    let key = ap (λ t. t.shared.key.first) c.deref.ensures ∙ c.args.self.now.first_is in
    let words : 0 < c.deref.result.now.shared.table_id.words = omega (arith, ap (λ t. t.words) here, c.args.self.now.one_word) in (
      c.requires.0 ∙ sym here,
      words,
      Splits-last g.K.StoreName.first _ _ c.args.seat.now.me.0 key,
    )
