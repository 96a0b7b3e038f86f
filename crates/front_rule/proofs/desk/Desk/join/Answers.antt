use Rattle.std.proofs.Common.{◌<◌, ap, sym, ◌∙◌, arith}
use Rattle.front_rule.proofs.RuleLemmas.{Joins-append}
use Rattle.front_rule.proofs.desk.Desk.join.Goals as goal

pub join_seat-requires : goal.join_seat-requires
join_seat-requires g c =
    let here = ap (λ t. t.shared.table_id) c.deref.ensures ∙ c.args.self.now.table_is in
    let key = ap (λ t. t.shared.key.first) c.deref.ensures ∙ c.args.self.now.first_is in
    let words : 0 < c.deref.result.now.shared.table_id.words = omega (arith, ap (λ t. t.words) here, c.args.self.now.one_word) in (
      c.requires.seat.0 ∙ sym here,
      c.into_seat-other.ensures.0 ∙ ap (λ b. b.table_id) c.replace.ensures.value ∙ c.requires.badge.0 ∙ sym here,
      c.into_seat-other.ensures.3,
      words,
      Joins-append g.K.StoreName.first _ _ c.args.seat.now.me.0 _ _ key,
    )
