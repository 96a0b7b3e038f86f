use Rattle.std.proofs.Common.{◌<◌, ap, sym, ◌∙◌, arith}
use Rattle.front_rule.proofs.RuleLemmas.{Allows-step}
use Rattle.front_rule.proofs.desk.Desk.step.Goals as goal

pub load-requires : goal.load-requires
load-requires g c =
    let here = ap (λ t. t.shared.table_id) c.deref.ensures ∙ c.args.self.now.table_is in
    let key = ap (λ t. t.shared.key.first) c.deref.ensures ∙ c.args.self.now.first_is in
    let words : 0 < c.deref.result.now.shared.table_id.words = omega (arith, ap (λ t. t.words) here, c.args.self.now.one_word) in (
      c.requires.seat.0 ∙ sym here,
      words,
      Allows-step g.K.StoreName.first _ _ _ c.args.seat.now.me (λ n. n) (g.X.Kind.tells g.K.StoreName.first) 0 0 key c.requires.seat.1
          (c.goes.ensures g.K.StoreName.first c.args.seat.now.me.0 c.requires.can),
    )
