use Rattle.std.proofs.Common.{◌+◌, ◌%◌, ◌^◌, ◌<◌, ap, sym, ◌∙◌, arith}
use Rattle.front_rule.specs.Steps.{Appends}
use Rattle.front_rule.proofs.RuleLemmas.{Allows-step}
use Rattle.front_rule.proofs.AppendLemmas.{Goes-append}
use Rattle.front_rule.proofs.desk.Desk.append.Goals as goal

pub fetch_add-requires : goal.fetch_add-requires
fetch_add-requires g c =
    let here = ap (λ t. t.shared.table_id) c.deref.ensures ∙ c.args.self.now.table_is in
    let key = ap (λ t. t.shared.key.first) c.deref.ensures ∙ c.args.self.now.first_is in
    let words : 0 < c.deref.result.now.shared.table_id.words = omega (arith, ap (λ t. t.words) here, c.args.self.now.one_word) in (
      c.requires.seat.0 ∙ sym here,
      words,
      Allows-step g.K.StoreName.first _ _ _ c.args.seat.now.me (λ n. (n + 1) % 2 ^ 64) (Appends g.K.StoreName.first g.E.TellsEntry.entry) 1 0 key c.requires.seat.1
          (Goes-append g.K.StoreName.first g.E.TellsEntry.entry c.args.seat.now.me.0 c.requires.can),
    )
