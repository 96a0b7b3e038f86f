use Rattle.std.proofs.Common.{◌≡◌, ◌<◌, inl, inr, sym, ap, ◌∙◌}
use Rattle.std.specs.Prelude.{is_some, length, not}
use Rattle.worm_leaf.specs.declared.limits.TheConstants.{LEAF_PAIRS_MAX}
use Rattle.rdb_base.specs.Runs.{change_at}
use Rattle.leaf_table.proofs.CallLemmas.{not-full, full-is, copied-some}
use Rattle.leaf_table.proofs.leaf_table.has_room_in.Goals as goal

pub returns-then-not-is_full : goal.returns-then-not-is_full
returns-then-not-is_full c =
    let few : length c.args.leaf.now.pairs < LEAF_PAIRS_MAX = not-full (length c.args.leaf.now.pairs) c.is_full.result c.is_full.ensures.answer c.if-not-is_full.true c.is_full.ensures.most in
    ((λ _. inl few), (λ _. ap not c.if-not-is_full.true))

pub returns-else-not-is_full : goal.returns-else-not-is_full
returns-else-not-is_full c =
    let here : c.is_some.result ≡ is_some (change_at c.args.leaf.now.pairs c.args.key.now) = c.is_some.ensures ∙ sym (copied-some c.find.result) ∙ ap is_some c.find.ensures in (
      (λ some. inr (sym here ∙ some)),
      (λ room. elim room [
        | inl few ↦ absurd (full-is (length c.args.leaf.now.pairs) c.is_full.result c.is_full.ensures.answer c.if-not-is_full.false few)
        | inr there ↦ here ∙ there
      ]),
    )
