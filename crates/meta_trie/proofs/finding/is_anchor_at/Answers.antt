use Rattle.std.proofs.Common.{◌≡◌, sym, ◌∙◌}
use Rattle.meta_trie.specs.Leaves.{all_of}
use Rattle.meta_trie.proofs.FrontLemmas.{pick-anchor}
use Rattle.meta_trie.proofs.LookupLemmas.{list_same, list_itself}
use Rattle.meta_trie.proofs.PresenceLemmas.{best-new}
use Rattle.meta_trie.proofs.finding.is_anchor_at.Goals as goal

pub returns-clause-there : goal.returns-clause-there
returns-clause-there c =
    let best = c.requires.best in
    λ yes. (
      c.args.at,
      best.0,
      best.1.pick,
      pick-anchor c.args.leaves.now c.args.at c.index-leaves-at.result best.0 best.1.pick ∙ sym c.as_slice.ensures.value
          ∙ list_same c.as_slice.result.now c.args.string.now (sym c.eq.ensures ∙ yes),
    )

pub returns-clause-new : goal.returns-clause-new
returns-clause-new c =
    let best = c.requires.best in
    λ no. best-new (all_of c.args.leaves.now) c.args.string.now c.args.at best.0 best.1 (λ same.
    let is : c.as_slice.result.now ≡ c.args.string.now = c.as_slice.ensures.value ∙ sym (pick-anchor c.args.leaves.now c.args.at c.index-leaves-at.result best.0 best.1.pick) ∙ same in
    cc (sym no ∙ c.eq.ensures, is, list_itself c.args.string.now))
