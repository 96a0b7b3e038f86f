use Rattle.std.proofs.Common.{◌≡◌, ◌∙◌, ap, subst, take, drop, ℕ}
use Rattle.std.specs.Prelude.{Option}
use Rattle.meta_trie.specs.Growths.{first_of, Begun}
use Rattle.meta_trie.proofs.FrontLemmas.{set-here}
use Rattle.meta_trie.proofs.adding.begin_at.Goals as goal

pub returns-clause-begun : goal.returns-clause-begun
returns-clause-begun c =
    let anchor = c.args.anchor.now in
    let next : c.first_byte.result ≡ first_of (drop c.args.len anchor) = c.first_byte.ensures ∙ ap first_of c.split_at.ensures.back in (
      c.begin-node.result,
      set-here c.args.table.now c.insert.new.self c.args.prefix.items (take c.args.len anchor) c.begin-node.result c.insert.ensures.set c.requires.made,
      subst (λ (o : Option ℕ). Begun c.args.place o c.begin-node.result) next c.begin-node.ensures,
    )
