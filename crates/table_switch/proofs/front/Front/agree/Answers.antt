use Rattle.std.proofs.Common.{ap, subst, List}
use mathlib.Core.List.{IsPrefix}
use Rattle.meta_trie.specs.Tries.{Anchored}
use Rattle.table_switch.proofs.RollLemmas.{prefix-either}
use Rattle.table_switch.proofs.front.Front.agree.Goals as goal

pub returns : goal.returns
returns c =
    let both : List Anchored = c.learn.new.self.log in
    let mine : IsPrefix c.self.inside.seen.log both = subst (λ (l : List Anchored). IsPrefix l both) (ap (λ s. s.log) c.again-both.ensures) c.learn.ensures.2 in
    record { one = rw (← c.self.view_is, ← c.other.view_is) (prefix-either c.self.inside.seen.log c.other.inside.seen.log both mine c.learn.ensures.3) }
