use Rattle.std.proofs.Common.{◌≡◌, map}
use Rattle.meta_trie.specs.Growths.{fronts_of}
use Rattle.meta_trie.proofs.preparing.prefixes_of.Given as goal

abbrev pub invariant-fronts : goal.invariant-fronts
invariant-fronts l = map (λ v. v.items) l.prefixes.items ≡ fronts_of l.anchor l.len l.n
