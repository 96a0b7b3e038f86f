use Rattle.std.specs.Prelude.{◌≡◌}
use mathlib.Core.List.{IsPrefix}
use Rattle.table_switch.proofs.trie_reader.TrieReader.enter.Given as goal

abbrev pub invariant-tries : goal.invariant-tries
invariant-tries g l = IsPrefix l.fn.self.anchors l.self.anchors × (l.self.switch ≡ l.fn.self.switch) × (l.steps ≡ l.fn.steps)
