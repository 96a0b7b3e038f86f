use Rattle.std.proofs.Common.{◌≡◌, ◌<◌, ◌≤◌, ◌+◌, ◌-◌, ◌*◌, ℕ, false}
use Rattle.meta_trie.specs.Nodes.{has_next}
use Rattle.meta_trie.proofs.next_bytes.NextBytes.at_most.Given as goal

abbrev pub invariant-words : goal.invariant-words
invariant-words l =
    record {
      word : l.word < 4;
      from : l.from < 64;
      upto : l.word * 64 + (63 - l.from) ≤ l.most;
      above : (c : ℕ) → l.word * 64 + (63 - l.from) < c → c ≤ l.most → has_next l.self c ≡ false;
    }

abbrev pub decreases-words : goal.decreases-words
decreases-words l = l.word
