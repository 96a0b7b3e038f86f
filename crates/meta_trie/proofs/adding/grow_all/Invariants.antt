use Rattle.std.proofs.Common.{◌≡◌, ◌≤◌, ◌<◌, ℕ, List, take}
use Rattle.meta_trie.specs.Growths.{GrownAt}
use Rattle.meta_trie.specs.Leaves.{all_of}
use Rattle.meta_trie.specs.Tables.{node_at, count_of, room_of}
use Rattle.meta_trie.proofs.adding.grow_all.Given as goal

abbrev pub invariant-fronts : goal.invariant-fronts
invariant-fronts l =
    record {
      grown : (n : ℕ) → n < l.n → GrownAt (all_of l.leaves) l.anchor n l.table;
      others : (p : List ℕ) → ((n : ℕ) → n < l.n → p ≡ take n l.anchor → ⊥) → node_at l.table p ≡ node_at l.initial.table p;
      count : count_of l.table ≡ count_of l.initial.table;
      room : room_of l.initial.table ≤ room_of l.table;
    }
