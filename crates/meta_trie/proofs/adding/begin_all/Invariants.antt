use Rattle.std.proofs.Common.{◌≡◌, ◌≤◌, ◌<◌, ◌+◌, ◌-◌, ℕ, List, take, map, length}
use Rattle.meta_trie.specs.Growths.{BegunAt, fronts_of}
use Rattle.meta_trie.specs.Tables.{node_at, count_of, room_of}
use Rattle.meta_trie.proofs.adding.begin_all.Given as goal

abbrev pub invariant-fronts : goal.invariant-fronts
invariant-fronts l =
    record {
      within : l.len + l.left ≤ length l.anchor;
      made : map (λ v. v.items) l.prefixes.items ≡ fronts_of l.anchor l.len l.left;
      begun : (n : ℕ) → l.len + l.left < n → n ≤ length l.anchor → BegunAt l.anchor n l.place l.table;
      others : (p : List ℕ) → ((n : ℕ) → l.len + l.left < n → n ≤ length l.anchor → p ≡ take n l.anchor → ⊥) → node_at l.table p ≡ node_at l.initial.table p;
      count : count_of l.table + l.left ≡ count_of l.initial.table + (length l.anchor - l.len);
      room : l.left ≤ room_of l.table;
    }

abbrev pub decreases-fronts : goal.decreases-fronts
decreases-fronts l = l.left
