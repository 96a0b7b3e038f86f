use Rattle.std.proofs.Common.{◌-◌, ◌≡◌, ◌≤◌, ◌<◌, ℕ, true, false, length, take}
use Rattle.std.specs.Prelude.{is_some}
use Rattle.rdb_base.specs.Halvings.{KeepsBound}
use Rattle.meta_trie.specs.Tables.{node_at}
use Rattle.meta_trie.proofs.finding.longest.Given as goal

abbrev pub invariant-halves : goal.invariant-halves
invariant-halves g l =
    record {
      ordered : l.low ≤ l.high;
      within : l.high ≤ length l.key;
      there : is_some (node_at l.table (take l.low l.key)) ≡ true;
      above : (n : ℕ) → l.high < n → n ≤ length l.key → is_some (node_at l.table (take n l.key)) ≡ false;
      rises : l.fn.steps ≤ l.steps;
      left : KeepsBound (length l.key) l.fn.steps l.steps (l.high - l.low);
    }

abbrev pub decreases-halves : goal.decreases-halves
decreases-halves g l = l.high - l.low
