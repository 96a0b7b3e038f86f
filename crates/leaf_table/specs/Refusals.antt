-- A trie's refusal as the refusal of a split.
use Rattle.std.specs.Prelude.{◌≡◌}
use Rattle.meta_trie.specs.declared.trie_error.TrieError.{TrieError}
use Rattle.meta_trie.specs.declared.trie_error.TrieError.TheVariants as tries
use Rattle.leaf_table.specs.declared.split_error.SplitError.{SplitError}
use Rattle.leaf_table.specs.declared.split_error.SplitError.TheVariants.{Full, Memory}

-- the table is full, or out of memory as before
abbrev pub IsSplitErrorOf : TrieError → SplitError → Type 0
IsSplitErrorOf (tries.TrieFull nodes) error = error ≡ Full
IsSplitErrorOf tries.Memory error = error ≡ Memory
