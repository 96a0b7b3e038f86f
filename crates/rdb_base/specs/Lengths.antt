-- Which byte strings are keys and values, by their lengths.
use Rattle.std.specs.Prelude.{ℕ, ◌≤◌}
use Rattle.rdb_base.specs.declared.limits.TheConstants.{KEY_MAX, VALUE_MAX}

-- a key has 1 to KEY_MAX bytes
abbrev pub IsKeyLength : ℕ → Type 0
IsKeyLength n = (1 ≤ n) × (n ≤ KEY_MAX)

-- a value has at most VALUE_MAX bytes
abbrev pub IsValueLength : ℕ → Type 0
IsValueLength n = n ≤ VALUE_MAX
