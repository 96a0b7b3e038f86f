-- What the making of a key or a value answers.
use Rattle.std.specs.Prelude.{◌≡◌, ℕ, List, length, Result, Ok, Err}
use Rattle.rdb_base.specs.Lengths.{IsKeyLength, IsValueLength}
use Rattle.rdb_base.specs.declared.key_error.KeyError.{KeyError}
use Rattle.rdb_base.specs.declared.key_error.KeyError.TheVariants as keys
use Rattle.rdb_base.specs.declared.value_error.ValueError.{ValueError}
use Rattle.rdb_base.specs.declared.value_error.ValueError.TheVariants as values

-- a key of just these bytes; refused with their length exactly where it is no key's; memory may run out at any time
abbrev pub KeyAnswer : Result (List ℕ) KeyError → List ℕ → Type 0
KeyAnswer (Ok key) bytes = (key ≡ bytes) × IsKeyLength (length bytes)
KeyAnswer (Err (keys.BadKey len)) bytes = (len ≡ length bytes) × ¬ IsKeyLength (length bytes)
KeyAnswer (Err keys.Memory) bytes = IsKeyLength (length bytes)

-- a value of just these bytes; refused with their length exactly where it is no value's
abbrev pub ValueAnswer : Result (List ℕ) ValueError → List ℕ → Type 0
ValueAnswer (Ok value) bytes = (value ≡ bytes) × IsValueLength (length bytes)
ValueAnswer (Err (values.BadValue len)) bytes = (len ≡ length bytes) × ¬ IsValueLength (length bytes)
ValueAnswer (Err values.Memory) bytes = IsValueLength (length bytes)
