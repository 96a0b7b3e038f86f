-- Which lists of numbers are bytes.
use Rattle.std.specs.Prelude.{ℕ, ◌<◌, List, slice_index}

-- each member is below 256, told by place: past its end a list has 0
abbrev pub AreBytes : List ℕ → Type 0
AreBytes bytes = (i : ℕ) → slice_index bytes i < 256
