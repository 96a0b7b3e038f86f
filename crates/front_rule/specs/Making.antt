-- What contracts see of a word without a name, and what passes know at first.
use Rattle.std.specs.Prelude.{ℕ, zero, suc, List, [], ◌∷◌, ◌++◌}
use Rattle.atomic_table.specs.Seated.{TableId}
use Rattle.front_rule.specs.declared.origin.Origin.{Origin}
use Rattle.front_rule.specs.declared.parts.PassPart.{PassPart}

-- a word that has no name yet: its table, and with what it was made
pub record Blank : Type 0 where
  pub table : TableId
  pub origin : Origin

-- the pass of this caller, who has seen nothing and made no call
abbrev pub first_pass : Origin → ℕ → PassPart
first_pass o caller = record { caller = caller; seen = []; own = []; memtable = o.memtable; bases = 0 ∷ []; safe = 0; next = 0; told = 0 }

-- the passes of callers 0, 1, 2 and so on, this many
abbrev pub first_passes : Origin → ℕ → List PassPart
first_passes o zero = []
first_passes o (suc n) = first_passes o n ++ first_pass o n ∷ []
