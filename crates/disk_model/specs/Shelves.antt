-- What the calls of a shelf do to its files. Contracts see the bytes at each number, where there is a file.
use Rattle.std.specs.Prelude.{◌≡◌, ◌≢◌, ◌⊎◌, ◌↔◌, ℕ, ◌<◌, List, [], ◌∷◌, Contains, Option, Some, None, IsSome}
use Rattle.std.specs.List.{AllByRecursion}

-- each file but that with this number is as it was
abbrev pub KeepsOthers : ℕ → (ℕ → Option (List ℕ)) → (ℕ → Option (List ℕ)) → Type 0
KeepsOthers number old new = (n : ℕ) → n ≢ number → new n ≡ old n

-- the file with this number has these bytes
pub record Puts (number : ℕ) (bytes : List ℕ) (old new : ℕ → Option (List ℕ)) : Type 0 where
  pub stored : new number ≡ Some bytes
  pub others : KeepsOthers number old new

-- a put that failed, or is not finished: the number is absent or has any bytes
pub record PutsOrNot (number : ℕ) (old new : ℕ → Option (List ℕ)) : Type 0 where
  pub others : KeepsOthers number old new

-- there is no file with this number
pub record Removes (number : ℕ) (old new : ℕ → Option (List ℕ)) : Type 0 where
  pub absent : new number ≡ None
  pub others : KeepsOthers number old new

-- a remove that failed, or may be undone: the file is there as it was, or not
pub record RemovesOrNot (number : ℕ) (old new : ℕ → Option (List ℕ)) : Type 0 where
  pub either : (new number ≡ None) ⊎ (new number ≡ old number)
  pub others : KeepsOthers number old new

-- these rise
abbrev pub AreRising : List ℕ → Type 0
AreRising [] = Unit {0}
AreRising (number ∷ numbers) = AllByRecursion (λ n. number < n) numbers × AreRising numbers

-- these are the numbers of the files, rising
pub record AreNumbersOf (numbers : List ℕ) (files : ℕ → Option (List ℕ)) : Type 0 where
  pub rising : AreRising numbers
  pub each : (n : ℕ) → Contains numbers n ↔ IsSome (files n)
