-- A search by halves: what is known of the places, and what it costs, told without a logarithm.
use Rattle.std.specs.Prelude.{◌≡◌, ℕ, ◌+◌, ◌<◌, ◌≤◌, ◌^◌, Bool, true, false}

-- a test that passes up to some place and not from there on
abbrev pub IsFalling : (ℕ → Bool) → ℕ → Type 0
IsFalling test n = (i j : ℕ) → i ≤ j → j < n → test j ≡ true → test i ≡ true

-- of n places all before low pass the test, and none from high on
pub record Halved (test : ℕ → Bool) (n low high : ℕ) : Type 0 where
  pub inside : high ≤ n
  pub ordered : low ≤ high
  pub before : (i : ℕ) → i < low → test i ≡ true
  pub after : (i : ℕ) → high ≤ i → i < n → test i ≡ false

-- the place where the test stops to pass
pub record IsTurn (test : ℕ → Bool) (n place : ℕ) : Type 0 where
  pub inside : place ≤ n
  pub before : (i : ℕ) → i < place → test i ≡ true
  pub after : (i : ℕ) → place ≤ i → i < n → test i ≡ false

-- so many more steps are enough for the places that are left, and with them the steps are at most `most` more than at the start
pub record EndsWithin (start now most left : ℕ) : Type 0 where
  pub more : ℕ
  pub enough : left < 2 ^ more
  pub within : now + more ≤ start + most

-- A search over n places that began at `start` steps, is at `now` and has `left` places to go:
-- for each `most` with n < 2 ^ most it ends within `most` steps.
abbrev pub KeepsBound : ℕ → ℕ → ℕ → ℕ → Type 0
KeepsBound n start now left = (most : ℕ) → n < 2 ^ most → EndsWithin start now most left

-- a search over n places took at most the least number of steps whose power of two is above n
abbrev pub IsLogarithmic : ℕ → ℕ → ℕ → Type 0
IsLogarithmic n start now = (most : ℕ) → n < 2 ^ most → now ≤ start + most
