-- A count of failures: it stands still at its last value, 2^64 - 1.
use Rattle.std.specs.Prelude.{◌≡◌, ℕ, ◌+◌, ◌-◌, ◌^◌, ◌≤◌, min}

-- a sum, or the last value where the sum passes it
abbrev pub sum_of : ℕ → ℕ → ℕ
sum_of count more = min (count + more) (2 ^ 64 - 1)

-- one more, or the last value where the count stands there
abbrev pub one_more : ℕ → ℕ
one_more count = min (count + 1) (2 ^ 64 - 1)

-- the count went up, or stands at its last value
abbrev pub Rose : ℕ → ℕ → Type 0
Rose before now = one_more before ≤ now

-- the count went up by exactly one, or stands at its last value
abbrev pub RoseByOne : ℕ → ℕ → Type 0
RoseByOne before now = now ≡ one_more before
