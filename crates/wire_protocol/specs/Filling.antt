-- What a source puts into a memory after the bytes that stand at the front of it.
use Rattle.std.specs.Prelude.{◌≡◌, ℕ, ◌+◌, ◌≤◌, List, [], ◌++◌, length, take, Option, IfSome}
use Rattle.std.specs.Io.KnownBytes.{prepend_known}

-- So many bytes came after this front, up to this end at most: they were at the front of what was left. None come only
-- at the end of the input.
pub record Fills (old : List ℕ) (left : Option (List ℕ)) (new : List ℕ) (left_now : Option (List ℕ))
    (front end count : ℕ) : Type 0 where
  pub came : List ℕ
  pub bytes : take (front + count) new ≡ take front old ++ came
  pub rest : left ≡ prepend_known came left_now
  pub len : length came ≡ count
  pub most : front + count ≤ end
  pub last : count ≡ 0 → IfSome left_now (λ bytes. bytes ≡ [])
