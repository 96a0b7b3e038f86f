-- The streams in memory, as contracts see them.
use Rattle.std.specs.Prelude.{ℕ, List}

-- a source in memory: the bytes that are left, the numbers of the calls that fail, the calls so far, the faults so far
pub record SourceState : Type 0 where
  pub bytes : List ℕ
  pub failing : List ℕ
  pub calls : ℕ
  pub faults : ℕ

-- a sink in memory: the bytes that it took, how many it has room for, the numbers of the calls that fail, the calls so
-- far, the faults so far
pub record SinkState : Type 0 where
  pub bytes : List ℕ
  pub room : ℕ
  pub failing : List ℕ
  pub calls : ℕ
  pub faults : ℕ

-- a source in memory that never fails: the bytes that are left
pub record SteadySourceState : Type 0 where
  pub bytes : List ℕ

-- a sink in memory that fails only where its room is passed: the bytes that it took, how many it has room for, the
-- faults so far
pub record SteadySinkState : Type 0 where
  pub bytes : List ℕ
  pub room : ℕ
  pub faults : ℕ
