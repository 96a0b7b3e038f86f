-- What holds of every block.
use Rattle.std.specs.Prelude.{◌≡◌, ◌<◌, ◌-◌, ◌^◌, ℕ, List, ◌++◌, Ok}
use Rattle.rdb_base.specs.Bytes.{AreBytes}
use Rattle.rdb_base.specs.Runs.{IsBelowAll}
use Rattle.rdb_base.specs.declared.pair.Pair.{Pair}
use Rattle.rdb_base.specs.declared.pair_field.PairLimits.{PairLimits}
use Rattle.block_code.specs.Blocks.{IsBlock, block}
use Rattle.block_code.specs.Reading.{block_at}

-- limits that the fields of a block can hold
pub record AreHeld (limits : PairLimits) : Type 0 where
  pub key : limits.key_max < 2 ^ 16
  pub value : limits.value_max < 2 ^ 32 - 1

-- a block is read back as it was spelled, whatever follows
abbrev pub BlockReadsBack : Type 0
BlockReadsBack = (limits : PairLimits) (last : List ℕ) (pairs : List Pair) (rest : List ℕ) → AreHeld limits → IsBlock limits pairs → IsBelowAll last pairs
    → block_at limits last (block pairs ++ rest) ≡ Ok (pairs, rest)

-- what is read of bytes was spelled there
abbrev pub BlockWasSpelled : Type 0
BlockWasSpelled = (limits : PairLimits) (last : List ℕ) (units : List ℕ) (pairs : List Pair) (rest : List ℕ) → AreBytes units → block_at limits last units ≡ Ok (pairs, rest)
    → IsBlock limits pairs × IsBelowAll last pairs × (units ≡ block pairs ++ rest)
