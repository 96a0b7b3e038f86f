-- What holds of every table.
use Rattle.std.specs.Prelude.{◌≡◌, ℕ, List, None, Ok}
use Rattle.rdb_base.specs.Bytes.{AreBytes}
use Rattle.rdb_base.specs.declared.pair.Pair.{Pair}
use Rattle.rdb_base.specs.declared.pair_field.PairLimits.{PairLimits}
use Rattle.block_code.specs.Laws.{AreHeld}
use Rattle.table_file.specs.Tables.{IsTable, IsTableOf, all_pairs}
use Rattle.table_file.specs.TableReading.{blocks_of, first_wrong}

-- a table is read back as the blocks that it was cut into
abbrev pub TableReadsBack : Type 0
TableReadsBack = (limits : PairLimits) (blocks : List (List Pair)) (run : List Pair) (bytes : List ℕ) → AreHeld limits → IsTableOf limits blocks run bytes → blocks_of limits bytes ≡ Ok blocks

-- what is read of bytes was spelled there
abbrev pub TableWasSpelled : Type 0
TableWasSpelled = (limits : PairLimits) (blocks : List (List Pair)) (bytes : List ℕ) → AreBytes bytes → blocks_of limits bytes ≡ Ok blocks → IsTableOf limits blocks (all_pairs blocks) bytes

-- bytes are a table of at most one run
abbrev pub OneRun : Type 0
OneRun = (limits : PairLimits) (run other : List Pair) (bytes : List ℕ) → AreHeld limits → IsTable limits run bytes → IsTable limits other bytes → run ≡ other

-- the first wrong place is none exactly where the bytes are a table of some run
abbrev pub WrongWhereNoTable : Type 0
WrongWhereNoTable = (limits : PairLimits) (bytes : List ℕ) → AreHeld limits → AreBytes bytes
    → ((run : List Pair) → IsTable limits run bytes → first_wrong limits bytes ≡ None) × (first_wrong limits bytes ≡ None → (run : List Pair) × IsTable limits run bytes)
