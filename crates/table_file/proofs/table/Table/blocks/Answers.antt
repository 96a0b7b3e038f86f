use Rattle.std.proofs.Common.{rules, ◌≡◌, IfOk, ℕ, List, subst}
use Rattle.block_code.specs.declared.format.TheConstants.{FIRST_LIMITS}
use Rattle.table_file.specs.BlockPlaces.{HasBlocks}
use Rattle.table_file.specs.Tables.{IsTable}
use Rattle.table_file.proofs.table.Table.blocks.Goals as goal

pub returns : goal.returns
returns c =
    let same : c.as_slice.result.now ≡ c.args.self.now.bytes = search rules in
    let table : IsTable FIRST_LIMITS c.args.self.now.run c.as_slice.result.now = search rules in
    subst (λ (bytes : List ℕ). IfOk c.blocks_in.result (λ found. HasBlocks c.args.self.now.run bytes found.items)) same (c.blocks_in.ensures c.args.self.now.run table)
