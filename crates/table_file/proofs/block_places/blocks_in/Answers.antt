use Rattle.std.proofs.Common.{refl}
use Rattle.table_file.proofs.BlockPlaceLemmas.{blocks_answer}
use Rattle.table_file.proofs.block_places.blocks_in.Goals as goal

pub returns : goal.returns
returns c = λ run is. blocks_answer run c.args.bytes.now c.blocks_of.result _ _ is refl c.after.ensures c.blocks_of.ensures
