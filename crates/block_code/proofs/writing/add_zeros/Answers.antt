use Rattle.std.proofs.Common.{arith}
use Rattle.std.specs.Vec.{vec_len}
use Rattle.block_code.proofs.WriteLemmas.{zeros_added}
use Rattle.block_code.proofs.writing.add_zeros.Goals as goal

pub returns-clause-items : goal.returns-clause-items
returns-clause-items c = zeros_added c.args.out.now.items _ c.len.result (vec_len c.args.out.now) c.args.count c.resize.result _ c.len.ensures (omega arith) c.unwrap.ensures c.resize.ensures.items

pub unwrap-requires : goal.unwrap-requires
unwrap-requires c = c.resize.ensures.succeeds (omega (arith, c.requires, c.len.ensures))
