use Rattle.std.proofs.Common.{length}
use Rattle.rdb_base.proofs.byte_order.+compare_bytes.Given as goal

abbrev pub decreases-compare_bytes : goal.decreases-compare_bytes
decreases-compare_bytes l = length l.mine.now
