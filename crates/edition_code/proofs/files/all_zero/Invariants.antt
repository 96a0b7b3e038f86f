use Rattle.std.proofs.Common.{◌≡◌, length}
use Rattle.edition_code.specs.Reading.{are_zero}
use Rattle.edition_code.proofs.files.all_zero.Given as goal

abbrev pub invariant-bytes : goal.invariant-bytes
invariant-bytes l = are_zero l.fn.bytes ≡ are_zero l.rest

abbrev pub decreases-bytes : goal.decreases-bytes
decreases-bytes l = length l.rest
