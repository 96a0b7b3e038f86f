-- The changes so far are marked.
use Rattle.std.proofs.Common.{◌≡◌, drop}
use Rattle.disk_model.specs.FileState.{marked}
use Rattle.disk_model.proofs.marks.mark.Given as goal

abbrev pub invariant-loop-i : goal.invariant-loop-i
invariant-loop-i l = marked l.byte (drop l.i l.changes) l.bytes ≡ marked l.byte l.changes l.initial.bytes
