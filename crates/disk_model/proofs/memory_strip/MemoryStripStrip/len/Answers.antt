-- By what the call made of the file.
use Rattle.std.proofs.Common.{rules}
use Rattle.disk_model.specs.FileState.{MayLeave}
use Rattle.disk_model.proofs.CauseLemmas.{call-goes}
use Rattle.disk_model.proofs.memory_strip.MemoryStripStrip.len.Goals as goal

pub returns-then-begin-clause-state : goal.returns-then-begin-clause-state
returns-then-begin-clause-state c = search rules

pub returns-then-begin-clause-call : goal.returns-then-begin-clause-call
returns-then-begin-clause-call c = call-goes {leaves = MayLeave} {within = λ s. MayLeave s.held} (returns-then-begin-clause-state c) (λ bytes left. left)

pub returns-clause-state : goal.returns-clause-state
returns-clause-state c = search rules

pub returns-clause-call : goal.returns-clause-call
returns-clause-call c = call-goes {leaves = MayLeave} {within = λ s. MayLeave s.held} (returns-clause-state c) (λ bytes left. left)
