-- By what the call made of the files.
use Rattle.std.proofs.Common.{rules}
use Rattle.disk_model.specs.Slots.{MayLeaveFiles}
use Rattle.disk_model.proofs.CauseLemmas.{call-goes}
use Rattle.disk_model.proofs.ShelfLemmas.{images-goes_remove}
use Rattle.disk_model.proofs.memory_shelf.MemoryShelfShelf.remove.Goals as goal

pub returns-then-begin-clause-state : goal.returns-then-begin-clause-state
returns-then-begin-clause-state c = search rules

pub returns-then-begin-clause-images : goal.returns-then-begin-clause-images
returns-then-begin-clause-images c = images-goes_remove (returns-then-begin-clause-state c)

pub returns-then-begin-clause-call : goal.returns-then-begin-clause-call
returns-then-begin-clause-call c = call-goes {leaves = MayLeaveFiles} {within = λ s. MayLeaveFiles s.held} (returns-then-begin-clause-state c) (λ files left. left)

pub returns-clause-state : goal.returns-clause-state
returns-clause-state c = search rules

pub returns-clause-images : goal.returns-clause-images
returns-clause-images c = images-goes_remove (returns-clause-state c)

pub returns-clause-call : goal.returns-clause-call
returns-clause-call c = call-goes {leaves = MayLeaveFiles} {within = λ s. MayLeaveFiles s.held} (returns-clause-state c) (λ files left. left)
