-- By what the call made of the files.
use Rattle.std.proofs.Common.{rules}
use Rattle.disk_model.specs.Crashes.{IsStepOf}
use Rattle.disk_model.specs.Shelves.{PutsOrNot}
use Rattle.disk_model.specs.SlotLaws.{images-put}
use Rattle.disk_model.specs.Slots.{MayLeaveFiles}
use Rattle.disk_model.proofs.CauseLemmas.{call-goes}
use Rattle.disk_model.proofs.ShelfLemmas.{images-goes_put}
use Rattle.disk_model.proofs.memory_shelf.MemoryShelfShelf.put.Goals as goal

pub returns-in_err-bytes-clause-state : goal.returns-in_err-bytes-clause-state
returns-in_err-bytes-clause-state c = search rules

pub returns-in_err-bytes-clause-images : goal.returns-in_err-bytes-clause-images
returns-in_err-bytes-clause-images c = images-goes_put (returns-in_err-bytes-clause-state c)

pub returns-in_err-bytes-clause-call : goal.returns-in_err-bytes-clause-call
returns-in_err-bytes-clause-call c = call-goes {leaves = MayLeaveFiles} {within = λ s. IsStepOf (PutsOrNot c.args.number) (MayLeaveFiles c.args.self.now.held)} (returns-in_err-bytes-clause-state c) (returns-in_err-bytes-clause-images c)

pub returns-in_err-fail_put-clause-state : goal.returns-in_err-fail_put-clause-state
returns-in_err-fail_put-clause-state c = search rules

pub returns-in_err-fail_put-clause-images : goal.returns-in_err-fail_put-clause-images
returns-in_err-fail_put-clause-images c = images-goes_put (returns-in_err-fail_put-clause-state c)

pub returns-in_err-fail_put-clause-call : goal.returns-in_err-fail_put-clause-call
returns-in_err-fail_put-clause-call c = call-goes {leaves = MayLeaveFiles} {within = λ s. IsStepOf (PutsOrNot c.args.number) (MayLeaveFiles c.args.self.now.held)} (returns-in_err-fail_put-clause-state c) (returns-in_err-fail_put-clause-images c)

pub returns-then-listed-clause-state : goal.returns-then-listed-clause-state
returns-then-listed-clause-state c = search rules

pub returns-then-listed-clause-images : goal.returns-then-listed-clause-images
returns-then-listed-clause-images c = images-goes_put (returns-then-listed-clause-state c)

pub returns-then-listed-clause-call : goal.returns-then-listed-clause-call
returns-then-listed-clause-call c = call-goes {leaves = MayLeaveFiles} {within = λ s. IsStepOf (PutsOrNot c.args.number) (MayLeaveFiles c.args.self.now.held)} (returns-then-listed-clause-state c) (returns-then-listed-clause-images c)

pub returns-in_err-put-clause-state : goal.returns-in_err-put-clause-state
returns-in_err-put-clause-state c = search rules

pub returns-in_err-put-clause-images : goal.returns-in_err-put-clause-images
returns-in_err-put-clause-images c = images-goes_put (returns-in_err-put-clause-state c)

pub returns-in_err-put-clause-call : goal.returns-in_err-put-clause-call
returns-in_err-put-clause-call c = call-goes {leaves = MayLeaveFiles} {within = λ s. IsStepOf (PutsOrNot c.args.number) (MayLeaveFiles c.args.self.now.held)} (returns-in_err-put-clause-state c) (returns-in_err-put-clause-images c)

pub returns-clause-state : goal.returns-clause-state
returns-clause-state c = search rules

pub returns-clause-images : goal.returns-clause-images
returns-clause-images c = images-goes_put (returns-clause-state c)

pub returns-clause-call : goal.returns-clause-call
returns-clause-call c = call-goes {leaves = MayLeaveFiles} {within = λ s. IsStepOf (PutsOrNot c.args.number) (MayLeaveFiles c.args.self.now.held)} (returns-clause-state c) (returns-clause-images c)

pub returns-clause-durable : goal.returns-clause-durable
returns-clause-durable c = images-put _ _ _ _ (returns-clause-state c).held
