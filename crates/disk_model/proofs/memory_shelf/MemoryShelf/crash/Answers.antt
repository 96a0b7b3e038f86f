-- What is left is what was picked, and an image.
use Rattle.std.proofs.Common.{rules}
use Rattle.disk_model.specs.SlotLaws.{file_at-left, image-picked, only-left}
use Rattle.disk_model.proofs.memory_shelf.MemoryShelf.crash.Goals as goal

pub returns-clause-files : goal.returns-clause-files
returns-clause-files c = search rules

pub returns-clause-content : goal.returns-clause-content
returns-clause-content c n = rw (returns-clause-files c) (file_at-left _ n _)

pub returns-clause-image : goal.returns-clause-image
returns-clause-image c = rw (returns-clause-files c) (image-picked _ _)

pub returns-clause-synced : goal.returns-clause-synced
returns-clause-synced c = rw (returns-clause-files c) (only-left _ _)
