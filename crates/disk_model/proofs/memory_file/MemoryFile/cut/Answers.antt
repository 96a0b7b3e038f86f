-- A front of the bytes is left.
use Rattle.std.proofs.Common.{ℕ, [], ◌∷◌, ◌++◌, take, subst, rules}
use Rattle.std.specs.Prelude.{vec_capacity}
use Rattle.disk_model.specs.FileState.{IsSoundFile}
use Rattle.disk_model.specs.declared.change.Change.TheVariants.{CutTo}
use Rattle.disk_model.proofs.FileLemmas.{sound-cut}
use Rattle.disk_model.proofs.memory_file.MemoryFile.cut.Goals as goal

pub invariant_of-self-2 : goal.invariant_of-self-2
invariant_of-self-2 c = rw (c.in_ok-push.ensures.items, c.truncate.ensures.items, c.truncate.ensures.capacity) (subst (λ (n : ℕ). IsSoundFile (take c.args.at c.self.inside.bytes.items) c.self.inside.synced.items (c.self.inside.changes.items ++ CutTo c.args.at ∷ []) n (vec_capacity c.self.inside.bytes) (vec_capacity c.self.inside.synced)) (search rules) (sound-cut _ _ _ _ _ _ c.self.invariant c.args.at (search rules)))
