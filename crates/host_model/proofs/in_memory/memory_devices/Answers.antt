use Rattle.std.proofs.Common.{arith, refl, ap, ◌≡◌, ◌∙◌, ◌++◌, ℕ, List, [], ◌∷◌, length}
use Rattle.std.proofs.lemmas.List.{length-append}
use Rattle.disk_model.specs.MemoryState.{MemoryState}
use Rattle.disk_model.specs.FileState.{FileState}
use Rattle.host_model.proofs.PlaceLemmas.{at_each-push, slice_get-front}
use Rattle.host_model.proofs.in_memory.memory_devices.Goals as goal

abbrev IsOf : ℕ → MemoryState FileState → Type 0
IsOf device s = s.tally.book.name.device ≡ device

pub strips-init : goal.strips-init
strips-init c =
    let is : c.push.new.self.items ≡ c.args.first ∷ [] = c.in_ok-push.ensures.items ∙ ap (λ (xs : List (MemoryState FileState)). xs ++ c.args.first ∷ []) c.new-log.ensures.items in
    rw is (refl, refl, at_each-push IsOf [] c.args.first (λ i s e. absurd cc) c.requires)

pub strips-preserved : goal.strips-preserved
strips-preserved c =
    let xs = c.strips.log.items in
    let x = c.in_ok-empty_strip.field-0 in
    let inv = c.strips.invariant in
    rw (c.in_ok-push-2.ensures.items) (omega (arith, length-append xs (x ∷ []), inv.0), slice_get-front xs (x ∷ []) 0 c.args.first inv.1, at_each-push IsOf xs x inv.2 (omega (arith, c.in_ok-empty_strip.ensures, inv.0)))

pub returns-clause-all : goal.returns-clause-all
returns-clause-all c = record {
  strips = omega (arith, c.strips.invariant.0, c.strips-test.false, c.strips.auto.device);
  log = c.strips.invariant.2;
  manifest_a = c.in_ok-empty_strip-2.ensures;
  manifest_b = c.in_ok-empty_strip-3.ensures;
  shelf_book = c.in_ok-new.ensures.device;
}
