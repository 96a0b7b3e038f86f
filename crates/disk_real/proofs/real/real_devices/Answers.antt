use Rattle.std.proofs.Common.{arith, refl, ap, ◌≡◌, ◌∙◌, ◌++◌, ℕ, List, [], ◌∷◌, length, subst, sym}
use Rattle.std.proofs.lemmas.List.{length-append}
use Rattle.disk_model.specs.Books.{BookState}
use Rattle.disk_real.proofs.PlaceLemmas.{at_each-push}
use Rattle.disk_real.proofs.real.real_devices.Goals as goal

abbrev IsFresh : ℕ → BookState → Type 0
IsFresh device s = (s.name.device ≡ device) × (s.count ≡ 0)

pub strips-init : goal.strips-init
strips-init g c = rw (c.new-log.ensures.items) (refl, λ device s at. absurd cc)

pub strips-preserved : goal.strips-preserved
strips-preserved g c =
    let xs = c.strips.log.items in
    let x = c.in_ok-log_strip.field-0 in
    let inv = c.strips.invariant in
    rw (c.in_ok-push.ensures.items) (omega (arith, length-append xs (x ∷ []), inv.0), at_each-push IsFresh xs x inv.1 (omega (arith, c.in_ok-log_strip.ensures.device, inv.0), c.in_ok-log_strip.ensures.fresh))

pub returns-clause-all : goal.returns-clause-all
returns-clause-all g c = record {
  strips = omega (arith, c.strips.invariant.0, c.strips-test.false, c.strips.auto.device-end);
  log = λ device s at. (c.strips.invariant.1 device s at).0;
  manifest_a = c.in_ok-strip_of.ensures.device;
  manifest_b = c.in_ok-strip_of-2.ensures.device;
  shelf_book = c.in_ok-shelf_of.ensures.device;
}

pub returns-clause-fresh : goal.returns-clause-fresh
returns-clause-fresh g c = record {
  log = λ device s at. (c.strips.invariant.1 device s at).1;
  manifest_a = c.in_ok-strip_of.ensures.fresh;
  manifest_b = c.in_ok-strip_of-2.ensures.fresh;
  shelf = c.in_ok-shelf_of.ensures.fresh;
}
