use Rattle.std.proofs.Common.{◌≡◌, ◌+◌, ◌-◌, ◌/◌, ◌<◌, ℕ, Bool, true, false, List, length, get_or, arith, refl, sym, ap, ◌∙◌}
use Rattle.std.specs.Prelude.{not}
use Rattle.std.specs.Ordering.{is_gt}
use Rattle.std.specs.declared.cmp.Ordering.{Ordering}
use Rattle.std.proofs.lemmas.Option.{slice_get_read}
use Rattle.rdb_base.specs.Order.{key_cmp}
use Rattle.rdb_base.proofs.HalvingLemmas.{halved-true, halved-false}
use Rattle.partition_set.specs.Partitions.{PartState}
use Rattle.partition_set.specs.Bounds.{passes_at, bound_passes, low_of}
use Rattle.partition_set.proofs.SetLemmas.{bounds-fall}
use Rattle.partition_set.proofs.ranges.bounds_passed.Goals as goal

-- what a look at a bound says of the test
looked : {T : Type 0} (parts : List (PartState T)) (key low : List ℕ) (middle : ℕ) (part : PartState T) (order : Ordering) (b : Bool) → middle < length parts → part ≡ get_or parts middle part → low ≡ part.low → order ≡ key_cmp low key → is_gt order ≡ b → passes_at parts key middle ≡ not b
looked parts key low middle part order b lt read is o t =
    ap (λ found. bound_passes key (low_of found)) (slice_get_read parts (length parts) middle part refl lt read)
    ∙ ap not (ap is_gt (ap (λ (l : List ℕ). key_cmp l key) (sym is) ∙ sym o) ∙ t)

pub halves-preserved-then-is_gt : goal.halves-preserved-then-is_gt
halves-preserved-then-is_gt g c = (
  halved-false (passes_at c.args.parts.now c.args.key.now) (length c.args.parts.now) c.halves.low c.halves.high (c.halves.low + (c.halves.high - c.halves.low) / 2)
      (bounds-fall g.T.Runs.run c.args.parts.now c.args.key.now c.requires) c.halves.invariant.0 (omega (arith, c.halves-test.true)) (omega arith)
      (looked c.args.parts.now c.args.key.now c.as_slice.result.now (c.halves.low + (c.halves.high - c.halves.low) / 2) c.index-parts-middle.result c.compare_bytes.result true (omega (arith, c.halves-test.true, c.halves.invariant.0.inside)) c.index-parts-middle.is (c.as_slice.ensures.value ∙ ap (λ (p : PartState _). p.low) c.part.view_is) c.compare_bytes.ensures (sym c.is_gt.ensures ∙ c.if-is_gt.true)),
  omega (arith, c.halves.invariant.1),
)

pub halves-preserved : goal.halves-preserved
halves-preserved g c = (
  halved-true (passes_at c.args.parts.now c.args.key.now) (length c.args.parts.now) c.halves.low c.halves.high (c.halves.low + (c.halves.high - c.halves.low) / 2)
      (bounds-fall g.T.Runs.run c.args.parts.now c.args.key.now c.requires) c.halves.invariant.0 (omega (arith, c.halves-test.true)) (omega arith)
      (looked c.args.parts.now c.args.key.now c.as_slice.result.now (c.halves.low + (c.halves.high - c.halves.low) / 2) c.index-parts-middle.result c.compare_bytes.result false (omega (arith, c.halves-test.true, c.halves.invariant.0.inside)) c.index-parts-middle.is (c.as_slice.ensures.value ∙ ap (λ (p : PartState _). p.low) c.part.view_is) c.compare_bytes.ensures (sym c.is_gt.ensures ∙ c.if-is_gt.false)),
  omega arith,
)
