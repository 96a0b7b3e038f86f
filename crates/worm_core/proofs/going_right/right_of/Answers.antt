use Rattle.std.proofs.Common.{◌≡◌, ◌<◌, ◌≤◌, ◌⊎◌, ℕ, true, false, length, refl, sym, ap, ◌∙◌, ⊎_elim, arith}
use Rattle.std.specs.Prelude.{Some, slice_get}
use Rattle.std.proofs.lemmas.Bool.{cases_lt}
use Rattle.std.proofs.lemmas.Option.{slice_get_read}
use Rattle.rdb_base.proofs.PlaceLemmas.{get_within, some_injective}
use Rattle.worm_leaf.specs.Leaves.{LeafState}
use Rattle.worm_core.proofs.going_right.right_of.Goals as goal

pub leaves-preserved : goal.leaves-preserved
leaves-preserved c = λ n lt other at meets.
    let leaves = c.args.leaves.now in
    let number = c.leaves.number in
    let here : LeafState = c.index-leaves-number.result in
    ⊎_elim
    (λ below. c.leaves.invariant n below other at meets)
    (λ from.
    let same : n ≡ number = omega arith in
    let got : slice_get leaves number ≡ Some here = slice_get_read leaves (length leaves) number here refl c.leaves-test.true c.index-leaves-number.is in
    let one : other ≡ here = some_injective other here (sym at ∙ ap (slice_get leaves) same ∙ got) in
    let yes = c.meets.ensures.1 (meets ∙ ap (λ (l : LeafState). Some l.low) one) in
    let never : true ≡ false = sym yes ∙ c.if-meets.false in
    absurd cc)
    (cases_lt n number)

pub returns-clause-none : goal.returns-clause-none
returns-clause-none c = λ right r. c.leaves.invariant right (omega (arith, get_within c.args.leaves.now right r.other r.at)) r.other r.at r.meets
