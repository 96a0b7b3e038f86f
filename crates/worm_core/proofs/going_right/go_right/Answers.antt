use Rattle.std.proofs.Common.{◌≡◌, sym, ap, ◌∙◌}
use Rattle.std.specs.Prelude.{Some}
use Rattle.std.specs.Option.{option_copied_mut}
use Rattle.worm_core.specs.Events.{moved}
use Rattle.worm_core.specs.Worlds.{walker_at}
use Rattle.worm_core.proofs.PartLemmas.{goes-right, not-right, if_none}
use Rattle.worm_core.proofs.going_right.go_right.Goals as goal

pub returns-in_err-right-clause-none : goal.returns-in_err-right-clause-none
returns-in_err-right-clause-none c =
    if_none c.from_residual-in_err-right.result
    (not-right c.args.leaves.now c.args.walkers.now.entries c.args.number c.in_ok-walker.walker.now c.in_ok-walker.leaf.now c.in_ok-walker.ensures.stands c.in_err-right.ensures.none)

pub returns-clause-right : goal.returns-clause-right
returns-clause-right c =
    let leaves = c.args.leaves.now in
    let walkers = c.args.walkers.now.entries in
    let number = c.args.number in
    let right = c.in_ok-right.right in
    let there = c.unwrap-walker.result.now in
    let got : walker_at walkers number ≡ Some there = sym c.get_mut.ensures.value ∙ ap option_copied_mut c.unwrap-walker.ensures in
    goes-right leaves walkers _ number right c.in_ok-walker.walker.now there c.in_ok-walker.leaf.now c.in_ok-walker.ensures.stands got
    (sym c.is_covered.ensures ∙ c.if-is_covered.false) c.in_ok-right.ensures.right c.get_mut.ensures.ordered (c.get_mut.follows.holds (moved there right)).0
