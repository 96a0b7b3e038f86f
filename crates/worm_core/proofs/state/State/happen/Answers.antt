use Rattle.std.proofs.Common.{◌≡◌, ◌≤◌, ℕ, List, length, sym, ap, ◌∙◌, subst, arith}
use Rattle.std.proofs.lemmas.List.{length-map}
use Rattle.meta_trie.specs.Tries.{Anchored}
use Rattle.worm_leaf.specs.Leaves.{LeafState}
use Rattle.worm_core.specs.Events.{HasNoStep, SplitsLeaf, IsFound}
use Rattle.worm_core.specs.Refusals.{OnNoStep}
use Rattle.worm_core.specs.States.{world_of}
use Rattle.worm_core.specs.Worlds.{anchored, all_anchored, leaves_of}
use Rattle.worm_core.specs.declared.leaf_answer.LeafAnswer.{LeafAnswer}
use Rattle.worm_core.specs.declared.leaf_event.LeafEvent.{LeafEvent}
use Rattle.worm_core.specs.declared.limits.TheConstants.{LEAVES_MAX}
use Rattle.worm_core.proofs.PromiseLemmas.{reached-leaves, reached-published, reached-rights}
use Rattle.worm_core.proofs.StateLemmas.{Made, made-are, on_no_step, split-none, right-none, answer-none}
use Rattle.worm_core.proofs.state.State.happen.Goals as goal

pub enter-requires : goal.enter-requires
enter-requires c =
    let splits = c.args.self.now.splits.items in
    let r = reached-published (world_of c.args.self.now) c.requires in
    omega (arith, r, length-map splits anchored, ap length c.deref.ensures.value)

pub go_right-requires-clause-few : goal.go_right-requires-clause-few
go_right-requires-clause-few c =
    let old = c.args.self.now.leaves.items in
    let leaves = c.make_first.new.leaves.items in
    let made : Made old leaves = record { same = c.in_ok-make_first.ensures.same; all = c.in_ok-make_first.ensures.made } in
    subst (λ (l : List LeafState). length l ≤ LEAVES_MAX) (sym (c.deref-in-Right.ensures.value ∙ made-are old leaves made)) (reached-leaves (world_of c.args.self.now) c.requires)

pub go_right-requires-clause-walks : goal.go_right-requires-clause-walks
go_right-requires-clause-walks c = λ walker is. reached-rights (world_of c.args.self.now) c.in-Right.walker walker c.requires is

pub returns-in-Split-clause-none : goal.returns-in-Split-clause-none
returns-in-Split-clause-none c =
    let state = c.args.self.now in
    let old = state.leaves.items in
    let leaves = c.make_first.new.leaves.items in
    let splits = all_anchored state.splits.items in
    let number = c.in-Split.leaf in
    let made : Made old leaves = record { same = c.in_ok-make_first.ensures.same; all = c.in_ok-make_first.ensures.made } in
    subst (λ (e : LeafEvent). OnNoStep c.split_leaf.result (HasNoStep (world_of state) e)) (sym c.in-Split.is)
    (on_no_step c.split_leaf.result
    (λ (none : (after : List LeafState) (more : List Anchored) → SplitsLeaf leaves splits number after more → ⊥). split-none old leaves made splits state.published state.walkers.entries number none)
    c.split_leaf.ensures.none)

pub returns-in-None-go_right-clause-none : goal.returns-in-None-go_right-clause-none
returns-in-None-go_right-clause-none c =
    let state = c.args.self.now in
    let old = state.leaves.items in
    let leaves = c.deref-in-Right.result.now in
    let made : Made old leaves = subst (Made old) (sym c.deref-in-Right.ensures.value) (record { same = c.in_ok-make_first.ensures.same; all = c.in_ok-make_first.ensures.made }) in
    subst (λ (e : LeafEvent). HasNoStep (world_of state) e) (sym c.in-Right.is)
    (right-none old leaves made (all_anchored state.splits.items) state.published state.walkers.entries c.in-Right.walker c.in-None-go_right.ensures.none)

pub returns-in-Answer-clause-none : goal.returns-in-Answer-clause-none
returns-in-Answer-clause-none c =
    let state = c.args.self.now in
    let old = state.leaves.items in
    let leaves = c.deref-in-Answer.result.now in
    let number = c.in-Answer.walker in
    let made : Made old leaves = subst (Made old) (sym c.deref-in-Answer.ensures.value) (record { same = c.in_ok-make_first.ensures.same; all = c.in_ok-make_first.ensures.made }) in
    subst (λ (e : LeafEvent). OnNoStep c.answer_at.result (HasNoStep (world_of state) e)) (sym c.in-Answer.is)
    (on_no_step c.answer_at.result
    (λ (none : (a : LeafAnswer) → IsFound leaves state.walkers.entries number a → ⊥). answer-none old leaves made (all_anchored state.splits.items) state.published state.walkers.entries number none)
    c.answer_at.ensures.none)
