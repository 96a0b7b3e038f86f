-- What has no step in a world's parts has none in the world, and a world after an event is reached. To know: `split-none`, `right-none`, `answer-none`, `reached-after`.
use Rattle.std.proofs.Common.{◌≡◌, ℕ, List, sym, ◌∙◌, subst}
use Rattle.std.specs.Prelude.{Result, Ok, Err, IfOk, OnErr}
use Rattle.meta_trie.specs.Tries.{Anchored}
use Rattle.worm_leaf.specs.Leaves.{LeafState}
use Rattle.worm_core.specs.Events.{StepsTo, HasNoStep, IsReached, SplitsLeaf, GoesRight, IsFound}
use Rattle.worm_core.specs.Refusals.{OnNoStep}
use Rattle.worm_core.specs.Worlds.{World, leaves_of}
use Rattle.worm_core.specs.declared.leaf_answer.LeafAnswer.{LeafAnswer}
use Rattle.worm_core.specs.declared.leaf_event.LeafEvent.{LeafEvent}
use Rattle.worm_core.specs.declared.leaf_event.LeafEvent.TheVariants as events
use Rattle.worm_core.specs.declared.refused.Refused.{Refused}
use Rattle.worm_core.specs.declared.refused.Refused.TheVariants as reasons
use Rattle.worm_core.specs.declared.walker.Walker.{Walker}
use Rattle.worm_core.proofs.PromiseLemmas.{reached-step}

-- the leaves that were kept before, and those that are kept once leaf 0 is made
pub record Made (old leaves : List LeafState) : Type 0 where
  pub same : leaves_of leaves ≡ leaves_of old
  pub all : leaves ≡ leaves_of leaves

pub made-are : (old leaves : List LeafState) → Made old leaves → leaves ≡ leaves_of old
made-are old leaves made = made.all ∙ made.same

module _ (old leaves : List LeafState) (made : Made old leaves) (splits : List Anchored) (published : ℕ) (walkers : List (ℕ × Walker)) where
  abbrev world : World
  world = record { leaves = leaves_of old; splits = splits; published = published; walkers = walkers }

  pub split-none : (number : ℕ) → ((after : List LeafState) (more : List Anchored) → SplitsLeaf leaves splits number after more → ⊥) → HasNoStep world (events.Split number)
  split-none number none a next (after, more, p, done, is) = none after more (subst (λ (l : List LeafState). SplitsLeaf l splits number after more) (sym (made-are old leaves made)) p)

  pub right-none : (number : ℕ) → ((right : ℕ) (after : List (ℕ × Walker)) → GoesRight leaves walkers number right after → ⊥) → HasNoStep world (events.Right number)
  right-none number none a next (right, after, p, told, is) = none right after (subst (λ (l : List LeafState). GoesRight l walkers number right after) (sym (made-are old leaves made)) p)

  pub answer-none : (number : ℕ) → ((a : LeafAnswer) → IsFound leaves walkers number a → ⊥) → HasNoStep world (events.Answer number)
  answer-none number none a next (p, is) = none a (subst (λ (l : List LeafState). IsFound l walkers number a) (sym (made-are old leaves made)) p)

-- what follows from a refusal for the lack of a step
pub on_no_step : {X P Q : Type 0} → (result : Result X Refused) → (P → Q) → OnNoStep result P → OnNoStep result Q
on_no_step (Ok x) f p = tt
on_no_step (Err reasons.NoStep) f p = f p
on_no_step (Err reasons.Memory) f p = tt

-- a world after an event is reached
pub reached-after : (result : Result LeafAnswer Refused) (old new : World) (e : LeafEvent) → IsReached old → IfOk result (λ a. StepsTo old e a new) → OnErr result (new ≡ old) → IsReached new
reached-after (Ok a) old new e r step same = reached-step old new e a r step
reached-after (Err refused) old new e r step same = subst IsReached (sym same) r
