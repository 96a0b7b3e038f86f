use Rattle.std.proofs.Common.{◌≡◌, ◌+◌, ℕ, List, length, map}
use Rattle.std.specs.Prelude.{Option}
use denote.Ref.{Bor}
use Rattle.rdb_base.specs.declared.pair.Pair.{Pair}
use Rattle.remix_build.specs.Heads.{AreHeads, lent_key}
use Rattle.remix_build.specs.Merging.{Merging}
use Rattle.remix_build.specs.Costs.{heads_there}
use Rattle.remix_build.proofs.order.order_of.Given as goal

-- the versions so far, whose keys and those of the heads were each read once
pub record Going (runs : List (List Pair)) (places order : List ℕ) (heads : List (Option (Bor (List ℕ)))) (last : Option (Bor (List ℕ))) (start now : ℕ) : Type 0 where
  pub merging : Merging runs places order (lent_key last)
  pub heads_are : AreHeads runs places heads
  pub long : length places ≡ length runs
  pub cost : now ≡ start + length order + heads_there heads

abbrev pub invariant-versions : goal.invariant-versions
invariant-versions g l = Going (map g.T.Runs.run l.runs) l.places.items l.order.items l.heads.items l.last l.fn.steps l.steps
