use Rattle.std.proofs.Common.{◌≡◌, ◌<◌, ◌≤◌, ◌^◌, ℕ, List, length, map, sym, ap, subst, ◌∙◌}
use Rattle.std.specs.Prelude.{Option, IfOk, OnErr, max}
use Rattle.std.proofs.lemmas.Option.{slice_get_within}
use Rattle.rdb_base.specs.Runs.{change_at}
use Rattle.rdb_base.specs.Levels.{level_of}
use Rattle.rdb_base.specs.declared.change.Change.{Change}
use Rattle.remix_view.proofs.Lists.{some_same, all-at}
use Rattle.partition_set.specs.Partitions.{PartState, set_level}
use Rattle.partition_set.specs.Lookups.{HasValue}
use Rattle.partition_set.proofs.SetLemmas.{part-at, change_at-set_level}
use Rattle.partition_set.proofs.set.PartitionSet.get_counted.Goals as goal

pub part-found-requires : goal.part-found-requires
part-found-requires g c = slice_get_within c.args.self.now c.of_key-index.result c.of_key-index.ensures.part.part c.of_key-index.ensures.part.at

pub change_of-requires : goal.change_of-requires
change_of-requires g c = (part-at g.T.Runs.run c.args.self.now c.of_key-index.result c.part-found.result.now c.of_key-index.ensures.set.each c.part-found.ensures).1.indexed

pub returns-clause-change : goal.returns-clause-change
returns-clause-change g c =
    let level = change_at-set_level g.T.Runs.run c.args.self.now c.as_bytes.result.now c.of_key-index.result c.of_key-index.ensures.set c.of_key-index.ensures.part in
    let same = some_same c.of_key-index.ensures.part.part c.part-found.result.now (sym c.of_key-index.ensures.part.at ∙ c.part-found.ensures) in
    subst (λ (o : Option Change). IfOk c.change_of.result (λ found. found ≡ o))
    (ap (λ (k : List ℕ). change_at (level_of (map g.T.Runs.run c.part-found.result.now.runs)) k) (c.as_bytes-2.ensures.bytes ∙ sym c.as_bytes.ensures.bytes)
    ∙ ap (λ p. change_at (level_of (map g.T.Runs.run p.runs)) c.as_bytes.result.now) (sym same)
    ∙ sym level
    ∙ ap (change_at (set_level g.T.Runs.run c.args.self.now)) c.as_bytes.ensures.bytes)
    c.change_of.ensures.change

pub returns-clause-memory : goal.returns-clause-memory
returns-clause-memory g c =
    let level = change_at-set_level g.T.Runs.run c.args.self.now c.as_bytes.result.now c.of_key-index.result c.of_key-index.ensures.set c.of_key-index.ensures.part in
    let same = some_same c.of_key-index.ensures.part.part c.part-found.result.now (sym c.of_key-index.ensures.part.at ∙ c.part-found.ensures) in
    subst (λ (o : Option Change). OnErr c.change_of.result (HasValue o))
    (ap (λ (k : List ℕ). change_at (level_of (map g.T.Runs.run c.part-found.result.now.runs)) k) (c.as_bytes-2.ensures.bytes ∙ sym c.as_bytes.ensures.bytes)
    ∙ ap (λ p. change_at (level_of (map g.T.Runs.run p.runs)) c.as_bytes.result.now) (sym same)
    ∙ sym level
    ∙ ap (change_at (set_level g.T.Runs.run c.args.self.now)) c.as_bytes.ensures.bytes)
    c.change_of.ensures.memory

pub returns-clause-cost : goal.returns-clause-cost
returns-clause-cost g c n covers = c.change_of.ensures.cost n (all-at (λ (part : PartState _). max (length part.view.segments) 1 ≤ 2 ^ n) c.args.self.now c.of_key-index.result c.part-found.result.now covers c.part-found.ensures)

pub returns-clause-some : goal.returns-clause-some
returns-clause-some g c all = c.change_of.ensures.some (all-at (λ (part : PartState _). 0 < length part.view.segments) c.args.self.now c.of_key-index.result c.part-found.result.now all c.part-found.ensures)
