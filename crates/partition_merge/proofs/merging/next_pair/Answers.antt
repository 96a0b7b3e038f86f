use Rattle.std.proofs.Common.{map, sym, ◌∙◌}
use Rattle.partition_merge.specs.Merging.{kept_from}
use Rattle.partition_merge.proofs.StepLemmas.{took-new_alone, took-newer, took-same, took-older}
use Rattle.partition_merge.proofs.merging.next_pair.Goals as goal

pub returns-in-None-clause-next : goal.returns-in-None-clause-next
returns-in-None-clause-next g c =
    (took-new_alone (map g.T.Runs.run c.args.runs.now) c.args.view.now c.args.newer.now c.args.place.now c.next_new.new.place c.next_kept-found.result.spot (kept_from c.args.view.now c.next_kept-found.result.after) c.next_new.result c.requires c.next_kept-found.ensures.next c.in-None.is c.next_new.ensures).next

pub returns-in-None-clause-goes_on : goal.returns-in-None-clause-goes_on
returns-in-None-clause-goes_on g c =
    (took-new_alone (map g.T.Runs.run c.args.runs.now) c.args.view.now c.args.newer.now c.args.place.now c.next_new.new.place c.next_kept-found.result.spot (kept_from c.args.view.now c.next_kept-found.result.after) c.next_new.result c.requires c.next_kept-found.ensures.next c.in-None.is c.next_new.ensures).goes_on

pub returns-in-Less-clause-next : goal.returns-in-Less-clause-next
returns-in-Less-clause-next g c =
    (took-newer (map g.T.Runs.run c.args.runs.now) c.args.view.now c.args.newer.now c.args.place.now c.next_kept-found.result.here c.next_kept-found.result.after c.next_kept-found.result.spot c.in-Some.spot c.requires c.next_kept-found.ensures.same c.next_kept-found.ensures.next c.in-Some.is (sym c.order_of_heads.ensures ∙ c.in-Less.is)).next

pub returns-in-Less-clause-goes_on : goal.returns-in-Less-clause-goes_on
returns-in-Less-clause-goes_on g c =
    (took-newer (map g.T.Runs.run c.args.runs.now) c.args.view.now c.args.newer.now c.args.place.now c.next_kept-found.result.here c.next_kept-found.result.after c.next_kept-found.result.spot c.in-Some.spot c.requires c.next_kept-found.ensures.same c.next_kept-found.ensures.next c.in-Some.is (sym c.order_of_heads.ensures ∙ c.in-Less.is)).goes_on

pub returns-in-Equal-clause-next : goal.returns-in-Equal-clause-next
returns-in-Equal-clause-next g c =
    (took-same (map g.T.Runs.run c.args.runs.now) c.args.view.now c.args.newer.now c.args.place.now c.next_kept-found.result.after c.next_kept-found.result.spot c.in-Some.spot c.requires c.next_kept-found.ensures.next c.in-Some.is (sym c.order_of_heads.ensures ∙ c.in-Equal.is)).next

pub returns-in-Equal-clause-goes_on : goal.returns-in-Equal-clause-goes_on
returns-in-Equal-clause-goes_on g c =
    (took-same (map g.T.Runs.run c.args.runs.now) c.args.view.now c.args.newer.now c.args.place.now c.next_kept-found.result.after c.next_kept-found.result.spot c.in-Some.spot c.requires c.next_kept-found.ensures.next c.in-Some.is (sym c.order_of_heads.ensures ∙ c.in-Equal.is)).goes_on

pub returns-in-Greater-clause-next : goal.returns-in-Greater-clause-next
returns-in-Greater-clause-next g c =
    (took-older (map g.T.Runs.run c.args.runs.now) c.args.view.now c.args.newer.now c.args.place.now c.next_kept-found.result.after c.next_kept-found.result.spot c.in-Some.spot c.requires c.next_kept-found.ensures.next c.in-Some.is (sym c.order_of_heads.ensures ∙ c.in-Greater.is)).next

pub returns-in-Greater-clause-goes_on : goal.returns-in-Greater-clause-goes_on
returns-in-Greater-clause-goes_on g c =
    (took-older (map g.T.Runs.run c.args.runs.now) c.args.view.now c.args.newer.now c.args.place.now c.next_kept-found.result.after c.next_kept-found.result.spot c.in-Some.spot c.requires c.next_kept-found.ensures.next c.in-Some.is (sym c.order_of_heads.ensures ∙ c.in-Greater.is)).goes_on
