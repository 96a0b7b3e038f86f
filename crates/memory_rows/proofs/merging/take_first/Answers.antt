use Rattle.std.proofs.Common.{◌∙◌, sym}
use Rattle.memory_rows.proofs.MergeLemmas.{takes-newer, takes-both, takes-older}
use Rattle.memory_rows.proofs.merging.take_first.Goals as goal

pub returns-in-Less-clause-first : goal.returns-in-Less-clause-first
returns-in-Less-clause-first c =
    (takes-newer c.pop_front.result c.args.newer.now.items c.args.older.now.items c.pop_front.new.self.items c.requires.runs (sym c.order_of_fronts.ensures ∙ c.in-Less.is)
    (record { items = c.pop_front.ensures.items; rest = c.pop_front.ensures.rest })).0

pub returns-in-Equal-clause-first : goal.returns-in-Equal-clause-first
returns-in-Equal-clause-first c =
    (takes-both c.pop_front-in-Equal-4.result c.pop_front-in-Equal.result c.args.newer.now.items c.args.older.now.items c.pop_front-in-Equal-4.new.self.items c.pop_front-in-Equal.new.self.items c.requires.runs (sym c.order_of_fronts.ensures ∙ c.in-Equal.is)
    (record { items = c.pop_front-in-Equal-4.ensures.items; rest = c.pop_front-in-Equal-4.ensures.rest })
    (record { items = c.pop_front-in-Equal.ensures.items; rest = c.pop_front-in-Equal.ensures.rest })).0

pub returns-in-Greater-clause-first : goal.returns-in-Greater-clause-first
returns-in-Greater-clause-first c =
    (takes-older c.pop_front-in-Greater.result c.args.newer.now.items c.args.older.now.items c.pop_front-in-Greater.new.self.items c.requires.runs (sym c.order_of_fronts.ensures ∙ c.in-Greater.is)
    (record { items = c.pop_front-in-Greater.ensures.items; rest = c.pop_front-in-Greater.ensures.rest })).0
