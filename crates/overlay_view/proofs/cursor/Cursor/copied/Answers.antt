use Rattle.std.proofs.Common.{map, ap, subst, ◌∙◌}
use Rattle.std.specs.Prelude.{Some}
use Rattle.std.proofs.lemmas.Option.{slice_get_within}
use Rattle.partition_set.specs.Partitions.{PartState}
use Rattle.overlay_view.specs.Older.{pair_of}
use Rattle.overlay_view.specs.declared.head.Head.TheVariants as heads
use Rattle.overlay_view.specs.Cursors.{pairs_left, rows_left, CopiesPair, CopiesFirst}
use Rattle.overlay_view.proofs.ReadLemmas.{there-some}
use Rattle.overlay_view.proofs.CursorLemmas.{head-named, newer-first, both-first, older-first, older-inside, end-rows, if-ok, copies-first}
use Rattle.overlay_view.proofs.cursor.Cursor.copied.Goals as goal

pub row-requires : goal.row-requires
row-requires g c =
    let is = head-named g.T.Runs.run c.args.parts.now c.args.upper.now c.args.self.now c.head.result heads.Newer c.requires.placed c.requires.sought.goes_on c.head.ensures c.in-Newer.is in
    slice_get_within c.args.upper.now.rows c.args.self.now.at is.0 is.1

pub returns-in-Newer : goal.returns-in-Newer
returns-in-Newer g c = if-ok (CopiesPair (Some c.row.result.now)) (CopiesFirst (rows_left g.T.Runs.run c.args.parts.now c.args.upper.now c.args.self.now)) c.copied_newer.result (λ row h. copies-first (pairs_left g.T.Runs.run c.args.parts.now c.args.upper.now c.args.self.now) c.row.result.now row (newer-first g.T.Runs.run c.args.parts.now c.args.upper.now c.args.self.now c.head.result c.row.result.now c.requires.placed c.requires.sought c.head.ensures c.in-Newer.is c.row.ensures) h) c.copied_newer.ensures

pub row-requires-in-Both : goal.row-requires-in-Both
row-requires-in-Both g c =
    let is = head-named g.T.Runs.run c.args.parts.now c.args.upper.now c.args.self.now c.head.result heads.Both c.requires.placed c.requires.sought.goes_on c.head.ensures c.in-Both.is in
    slice_get_within c.args.upper.now.rows c.args.self.now.at is.0 is.1

pub returns-in-Both : goal.returns-in-Both
returns-in-Both g c = if-ok (CopiesPair (Some c.row-in-Both.result.now)) (CopiesFirst (rows_left g.T.Runs.run c.args.parts.now c.args.upper.now c.args.self.now)) c.copied_newer-in-Both.result (λ row h. copies-first (pairs_left g.T.Runs.run c.args.parts.now c.args.upper.now c.args.self.now) c.row-in-Both.result.now row (both-first g.T.Runs.run c.args.parts.now c.args.upper.now c.args.self.now c.head.result c.row-in-Both.result.now c.requires.placed c.requires.sought c.head.ensures c.in-Both.is c.row-in-Both.ensures) h) c.copied_newer-in-Both.ensures

pub part-part-requires : goal.part-part-requires
part-part-requires g c = older-inside g.T.Runs.run c.args.parts.now c.args.upper.now c.args.self.now c.head.result c.in-Older.spot c.requires.placed c.requires.sought.goes_on c.head.ensures c.in-Older.is

pub copied_older-requires : goal.copied_older-requires
copied_older-requires g c =
    let first = older-first g.T.Runs.run c.args.parts.now c.args.upper.now c.args.self.now c.head.result c.in-Older.spot c.part-part.result.now c.requires.placed c.requires.sought c.head.ensures c.in-Older.is c.part-part.ensures in
    there-some (pair_of (map g.T.Runs.run c.as_slice.result.now) c.in-Older.spot) first.pair (ap (λ rs. pair_of (map g.T.Runs.run rs) c.in-Older.spot) c.as_slice.ensures.value ∙ ap (λ (p : PartState _). pair_of (map g.T.Runs.run p.runs) c.in-Older.spot) c.part.view_is ∙ first.at)

pub returns-in-Older : goal.returns-in-Older
returns-in-Older g c =
    let first = older-first g.T.Runs.run c.args.parts.now c.args.upper.now c.args.self.now c.head.result c.in-Older.spot c.part-part.result.now c.requires.placed c.requires.sought c.head.ensures c.in-Older.is c.part-part.ensures in
    if-ok (CopiesPair (pair_of (map g.T.Runs.run c.as_slice.result.now) c.in-Older.spot)) (CopiesFirst (rows_left g.T.Runs.run c.args.parts.now c.args.upper.now c.args.self.now)) c.copied_older.result (λ row h. copies-first (pairs_left g.T.Runs.run c.args.parts.now c.args.upper.now c.args.self.now) first.pair row first.first (subst (λ o. CopiesPair o row) (ap (λ rs. pair_of (map g.T.Runs.run rs) c.in-Older.spot) c.as_slice.ensures.value ∙ ap (λ (p : PartState _). pair_of (map g.T.Runs.run p.runs) c.in-Older.spot) c.part.view_is ∙ first.at) h)) c.copied_older.ensures

pub returns : goal.returns
returns g c = end-rows g.T.Runs.run c.args.parts.now c.args.upper.now c.args.self.now c.head.result c.requires.placed c.requires.sought.goes_on c.head.ensures c.in-End.is
