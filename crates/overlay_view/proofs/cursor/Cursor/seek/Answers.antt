use Rattle.std.proofs.Common.{List, map, sym, ap, subst, ◌∙◌}
use Rattle.rdb_base.specs.Searches.{IsPlaceOf}
use Rattle.rdb_base.specs.declared.pair.Pair.{Pair}
use Rattle.remix_view.proofs.Lists.{some_same}
use Rattle.remix_seek.specs.Indexes.{Indexes}
use Rattle.remix_seek.specs.Places.{IsFirstPlace}
use Rattle.partition_set.specs.Partitions.{PartState}
use Rattle.partition_set.proofs.SetLemmas.{part-at}
use Rattle.overlay_view.specs.Older.{older_from}
use Rattle.overlay_view.proofs.CursorLemmas.{sought-rows, sought-rises}
use Rattle.overlay_view.proofs.cursor.Cursor.seek.Goals as goal

pub seek-requires : goal.seek-requires
seek-requires g c =
    let indexed = (part-at g.T.Runs.run c.args.parts.now c.of_key-number.result c.part-part.result.now c.of_key-number.ensures.set.each c.part-part.ensures).1.indexed in
    subst (λ rs. Indexes (map g.T.Runs.run rs) c.part.inside.remix.view c.part.inside.remix.anchors) (sym c.as_slice.ensures.value)
    (subst (λ (p : PartState _). Indexes (map g.T.Runs.run p.runs) p.view p.anchors) (sym c.part.view_is) indexed)

pub settle-requires-clause-goes_on : goal.settle-requires-clause-goes_on
settle-requires-clause-goes_on g c =
    let same = some_same c.part-part.result.now c.of_key-number.ensures.part.part (sym c.part-part.ensures ∙ c.of_key-number.ensures.part.at) in
    let first = subst (λ (p : PartState _). IsFirstPlace (map g.T.Runs.run p.runs) p.view c.args.key.now c.in_ok-segment.segment c.in_ok-segment.place) (c.part.view_is ∙ same)
    (subst (λ rs. IsFirstPlace (map g.T.Runs.run rs) c.part.inside.remix.view c.args.key.now c.in_ok-segment.segment c.in_ok-segment.place) c.as_slice.ensures.value c.in_ok-segment.ensures.place) in
    record {
      stands = c.next_older-older.ensures.stands;
      rises = sought-rises g.T.Runs.run c.args.parts.now c.args.key.now c.of_key-number.result (record { segment = c.in_ok-segment.segment; place = c.in_ok-segment.place }) _ c.requires.formed c.requires.set c.of_key-number.ensures.part first
          (c.next_older-older.ensures.same ∙ ap (older_from g.T.Runs.run c.args.parts.now c.of_key-number.result) c.at.ensures);
    }

pub returns-clause-rows : goal.returns-clause-rows
returns-clause-rows g c =
    let same = some_same c.part-part.result.now c.of_key-number.ensures.part.part (sym c.part-part.ensures ∙ c.of_key-number.ensures.part.at) in
    let first = subst (λ (p : PartState _). IsFirstPlace (map g.T.Runs.run p.runs) p.view c.args.key.now c.in_ok-segment.segment c.in_ok-segment.place) (c.part.view_is ∙ same)
    (subst (λ rs. IsFirstPlace (map g.T.Runs.run rs) c.part.inside.remix.view c.args.key.now c.in_ok-segment.segment c.in_ok-segment.place) c.as_slice.ensures.value c.in_ok-segment.ensures.place) in
    c.settle.ensures.rows
    ∙ sought-rows g.T.Runs.run c.args.parts.now c.args.upper.now.rows c.args.key.now c.place_of-at.result c.of_key-number.result (record { segment = c.in_ok-segment.segment; place = c.in_ok-segment.place }) _ c.requires.formed c.requires.set
    (subst (λ (rows : List Pair). IsPlaceOf rows c.args.key.now c.place_of-at.result) c.rows.ensures c.place_of-at.ensures.place) c.of_key-number.ensures.part first
    (c.next_older-older.ensures.same ∙ ap (older_from g.T.Runs.run c.args.parts.now c.of_key-number.result) c.at.ensures)
