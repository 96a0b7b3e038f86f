use Rattle.std.proofs.Common.{◌++◌, List, sym, ap, ◌∙◌, arith}
use Rattle.rdb_base.specs.declared.pair.Pair.{Pair}
use Rattle.block_code.specs.Blocks.{block}
use Rattle.table_file.specs.Tables.{unit_counts}
use Rattle.table_file.proofs.PackLemmas.{drafted-first, drafted-fits, drafted-full, drafted-done}
use Rattle.table_file.proofs.writing.draft_of.Goals.{then-block_fits, else-block_fits+in_ok-add_block}
use Rattle.table_file.proofs.writing.draft_of.Goals as goal

pub pairs-init : goal.pairs-init
pairs-init c = record { drafted = drafted-first c.args.pairs.now c.size_within-size.result c.new.result.items c.new-2.result.items c.index-pairs-0.result c.requires c.index-pairs-0.is c.size_within-size.ensures.size c.size_within-size.ensures.within c.new.ensures.items c.new-2.ensures.items }

pub pairs-preserved : goal.pairs-preserved
pairs-preserved c = elim c.if-block_fits.branch [
  | then-block_fits w ↦
      record {
        drafted = drafted-fits c.args.pairs.now c.pairs.first c.pairs.at c.pairs.size c.size_within-more.result c.pairs.draft.units.items c.pairs.draft.counts.items c.index-pairs-at.result _ _ _ _ c.pairs.invariant.drafted (omega (arith, c.pairs-test.true)) c.index-pairs-at.is
            c.size_within-more.ensures.size c.size_within-more.ensures.within (sym c.block_fits.ensures ∙ w.if-block_fits.true) w.first-is w.size-is (ap (λ d. d.units.items) w.draft-is) (ap (λ d. d.counts.items) w.draft-is);
      }
  | else-block_fits+in_ok-add_block w ↦
      record {
        drafted = drafted-full c.args.pairs.now c.pairs.first c.pairs.at c.pairs.size c.size_within-more.result c.pairs.draft.units.items c.pairs.draft.counts.items _ _ c.index-pairs-at.result _ _ c.pairs.invariant.drafted (omega (arith, c.pairs-test.true)) c.index-pairs-at.is
            c.size_within-more.ensures.size c.size_within-more.ensures.within (sym c.block_fits.ensures ∙ w.if-block_fits.false) w.first-is w.size-is
            (ap (λ d. d.units.items) w.draft-is ∙ w.in_ok-add_block.ensures.units ∙ ap (λ (l : List Pair). c.pairs.draft.units.items ++ block l) w.between.ensures)
            (ap (λ d. d.counts.items) w.draft-is ∙ w.in_ok-add_block.ensures.counts ∙ ap (λ (l : List Pair). c.pairs.draft.counts.items ++ unit_counts l) w.between.ensures);
      }
]

pub returns-clause-units : goal.returns-clause-units
returns-clause-units c = (drafted-done c.args.pairs.now c.pairs.first c.pairs.at c.pairs.size c.pairs.draft.units.items c.pairs.draft.counts.items _ _ c.pairs.invariant.drafted (omega (arith, c.pairs.invariant.drafted.inside, c.pairs-test.false))
    (c.in_ok-add_block-2.ensures.units ∙ ap (λ (l : List Pair). c.pairs.draft.units.items ++ block l) c.between-2.ensures) (c.in_ok-add_block-2.ensures.counts ∙ ap (λ (l : List Pair). c.pairs.draft.counts.items ++ unit_counts l) c.between-2.ensures)).0

pub returns-clause-counts : goal.returns-clause-counts
returns-clause-counts c = (drafted-done c.args.pairs.now c.pairs.first c.pairs.at c.pairs.size c.pairs.draft.units.items c.pairs.draft.counts.items _ _ c.pairs.invariant.drafted (omega (arith, c.pairs.invariant.drafted.inside, c.pairs-test.false))
    (c.in_ok-add_block-2.ensures.units ∙ ap (λ (l : List Pair). c.pairs.draft.units.items ++ block l) c.between-2.ensures) (c.in_ok-add_block-2.ensures.counts ∙ ap (λ (l : List Pair). c.pairs.draft.counts.items ++ unit_counts l) c.between-2.ensures)).1

pub returns-clause-within : goal.returns-clause-within
returns-clause-within c = (drafted-done c.args.pairs.now c.pairs.first c.pairs.at c.pairs.size c.pairs.draft.units.items c.pairs.draft.counts.items _ _ c.pairs.invariant.drafted (omega (arith, c.pairs.invariant.drafted.inside, c.pairs-test.false))
    (c.in_ok-add_block-2.ensures.units ∙ ap (λ (l : List Pair). c.pairs.draft.units.items ++ block l) c.between-2.ensures) (c.in_ok-add_block-2.ensures.counts ∙ ap (λ (l : List Pair). c.pairs.draft.counts.items ++ unit_counts l) c.between-2.ensures)).2
