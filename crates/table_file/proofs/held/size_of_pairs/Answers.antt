use Rattle.std.proofs.Common.{◌<◌, length, get_or, sym, arith}
use Rattle.std.proofs.lemmas.Grind.{get_or_default_zero}
use Rattle.table_file.proofs.HeldLemmas.{sizes-next}
use Rattle.table_file.proofs.held.size_of_pairs.Goals as goal

pub places-preserved : goal.places-preserved
places-preserved c =
    let lt : c.places.start-index < length c.args.starts.now = omega (arith, c.places-test.true) in
    let start = get_or c.args.starts.now c.places.start-index 0 in
    let next = sizes-next c.args.bytes.now c.args.starts.now c.places.start-index start lt (sym (get_or_default_zero c.args.starts.now c.places.start-index start lt)) in
    record {
      sum = omega (arith, next, c.places.invariant.sum, c.size_in-sum.ensures.size);
      most = omega (arith, c.places.invariant.most, c.size_in-sum.ensures.most);
    }
