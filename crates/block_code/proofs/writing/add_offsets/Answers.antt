use Rattle.std.proofs.Common.{ap, length, arith}
use Rattle.std.proofs.lemmas.List.{length-append}
use Rattle.rdb_base.specs.Runs.{sizes}
use Rattle.block_code.specs.Blocks.{offsets_from}
use Rattle.block_code.proofs.AgainLemmas.{length-offsets_from}
use Rattle.block_code.proofs.WriteLemmas.{offsets_go_on, offsets_done, number_longer}
use Rattle.block_code.proofs.writing.add_offsets.Goals as goal

pub offsets-preserved : goal.offsets-preserved
offsets-preserved c =
    record {
      so_far = offsets_go_on c.offsets.out.items _ c.offsets.place c.size.result c.in-Some.pair.now c.offsets.rest.now c.in-Some.more.now _ c.in-Some.ensures.some c.add_number.ensures.items c.size.ensures.size c.offsets.invariant.so_far;
      room = omega (arith, c.offsets.invariant.room, ap (λ l. length l) c.in-Some.ensures.some, number_longer _ _ _ c.add_number.ensures.items, c.add_number.ensures.capacity);
      capacity = omega (arith, c.offsets.invariant.capacity, c.add_number.ensures.capacity);
      place = λ some. let all = c.offsets.invariant.one_unit (omega (arith, some, ap (λ l. length l) c.in-Some.ensures.some)) in omega (arith, all, ap sizes c.in-Some.ensures.some, c.size.ensures.size);
      one_unit = λ many. let all = c.offsets.invariant.one_unit (omega (arith, many, ap (λ l. length l) c.in-Some.ensures.some)) in omega (arith, all, ap sizes c.in-Some.ensures.some, c.size.ensures.size);
    }

pub returns-clause-items : goal.returns-clause-items
returns-clause-items c = offsets_done c.offsets.out.items c.offsets.place c.offsets.rest.now _ (c.split.ensures.none c.in_default.is) c.offsets.invariant.so_far

pub returns-clause-len : goal.returns-clause-len
returns-clause-len c = omega (arith, ap (λ l. length l) (returns-clause-items c), length-append c.args.out.now.items (offsets_from c.args.first c.args.pairs.now), length-offsets_from c.args.first c.args.pairs.now)
