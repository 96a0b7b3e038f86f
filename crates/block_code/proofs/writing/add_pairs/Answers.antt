use Rattle.std.proofs.Common.{◌≡◌, ◌++◌, Result, OnOk, ap, subst, length, arith}
use Rattle.std.specs.declared.alloc.AllocError.{AllocError}
use Rattle.std.proofs.lemmas.List.{length-append}
use Rattle.rdb_base.specs.Runs.{sizes}
use Rattle.rdb_base.specs.PairFields.{pair_field}
use Rattle.rdb_base.proofs.PairLemmas as pairs
use Rattle.block_code.specs.Blocks.{pair_fields}
use Rattle.block_code.proofs.AgainLemmas.{length-pair_fields}
use Rattle.block_code.proofs.WriteLemmas.{fields_go_on, fields_done, pair_longer}
use Rattle.block_code.proofs.writing.add_pairs.Goals as goal

pub unwrap-requires : goal.unwrap-requires
unwrap-requires c =
    let pair = c.in-Some.pair.now in
    c.write_pair.ensures.room (omega (arith, c.pairs.invariant.room, ap sizes c.in-Some.ensures.some, pairs.pair_size pair.key pair.change))

pub pairs-preserved : goal.pairs-preserved
pairs-preserved c =
    let pair = c.in-Some.pair.now in
    let new = c.write_pair.new.out.items in
    let added : new ≡ c.pairs.out.items ++ pair_field pair.key pair.change = subst (λ (r : Result (Unit {0}) AllocError). OnOk r (new ≡ c.pairs.out.items ++ pair_field pair.key pair.change)) c.unwrap.ensures c.write_pair.ensures.ok in
    record {
      so_far = fields_go_on c.pairs.out.items new pair c.pairs.rest.now c.in-Some.more.now _ c.in-Some.ensures.some added c.pairs.invariant.so_far;
      room = omega (arith, c.pairs.invariant.room, ap sizes c.in-Some.ensures.some, pair_longer _ _ pair added, c.write_pair.ensures.capacity);
      capacity = omega (arith, c.pairs.invariant.capacity, c.write_pair.ensures.capacity);
    }

pub returns-clause-items : goal.returns-clause-items
returns-clause-items c = fields_done c.pairs.out.items c.pairs.rest.now _ (c.split.ensures.none c.in_default.is) c.pairs.invariant.so_far

pub returns-clause-len : goal.returns-clause-len
returns-clause-len c = omega (arith, ap (λ l. length l) (returns-clause-items c), length-append c.args.out.now.items (pair_fields c.args.pairs.now), length-pair_fields c.args.pairs.now)
