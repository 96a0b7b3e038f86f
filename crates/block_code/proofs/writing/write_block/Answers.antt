use Rattle.std.proofs.Common.{ℕ, List, ◌++◌, length, ap, ◌∙◌, arith}
use Rattle.std.specs.Int.{w16, to_be_bytes}
use Rattle.block_code.proofs.WriteLemmas.{block_written, block_long}
use Rattle.block_code.proofs.writing.write_block.Goals as goal

pub returns-in_err-reserve-clause-room : goal.returns-in_err-reserve-clause-room
returns-in_err-reserve-clause-room c =
    let long = block_long c.args.pairs.now _ _ _ c.first_place-first.ensures c.sizes_of.ensures.sizes c.padding_of-padding.ensures.size in
    λ room. absurd (omega (arith, room, long, c.in_err-reserve.ensures.full))

pub returns-clause-ok : goal.returns-clause-ok
returns-clause-ok c =
    block_written c.args.out.now.items c.add_number.new.out.items c.add_offsets.new.out.items c.add_pairs.new.out.items c.add_zeros.new.out.items c.args.pairs.now _ _ _
    c.first_place-first.ensures (omega (arith, c.first_place-first.ensures, c.sizes_of.ensures.sizes)) c.padding_of-padding.ensures.size
    (c.add_number.ensures.items ∙ ap (λ (l : List ℕ). l ++ to_be_bytes w16 (length c.args.pairs.now)) c.in_ok-reserve.ensures.items)
    c.add_offsets.ensures.items c.add_pairs.ensures.items c.add_zeros.ensures.items

pub returns-clause-capacity : goal.returns-clause-capacity
returns-clause-capacity c = omega (arith, c.in_ok-reserve.ensures.capacity, c.add_number.ensures.capacity, c.add_offsets.ensures.capacity, c.add_pairs.ensures.capacity, c.add_zeros.ensures.capacity)
