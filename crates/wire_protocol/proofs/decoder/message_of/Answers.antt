use Rattle.std.proofs.Common.{arith, ap, ◌∙◌}
use Rattle.wire_protocol.specs.Grammar.{message}
use Rattle.wire_protocol.proofs.MessageLemmas.{held_is, refused_answer}
use Rattle.wire_protocol.proofs.decoder.message_of.Goals as goal

pub returns-in-Ok : goal.returns-in-Ok
returns-in-Ok c =
    let whole = held_is c.args.held.now c.split_at.result.1.now c.wanted_of.result c.length_of-len.result c.split_at.ensures.back (λ i. omega (arith, c.type_inv.held i)) c.requires c.wanted_of.ensures c.if-wanted_of-ne0.false c.length_of-len.ensures c.if-len-eq0.false c.if-len-gt-BODY_MAX.false in
    (whole ∙ ap message c.in-Ok.ensures.found.0, c.in-Ok.ensures.found.1)

pub returns-in-Err : goal.returns-in-Err
returns-in-Err c =
    let whole = held_is c.args.held.now c.split_at.result.1.now c.wanted_of.result c.length_of-len.result c.split_at.ensures.back (λ i. omega (arith, c.type_inv.held i)) c.requires c.wanted_of.ensures c.if-wanted_of-ne0.false c.length_of-len.ensures c.if-len-eq0.false c.if-len-gt-BODY_MAX.false in
    refused_answer c.args.held.now c.split_at.result.1.now c.wanted_of.result c.length_of-len.result c.in-Err.error c.split_at.ensures.back whole c.wanted_of.ensures c.if-wanted_of-ne0.false c.length_of-len.ensures c.if-len-eq0.false c.if-len-gt-BODY_MAX.false c.in-Err.ensures.exact c.in-Err.ensures.memory c.requires
