use Rattle.std.proofs.Common.{◌≡◌, ◌-◌, List, ℕ, get_or, take, sym, ap, ◌∙◌, subst, arith}
use Rattle.rdb_base.specs.Order.{key_cmp}
use Rattle.rdb_base.specs.declared.pair.Pair.{Pair}
use Rattle.worm_leaf.specs.Anchors.{IsAnchor}
use Rattle.worm_leaf.proofs.LeafLemmas.{neighbours_at, get-inside, got_is}
use Rattle.worm_leaf.proofs.leaf.part_at.Goals as goal

pub parting_length-len-requires : goal.parting_length-len-requires
parting_length-len-requires c =
    let run = c.args.pairs.now in
    let place = c.args.place in
    let first = get-inside run place c.index-pairs-place.result c.requires.inside.1 in
    let last = get-inside run (place - 1) c.index-pairs-place-2.result (omega (arith, c.requires.inside.0, c.requires.inside.1)) in
    let l = get_or run (place - 1) c.index-pairs-place-2.result in
    let f = get_or run place c.index-pairs-place.result in
    record {
      below = ap (λ k. key_cmp k c.as_bytes-first.result.now) c.as_bytes.ensures.bytes ∙ ap (key_cmp l.key) c.as_bytes-first.ensures.bytes ∙ neighbours_at run place l f c.requires.rises c.requires.inside.0 last first;
    }

pub returns : goal.returns
returns c = λ last first at next.
    let run = c.args.pairs.now in
    let place = c.args.place in
    let my : c.as_bytes.result.now ≡ last.key = c.as_bytes.ensures.bytes ∙ ap (λ (p : Pair). p.key) (got_is run (place - 1) c.index-pairs-place-2.result last at) in
    let their : c.as_bytes-first.result.now ≡ first.key = c.as_bytes-first.ensures.bytes ∙ ap (λ (p : Pair). p.key) (got_is run place c.index-pairs-place.result first next) in
    let cut : c.set.new.self ≡ take c.parting_length-len.result c.as_bytes-first.result.now = c.set.ensures ∙ c.split_at.ensures.front in
    subst (λ (z : List ℕ). IsAnchor last.key first.key z) (sym cut)
    (subst (λ (z : List ℕ). IsAnchor z first.key (take c.parting_length-len.result c.as_bytes-first.result.now)) my
    (subst (λ (z : List ℕ). IsAnchor c.as_bytes.result.now z (take c.parting_length-len.result c.as_bytes-first.result.now)) their c.parting_length-len.ensures.anchor))
