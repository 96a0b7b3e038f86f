use Rattle.std.proofs.Common.{◌≡◌, ◌+◌, ℕ, List, length, map, refl, sym, ap, subst, ◌∙◌, arith}
use Rattle.std.specs.Prelude.{None, replicate, slice_index, slice_get, [], ◌∷◌}
use Rattle.rdb_base.specs.declared.pair.Pair.{Pair}
use Rattle.std.proofs.Math.ListN.{length-set}
use Rattle.std.proofs.lemmas.List.{length-map, length-replicate, length-append}
use Rattle.remix_seek.specs.Versions.{run_at}
use Rattle.remix_seek.proofs.ReadLemmas.{run_at-map}
use Rattle.remix_build.specs.Heads.{lent_key, key_of}
use Rattle.remix_build.specs.Merging.{Merging}
use Rattle.remix_build.proofs.HeadLemmas.{heads_begun, heads_moved, least_found, none_found}
use Rattle.remix_build.proofs.MergeLemmas.{merging_step, key_there, place_there, zeros_at, merging_begun, merging_ended}
use Rattle.remix_build.proofs.CostLemmas.{no_heads, head_here, heads_there-set, runs_rise, short_run}
use Rattle.remix_build.proofs.order.order_of.Goals as goal

pub returns-in-None-clause-order : goal.returns-in-None-clause-order
returns-in-None-clause-order g c =
    merging_ended (map g.T.Runs.run c.args.runs.now) c.versions.places.items c.versions.order.items (lent_key c.versions.last) c.versions.invariant.merging
    (none_found (map g.T.Runs.run c.args.runs.now) c.versions.places.items c.versions.heads.items c.as_slice.result.now c.least.result c.as_slice.ensures.value c.least.ensures c.in-None.is c.versions.invariant.heads_are)

pub returns-in-None-clause-cost : goal.returns-in-None-clause-cost
returns-in-None-clause-cost g c =
    let none = no_heads c.versions.heads.items c.as_slice.result.now c.least.result c.as_slice.ensures.value c.least.ensures c.in-None.is in
    omega (arith, c.versions.invariant.cost, none)

pub versions-init : goal.versions-init
versions-init g c =
    let zero : c.in_ok-places.places.items ≡ replicate (length c.args.runs.now) 0 = c.in_ok-places.ensures in
    let first : (run : ℕ) → slice_index c.in_ok-places.places.items run ≡ 0 = λ run. ap (λ (xs : List ℕ). slice_index xs run) zero ∙ zeros_at (length c.args.runs.now) run in
    record {
      merging = subst (λ (xs : List ℕ). Merging (map g.T.Runs.run c.args.runs.now) c.in_ok-places.places.items xs None) (sym c.new-order.ensures.items) (merging_begun (map g.T.Runs.run c.args.runs.now) c.in_ok-places.places.items first);
      heads_are = heads_begun (map g.T.Runs.run c.args.runs.now) c.in_ok-places.places.items c.in_ok-heads.heads.items first c.in_ok-heads.ensures.heads;
      long = ap length zero ∙ length-replicate (length c.args.runs.now) 0 ∙ sym (length-map c.args.runs.now g.T.Runs.run);
      cost = omega (arith, c.in_ok-heads.ensures.cost, ap length c.new-order.ensures.items);
    }

pub next_selector-requires-clause-key : goal.next_selector-requires-clause-key
next_selector-requires-clause-key g c =
    key_there (map g.T.Runs.run c.args.runs.now) c.versions.places.items c.in-Some.run' c.index-place.result.now c.in-Some.key.now c.versions.invariant.long
    (least_found (map g.T.Runs.run c.args.runs.now) c.versions.places.items c.versions.heads.items c.as_slice.result.now c.least.result c.in-Some.run' c.in-Some.key c.as_slice.ensures.value c.least.ensures c.in-Some.is c.versions.invariant.heads_are)
    c.index-place.ensures

pub overflow_add-after : goal.overflow_add-after
overflow_add-after g c =
    let there = least_found (map g.T.Runs.run c.args.runs.now) c.versions.places.items c.versions.heads.items c.as_slice.result.now c.least.result c.in-Some.run' c.in-Some.key c.as_slice.ensures.value c.least.ensures c.in-Some.is c.versions.invariant.heads_are in
    let at = key_there (map g.T.Runs.run c.args.runs.now) c.versions.places.items c.in-Some.run' c.index-place.result.now c.in-Some.key.now c.versions.invariant.long there c.index-place.ensures in
    omega (arith, place_there (run_at (map g.T.Runs.run c.args.runs.now) c.in-Some.run') c.index-place.result.now c.in-Some.key.now at, short_run (map g.T.Runs.run c.args.runs.now) c.in-Some.run' c.requires.runs there.next.low)

pub versions-preserved : goal.versions-preserved
versions-preserved g c =
    let there = least_found (map g.T.Runs.run c.args.runs.now) c.versions.places.items c.versions.heads.items c.as_slice.result.now c.least.result c.in-Some.run' c.in-Some.key c.as_slice.ensures.value c.least.ensures c.in-Some.is c.versions.invariant.heads_are in
    let head : lent_key c.head_at.result ≡ key_of (slice_get (run_at (map g.T.Runs.run c.args.runs.now) c.in-Some.run') (c.index-place.result.now + 1)) =
    c.head_at.ensures.head ∙ ap (λ (run : List Pair). key_of (slice_get run (c.index-place.result.now + 1))) (sym (run_at-map g.T.Runs.run c.args.runs.now c.in-Some.run' c.index-runs-run.result (omega (arith, there.next.low, length-map c.args.runs.now g.T.Runs.run)) c.index-runs-run.is)) in
    let rise = runs_rise (map g.T.Runs.run c.args.runs.now) c.requires.runs in
    let moved = heads_there-set c.versions.heads.items c.in-Some.run' c.head_at.result (omega (arith, there.next.low, c.versions.invariant.heads_are.long)) (head_here c.versions.heads.items c.as_slice.result.now c.least.result c.in-Some.run' c.in-Some.key c.as_slice.ensures.value c.least.ensures c.in-Some.is) in
    record {
      merging = merging_step (map g.T.Runs.run c.args.runs.now) c.versions.places.items c.versions.order.items c.push.new.self.items (lent_key c.versions.last) c.in-Some.run' c.index-place.result.now (c.index-place.result.now + 1) c.next_selector.result c.in-Some.key.now rise c.versions.invariant.merging c.versions.invariant.long there c.index-place.ensures refl c.next_selector.ensures c.in_ok-push-in-Some.ensures.items;
      heads_are = heads_moved (map g.T.Runs.run c.args.runs.now) c.versions.places.items c.versions.heads.items c.in-Some.run' (c.index-place.result.now + 1) c.head_at.result there.next.low c.versions.invariant.long head c.versions.invariant.heads_are;
      long = length-set c.versions.places.items c.in-Some.run' (c.index-place.result.now + 1) ∙ c.versions.invariant.long;
      cost = omega (arith, c.versions.invariant.cost, c.head_at.ensures.cost, length-append c.versions.order.items (c.next_selector.result ∷ []), ap length c.in_ok-push-in-Some.ensures.items, moved);
    }
