use Rattle.std.proofs.Common.{◌≡◌, ◌∷◌, [], ◌++◌, ℕ, List, length, sym, ap, refl, ◌∙◌, append_assoc, append-nil, arith}
use Rattle.std.specs.Vec.Iter.{into_iter_items}
use Rattle.rdb_base.specs.declared.row.Row.{Row}
use Rattle.rdb_base.specs.declared.entry.Entry.{Entry}
use Rattle.rdb_base.specs.Maps.{applied_all, changed}
use Rattle.rdb_base.proofs.HistoryLemmas.{applied_all-append}
use Rattle.store_run.proofs.opening.map_after.Goals as goal

nothing_left : {X : Type 0} (l : List X) → length l ≡ 0 → l ≡ []
nothing_left [] h = refl
nothing_left (x ∷ xs) h = absurd (omega (arith, h))

pub loop-entry-preserved : goal.loop-entry-preserved
loop-entry-preserved c =
    let at = c.loop-entry in
    let entry = c.in-Some.entry in
    let steps : into_iter_items at.entry-iterator ≡ entry ∷ into_iter_items c.next.new.self = c.in-Some.ensures.steps.0 in
    record {
      rest = append_assoc at.yielded (entry ∷ []) (into_iter_items c.next.new.self) ∙ ap (λ (es : List Entry). at.yielded ++ es) (sym steps) ∙ at.invariant.rest;
      len = omega (arith, at.invariant.len, c.in-Some.ensures.steps.1, ap (λ (es : List Entry). length es) steps);
      map = c.in_ok-set.ensures.changed ∙ ap (λ (rows : List Row). changed rows entry.key entry.change) at.invariant.map ∙ sym (applied_all-append [] at.yielded (entry ∷ []));
      told = c.push.ensures ∙ ap (λ (es : List Entry). es ++ entry ∷ []) at.invariant.told;
    }

pub returns-clause-map : goal.returns-clause-map
returns-clause-map c =
    let at = c.loop-entry in
    let empty : into_iter_items at.entry-iterator ≡ [] = nothing_left _ (sym at.invariant.len ∙ c.in-None.ensures.steps.0) in
    let all = sym (append-nil at.yielded) ∙ rw empty at at.invariant.rest ∙ c.into_iter-entry-iterator.ensures.into_iter_gives.0 in
    at.invariant.map ∙ ap (λ (es : List Entry). applied_all [] es) all

pub returns-clause-told : goal.returns-clause-told
returns-clause-told c =
    let at = c.loop-entry in
    let empty : into_iter_items at.entry-iterator ≡ [] = nothing_left _ (sym at.invariant.len ∙ c.in-None.ensures.steps.0) in
    let all = sym (append-nil at.yielded) ∙ rw empty at at.invariant.rest ∙ c.into_iter-entry-iterator.ensures.into_iter_gives.0 in
    at.invariant.told ∙ all
