use Rattle.std.proofs.Common.{◌≡◌, List, sym, ap, subst, ◌∙◌, arith}
use Rattle.std.specs.List.{AllByRecursion}
use Rattle.edition_code.specs.Values.{PartValue, EditionValue}
use Rattle.edition_code.specs.Laws.{IsPartWithin, IsPartHeld}
use Rattle.edition_code.proofs.WriteLemmas.{parts_within}
use Rattle.edition_code.proofs.encoding.payload_of.Goals as goal

pub parts_len-requires-clause-within : goal.parts_len-requires-clause-within
parts_len-requires-clause-within c =
    let parts : c.as_slice-parts.result.now ≡ c.args.edition.now.partitions = c.as_slice-parts.ensures.value ∙ ap (λ (e : EditionValue). e.partitions) c.edition.view_is in
    subst (λ (ps : List PartValue). AllByRecursion IsPartWithin ps) (sym parts) (parts_within c.args.edition.now.partitions c.requires.first_low c.requires.low_lengths c.requires.runs_few)

pub add_parts-requires-clause-within : goal.add_parts-requires-clause-within
add_parts-requires-clause-within c =
    let parts : c.as_slice-parts.result.now ≡ c.args.edition.now.partitions = c.as_slice-parts.ensures.value ∙ ap (λ (e : EditionValue). e.partitions) c.edition.view_is in
    subst (λ (ps : List PartValue). AllByRecursion IsPartWithin ps) (sym parts) (parts_within c.args.edition.now.partitions c.requires.first_low c.requires.low_lengths c.requires.runs_few)

pub returns-clause-held : goal.returns-clause-held
returns-clause-held c =
    let parts : c.as_slice-parts.result.now ≡ c.args.edition.now.partitions = c.as_slice-parts.ensures.value ∙ ap (λ (e : EditionValue). e.partitions) c.edition.view_is in
    let next = c.add_edition_head.ensures.held.0 in
    let first = c.add_edition_head.ensures.held.1 in
    let next_is = ap (λ (e : EditionValue). e.next) c.edition.view_is in
    let first_is = ap (λ (e : EditionValue). e.first) c.edition.view_is in
    record {
      next = omega (arith, next, next_is);
      first = omega (arith, first, first_is);
      partitions = subst (λ (ps : List PartValue). AllByRecursion IsPartHeld ps) parts c.add_parts.ensures.held;
    }
