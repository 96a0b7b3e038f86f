use Rattle.std.proofs.Common.{◌≡◌, ◌-◌, ◌<◌, [], true, eqb, IsOk}
use Rattle.edition_code.specs.Reading.{part_head_at, parts_at}
use Rattle.edition_code.proofs.ReadLemmas.{after}
use Rattle.edition_code.proofs.parts.parts.Given as goal

abbrev pub invariant-parts : goal.invariant-parts
invariant-parts l = record {
  so_far : parts_at l.fn.count l.fn.next true [] [] l.fn.bytes ≡ after l.parts.items (parts_at (l.fn.count - l.done) l.fn.next (eqb l.done 0) l.last l.seen l.rest);
  begins : l.done ≡ 0 → (l.rest ≡ l.fn.bytes) × (l.last ≡ []);
  first : 0 < l.done → IsOk (part_head_at true [] l.fn.bytes);
}
