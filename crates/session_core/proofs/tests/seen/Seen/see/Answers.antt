-- The map after one entry more has that entry's row, or none.
use Rattle.std.proofs.Common.{◌≡◌, ◌+◌, [], ◌∷◌, ◌++◌, length, refl, ap, sym, ◌∙◌, arith}
use Rattle.std.proofs.lemmas.List.{length-append}
use Rattle.rdb_base.specs.declared.row.Row.{Row}
use Rattle.rdb_base.specs.declared.entry.Entry.{Entry}
use Rattle.rdb_base.specs.declared.change.Change.TheVariants.{Del}
use Rattle.rdb_base.specs.Maps.{changed, applied_all}
use Rattle.history_core.specs.Passes.{PassState, front_of, map_of}
use Rattle.std.specs.Prelude.{List}
use Rattle.session_core.proofs.OneRowLemmas.{map_after}
use Rattle.session_core.proofs.tests.seen.Seen.see.Goals as goal

pub invariant_of-self : goal.invariant_of-self
invariant_of-self c =
    let entry : Entry = record { caller = c.args.entry.caller; ordinal = c.args.entry.ordinal; key = c.args.entry.key; change = c.args.entry.change } in
    let entries = c.self.inside.entries in
    let longer : length c.push.new.self ≡ length entries + 1 = ap (λ (es : List Entry). length es) c.push.ensures ∙ length-append entries (entry ∷ []) in
    let map : map_of c.args.self.now ≡ applied_all [] entries = sym (ap (λ (p : PassState). map_of p) c.self.view_is) in
    let free : changed (applied_all [] entries) entry.key Del ≡ [] = ap (λ (rows : List Row). changed rows entry.key Del) (sym map) ∙ c.if-not-is_free_for.ensures refl in
    record {
      made = omega (arith, longer, c.self.invariant.made);
      own = omega (arith, c.self.invariant.own);
      most = omega (arith, c.requires, ap front_of c.self.view_is, c.self.invariant.made);
      map = ap (applied_all []) c.push.ensures ∙ map_after entries entry _ free c.row_of.ensures;
    }
