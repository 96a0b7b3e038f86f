use Rattle.std.proofs.Common.{rules, refl, ◌∙◌}
use Rattle.table_file.proofs.OpenLemmas.{are_places, is_held}
use Rattle.table_file.proofs.held.kept_of.Goals as goal

pub size_of_pairs-size-requires : goal.size_of_pairs-size-requires
size_of_pairs-size-requires c = are_places c.args.bytes.now c.as_slice.result.now _ c.requires refl (c.as_slice.ensures.value ∙ c.in_ok-starts.ensures)

pub returns : goal.returns
returns c = is_held c.args.bytes.now c.in_ok-starts.starts.items _ _ c.requires refl c.in_ok-starts.ensures (search rules)
