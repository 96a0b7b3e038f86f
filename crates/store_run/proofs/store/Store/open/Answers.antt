use Rattle.std.proofs.Common.{◌≡◌, List, ◌∷◌, refl, sym, ap, ◌∙◌}
use Rattle.std.specs.Prelude.{slice_get}
use Rattle.store_run.proofs.store.Store.open.Goals as goal

pub open-requires : goal.open-requires
open-requires g c = c.requires.log 0 c.take_first-strip.result (ap (λ xs. slice_get xs 0) (sym c.reserve.ensures.items ∙ c.take_first-strip.ensures.items))

pub returns-in-Err-clause-refused : goal.returns-in-Err-clause-refused
returns-in-Err-clause-refused g c =
    let devices = c.args.devices in
    record {
      beside = record { strips = c.take_first-strip.new.strips.items; manifest_a = devices.manifest_a; manifest_b = devices.manifest_b; shelf = devices.shelf };
      was = c.take_first-strip.result;
      before = record { first = c.take_first-strip.result; strips = sym c.reserve.ensures.items ∙ c.take_first-strip.ensures.items; manifest_a = refl; manifest_b = refl; shelf = refl; holds = refl };
      now = record { first = c.in-Err.strip; strips = c.put_first.ensures; manifest_a = refl; manifest_b = refl; shelf = refl; holds = c.in-Err.ensures.refused };
    }
