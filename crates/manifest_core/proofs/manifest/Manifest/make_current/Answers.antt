use Rattle.std.proofs.Common.{refl}
use Rattle.manifest_core.specs.Manifests.{HasEdition}
use Rattle.manifest_core.specs.ManifestState.{first_strip, second_strip}
use Rattle.manifest_core.proofs.PairLemmas.{pair-none, stand_one}
use Rattle.manifest_core.proofs.manifest.Manifest.make_current.Goals as goal

pub returns-then-not-is_full-clause-calls : goal.returns-then-not-is_full-clause-calls
returns-then-not-is_full-clause-calls g c =
    let now = c.args.self.now in
    let one = stand_one g.S.Strip (first_strip now) (second_strip now) now.stands now.newest now.stands refl (c.tell_images.ensures.same c.requires) c.tell_images.ensures.left in
    pair-none g.S.Strip 4 (first_strip now) (second_strip now) (HasEdition now.stands) (g.met.S.Strip.only_now (first_strip now)) (g.met.S.Strip.only_now (second_strip now)) one.images
