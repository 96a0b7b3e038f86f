use Rattle.std.proofs.Common.{◌∙◌, ap, sym, subst}
use Rattle.manifest_core.specs.Manifests.{HasOne}
use Rattle.manifest_core.specs.ManifestState.{first_strip, second_strip}
use Rattle.manifest_core.specs.Pairs.{StandNow}
use Rattle.manifest_core.proofs.PairLemmas.{stand_one, crashes-as}
use Rattle.manifest_core.proofs.manifest.Manifest.commit.Goals as goal

pub returns-clause-whole : goal.returns-clause-whole
returns-clause-whole g c =
    let left = subst (λ m. StandNow g.S.Strip (first_strip m) (second_strip m) (HasOne m.stands m.newest)) (sym c.self-2.view_is) c.tell_images-2.ensures.left in
    stand_one g.S.Strip _ _ _ _ c.args.edition (ap (λ m. m.stands) c.self-2.view_is ∙ c.in_ok-written.ensures.stands.0) (ap (λ m. m.newest) c.self-2.view_is ∙ c.in_ok-written.ensures.stands.1) left

pub returns-clause-crash : goal.returns-clause-crash
returns-clause-crash g c = crashes-as g.S.Strip c.args.self.now c.write-written.new.self _ c.args.edition (ap first_strip c.self-2.view_is) (ap second_strip c.self-2.view_is) c.write-written.ensures.crash
