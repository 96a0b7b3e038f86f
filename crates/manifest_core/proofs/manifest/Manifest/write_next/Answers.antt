use Rattle.std.proofs.Common.{◌∙◌, inl}
use Rattle.manifest_core.specs.Manifests.{HasEdition, HasOne}
use Rattle.manifest_core.specs.Steps.{is_full}
use Rattle.manifest_core.proofs.PairLemmas.{joined, one_as}
use Rattle.manifest_core.proofs.manifest.Manifest.write_next.Goals as goal

pub returns-clause-calls : goal.returns-clause-calls
returns-clause-calls g c =
    let stands = c.args.self.now.stands in
    let edition = c.args.edition.now in
    let staged = c.stage.new.self in
    joined g.S.Strip c.args.self.now c.make_current.new.self staged c.settle.new.self (HasEdition stands) (HasOne staged.stands staged.newest) (HasOne stands edition) (is_full c.args.self.now.current)
    c.in_ok-make_current.ensures.turns c.stage.ensures.strip c.stage.ensures.other.0 c.stage.ensures.other.1 c.settle.ensures.other.0 c.settle.ensures.other.1 (g.met.S.Strip.counts_earlier c.settle.new.self.current.strip)
    (λ x y has. inl has) (one_as staged.stands staged.newest stands edition (c.stage.ensures.stands ∙ c.make_current.ensures.stands.0) c.in_ok-stage.ensures.newest)
    c.make_current.ensures.calls c.settle.ensures.calls
