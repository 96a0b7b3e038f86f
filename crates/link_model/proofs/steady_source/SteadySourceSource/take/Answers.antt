use Rattle.std.proofs.Common.{ap, drop, length, ◌∙◌, rules}
use Rattle.link_model.proofs.TakeLemmas.{takes_front}
use Rattle.link_model.proofs.steady_source.SteadySourceSource.take.Goals as goal

pub returns-clause-bytes : goal.returns-clause-bytes
returns-clause-bytes c =
    let rest = c.split_at.ensures.back ∙ ap (drop c.self.inside.at) c.as_slice.ensures.value in
    rw (← c.self.view_is) (takes_front c.self.inside.bytes.items c.split_at.result.1.now c.copy_front-count.new.into
    c.self.inside.at c.copy_front-count.result (length c.args.into.now) rest c.copy_front-count.ensures.count
    (search rules) c.copy_front-count.ensures.front c.requires)
