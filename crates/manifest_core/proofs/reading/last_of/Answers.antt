use Rattle.manifest_core.proofs.ReadLemmas.{last_frame-at, last_frame-end}
use Rattle.manifest_core.proofs.reading.last_of.Goals as goal

pub returns-in-len1-up-clause-some : goal.returns-in-len1-up-clause-some
returns-in-len1-up-clause-some c = last_frame-at c.args.frames.now c.frame-item.result _ c.in-len1-up.len_at_least c.frame-item.is

pub returns-in-len1-up-clause-least : goal.returns-in-len1-up-clause-least
returns-in-len1-up-clause-least c = last_frame-end c.args.frames.now c.frame-item.result (last_frame-at c.args.frames.now c.frame-item.result _ c.in-len1-up.len_at_least c.frame-item.is)
