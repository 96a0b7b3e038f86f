use Rattle.remixdb.proofs.SystemLemmas.{untold_bytes, risen_by, back_is}
use Rattle.remixdb.proofs.system_host.SystemHostHost.give_back.Goals as goal

pub returns-clause-back : goal.returns-clause-back
returns-clause-back c = back_is _ _ _ _ _ _ _ _ _ _ c.requires.out c.take_back.ensures.home (risen_by _ _ _ _ _ c.take_back.ensures.faults c.counts_of-counts.ensures) (untold_bytes c.args.devices c.requires.all.strips)

pub returns-clause-strip_images : goal.returns-clause-strip_images
returns-clause-strip_images c = λ device. ((λ bytes none. absurd none), (λ bytes left. left.2))

pub returns-clause-shelf_images : goal.returns-clause-shelf_images
returns-clause-shelf_images c = ((λ files none. absurd none), (λ files left. left))
