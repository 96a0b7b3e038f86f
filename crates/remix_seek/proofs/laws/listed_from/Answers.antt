use Rattle.remix_seek.specs.Places.{versions_before}
use Rattle.remix_seek.proofs.NewestLemmas.{listed}
use Rattle.remix_seek.proofs.laws.listed_from.Goals as goal

pub returns : goal.returns
returns c runs view anchors idx key segment place first = listed runs idx.versions key (versions_before view segment place) idx.view_of first.first
