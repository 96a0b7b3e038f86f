use Rattle.remix_seek.specs.Places.{versions_before}
use Rattle.remix_seek.proofs.NewestLemmas.{in_level}
use Rattle.remix_seek.proofs.laws.seek_in_level.Goals as goal

pub returns : goal.returns
returns c runs view anchors idx key segment place first = in_level runs idx.versions key (versions_before view segment place) idx.view_of first.first
