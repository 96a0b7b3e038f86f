use Rattle.remix_seek.proofs.PlaceLemmas.{is_pair}
use Rattle.remix_seek.proofs.laws.version_is_pair.Goals as goal

pub returns : goal.returns
returns c runs view anchors idx n v at = is_pair runs idx.versions n v idx.view_of at
