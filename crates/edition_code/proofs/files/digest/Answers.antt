use Rattle.edition_code.proofs.ReadLemmas.{bytes_at-length}
use Rattle.edition_code.proofs.files.digest.Goals as goal

pub copy_from_slice-requires : goal.copy_from_slice-requires
copy_from_slice-requires c = bytes_at-length 32 c.args.bytes.now c.in_ok-found.found.now c.in_ok-found.rest.now c.in_ok-found.ensures
