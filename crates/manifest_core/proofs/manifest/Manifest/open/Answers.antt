use Rattle.std.proofs.Common.{List, subst}
use Rattle.frame_journal.specs.FrameValue.{FrameValue}
use Rattle.manifest_core.specs.Openings.{IsFound}
use Rattle.manifest_core.proofs.OpenLemmas.{kept-both}
use Rattle.manifest_core.proofs.manifest.Manifest.open.Goals as goal

pub of-manifest-requires : goal.of-manifest-requires
of-manifest-requires g c =
    let on_second = c.in-Ok-read_twice.found.on_second in
    let edition = c.in-Ok-read_twice.found.edition in
    let found = subst (λ (l : List FrameValue). IsFound c.in-Ok.of_first.items l on_second edition) c.deref-in-Ok-open.ensures.value
    (subst (λ (l : List FrameValue). IsFound l c.deref-in-Ok-open.result.now on_second edition) c.deref.ensures.value c.in-Ok-read_twice.ensures.found) in
    kept-both g.S.Strip on_second c.in-Ok.first c.in-Ok-open.second c.in-Ok.of_first.items c.in-Ok-open.of_second.items edition
    (record { stood = c.in-Ok.ensures.standing; survive = c.in-Ok.ensures.survivors; end = c.in-Ok.ensures.end; ready = c.in-Ok.ensures.ready; idle = c.in-Ok.ensures.idle.0 })
    (record { stood = c.in-Ok-open.ensures.standing; survive = c.in-Ok-open.ensures.survivors; end = c.in-Ok-open.ensures.end; ready = c.in-Ok-open.ensures.ready; idle = c.in-Ok-open.ensures.idle.0 })
    found
