use Rattle.std.proofs.Common.{ℕ, List, [], ◌∷◌, ◌++◌, length, map, ap, sym, ◌∙◌}
use Rattle.std.proofs.lemmas.List.{map-append}
use Rattle.disk_model.specs.MemoryState.{MemoryState}
use Rattle.disk_model.specs.FileState.{FileState}
use Rattle.host_model.proofs.MapLemmas.{map-of_eight}
use Rattle.host_model.proofs.memory_host.counts_of.Goals as goal

pub returns : goal.returns
returns c =
    let devices = c.args.devices.now in
    let count : MemoryState FileState → ℕ = λ s. s.tally.book.count in
    let same = c.as_slice.ensures.value in
    let shelf = devices.shelf.tally.book.count in
    rw (c.faults.ensures, c.faults-in-len8.ensures, c.faults-in-len8-2.ensures, c.faults-in-len8-3.ensures, c.faults-in-len8-4.ensures, c.faults-in-len8-5.ensures, c.faults-in-len8-6.ensures, c.faults-in-len8-7.ensures, c.faults-in-len8-8.ensures, c.faults-in-len8-9.ensures, c.faults-in-len8-10.ensures)
    (ap (λ (t : List ℕ). (t ++ (count devices.manifest_a ∷ (count devices.manifest_b ∷ []))) ++ (shelf ∷ []))
    (map-of_eight count c.as_slice.result.now c.s0-item.result c.s1-item.result c.s2-item.result c.s3-item.result c.s4-item.result c.s5-item.result c.s6-item.result c.s7-item.result
    (ap (λ (xs : List (MemoryState FileState)). length xs) same ∙ c.requires) c.s0-item.is c.s1-item.is c.s2-item.is c.s3-item.is c.s4-item.is c.s5-item.is c.s6-item.is c.s7-item.is ∙ ap (λ (xs : List (MemoryState FileState)). map count xs) same)
    ∙ ap (λ (t : List ℕ). t ++ (shelf ∷ [])) (sym (map-append count devices.log.items (devices.manifest_a ∷ (devices.manifest_b ∷ [])))))
