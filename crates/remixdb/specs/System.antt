-- The devices of a process, as contracts see them: how often each failed, and none of their bytes.
use Rattle.std.specs.Prelude.{ℕ, List, [], ◌∷◌, ◌++◌, map, Option, None}
use Rattle.disk_model.specs.Books.{BookState}
use Rattle.disk_model.specs.declared.devices.Devices.{Devices}
use Rattle.host_model.specs.HostState.{DeviceBytes, HostState, StreamBytes}
use Rattle.host_model.specs.Lent.{Lent, lent_of}

-- their counts of faults, by device
abbrev pub real_counts : Devices BookState BookState → List ℕ
real_counts devices = map (λ s. s.count) (devices.log.items ++ (devices.manifest_a ∷ (devices.manifest_b ∷ []))) ++ (devices.shelf.count ∷ [])

-- none of their bytes
abbrev pub untold : DeviceBytes
untold = record {
  strips = None ∷ None ∷ None ∷ None ∷ None ∷ None ∷ None ∷ None ∷ None ∷ None ∷ [];
  files = None;
}

-- what contracts see of such a host
abbrev pub system_state : {X : Type 0} → Option X → List ℕ → ℕ → Lent StreamBytes → HostState
system_state thing counts faults streams = record { devices = lent_of (λ _. untold) thing counts faults; streams = streams }
