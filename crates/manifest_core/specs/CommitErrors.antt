-- A device's error, as a commit reports it.
use Rattle.std.specs.Prelude.{◌≡◌}
use Rattle.disk_model.specs.declared.device_error.DeviceError.{DeviceError}
use Rattle.disk_model.specs.declared.device_error.DeviceError.TheVariants as device
use Rattle.manifest_core.specs.declared.commit_error.CommitError.{CommitError}
use Rattle.manifest_core.specs.declared.commit_error.CommitError.TheVariants.{Fault, Memory}

abbrev pub CommitErrorOf : DeviceError → CommitError → Type 0
CommitErrorOf (device.Fault unit) error = error ≡ Fault unit
CommitErrorOf device.Memory error = error ≡ Memory
