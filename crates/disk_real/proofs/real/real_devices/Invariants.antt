use Rattle.std.proofs.Common.{◌≡◌, ℕ, length, Some}
use Rattle.std.specs.Prelude.{slice_get}
use Rattle.disk_model.specs.Books.{BookState}
use Rattle.disk_real.proofs.real.real_devices.Given as goal

abbrev pub invariant-strips : goal.invariant-strips
invariant-strips g l = (length l.log.items ≡ l.device)
    × ((device : ℕ) (s : BookState) → slice_get l.log.items device ≡ Some s → (s.name.device ≡ device) × (s.count ≡ 0))
