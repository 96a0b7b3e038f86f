-- The devices of a process. The lemmas to know are `untold_bytes` and `fresh_within`.
use Rattle.std.proofs.Common.{◌≡◌, ℕ, ◌<◌, ◌≤◌, ◌^◌, suc, List, [], ◌∷◌, ◌++◌, length, map, Option, None, Some, ap, subst, sym, ◌∙◌, arith, refl}
use Rattle.std.specs.Prelude.{slice_get}
use Rattle.std.specs.List.{AllByRecursion}
use Rattle.disk_model.specs.Books.{BookState}
use Rattle.disk_model.specs.declared.devices.Devices.{Devices}
use Rattle.disk_real.specs.Real.{HaveNotFailed}
use Rattle.host_model.specs.Lent.{AreWithin, IsHome, IsOut, Lent, lent_of, risen, taken_back}
use Rattle.host_model.specs.HostState.{DeviceBytes, StreamBytes}
use Rattle.remixdb.specs.System.{real_counts, system_state, untold}

abbrev with_strips : List (Option (List ℕ)) → DeviceBytes
with_strips strips = record { strips = strips; files = None }

abbrev no_bytes : BookState → Option (List ℕ)
no_bytes s = None

-- no byte of eight strips and two more
pub untold_strips : (xs : List BookState) (a b : BookState) → length xs ≡ 8 → map no_bytes (xs ++ (a ∷ (b ∷ []))) ≡ untold.strips
untold_strips [] a b len = absurd (omega (arith, len))
untold_strips (x0 ∷ []) a b len = absurd (omega (arith, len))
untold_strips (x0 ∷ x1 ∷ []) a b len = absurd (omega (arith, len))
untold_strips (x0 ∷ x1 ∷ x2 ∷ []) a b len = absurd (omega (arith, len))
untold_strips (x0 ∷ x1 ∷ x2 ∷ x3 ∷ []) a b len = absurd (omega (arith, len))
untold_strips (x0 ∷ x1 ∷ x2 ∷ x3 ∷ x4 ∷ []) a b len = absurd (omega (arith, len))
untold_strips (x0 ∷ x1 ∷ x2 ∷ x3 ∷ x4 ∷ x5 ∷ []) a b len = absurd (omega (arith, len))
untold_strips (x0 ∷ x1 ∷ x2 ∷ x3 ∷ x4 ∷ x5 ∷ x6 ∷ []) a b len = absurd (omega (arith, len))
untold_strips (x0 ∷ x1 ∷ x2 ∷ x3 ∷ x4 ∷ x5 ∷ x6 ∷ x7 ∷ []) a b len = refl
untold_strips (x0 ∷ x1 ∷ x2 ∷ x3 ∷ x4 ∷ x5 ∷ x6 ∷ x7 ∷ x8 ∷ xs) a b len = absurd (omega (arith, len))

-- counts of which each is 0 are within any number of faults
none_within : (faults : ℕ) (xs : List BookState) (others : List ℕ) → ((i : ℕ) (s : BookState) → slice_get xs i ≡ Some s → s.count ≡ 0) → AreWithin faults others → AreWithin faults (map (λ s. s.count) xs ++ others)
none_within faults [] others each rest = rest
none_within faults (x ∷ xs) others each rest = ((omega (arith, each 0 x refl), omega (arith, each 0 x refl)), none_within faults xs others (λ i. each (suc i)) rest)

map-pair : (xs : List BookState) (a b : BookState) (others : List ℕ) → map (λ s. s.count) (xs ++ (a ∷ (b ∷ []))) ++ others ≡ map (λ s. s.count) xs ++ (a.count ∷ (b.count ∷ others))
map-pair [] a b others = refl
map-pair (x ∷ xs) a b others = ap (λ (t : List ℕ). x.count ∷ t) (map-pair xs a b others)

-- devices that have not failed yet
pub fresh_within : (faults : ℕ) (devices : Devices BookState BookState) → HaveNotFailed devices → AreWithin faults (real_counts devices)
fresh_within faults devices fresh =
    rw (map-pair devices.log.items devices.manifest_a devices.manifest_b (devices.shelf.count ∷ []))
    (none_within faults devices.log.items (devices.manifest_a.count ∷ (devices.manifest_b.count ∷ (devices.shelf.count ∷ []))) fresh.log
    ((omega (arith, fresh.manifest_a), omega (arith, fresh.manifest_a)), ((omega (arith, fresh.manifest_b), omega (arith, fresh.manifest_b)), ((omega (arith, fresh.shelf), omega (arith, fresh.shelf)), tt))))

-- of none of these devices contracts see a byte
pub untold_bytes : (devices : Devices BookState BookState) → length devices.log.items ≡ 8 → let seen : DeviceBytes = record { strips = map no_bytes (devices.log.items ++ (devices.manifest_a ∷ (devices.manifest_b ∷ []))); files = None } in seen ≡ untold
untold_bytes devices len = ap with_strips (untold_strips devices.log.items devices.manifest_a devices.manifest_b len)

-- what is at home is told as such
pub home_untold : {X : Type 0} (thing : Option X) (counts : List ℕ) (faults : ℕ) → IsHome (lent_of (λ (x : X). untold) thing counts faults) → (lent_of (λ (x : X). untold) thing counts faults).home ≡ Some untold
home_untold (Some x) counts faults home = refl
home_untold None counts faults home = let wrong = home.1 in absurd cc

-- counts of devices that have not failed yet
pub fresh_counts : (faults : ℕ) (devices : Devices BookState BookState) (counts : List ℕ) → counts ≡ real_counts devices → HaveNotFailed devices → AreWithin faults counts
fresh_counts faults devices counts is fresh = subst (λ (ns : List ℕ). AreWithin faults ns) (sym is) (fresh_within faults devices fresh)

pub risen_by : (out faults : ℕ) (before counts latest : List ℕ) → out ≡ risen faults before counts → counts ≡ latest → out ≡ risen faults before latest
risen_by out faults before counts latest rose is = rose ∙ ap (λ (ns : List ℕ). risen faults before ns) is

-- what is taken back is told as such
pub back_is : {X : Type 0} (was now : Option X) (x : X) (counts counts_now latest : List ℕ) (faults faults_now : ℕ) (bytes : DeviceBytes) (streams : Lent StreamBytes) → IsOut latest (lent_of (λ (y : X). untold) was counts faults) → now ≡ Some x → faults_now ≡ risen faults counts latest → bytes ≡ untold
    → system_state now counts_now faults_now streams ≡ record (system_state was counts faults streams) { devices = taken_back bytes latest (lent_of (λ (y : X). untold) was counts faults) }
back_is (Some y) now x counts counts_now latest faults faults_now bytes streams out is rose seen = let wrong = out.0 in absurd cc
back_is None now x counts counts_now latest faults faults_now bytes streams out is rose seen = rw (is, rose, seen) refl
