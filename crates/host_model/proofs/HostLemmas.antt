-- A host that has back what it lent. The lemmas to know are `all_back`, `streams_risen-rose`, `first_risen-rose` and
-- `are_devices-again`.
use Rattle.std.proofs.Common.{◌≡◌, ℕ, zero, suc, ◌≤◌, List, [], ◌∷◌, ◌++◌, length, map, Option, Some, refl, ap, sym, subst, ◌∙◌, arith, inl, inr, ◌⊎◌}
use Rattle.std.specs.Prelude.{slice_get}
use Rattle.disk_model.specs.Facts.{AreDevices}
use Rattle.disk_model.specs.declared.devices.Devices.{Devices}
use Rattle.disk_model.specs.declared.shelf.Shelf.{Ghosts as ShelfGhosts}
use Rattle.disk_model.specs.declared.strip.Strip.{Ghosts as StripGhosts}
use Rattle.fault_count.specs.Counts.{Rose}
use Rattle.host_model.specs.Lent.{NoneFell, handed_out, taken_back, rise_of, risen}
use Rattle.host_model.specs.HostState.{HostState, DeviceBytes, StreamBytes, device_counts}

-- the devices were handed out and taken back, with these bytes
pub record DevicesBack (old new : HostState) (bytes : DeviceBytes) (before now : List ℕ) : Type 0 where
  pub devices : new.devices.home ≡ Some bytes
  pub device_faults : new.devices.faults ≡ risen old.devices.faults before now
  pub streams : new.streams ≡ old.streams

pub devices_back : (h0 h1 h2 : HostState) (bytes : DeviceBytes) (before now : List ℕ) → h1 ≡ record h0 { devices = handed_out before h0.devices } → h2 ≡ record h1 { devices = taken_back bytes now h1.devices } → DevicesBack h0 h2 bytes before now
devices_back h0 h1 h2 bytes before now one two = rw (two, one) (record { devices = refl; device_faults = refl; streams = refl })

-- the devices and then the streams were handed out, and taken back in the other order, with these bytes
pub record AllBack (old new : HostState) (bytes : DeviceBytes) (streams : StreamBytes) (before now stream_before stream_now : List ℕ) : Type 0 where
  pub devices : new.devices.home ≡ Some bytes
  pub device_faults : new.devices.faults ≡ risen old.devices.faults before now
  pub both : new.streams.home ≡ Some streams
  pub stream_faults : new.streams.faults ≡ risen old.streams.faults stream_before stream_now

pub all_back : (h0 h1 h2 h3 h4 : HostState) (bytes : DeviceBytes) (streams : StreamBytes) (before now stream_before stream_now : List ℕ)
    → h1 ≡ record h0 { devices = handed_out before h0.devices } → h2 ≡ record h1 { streams = handed_out stream_before h1.streams }
    → h3 ≡ record h2 { streams = taken_back streams stream_now h2.streams } → h4 ≡ record h3 { devices = taken_back bytes now h3.devices }
    → AllBack h0 h4 bytes streams before now stream_before stream_now
all_back h0 h1 h2 h3 h4 bytes streams before now stream_before stream_now one two three four =
    rw (four, three, two, one) (record { devices = refl; device_faults = refl; both = refl; stream_faults = refl })

-- the faults in all rose where those of a stream did
pub streams_risen-rose : (faults source sink source_now sink_now out : ℕ) → source ≤ faults → sink ≤ faults → source ≤ source_now → sink ≤ sink_now → out ≡ risen faults (source ∷ sink ∷ []) (source_now ∷ sink_now ∷ []) → Rose source source_now ⊎ Rose sink sink_now → Rose faults out
streams_risen-rose faults source sink source_now sink_now out one two later still is (inl rose) = omega (arith, one, two, later, still, is, rose)
streams_risen-rose faults source sink source_now sink_now out one two later still is (inr rose) = omega (arith, one, two, later, still, is, rose)

pub streams_risen-kept : (faults source sink source_now sink_now out : ℕ) → out ≡ risen faults (source ∷ sink ∷ []) (source_now ∷ sink_now ∷ []) → source_now ≡ source → sink_now ≡ sink → out ≡ faults
streams_risen-kept faults source sink source_now sink_now out is same still = omega (arith, is, same, still)

-- ---- devices of which the first strip alone was used

some_is : {S : Type 0} (a b : S) → Some a ≡ Some b → a ≡ b
some_is a b e = cc

-- no count falls that stays
pub none_fell-same : (counts : List ℕ) → NoneFell counts counts
none_fell-same [] = tt
none_fell-same (n ∷ counts) = (omega arith, none_fell-same counts)

rise_of-same : (counts : List ℕ) → rise_of counts counts ≡ 0
rise_of-same [] = refl
rise_of-same (n ∷ counts) = omega (arith, rise_of-same counts)

-- counts that stay raise nothing
pub risen-first : (faults before now : ℕ) (others : List ℕ) → risen faults (before ∷ others) (now ∷ others) ≡ risen faults (before ∷ []) (now ∷ [])
risen-first faults before now others = rw (rise_of-same others) refl

pub first_risen-rose : (faults before now out : ℕ) (others : List ℕ) → before ≤ faults → out ≡ risen faults (before ∷ others) (now ∷ others) → Rose before now → Rose faults out
first_risen-rose faults before now out others within is rose = omega (arith, within, is, risen-first faults before now others, rose)

pub first_risen-kept : (faults before now out : ℕ) (others : List ℕ) → out ≡ risen faults (before ∷ others) (now ∷ others) → now ≡ before → out ≡ faults
first_risen-kept faults before now out others is kept = omega (arith, is, risen-first faults before now others, kept)

-- devices with a first strip, and others beside it
pub record WithFirst {S H : Type 0} (devices : Devices S H) (first : S) (strips : List S) (a b : S) (shelf : H) : Type 0 where
  pub strips_are : devices.log.items ≡ first ∷ strips
  pub manifest_a : devices.manifest_a ≡ a
  pub manifest_b : devices.manifest_b ≡ b
  pub shelf_is : devices.shelf ≡ shelf

-- the counts of all but the first strip
abbrev pub other_counts : {S H : Type 0} → StripGhosts S → ShelfGhosts H → List S → S → S → H → List ℕ
other_counts strip shelf strips a b h = map strip.count (strips ++ (a ∷ (b ∷ []))) ++ (shelf.count h ∷ [])

pub counts-first : {S H : Type 0} (strip : StripGhosts S) (shelf : ShelfGhosts H) (devices : Devices S H) (first : S) (strips : List S) (a b : S) (h : H) → WithFirst devices first strips a b h → device_counts strip shelf devices ≡ strip.count first ∷ other_counts strip shelf strips a b h
counts-first strip shelf devices first strips a b h w = rw (w.strips_are, w.manifest_a, w.manifest_b, w.shelf_is) refl

-- the devices of a store stay so with another first strip of the same book
pub are_devices-again : {S H : Type 0} (strip : StripGhosts S) (shelf : ShelfGhosts H) (old new : Devices S H) (first again : S) (strips : List S) (a b : S) (h : H) → WithFirst old first strips a b h → WithFirst new again strips a b h → (strip.book again).device ≡ 0 → AreDevices strip shelf old → AreDevices strip shelf new
are_devices-again {S} strip shelf old new first again strips a b h was is zero_is are = record {
  strips = rw (is.strips_are) (ap length (sym was.strips_are) ∙ are.strips);
  log = λ device s at. each device s (subst (λ (xs : List S). slice_get xs device ≡ Some s) is.strips_are at);
  manifest_a = ap (λ (s : S). (strip.book s).device) (is.manifest_a ∙ sym was.manifest_a) ∙ are.manifest_a;
  manifest_b = ap (λ (s : S). (strip.book s).device) (is.manifest_b ∙ sym was.manifest_b) ∙ are.manifest_b;
  shelf_book = ap (λ (x : _). (shelf.book x).device) (is.shelf_is ∙ sym was.shelf_is) ∙ are.shelf_book;
}
  where
    each : (device : ℕ) (s : S) → slice_get (again ∷ strips) device ≡ Some s → (strip.book s).device ≡ device
    each zero s at = subst (λ (x : S). (strip.book x).device ≡ 0) (some_is again s at) zero_is
    each (suc n) s at = are.log (suc n) s (subst (λ (xs : List S). slice_get xs (suc n) ≡ Some s) (sym was.strips_are) at)
