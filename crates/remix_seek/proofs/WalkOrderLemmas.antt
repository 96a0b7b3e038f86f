-- The walk of an index gives the versions in order. To know: walk_in_order.
use Rattle.std.proofs.Common.{◌≡◌, ◌⊎◌, inl, inr, ℕ, zero, suc, ◌+◌, ◌-◌, ◌<◌, ◌≤◌, ◌%◌, Bool, true, false, cond, List, [], ◌∷◌, ◌++◌, length, take, drop, refl, sym, ap, ◌∙◌, arith}
use Rattle.std.specs.Prelude.{slice_get, slice_index, Option, Some, None, nat_le}
use Rattle.std.specs.List.{flat_map}
use Rattle.std.proofs.lemmas.List.{drop_all}
use Rattle.std.proofs.lemmas.Bool.Decides.{nat_tests}
use Rattle.rdb_base.specs.declared.pair.Pair.{Pair}
use Rattle.remix_view.specs.declared.spot.Spot.{Spot}
use Rattle.remix_view.specs.declared.segment.Segment.{Segment}
use Rattle.remix_view.specs.Views.{ViewState, IsFormed}
use Rattle.remix_view.specs.Selectors.{run_in, old_in, del_in}
use Rattle.remix_view.specs.Spots.{spot_at, spots_past, spots_in, spots_from, spots_from_place}
use Rattle.remix_seek.specs.Versions.{Version, selector_of, has_key, is_deletion, spots_after, key_before}
use Rattle.remix_seek.specs.Indexes.{Indexes, filled}
use Rattle.remix_seek.specs.Places.{IsStanding, versions_before}
use Rattle.std.proofs.lemmas.Option.{slice_get_within}
use Rattle.remix_view.proofs.WalkLemmas.{spots_past-at_filler, spots_past-at_spot, spots_from_place-drop, spots_from_place-start}
use Rattle.remix_seek.proofs.SegmentLemmas.{start_of, old_of_selector, filled_there, filler_there}
use Rattle.remix_seek.proofs.KnownLemmas.{key_before_there, VersionThere, PlaceOf, SegmentKnown, segment_known, segment_at, start_next, start_all, few_filled}
use Rattle.remix_seek.proofs.CountLemmas.{drop-get}

small_del : (n a b : ℕ) → n < 63 → (a ≡ 0) ⊎ (a ≡ 64) → (b ≡ 0) ⊎ (b ≡ 128) → (n + a + b) % 128 ≡ n + a
small_del n a b h (inl e) (inl f) = omega arith
small_del n a b h (inl e) (inr f) = omega arith
small_del n a b h (inr e) (inl f) = omega arith
small_del n a b h (inr e) (inr f) = omega arith

either : (b : Bool) (n : ℕ) → (cond b n 0 ≡ 0) ⊎ (cond b n 0 ≡ n)
either true n = inr refl
either false n = inl refl

del_of_selector : (last : Option (List ℕ)) (v : Version) → v.run < 63 → del_in (selector_of last v) ≡ is_deletion v.pair.change
del_of_selector last v h =
    ap (nat_le 64) (small_del v.run (cond (is_deletion v.pair.change) 64 0) (cond (has_key last v.pair.key) 128 0) h (either (is_deletion v.pair.change) 64) (either (has_key last v.pair.key) 128))
    ∙ by_bit (is_deletion v.pair.change)
  where
    by_bit : (b : Bool) → nat_le 64 (v.run + cond b 64 0) ≡ b
    by_bit true = grind (arith, nat_tests)
    by_bit false = grind (arith, nat_tests)

-- the spot of a filled place
spot_of : (runs : List (List Pair)) (vs : List Version) (start j : ℕ) (g : Segment) → (v : VersionThere runs vs start g j) → PlaceOf runs v.version g j → spot_at g.offsets (take j g.selectors) (slice_index g.selectors j) ≡ record { run = v.version.run; place = v.version.place; old = has_key (key_before None vs (start + j)) v.version.pair.key; del = is_deletion v.version.pair.change }
spot_of runs vs start j g v p = λ i. record { run = run i; place = p.place i; old = old i; del = del i }
  where
    run : run_in (slice_index g.selectors j) ≡ v.version.run
    run = p.run

    old : old_in (slice_index g.selectors j) ≡ has_key (key_before None vs (start + j)) v.version.pair.key
    old = ap old_in v.is ∙ old_of_selector (key_before None vs (start + j)) v.version v.small

    del : del_in (slice_index g.selectors j) ≡ is_deletion v.version.pair.change
    del = ap del_in v.is ∙ del_of_selector (key_before None vs (start + j)) v.version v.small

-- after the last filled place only fillers stand
fillers_left : (runs : List (List Pair)) (view : ViewState) (anchors : List (List ℕ)) (vs : List Version) (s : ℕ) (g : Segment) (k j : ℕ) → SegmentKnown runs view anchors vs s g → filled g ≤ j → j + k ≡ 32 → spots_past g.offsets (take j g.selectors) (drop j g.selectors) ≡ []
fillers_left runs view anchors vs s g zero j known le e = ap (λ (rest : List ℕ). spots_past g.offsets (take j g.selectors) rest) (drop_all j g.selectors (omega (arith, known.is.places)))
fillers_left runs view anchors vs s g (suc k) j known le e =
    spots_past-at_filler g.offsets g.selectors j (omega (arith, known.is.places)) (filler_there g.selectors j known.is.closed le (omega (arith, known.is.places)))
    ∙ fillers_left runs view anchors vs s g k (j + 1) known (omega arith) (omega arith)

-- the spots of a segment from a place on
spots_left : (runs : List (List Pair)) (view : ViewState) (anchors : List (List ℕ)) (vs : List Version) (s : ℕ) (g : Segment) (m j n : ℕ) → SegmentKnown runs view anchors vs s g → j + m ≡ filled g → n ≡ start_of view.segments s + j → spots_past g.offsets (take j g.selectors) (drop j g.selectors) ≡ spots_after (key_before None vs n) (take m (drop n vs))
spots_left runs view anchors vs s g zero j n known e f = fillers_left runs view anchors vs s g (32 - j) j known (omega arith) (let h = few_filled g known.is in omega arith)
spots_left runs view anchors vs s g (suc m) j n known e f =
    let lt : j < filled g = omega arith in
    let v = known.version j lt in
    let at : slice_get vs n ≡ Some v.version = ap (λ (k : ℕ). slice_get vs k) f ∙ v.at in
    spots_past-at_spot g.offsets g.selectors j (let h = few_filled g known.is in omega (arith, known.is.places)) (filled_there g.selectors j known.is.closed lt)
    ∙ (λ i. spot_of runs vs (start_of view.segments s) j g v (known.place j lt) i ∷ spots_left runs view anchors vs s g m (j + 1) (suc n) known (omega arith) (omega (arith, f)) i)
    ∙ (λ i. record { run = v.version.run; place = v.version.place; old = has_key (key_before None vs (sym f i)) v.version.pair.key; del = is_deletion v.version.pair.change } ∷ spots_after (key_before_there None vs n v.version at i) (take m (drop (suc n) vs)))
    ∙ sym (ap (λ (us : List Version). spots_after (key_before None vs n) (take (suc m) us)) (drop-get vs n v.version at))

spots_join : (a m n : ℕ) (last : Option (List ℕ)) (vs : List Version) → n ≡ a + m → spots_after (key_before last vs a) (take m (drop a vs)) ++ spots_after (key_before last vs n) (drop n vs) ≡ spots_after (key_before last vs a) (drop a vs)
spots_join zero m n last vs e = front m n last vs (omega (arith, e))
  where
    front : (m n : ℕ) (last : Option (List ℕ)) (vs : List Version) → n ≡ m → spots_after last (take m vs) ++ spots_after (key_before last vs n) (drop n vs) ≡ spots_after last vs
    front zero zero last vs e = refl
    front zero (suc n) last vs e = absurd (omega arith)
    front (suc m) zero last vs e = absurd (omega arith)
    front (suc m) (suc n) last [] e = refl
    front (suc m) (suc n) last (v ∷ vs) e = ap (λ (ss : List Spot). record { run = v.run; place = v.place; old = has_key last v.pair.key; del = is_deletion v.pair.change } ∷ ss) (front m n (Some v.pair.key) vs (omega arith))
spots_join (suc a) m zero last vs e = absurd (omega arith)
spots_join (suc a) zero (suc n) last [] e = refl
spots_join (suc a) (suc m) (suc n) last [] e = refl
spots_join (suc a) m (suc n) last (v ∷ vs) e = spots_join a m n (Some v.pair.key) vs (omega (arith, e))

-- the spots of the segments from one on
spots_of_rest : (runs : List (List Pair)) (view : ViewState) (anchors : List (List ℕ)) (k s : ℕ) → IsFormed view → (idx : Indexes runs view anchors) → s + k ≡ length view.segments → flat_map spots_in (drop s view.segments) ≡ spots_after (key_before None idx.versions (start_of view.segments s)) (drop (start_of view.segments s) idx.versions)
spots_of_rest runs view anchors zero s formed idx e =
    ap (flat_map spots_in) (drop_all s view.segments (omega arith))
    ∙ sym (ap (spots_after (key_before None idx.versions (start_of view.segments s))) (drop_all (start_of view.segments s) idx.versions (omega (arith, start_all runs view anchors idx, ap (start_of view.segments) (last s e)))))
  where
    last : (s : ℕ) → s + 0 ≡ length view.segments → s ≡ length view.segments
    last s e = omega arith
spots_of_rest runs view anchors (suc k) s formed idx e =
    let g = segment_at view.segments s (omega arith) in
    let known = segment_known runs view anchors s g.0 formed idx g.1 in
    let rest = spots_of_rest runs view anchors k (suc s) formed idx (omega arith) in
    sym (spots_from_place-start (drop s view.segments))
    ∙ spots_from_place-drop view.segments s 0 g.0 g.1
    ∙ (λ i. spots_left runs view anchors idx.versions s g.0 (filled g.0) 0 (start_of view.segments s) known (omega arith) (omega arith) i ++ flat_map spots_in (drop (more s i) view.segments))
    ∙ ap (λ (ss : List Spot). spots_after (key_before None idx.versions (start_of view.segments s)) (take (filled g.0) (drop (start_of view.segments s) idx.versions)) ++ ss) rest
    ∙ spots_join (start_of view.segments s) (filled g.0) (start_of view.segments (suc s)) None idx.versions (start_next view.segments s g.0 g.1)
  where
    more : (n : ℕ) → n + 1 ≡ suc n
    more n = omega arith

pub walk_in_order : (runs : List (List Pair)) (view : ViewState) (anchors : List (List ℕ)) → IsFormed view → (idx : Indexes runs view anchors) (segment place : ℕ) → IsStanding view segment place → spots_from view segment place ≡ spots_after (key_before None idx.versions (versions_before view segment place)) (drop (versions_before view segment place) idx.versions)
walk_in_order runs view anchors formed idx s p (inl ends) =
    (λ i. spots_from_place (ends.1 i) (drop s view.segments))
    ∙ spots_from_place-start (drop s view.segments)
    ∙ spots_of_rest runs view anchors 0 s formed idx (omega (arith, ends.0))
    ∙ ap (λ (n : ℕ). spots_after (key_before None idx.versions n) (drop n idx.versions)) (omega (arith, ends.1))
walk_in_order runs view anchors formed idx s p (inr (g, at, lt)) =
    let known = segment_known runs view anchors s g formed idx at in
    let inside : s < length view.segments = slice_get_within view.segments s g at in
    spots_from_place-drop view.segments s p g at
    ∙ (λ i. spots_left runs view anchors idx.versions s g (filled g - p) p (start_of view.segments s + p) known (omega arith) refl i ++ flat_map spots_in (drop (more s i) view.segments))
    ∙ ap (λ (ss : List Spot). spots_after (key_before None idx.versions (start_of view.segments s + p)) (take (filled g - p) (drop (start_of view.segments s + p) idx.versions)) ++ ss) (spots_of_rest runs view anchors (length view.segments - suc s) (suc s) formed idx (omega arith))
    ∙ spots_join (start_of view.segments s + p) (filled g - p) (start_of view.segments (suc s)) None idx.versions (omega (arith, start_next view.segments s g at))
  where
    more : (n : ℕ) → n + 1 ≡ suc n
    more n = omega arith
