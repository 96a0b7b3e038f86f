-- What stands at the first place of a key. To know: met-none, met-spot; what is read there: read-same, read-other, value-lent.
use Rattle.std.proofs.Common.{◌≡◌, ℕ, zero, suc, ◌+◌, ◌<◌, ◌≤◌, true, false, List, [], ◌∷◌, length, drop, refl, sym, ap, subst, ◌∙◌, arith}
use Rattle.std.specs.Prelude.{slice_get, Option, Some, None, Result, Ok, Err, OnErr}
use Rattle.std.specs.Ordering.{is_eq}
use Rattle.std.specs.declared.cmp.Ordering.{Ordering}
use Rattle.std.proofs.lemmas.Option.{slice_get_within}
use Rattle.rdb_base.specs.Order.{key_cmp}
use Rattle.rdb_base.specs.Runs.{change_at}
use Rattle.rdb_base.specs.Levels.{level_of}
use Rattle.rdb_base.specs.declared.change.Change.{Change}
use Rattle.rdb_base.specs.declared.change.Change.TheVariants.{Put, Del}
use Rattle.rdb_base.specs.declared.pair.Pair.{Pair}
use Rattle.remix_view.specs.declared.spot.Spot.{Spot}
use Rattle.remix_view.specs.Views.{ViewState, IsFormed}
use Rattle.remix_view.specs.Spots.{spots_from}
use Rattle.remix_view.proofs.Lists.{all-at}
use denote.Ref.{Bor}
use Rattle.remix_seek.specs.Reads.{KeyAt, KeyOf, ValueAt, ValueOf, LentOf, ChangeAt, ChangeOf}
use Rattle.remix_seek.specs.Versions.{Version, run_at, spots_after, key_before, change_there, has_key, is_deletion}
use Rattle.remix_seek.specs.Indexes.{Indexes}
use Rattle.remix_seek.specs.Places.{IsFirstPlace, SeekCost, versions_before}
use Rattle.remix_seek.proofs.CountLemmas.{drop-get}
use Rattle.remix_seek.proofs.VersionLemmas.{all_runs}
use Rattle.remix_seek.proofs.PlaceLemmas.{place_there, before_of}
use Rattle.remix_seek.proofs.NewestLemmas.{in_level}
use Rattle.remix_seek.proofs.WalkOrderLemmas.{walk_in_order}
use Rattle.partition_set.specs.Lookups.{pair_change, change_in, change_of_pair, HasValue, LookupCost}

drop_none : (vs : List Version) (n : ℕ) → slice_get vs n ≡ None → drop n vs ≡ []
drop_none [] zero e = refl
drop_none [] (suc n) e = refl
drop_none (v ∷ vs) zero e = absurd cc
drop_none (v ∷ vs) (suc n) e = drop_none vs n e

-- the spots from the first place of a key on
left : (runs : List (List Pair)) (view : ViewState) (anchors : List (List ℕ)) (key : List ℕ) (segment place : ℕ) → IsFormed view → (index : Indexes runs view anchors) → IsFirstPlace runs view key segment place → spots_from view segment place ≡ spots_after (key_before None index.versions (versions_before view segment place)) (drop (versions_before view segment place) index.versions)
left runs view anchors key segment place formed index first = walk_in_order runs view anchors formed index segment place first.stands

level_there : (runs : List (List Pair)) (view : ViewState) (anchors : List (List ℕ)) (key : List ℕ) (segment place : ℕ) → (index : Indexes runs view anchors) → IsFirstPlace runs view key segment place → change_at (level_of runs) key ≡ change_there (slice_get index.versions (versions_before view segment place)) key
level_there runs view anchors key segment place index first = in_level runs index.versions key (versions_before view segment place) index.view_of first.first

-- nothing stands there: no run has the key
pub met-none : (runs : List (List Pair)) (view : ViewState) (anchors : List (List ℕ)) (key : List ℕ) (segment place : ℕ) → IsFormed view → Indexes runs view anchors → IsFirstPlace runs view key segment place → spots_from view segment place ≡ [] → change_at (level_of runs) key ≡ None
met-none runs view anchors key segment place formed index first none = by_version (slice_get index.versions (versions_before view segment place)) refl
  where
    by_version : (found : Option Version) → slice_get index.versions (versions_before view segment place) ≡ found → change_at (level_of runs) key ≡ None
    by_version None e = level_there runs view anchors key segment place index first ∙ ap (λ (o : Option Version). change_there o key) e
    by_version (Some v) e =
        let all = sym (left runs view anchors key segment place formed index first) ∙ none in
        let cons = ap (spots_after (key_before None index.versions (versions_before view segment place))) (sym (drop-get index.versions (versions_before view segment place) v e)) ∙ all in
        absurd cc

-- what is known of the spot that stands there
pub record MetSpot (runs : List (List Pair)) (key : List ℕ) (number at : ℕ) : Type 0 where
  pub run : number < length runs
  pub place : at < length (run_at runs number)
  pub change : change_at (level_of runs) key ≡ change_in runs number at key

pub met-spot : (runs : List (List Pair)) (view : ViewState) (anchors : List (List ℕ)) (key : List ℕ) (segment place : ℕ) (spot : Spot) (later : List Spot) → IsFormed view → Indexes runs view anchors → IsFirstPlace runs view key segment place → spots_from view segment place ≡ (spot ∷ later) → MetSpot runs key spot.run spot.place
met-spot runs view anchors key segment place spot later formed index first some = by_version (slice_get index.versions (versions_before view segment place)) refl
  where
    zero_more : (n : ℕ) → 0 + n ≡ n
    zero_more n = omega arith

    same_spot : (a b : Spot) (us vs : List Spot) → (a ∷ us) ≡ (b ∷ vs) → a ≡ b
    same_spot a b us vs e = cc

    by_version : (found : Option Version) → slice_get index.versions (versions_before view segment place) ≡ found → MetSpot runs key spot.run spot.place
    by_version None e =
        let none = ap (spots_after (key_before None index.versions (versions_before view segment place))) (drop_none index.versions (versions_before view segment place) e) in
        let clash = sym some ∙ left runs view anchors key segment place formed index first ∙ none in
        absurd cc
    by_version (Some v) e =
        let all = ap (spots_after (key_before None index.versions (versions_before view segment place))) (sym (drop-get index.versions (versions_before view segment place) v e)) ∙ sym (left runs view anchors key segment place formed index first) ∙ some in
        let is : record { run = v.run; place = v.place; old = has_key (key_before None index.versions (versions_before view segment place)) v.pair.key; del = is_deletion v.pair.change } ≡ spot = same_spot _ spot (spots_after (Some v.pair.key) (drop (suc (versions_before view segment place)) index.versions)) later all in
        let stands = place_there runs index.versions (versions_before view segment place) v index.view_of e in
        let there : slice_get (run_at runs v.run) v.place ≡ Some v.pair = ap (slice_get (run_at runs v.run)) (stands.place ∙ zero_more (before_of v.run (versions_before view segment place) index.versions)) ∙ stands.pair in
        let met : MetSpot runs key v.run v.place = record {
          run = all-at (λ (u : Version). u.run < length runs) index.versions (versions_before view segment place) v (all_runs runs index.versions index.view_of) e;
          place = slice_get_within (run_at runs v.run) v.place v.pair there;
          change = level_there runs view anchors key segment place index first ∙ ap (λ (o : Option Version). change_there o key) e ∙ sym (ap (λ (o : Option Pair). pair_change o key) there);
        } in
        subst (λ (s : Spot). MetSpot runs key s.run s.place) is met

-- ---- what is read at a place

pub read-same : (runs : List (List Pair)) (run place : ℕ) (read key : List ℕ) (order : Ordering) (change : Change) → KeyAt (run_at runs run) place read → ChangeAt (run_at runs run) place change → order ≡ key_cmp read key → is_eq order ≡ true → Some change ≡ change_in runs run place key
read-same runs run place read key order change at has is same = by_pair (slice_get (run_at runs run) place) at has
  where
    by_pair : (found : Option Pair) → KeyOf found read → ChangeOf found change → Some change ≡ pair_change found key
    by_pair None h g = absurd h
    by_pair (Some p) h g = ap (λ (c : Change). Some c) g ∙ sym (rw (ap is_eq (ap (λ (k : List ℕ). key_cmp k key) (sym h) ∙ sym is) ∙ same) refl)

pub read-other : (runs : List (List Pair)) (run place : ℕ) (read key : List ℕ) (order : Ordering) → KeyAt (run_at runs run) place read → order ≡ key_cmp read key → is_eq order ≡ false → None ≡ change_in runs run place key
read-other runs run place read key order at is other = by_pair (slice_get (run_at runs run) place) at
  where
    by_pair : (found : Option Pair) → KeyOf found read → None ≡ pair_change found key
    by_pair None h = absurd h
    by_pair (Some p) h = sym (rw (ap is_eq (ap (λ (k : List ℕ). key_cmp k key) (sym h) ∙ sym is) ∙ other) refl)

-- where the key is there, its pair's change is
pub change_in-same : (runs : List (List Pair)) (run place : ℕ) (read key : List ℕ) (order : Ordering) → KeyAt (run_at runs run) place read → order ≡ key_cmp read key → is_eq order ≡ true → change_of_pair (slice_get (run_at runs run) place) ≡ change_in runs run place key
change_in-same runs run place read key order at is same = by_pair (slice_get (run_at runs run) place) at
  where
    by_pair : (found : Option Pair) → KeyOf found read → change_of_pair found ≡ pair_change found key
    by_pair None h = absurd h
    by_pair (Some p) h = sym (rw (ap is_eq (ap (λ (k : List ℕ). key_cmp k key) (sym h) ∙ sym is) ∙ same) refl)

-- no value is lent at a deletion
pub change_at-deletion : (pairs : List Pair) (place : ℕ) (lent : Option (Bor (List ℕ))) → ValueAt pairs place lent → lent ≡ None → ChangeAt pairs place Del
change_at-deletion pairs place lent at none = by_pair (slice_get pairs place) (subst (λ (l : Option (Bor (List ℕ))). LentOf (slice_get pairs place) l) none at)
  where
    by_change : (change : Change) → ValueOf change None → Del ≡ change
    by_change (Put value) h = absurd h
    by_change Del h = refl

    by_pair : (found : Option Pair) → LentOf found None → ChangeOf found Del
    by_pair None h = absurd h
    by_pair (Some p) h = by_change p.change h

-- where a value is lent there is one
pub value-lent : (pairs : List Pair) (place : ℕ) (lent : Option (Bor (List ℕ))) (value : Bor (List ℕ)) → ValueAt pairs place lent → lent ≡ Some value → HasValue (change_of_pair (slice_get pairs place))
value-lent pairs place lent value at some = by_pair (slice_get pairs place) (subst (λ (l : Option (Bor (List ℕ))). LentOf (slice_get pairs place) l) some at)
  where
    by_change : (change : Change) → ValueOf change (Some value) → HasValue (Some change)
    by_change (Put v) h = tt
    by_change Del h = absurd h

    by_pair : (found : Option Pair) → LentOf found (Some value) → HasValue (change_of_pair found)
    by_pair None h = absurd h
    by_pair (Some p) h = by_change p.change h

pub needs_value : {X E : Type 0} {P : Type 0} (r : Result X E) → P → OnErr r P
needs_value (Ok x) p = tt
needs_value (Err e) p = p

-- a search, and at most one look more
pub one_more : (view : ViewState) (before middle now : ℕ) → SeekCost view before middle → now ≤ middle + 1 → LookupCost view before now
one_more view before middle now cost more n covers = omega (arith, cost n covers, more)
