-- What reads of a run say of the pair of a spot. To know: there-run, there-place, shows_key-read, lends-none, lends-some, copies-put, copies-del.
use Rattle.std.proofs.Common.{◌≡◌, ℕ, zero, suc, ◌<◌, Bool, false, List, [], ◌∷◌, length, refl, sym, ap, subst, ◌∙◌, arith}
use Rattle.std.specs.Prelude.{slice_get, Option, Some, None, not, ◌&&◌}
use Rattle.std.specs.Ordering.{is_eq}
use Rattle.std.specs.declared.cmp.Ordering.{Ordering}
use denote.Ref.{Bor}
use Rattle.rdb_base.specs.Order.{key_cmp}
use Rattle.rdb_base.specs.declared.change.Change.{Change}
use Rattle.rdb_base.specs.declared.change.Change.TheVariants.{Put, Del}
use Rattle.rdb_base.specs.declared.pair.Pair.{Pair}
use Rattle.remix_view.specs.declared.spot.Spot.{Spot}
use Rattle.remix_seek.specs.Versions.{run_at}
use Rattle.remix_seek.specs.Reads.{KeyOf, KeyAt, ValueOf, LentOf, ValueAt, ChangeOf, ChangeAt}
use Rattle.overlay_view.specs.Older.{IsThere, pair_of}
use Rattle.overlay_view.specs.Placements.{has_this_key, shows_key}
use Rattle.overlay_view.specs.Cursors.{LendsChange, LendsPair, CopiesChange, CopiesPair}

-- a pair that is there is within the list
pub there-place : (xs : List Pair) (i : ℕ) → IsThere (slice_get xs i) → i < length xs
there-place [] i h = absurd h
there-place (x ∷ xs) zero h = omega arith
there-place (x ∷ xs) (suc i) h = let rest = there-place xs i h in omega (arith, rest)

-- and its run is there
pub there-run : (runs : List (List Pair)) (run place : ℕ) → IsThere (slice_get (run_at runs run) place) → run < length runs
there-run [] run place h = absurd h
there-run (r ∷ rs) zero place h = omega arith
there-run (r ∷ rs) (suc run) place h = let rest = there-run rs run place h in omega (arith, rest)

pub there-some : (o : Option Pair) (p : Pair) → o ≡ Some p → IsThere o
there-some o p e = subst IsThere (sym e) tt

-- a read of the key tells whether the spot shows it
pub shows_key-read : (runs : List (List Pair)) (run : List Pair) (spot : Spot) (read key : List ℕ) (order : Ordering) (b : Bool) → run ≡ run_at runs spot.run → spot.del ≡ false → KeyAt run spot.place read → order ≡ key_cmp read key → b ≡ is_eq order → b ≡ shows_key runs spot key
shows_key-read runs run spot read key order b same put at is e = e ∙ by_pair (slice_get (run_at runs spot.run) spot.place) refl (subst (λ (r : List Pair). KeyAt r spot.place read) same at)
  where
    by_pair : (found : Option Pair) → slice_get (run_at runs spot.run) spot.place ≡ found → KeyOf found read → is_eq order ≡ shows_key runs spot key
    by_pair None f h = absurd h
    by_pair (Some p) f h = ap is_eq (is ∙ ap (λ (k : List ℕ). key_cmp k key) h) ∙ sym (λ i. not (put i) && has_this_key (f i) key)

-- ---- lent

pub lends-none : (runs : List (List Pair)) (run : List Pair) (spot : Spot) (lent : Option (Bor (List ℕ))) → run ≡ run_at runs spot.run → ValueAt run spot.place lent → lent ≡ None → LendsPair (pair_of runs spot) None
lends-none runs run spot lent same at none = by_pair (slice_get (run_at runs spot.run) spot.place) (subst (λ (l : Option (Bor (List ℕ))). LentOf (slice_get (run_at runs spot.run) spot.place) l) none (subst (λ (r : List Pair). ValueAt r spot.place lent) same at))
  where
    by_change : (key : List ℕ) (change : Change) → ValueOf change None → LendsChange key change None
    by_change key (Put value) h = absurd h
    by_change key Del h = tt

    by_pair : (found : Option Pair) → LentOf found None → LendsPair found None
    by_pair None h = absurd h
    by_pair (Some p) h = by_change p.key p.change h

pub lends-some : (runs : List (List Pair)) (run : List Pair) (spot : Spot) (lent : Option (Bor (List ℕ))) (value key : Bor (List ℕ)) → run ≡ run_at runs spot.run → ValueAt run spot.place lent → lent ≡ Some value → KeyAt run spot.place key.now → LendsPair (pair_of runs spot) (Some (record { key = key; value = value }))
lends-some runs run spot lent value key same at some has = by_pair (slice_get (run_at runs spot.run) spot.place) (subst (λ (l : Option (Bor (List ℕ))). LentOf (slice_get (run_at runs spot.run) spot.place) l) some (subst (λ (r : List Pair). ValueAt r spot.place lent) same at)) (subst (λ (r : List Pair). KeyAt r spot.place key.now) same has)
  where
    by_change : (k : List ℕ) (change : Change) → key.now ≡ k → ValueOf change (Some value) → LendsChange k change (Some (record { key = key; value = value }))
    by_change k (Put v) e h = (e, h)
    by_change k Del e h = absurd h

    by_pair : (found : Option Pair) → LentOf found (Some value) → KeyOf found key.now → LendsPair found (Some (record { key = key; value = value }))
    by_pair None h k = absurd h
    by_pair (Some p) h k = by_change p.key p.change k h

-- ---- copied

pub copies-put : (runs : List (List Pair)) (run : List Pair) (spot : Spot) (change : Change) (value key : List ℕ) → run ≡ run_at runs spot.run → ChangeAt run spot.place change → change ≡ Put value → KeyAt run spot.place key → CopiesPair (pair_of runs spot) (Some (record { key = key; value = value }))
copies-put runs run spot change value key same at put has = by_pair (slice_get (run_at runs spot.run) spot.place) (subst (λ (r : List Pair). ChangeAt r spot.place change) same at) (subst (λ (r : List Pair). KeyAt r spot.place key) same has)
  where
    by_pair : (found : Option Pair) → ChangeOf found change → KeyOf found key → CopiesPair found (Some (record { key = key; value = value }))
    by_pair None h k = absurd h
    by_pair (Some p) h k = subst (λ (c : Change). CopiesChange p.key c (Some (record { key = key; value = value }))) (sym put ∙ h) (λ i. record { key = k i; value = value })

pub copies-del : (runs : List (List Pair)) (run : List Pair) (spot : Spot) (change : Change) → run ≡ run_at runs spot.run → ChangeAt run spot.place change → change ≡ Del → CopiesPair (pair_of runs spot) None
copies-del runs run spot change same at del = by_pair (slice_get (run_at runs spot.run) spot.place) (subst (λ (r : List Pair). ChangeAt r spot.place change) same at)
  where
    by_pair : (found : Option Pair) → ChangeOf found change → CopiesPair found None
    by_pair None h = absurd h
    by_pair (Some p) h = subst (λ (c : Change). CopiesChange p.key c None) (sym del ∙ h) tt
