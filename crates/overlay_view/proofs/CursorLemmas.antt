-- A cursor's moves and what is left after them. To know: StepTo, step-newer_only, passed-deletion, rows-of_row, sought-rows.
use Rattle.std.proofs.Common.{◌≡◌, ℕ, ◌+◌, ◌<◌, true, false, List, [], ◌∷◌, length, map, drop, refl, sym, ap, subst, ◌∙◌, arith}
use Rattle.std.specs.Prelude.{slice_get, Option, Some, None, Result, Ok, Err, IfOk}
use Rattle.std.proofs.lemmas.Option.{slice_get_within}
use Rattle.std.specs.List.{AllByRecursion}
use Rattle.rdb_base.specs.Runs.{IsRun}
use Rattle.rdb_base.specs.Levels.{over, live, row_before}
use Rattle.rdb_base.specs.Pages.{pairs_from, rows_from}
use Rattle.rdb_base.specs.Searches.{IsPlaceOf}
use Rattle.rdb_base.specs.declared.row.Row.{Row}
use Rattle.rdb_base.specs.declared.change.Change.{Change}
use Rattle.rdb_base.specs.declared.change.Change.TheVariants.{Put, Del}
use Rattle.rdb_base.specs.declared.pair.Pair.{Pair}
use Rattle.rdb_base.proofs.LiveLemmas.{live-pairs_from}
use Rattle.rdb_base.proofs.RunLemmas.{IsRun-filter}
use Rattle.remix_view.proofs.Lists.{some_same}
use Rattle.remix_view.specs.declared.spot.Spot.{Spot}
use Rattle.remix_view.specs.declared.walk.Walk.{Walk}
use Rattle.remix_view.specs.Views.{IsFormed}
use Rattle.remix_seek.specs.Versions.{is_deletion}
use Rattle.remix_seek.specs.Places.{IsFirstPlace}
use Rattle.partition_set.specs.Partitions.{PartState, IsSet, set_level}
use Rattle.partition_set.specs.Bounds.{IsPartOf}
use Rattle.overlay_view.specs.declared.older.Older.{Older}
use Rattle.overlay_view.specs.declared.head.Head.{Head}
use Rattle.overlay_view.specs.declared.head.Head.TheVariants as heads
use Rattle.overlay_view.specs.declared.cursor.Cursor.{Cursor}
use Rattle.overlay_view.specs.declared.lent_row.LentRow.{LentRow}
use Rattle.overlay_view.specs.Older.{pair_of, older_from, older_left, older_rest, Stands}
use Rattle.overlay_view.specs.Placements.{UpperState, IsPlaced}
use Rattle.overlay_view.specs.Cursors.{head_at, deletes, is_deleted, pairs_left, rows_left, rows_over, GoesOn, IsCursor, CopiesChange, CopiesPair, CopiesFirst, LendsChange, LendsPair, LendsFirst}
use Rattle.overlay_view.proofs.FromLemmas.{is_from, pairs_from-over, pairs_from-place}
use Rattle.overlay_view.proofs.LevelLemmas.{IsRun-set_level, older_from-key}
use Rattle.overlay_view.proofs.PutLemmas.{is_put, live-over_puts}
use Rattle.overlay_view.proofs.HeadLemmas.{HeadIs, head_is, rest-rises}

-- ---- one step

-- a cursor went past the pair where it stood
pub record StepTo {T : Type 0} (run : T → List Pair) (parts : List (PartState T)) (upper : UpperState) (before now : Cursor) : Type 0 where
  pub pairs : pairs_left run parts upper now ≡ drop 1 (pairs_left run parts upper before)
  pub goes_on : GoesOn run parts now

-- the head, known by its name
pub head-named : {T : Type 0} (run : T → List Pair) (parts : List (PartState T)) (upper : UpperState) (cursor : Cursor) (head named : Head) → IsPlaced run parts upper → GoesOn run parts cursor → head ≡ head_at upper cursor → head ≡ named → HeadIs run parts upper cursor named
head-named run parts upper cursor head named placed goes is e = subst (HeadIs run parts upper cursor) (sym is ∙ e) (head_is run parts upper cursor placed goes)

-- the newer row alone
pub stepped-newer : {T : Type 0} (run : T → List Pair) (parts : List (PartState T)) (upper : UpperState) (before now : Cursor) → GoesOn run parts before → HeadIs run parts upper before heads.Newer → now.at ≡ before.at + 1 → now.older ≡ before.older → StepTo run parts upper before now
stepped-newer run parts upper before now goes is at older = record {
  pairs = (λ i. over (drop (at i) upper.rows) (older_left run parts (older i))) ∙ sym (ap (drop 1) is.2);
  goes_on = record { stands = subst (Stands run parts) (sym older) goes.stands; rises = subst (λ (o : Older). IsRun (older_left run parts o)) (sym older) goes.rises };
}

-- what the older side is after a version
abbrev pub IsAfter : {T : Type 0} → (T → List Pair) → List (PartState T) → Older → Older → Type 0
IsAfter run parts before now = (older_left run parts now ≡ older_rest run parts before) × Stands run parts now

-- both
pub stepped-both : {T : Type 0} (run : T → List Pair) (parts : List (PartState T)) (upper : UpperState) (before now : Cursor) → GoesOn run parts before → HeadIs run parts upper before heads.Both → now.at ≡ before.at + 1 → IsAfter run parts before.older now.older → StepTo run parts upper before now
stepped-both run parts upper before now goes is at after = record {
  pairs = (λ i. over (drop (at i) upper.rows) (after.0 i)) ∙ sym (ap (drop 1) is.2);
  goes_on = record { stands = after.1; rises = subst IsRun (sym after.0) is.3 };
}

-- the version alone
pub stepped-older : {T : Type 0} (run : T → List Pair) (parts : List (PartState T)) (upper : UpperState) (before now : Cursor) (spot : Spot) → GoesOn run parts before → HeadIs run parts upper before (heads.Older spot) → now.at ≡ before.at → IsAfter run parts before.older now.older → StepTo run parts upper before now
stepped-older run parts upper before now spot goes is at after = record {
  pairs = (λ i. over (drop (at i) upper.rows) (after.0 i)) ∙ sym (ap (drop 1) is.1);
  goes_on = record { stands = after.1; rises = subst IsRun (sym after.0) (rest-rises run parts before.older spot is.0 goes.rises) };
}

-- nothing
pub stepped-end : {T : Type 0} (run : T → List Pair) (parts : List (PartState T)) (upper : UpperState) (cursor : Cursor) → GoesOn run parts cursor → HeadIs run parts upper cursor heads.End → StepTo run parts upper cursor cursor
stepped-end run parts upper cursor goes is = record { pairs = is ∙ sym (ap (drop 1) is); goes_on = goes }

-- ---- deletions and rows

-- the first pair that is left is a deletion
pub record IsDeletionFirst (pairs : List Pair) : Type 0 where
  pub pair : Pair
  pub rest : List Pair
  pub is : pairs ≡ pair ∷ rest
  pub del : pair.change ≡ Del

del-from : (change : Change) → is_deletion change ≡ true → change ≡ Del
del-from (Put value) e = absurd cc
del-from Del e = refl

deleted-there : (rows : List Pair) (at : ℕ) (p : Pair) → slice_get rows at ≡ Some p → is_deleted (slice_get rows at) ≡ true → p.change ≡ Del
deleted-there rows at p e d = del-from p.change (ap is_deleted (sym e) ∙ d)

pub deletion-first : {T : Type 0} (run : T → List Pair) (parts : List (PartState T)) (upper : UpperState) (cursor : Cursor) → IsPlaced run parts upper → GoesOn run parts cursor → deletes upper.rows cursor.at (head_at upper cursor) ≡ true → IsDeletionFirst (pairs_left run parts upper cursor)
deletion-first run parts upper cursor placed goes = by_head (head_at upper cursor) (head_is run parts upper cursor placed goes)
  where
    by_head : (head : Head) → HeadIs run parts upper cursor head → deletes upper.rows cursor.at head ≡ true → IsDeletionFirst (pairs_left run parts upper cursor)
    by_head heads.Newer is d = record { pair = is.0; rest = over (drop (cursor.at + 1) upper.rows) (older_left run parts cursor.older); is = is.2; del = deleted-there upper.rows cursor.at is.0 is.1 d }
    by_head heads.Both is d = record { pair = is.0; rest = over (drop (cursor.at + 1) upper.rows) (older_rest run parts cursor.older); is = is.2; del = deleted-there upper.rows cursor.at is.0 is.1 d }
    by_head (heads.Older spot) is d = absurd cc
    by_head heads.End is d = absurd cc

-- a deletion that is passed was no row
pub rows-deletion : (pairs rest : List Pair) → IsDeletionFirst pairs → rest ≡ drop 1 pairs → live rest ≡ live pairs
rows-deletion pairs rest first e =
    ap live (e ∙ ap (drop 1) first.is)
    ∙ sym (ap (λ (change : Change). row_before first.pair.key change (live first.rest)) first.del)
    ∙ sym (ap live first.is)

-- and there are fewer pairs after it
pub fewer-left : (pairs rest : List Pair) → IsDeletionFirst pairs → rest ≡ drop 1 pairs → length rest < length pairs
fewer-left pairs rest first e = omega (arith, ap length (e ∙ ap (drop 1) first.is), ap length first.is)

there-put : (rows : List Pair) (at : ℕ) (p : Pair) → slice_get rows at ≡ Some p → is_deleted (slice_get rows at) ≡ false → is_deletion p.change ≡ false
there-put rows at p e d = ap is_deleted (sym e) ∙ d

-- a pair stands first, and it is a row
pub record PutFirst (pairs : List Pair) (p : Pair) : Type 0 where
  pub rest : List Pair
  pub is : pairs ≡ p ∷ rest
  pub put : is_deletion p.change ≡ false

-- the newer row where a cursor stands
pub newer-first : {T : Type 0} (run : T → List Pair) (parts : List (PartState T)) (upper : UpperState) (cursor : Cursor) (head : Head) (p : Pair) → IsPlaced run parts upper → IsCursor run parts upper cursor → head ≡ head_at upper cursor → head ≡ heads.Newer → slice_get upper.rows cursor.at ≡ Some p → PutFirst (pairs_left run parts upper cursor) p
newer-first run parts upper cursor head p placed is of named at =
    let first = head-named run parts upper cursor head heads.Newer placed is.goes_on of named in
    let same : first.0 ≡ p = some_same first.0 p (sym first.1 ∙ at) in
    subst (PutFirst (pairs_left run parts upper cursor)) same (record { rest = over (drop (cursor.at + 1) upper.rows) (older_left run parts cursor.older); is = first.2; put = there-put upper.rows cursor.at first.0 first.1 (ap (deletes upper.rows cursor.at) (sym named ∙ of) ∙ is.at_row) })

pub both-first : {T : Type 0} (run : T → List Pair) (parts : List (PartState T)) (upper : UpperState) (cursor : Cursor) (head : Head) (p : Pair) → IsPlaced run parts upper → IsCursor run parts upper cursor → head ≡ head_at upper cursor → head ≡ heads.Both → slice_get upper.rows cursor.at ≡ Some p → PutFirst (pairs_left run parts upper cursor) p
both-first run parts upper cursor head p placed is of named at =
    let first = head-named run parts upper cursor head heads.Both placed is.goes_on of named in
    let same : first.0 ≡ p = some_same first.0 p (sym first.1 ∙ at) in
    subst (PutFirst (pairs_left run parts upper cursor)) same (record { rest = over (drop (cursor.at + 1) upper.rows) (older_rest run parts cursor.older); is = first.2; put = there-put upper.rows cursor.at first.0 first.1 (ap (deletes upper.rows cursor.at) (sym named ∙ of) ∙ is.at_row) })

-- the older version where a cursor stands, in its partition
pub record OlderFirst {T : Type 0} (run : T → List Pair) (pairs : List Pair) (part : PartState T) (spot : Spot) : Type 0 where
  pub pair : Pair
  pub at : pair_of (map run part.runs) spot ≡ Some pair
  pub first : PutFirst pairs pair

pub older-first : {T : Type 0} (run : T → List Pair) (parts : List (PartState T)) (upper : UpperState) (cursor : Cursor) (head : Head) (spot : Spot) (part : PartState T) → IsPlaced run parts upper → IsCursor run parts upper cursor → head ≡ head_at upper cursor → head ≡ heads.Older spot → slice_get parts cursor.older.place.part ≡ Some part → OlderFirst run (pairs_left run parts upper cursor) part spot
older-first {T} run parts upper cursor head spot part placed is of named at =
    let first = head-named run parts upper cursor head (heads.Older spot) placed is.goes_on of named in
    let shown = first.0 in
    let same : shown.stands.part ≡ part = some_same shown.stands.part part (sym shown.stands.at ∙ at) in
    record { pair = shown.pair; at = subst (λ (p : PartState T). pair_of (map run p.runs) spot ≡ Some shown.pair) same shown.at; first = record { rest = over (drop cursor.at upper.rows) (older_rest run parts cursor.older); is = first.1; put = shown.put } }

-- the partition of the older version is there
pub older-inside : {T : Type 0} (run : T → List Pair) (parts : List (PartState T)) (upper : UpperState) (cursor : Cursor) (head : Head) (spot : Spot) → IsPlaced run parts upper → GoesOn run parts cursor → head ≡ head_at upper cursor → head ≡ heads.Older spot → cursor.older.place.part < length parts
older-inside run parts upper cursor head spot placed goes of named =
    let first = head-named run parts upper cursor head (heads.Older spot) placed goes of named in
    slice_get_within parts cursor.older.place.part first.0.stands.part first.0.stands.at

-- nothing is left at the end
pub end-rows : {T : Type 0} (run : T → List Pair) (parts : List (PartState T)) (upper : UpperState) (cursor : Cursor) (head : Head) → IsPlaced run parts upper → GoesOn run parts cursor → head ≡ head_at upper cursor → head ≡ heads.End → rows_left run parts upper cursor ≡ []
end-rows run parts upper cursor head placed goes of named = ap live (head-named run parts upper cursor head heads.End placed goes of named)

live-first : (pairs : List Pair) (p : Pair) (first : PutFirst pairs p) (change : Change) → p.change ≡ change → live pairs ≡ row_before p.key change (live first.rest)
live-first pairs p first change e = ap live first.is ∙ ap (λ (c : Change). row_before p.key c (live first.rest)) e

-- its row, copied or lent, is the first
pub copies-first : (pairs : List Pair) (p : Pair) (row : Option Row) → PutFirst pairs p → CopiesPair (Some p) row → CopiesFirst (live pairs) row
copies-first pairs p row first copies = by_change p.change row refl first.put copies
  where
    by_change : (change : Change) (row : Option Row) → p.change ≡ change → is_deletion change ≡ false → CopiesChange p.key change row → CopiesFirst (live pairs) row
    by_change Del row e h k = absurd cc
    by_change (Put value) None e h k = absurd k
    by_change (Put value) (Some r) e h k = (live first.rest, live-first pairs p first (Put value) e ∙ ap (λ (x : Row). x ∷ live first.rest) (sym k))

pub lends-first : (pairs : List Pair) (p : Pair) (row : Option LentRow) → PutFirst pairs p → LendsPair (Some p) row → LendsFirst (live pairs) row
lends-first pairs p row first lends = by_change p.change row refl first.put lends
  where
    by_change : (change : Change) (row : Option LentRow) → p.change ≡ change → is_deletion change ≡ false → LendsChange p.key change row → LendsFirst (live pairs) row
    by_change Del row e h k = absurd cc
    by_change (Put value) None e h k = absurd k
    by_change (Put value) (Some r) e h k = (live first.rest, live-first pairs p first (Put value) e ∙ (λ i. record { key = sym k.0 i; value = sym k.1 i } ∷ live first.rest))

pub if-ok : {X E : Type 0} (P Q : X → Type 0) (r : Result X E) → ((x : X) → P x → Q x) → IfOk r P → IfOk r Q
if-ok P Q (Ok x) f h = f x h
if-ok P Q (Err e) f h = h

-- what is left after the first row
live-rest : (pairs : List Pair) (p : Pair) → PutFirst pairs p → live (drop 1 pairs) ≡ drop 1 (live pairs)
live-rest pairs p first = by_change p.change refl first.put
  where
    by_change : (change : Change) → p.change ≡ change → is_deletion change ≡ false → live (drop 1 pairs) ≡ drop 1 (live pairs)
    by_change Del e h = absurd cc
    by_change (Put value) e h = ap (λ (ps : List Pair). live (drop 1 ps)) first.is ∙ sym (ap (drop 1) (live-first pairs p first (Put value) e))

pub rows-passed : {T : Type 0} (run : T → List Pair) (parts : List (PartState T)) (upper : UpperState) (cursor : Cursor) → IsPlaced run parts upper → IsCursor run parts upper cursor → live (drop 1 (pairs_left run parts upper cursor)) ≡ drop 1 (rows_left run parts upper cursor)
rows-passed run parts upper cursor placed is = by_head (head_at upper cursor) refl (head_is run parts upper cursor placed is.goes_on)
  where
    by_head : (head : Head) → head_at upper cursor ≡ head → HeadIs run parts upper cursor head → live (drop 1 (pairs_left run parts upper cursor)) ≡ drop 1 (rows_left run parts upper cursor)
    by_head heads.Newer e h = live-rest (pairs_left run parts upper cursor) h.0 (newer-first run parts upper cursor (head_at upper cursor) h.0 placed is refl e h.1)
    by_head heads.Both e h = live-rest (pairs_left run parts upper cursor) h.0 (both-first run parts upper cursor (head_at upper cursor) h.0 placed is refl e h.1)
    by_head (heads.Older spot) e h = live-rest (pairs_left run parts upper cursor) h.0.pair (record { rest = over (drop cursor.at upper.rows) (older_rest run parts cursor.older); is = h.1; put = h.0.put })
    by_head heads.End e h = ap (λ (ps : List Pair). live (drop 1 ps)) h ∙ sym (ap (λ (ps : List Pair). drop 1 (live ps)) h)

-- ---- where a seek begins

-- the rows that are left where both sides begin at a key
pub sought-rows : {T : Type 0} (run : T → List Pair) (parts : List (PartState T)) (rows : List Pair) (key : List ℕ) (at number : ℕ) (walk : Walk) (older : List Pair) → AllByRecursion (λ (part : PartState T). IsFormed part.view) parts → IsSet run parts → IsPlaceOf rows key at → (is : IsPartOf parts key number) → IsFirstPlace (map run is.part.runs) is.part.view key walk.segment walk.place → older ≡ older_from run parts number walk
    → live (over (drop at rows) older) ≡ rows_from (rows_over rows (set_level run parts)) key
sought-rows run parts rows key at number walk older formed set turn is first e =
    (λ i. live (over (pairs_from-place rows key at turn i) ((e ∙ older_from-key run parts key number walk formed set is first) i)))
    ∙ live-over_puts (pairs_from rows key) (pairs_from (set_level run parts) key)
    ∙ ap live (sym (pairs_from-over rows (set_level run parts) key (IsRun-set_level run parts set.each)))
    ∙ sym (live-pairs_from (over rows (set_level run parts)) key)

-- and the older pairs rise
pub sought-rises : {T : Type 0} (run : T → List Pair) (parts : List (PartState T)) (key : List ℕ) (number : ℕ) (walk : Walk) (older : List Pair) → AllByRecursion (λ (part : PartState T). IsFormed part.view) parts → IsSet run parts → (is : IsPartOf parts key number) → IsFirstPlace (map run is.part.runs) is.part.view key walk.segment walk.place → older ≡ older_from run parts number walk
    → IsRun older
sought-rises run parts key number walk older formed set is first e =
    subst IsRun (sym (e ∙ older_from-key run parts key number walk formed set is first))
    (IsRun-filter is_put (pairs_from (set_level run parts) key) (IsRun-filter (is_from key) (set_level run parts) (IsRun-set_level run parts set.each)))
