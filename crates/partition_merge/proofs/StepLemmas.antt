-- One step of a merge: which pair comes first, and what is left. To know: `took-newer`, `took-same`, `took-older`, `took-new_alone`, `row-next`.
use Rattle.std.proofs.Common.{◌≡◌, ℕ, zero, suc, ◌+◌, ◌<◌, ◌≤◌, Bool, true, false, List, [], ◌∷◌, length, drop, refl, sym, ap, subst, ◌∙◌, arith}
use Rattle.std.specs.Prelude.{slice_get, Option, Some, None, not}
use Rattle.std.specs.List.{AllByRecursion}
use Rattle.std.specs.declared.cmp.Ordering.TheVariants.{Less, Equal, Greater}
use Rattle.std.proofs.lemmas.List.{drop_all}
use Rattle.rdb_base.specs.Order.{key_cmp}
use Rattle.rdb_base.specs.Runs.{IsRun}
use Rattle.rdb_base.specs.Levels.{over, live, row_before}
use Rattle.rdb_base.specs.declared.row.Row.{Row}
use Rattle.rdb_base.specs.declared.change.Change.{Change}
use Rattle.rdb_base.specs.declared.change.Change.TheVariants.{Put, Del}
use Rattle.rdb_base.specs.declared.pair.Pair.{Pair}
use Rattle.rdb_base.proofs.MergeLemmas.{merge-newer, merge-same, merge-older, over-none}
use Rattle.remix_view.specs.declared.spot.Spot.{Spot}
use Rattle.remix_view.specs.declared.walk.Walk.{Walk}
use Rattle.remix_view.specs.Views.{ViewState}
use Rattle.remix_view.specs.Spots.{NextOf}
use Rattle.remix_seek.specs.Versions.{is_deletion}
use Rattle.partition_merge.specs.declared.origin.Origin.{Origin}
use Rattle.partition_merge.specs.declared.origin.Origin.TheVariants.{Old, New}
use Rattle.partition_merge.specs.declared.merge_place.MergePlace.{MergePlace}
use Rattle.partition_merge.specs.Merging.{IsPut, IsPutThere, IsMerge, IsMergeAt, IsPutIfOld, IsNextPair, IsNextRow, TakesNew, kept_from, pair_of_spot, pairs_at, after_pair, pair_from, pairs_left, is_put, is_row_in, row_pair, head_order}

-- ---- lists from a place on

pub drop-there : {X : Type 0} (xs : List X) (i : ℕ) (x : X) → slice_get xs i ≡ Some x → drop i xs ≡ x ∷ drop (i + 1) xs
drop-there [] i x e = absurd cc
drop-there (y ∷ ys) zero x e = ap (λ z. z ∷ ys) (some_same y x e)
  where
    some_same : {Y : Type 0} (a b : Y) → Some a ≡ Some b → a ≡ b
    some_same a b h = cc
drop-there (y ∷ ys) (suc i) x e = drop-there ys i x e ∙ ap (λ n. x ∷ drop n (y ∷ ys)) (more i)
  where
    more : (n : ℕ) → suc (n + 1) ≡ suc n + 1
    more n = omega arith

pub get-below : {X : Type 0} (xs : List X) (i : ℕ) (x : X) → slice_get xs i ≡ Some x → i < length xs
get-below [] i x e = absurd cc
get-below (y ∷ ys) zero x e = omega arith
get-below (y ∷ ys) (suc i) x e = let rest = get-below ys i x e in omega (arith, rest)

pub get-there : {X : Type 0} (xs : List X) (i : ℕ) → i < length xs → (x : X) × (slice_get xs i ≡ Some x)
get-there [] i h = absurd (omega arith)
get-there (y ∷ ys) zero h = (y, refl)
get-there (y ∷ ys) (suc i) h = get-there ys i (omega arith)

-- ---- what a step leaves

-- the first pair that is left comes from this origin, and these are left after it
pub record Stepped (runs : List (List Pair)) (newer before : List Pair) (origin : Origin) (spots : List Spot) (rest : List Pair) : Type 0 where
  pub next : IsNextPair runs newer before (Some origin) (over rest (pairs_at runs spots))
  pub goes_on : IsMerge runs spots rest

-- the pair of a spot that names a put
put_there : (o : Option Pair) → IsPut o → (q : Pair) × (o ≡ Some q) × (is_deletion q.change ≡ false)
put_there None h = absurd h
put_there (Some q) h = (q, refl, h)

pairs_at-cons : (runs : List (List Pair)) (s : Spot) (spots : List Spot) (q : Pair) → pair_of_spot runs s ≡ Some q → pairs_at runs (s ∷ spots) ≡ q ∷ pairs_at runs spots
pairs_at-cons runs s spots q e = ap (λ (o : Option Pair). after_pair o (pairs_at runs spots)) e

-- the first new pair, where the order of the heads is not that of an old one first
pub head_there : (o p : Option Pair) → (head_order o p ≡ Greater → ⊥) → (x : Pair) × (o ≡ Some x)
head_there None p h = absurd (h refl)
head_there (Some x) p h = (x, refl)

-- the new pair is the lower
pub stepped-newer : (runs : List (List Pair)) (newer : List Pair) (at : ℕ) (spots here later : List Spot) (s : Spot) → IsMerge runs spots (drop at newer) → spots ≡ (s ∷ later) → here ≡ spots
    → head_order (slice_get newer at) (pair_of_spot runs s) ≡ Less → Stepped runs newer (over (drop at newer) (pairs_at runs spots)) (New at) here (drop (at + 1) newer)
stepped-newer runs newer at spots here later s m e same lt =
    let new = head_there (slice_get newer at) (pair_of_spot runs s) (λ h. let no : Less ≡ Greater = sym lt ∙ h in absurd cc) in
    let p = new.0 in
    let old = put_there (pair_of_spot runs s) (subst (AllByRecursion (IsPutThere runs)) e m.puts).0 in
    let q = old.0 in
    let left : drop at newer ≡ p ∷ drop (at + 1) newer = drop-there newer at p new.1 in
    let olds : pairs_at runs spots ≡ q ∷ pairs_at runs later = ap (pairs_at runs) e ∙ pairs_at-cons runs s later q old.1 in
    let new_run = subst IsRun left m.new_rises in
    let old_run = subst IsRun olds m.old_rises in
    let order : key_cmp p.key q.key ≡ Less = (λ i. head_order (sym new.1 i) (sym old.1 i)) ∙ lt in
    let merged : over (drop at newer) (pairs_at runs spots) ≡ p ∷ over (drop (at + 1) newer) (pairs_at runs spots) =
    (λ i. over (left i) (olds i)) ∙ merge-newer p q (drop (at + 1) newer) (pairs_at runs later) new_run old_run order ∙ (λ i. p ∷ over (drop (at + 1) newer) (sym olds i)) in
    subst (λ (ss : List Spot). Stepped runs newer (over (drop at newer) (pairs_at runs spots)) (New at) ss (drop (at + 1) newer)) (sym same)
    (record { next = (p, new.1, merged, tt); goes_on = record { puts = m.puts; old_rises = m.old_rises; new_rises = new_run.1 } })

-- both sides have the key
pub stepped-same : (runs : List (List Pair)) (newer : List Pair) (at : ℕ) (spots later : List Spot) (s : Spot) → IsMerge runs spots (drop at newer) → spots ≡ (s ∷ later)
    → head_order (slice_get newer at) (pair_of_spot runs s) ≡ Equal → Stepped runs newer (over (drop at newer) (pairs_at runs spots)) (New at) later (drop (at + 1) newer)
stepped-same runs newer at spots later s m e eq =
    let new = head_there (slice_get newer at) (pair_of_spot runs s) (λ h. let no : Equal ≡ Greater = sym eq ∙ h in absurd cc) in
    let p = new.0 in
    let puts = subst (AllByRecursion (IsPutThere runs)) e m.puts in
    let old = put_there (pair_of_spot runs s) puts.0 in
    let q = old.0 in
    let left : drop at newer ≡ p ∷ drop (at + 1) newer = drop-there newer at p new.1 in
    let olds : pairs_at runs spots ≡ q ∷ pairs_at runs later = ap (pairs_at runs) e ∙ pairs_at-cons runs s later q old.1 in
    let new_run = subst IsRun left m.new_rises in
    let old_run = subst IsRun olds m.old_rises in
    let order : key_cmp p.key q.key ≡ Equal = (λ i. head_order (sym new.1 i) (sym old.1 i)) ∙ eq in
    let merged : over (drop at newer) (pairs_at runs spots) ≡ p ∷ over (drop (at + 1) newer) (pairs_at runs later) =
    (λ i. over (left i) (olds i)) ∙ merge-same p q (drop (at + 1) newer) (pairs_at runs later) new_run old_run order in
    record { next = (p, new.1, merged, tt); goes_on = record { puts = puts.1; old_rises = old_run.1; new_rises = new_run.1 } }

-- the old pair is the lower
pub stepped-older : (runs : List (List Pair)) (newer : List Pair) (at : ℕ) (spots later : List Spot) (s : Spot) → IsMerge runs spots (drop at newer) → spots ≡ (s ∷ later)
    → head_order (slice_get newer at) (pair_of_spot runs s) ≡ Greater → Stepped runs newer (over (drop at newer) (pairs_at runs spots)) (Old s.run s.place) later (drop at newer)
stepped-older runs newer at spots later s m e gt =
    let puts = subst (AllByRecursion (IsPutThere runs)) e m.puts in
    let old = put_there (pair_of_spot runs s) puts.0 in
    let q = old.0 in
    let olds : pairs_at runs spots ≡ q ∷ pairs_at runs later = ap (pairs_at runs) e ∙ pairs_at-cons runs s later q old.1 in
    let old_run = subst IsRun olds m.old_rises in
    record {
      next = (q, old.1, ap (over (drop at newer)) olds ∙ by_head q old_run old.1 (slice_get newer at) refl, puts.0);
      goes_on = record { puts = puts.1; old_rises = old_run.1; new_rises = m.new_rises };
    }
  where
    none_left : (xs : List Pair) (i : ℕ) → slice_get xs i ≡ None → drop i xs ≡ []
    none_left [] i h = drop_all i [] (omega arith)
    none_left (x ∷ xs) zero h = absurd cc
    none_left (x ∷ xs) (suc i) h = none_left xs i h

    by_head : (q : Pair) → IsRun (q ∷ pairs_at runs later) → pair_of_spot runs s ≡ Some q → (o : Option Pair) → slice_get newer at ≡ o → over (drop at newer) (q ∷ pairs_at runs later) ≡ q ∷ over (drop at newer) (pairs_at runs later)
    by_head q old_run is None h = rw (none_left newer at h) refl
    by_head q old_run is (Some p) h =
        let left : drop at newer ≡ p ∷ drop (at + 1) newer = drop-there newer at p h in
        let order : key_cmp p.key q.key ≡ Greater = (λ i. head_order (sym h i) (sym is i)) ∙ gt in
        ap (λ (ps : List Pair). over ps (q ∷ pairs_at runs later)) left
        ∙ merge-older p q (drop (at + 1) newer) (pairs_at runs later) (subst IsRun left m.new_rises) old_run order
        ∙ ap (λ (ps : List Pair). q ∷ over ps (pairs_at runs later)) (sym left)

-- nothing old is left
pub stepped-new_alone : (runs : List (List Pair)) (newer : List Pair) (at : ℕ) (spots : List Spot) → IsMerge runs spots (drop at newer) → spots ≡ [] → at < length newer → Stepped runs newer (over (drop at newer) (pairs_at runs spots)) (New at) spots (drop (at + 1) newer)
stepped-new_alone runs newer at spots m e lt =
    let new = get-there newer at lt in
    let p = new.0 in
    let left : drop at newer ≡ p ∷ drop (at + 1) newer = drop-there newer at p new.1 in
    let new_run = subst IsRun left m.new_rises in
    record {
      next = (p, new.1, (λ i. over (left i) (pairs_at runs (e i))) ∙ over-none (p ∷ drop (at + 1) newer) new_run ∙ ap (λ ps. p ∷ ps) (sym (over-none (drop (at + 1) newer) new_run.1)) ∙ (λ i. p ∷ over (drop (at + 1) newer) (pairs_at runs (sym e i))), tt);
      goes_on = record { puts = m.puts; old_rises = m.old_rises; new_rises = new_run.1 };
    }

-- nothing is left at all
pub over-ended : (runs : List (List Pair)) (newer : List Pair) (at : ℕ) (spots : List Spot) → spots ≡ [] → length newer ≤ at → over (drop at newer) (pairs_at runs spots) ≡ []
over-ended runs newer at spots e h = (λ i. over (drop_all at newer h i) (pairs_at runs (e i)))

-- ---- the arms of a step

pub first-none : {X : Type 0} (before later : List X) (o : Option X) → NextOf before o later → o ≡ None → before ≡ []
first-none {X} before later o next is = (subst (λ (p : Option X). NextOf before p later) is next).0

pub first-some : {X : Type 0} (before later : List X) (o : Option X) (x : X) → NextOf before o later → o ≡ Some x → before ≡ x ∷ later
first-some {X} before later o x next is = subst (λ (p : Option X). NextOf before p later) is next

-- a step of a merge: the origin of the next pair, and what is left after it
pub record Took (runs : List (List Pair)) (view : ViewState) (newer : List Pair) (before : MergePlace) (result : Option Origin) (later : MergePlace) : Type 0 where
  pub next : IsNextPair runs newer (pairs_left runs view newer before) result (pairs_left runs view newer later)
  pub goes_on : IsMergeAt runs view newer later

-- nothing old was left
pub took-new_alone : (runs : List (List Pair)) (view : ViewState) (newer : List Pair) (before later : MergePlace) (o : Option Spot) (after : List Spot) (result : Option Origin) → IsMergeAt runs view newer before
    → NextOf (kept_from view before.walk) o after → o ≡ None → TakesNew newer before result later → Took runs view newer before result later
took-new_alone runs view newer before later o after result m found is t = by_result result t
  where
    none : kept_from view before.walk ≡ []
    none = first-none (kept_from view before.walk) after o found is

    by_result : (r : Option Origin) → TakesNew newer before r later → Took runs view newer before r later
    by_result None t = record { next = over-ended runs newer before.at (kept_from view before.walk) none t.0; goes_on = subst (IsMergeAt runs view newer) (sym t.1) m }
    by_result (Some (Old run place)) t = absurd t
    by_result (Some (New place)) t =
        let s = stepped-new_alone runs newer before.at (kept_from view before.walk) m none t.1 in
        subst (λ (n : ℕ). Took runs view newer before (Some (New n)) later) (sym t.0)
        (subst (Took runs view newer before (Some (New before.at))) (sym t.2) (record { next = s.next; goes_on = s.goes_on }))

-- the new pair was the lower
pub took-newer : (runs : List (List Pair)) (view : ViewState) (newer : List Pair) (before : MergePlace) (here after : Walk) (o : Option Spot) (s : Spot) → IsMergeAt runs view newer before
    → kept_from view here ≡ kept_from view before.walk → NextOf (kept_from view before.walk) o (kept_from view after) → o ≡ Some s
    → head_order (slice_get newer before.at) (pair_of_spot runs s) ≡ Less → Took runs view newer before (Some (New before.at)) (record { walk = here; at = before.at + 1 })
took-newer runs view newer before here after o s m same found is lt =
    let step = stepped-newer runs newer before.at (kept_from view before.walk) (kept_from view here) (kept_from view after) s m (first-some (kept_from view before.walk) (kept_from view after) o s found is) same lt in
    record { next = step.next; goes_on = step.goes_on }

-- both sides had the key
pub took-same : (runs : List (List Pair)) (view : ViewState) (newer : List Pair) (before : MergePlace) (after : Walk) (o : Option Spot) (s : Spot) → IsMergeAt runs view newer before
    → NextOf (kept_from view before.walk) o (kept_from view after) → o ≡ Some s
    → head_order (slice_get newer before.at) (pair_of_spot runs s) ≡ Equal → Took runs view newer before (Some (New before.at)) (record { walk = after; at = before.at + 1 })
took-same runs view newer before after o s m found is eq =
    let step = stepped-same runs newer before.at (kept_from view before.walk) (kept_from view after) s m (first-some (kept_from view before.walk) (kept_from view after) o s found is) eq in
    record { next = step.next; goes_on = step.goes_on }

-- the old pair was the lower
pub took-older : (runs : List (List Pair)) (view : ViewState) (newer : List Pair) (before : MergePlace) (after : Walk) (o : Option Spot) (s : Spot) → IsMergeAt runs view newer before
    → NextOf (kept_from view before.walk) o (kept_from view after) → o ≡ Some s
    → head_order (slice_get newer before.at) (pair_of_spot runs s) ≡ Greater → Took runs view newer before (Some (Old s.run s.place)) (record { walk = after; at = before.at })
took-older runs view newer before after o s m found is gt =
    let step = stepped-older runs newer before.at (kept_from view before.walk) (kept_from view after) s m (first-some (kept_from view before.walk) (kept_from view after) o s found is) gt in
    record { next = step.next; goes_on = step.goes_on }

-- ---- pairs and rows

-- a pair that is no deletion is a row
put-row : (p : Pair) → is_deletion p.change ≡ false → (row : Row) × (p ≡ row_pair row)
put-row p not_del = by_change p.change refl not_del
  where
    by_change : (change : Change) → p.change ≡ change → is_deletion change ≡ false → (row : Row) × (p ≡ row_pair row)
    by_change (Put value) e h = (record { key = p.key; value = value }, (λ i. record { key = p.key; change = e i }))
    by_change Del e h = absurd cc

-- what an origin's test says of its pair
row-test : (runs : List (List Pair)) (newer : List Pair) (origin : Origin) (p : Pair) (b : Bool) → pair_from runs newer origin ≡ Some p → IsPutIfOld runs origin → is_row_in newer origin ≡ b → is_deletion p.change ≡ not b
row-test runs newer (Old run place) p true e put is = subst IsPut e put
row-test runs newer (Old run place) p false e put is = absurd cc
row-test runs newer (New place) p b e put is = by_test (is_deletion p.change) (sym (ap is_put e) ∙ is)
  where
    by_test : (d : Bool) → not d ≡ b → d ≡ not b
    by_test true h = ap not h
    by_test false h = ap not h

-- the next pair is a row
pub row-next : (runs : List (List Pair)) (newer before later : List Pair) (origin : Origin) → IsNextPair runs newer before (Some origin) later → is_row_in newer origin ≡ true → IsNextRow runs newer (live before) (Some origin) (live later)
row-next runs newer before later origin next is =
    let p = next.0 in
    let row = put-row p (row-test runs newer origin p true next.1 next.3 is) in
    (row.0, next.1 ∙ ap (λ (q : Pair). Some q) row.1, ap live next.2 ∙ ap (λ (q : Pair). live (q ∷ later)) row.1)

-- the next pair is a deletion
pub row-passed : (runs : List (List Pair)) (newer before later : List Pair) (origin : Origin) → IsNextPair runs newer before (Some origin) later → is_row_in newer origin ≡ false → live before ≡ live later
row-passed runs newer before later origin next is = ap live next.2 ∙ by_change next.0.change (row-test runs newer origin next.0 false next.1 next.3 is)
  where
    by_change : (change : Change) → is_deletion change ≡ true → row_before next.0.key change (live later) ≡ live later
    by_change (Put value) h = absurd cc
    by_change Del h = refl

-- there are fewer pairs after a step
pub fewer-left : (runs : List (List Pair)) (newer before later : List Pair) (o : Option Origin) (origin : Origin) → IsNextPair runs newer before o later → o ≡ Some origin → length later < length before
fewer-left runs newer before later o origin next is =
    let some = subst (λ (p : Option Origin). IsNextPair runs newer before p later) is next in
    omega (arith, ap length some.2)
