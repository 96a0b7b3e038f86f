-- Runs merged version by version. To know: merging_begun, merging_step, merging_ended; what is read of a pair: deletion_told, selector_told.
use Rattle.std.proofs.Common.{◌≡◌, ◌≢◌, ℕ, zero, suc, ◌+◌, ◌<◌, ◌≤◌, Bool, true, false, cond, List, [], ◌∷◌, ◌++◌, length, take, get_or, refl, sym, ap, subst, ◌∙◌, arith}
use Rattle.std.specs.Prelude.{◌==◌, slice_get, slice_index, Option, Some, None, filter, nat_lt, not, replicate}
use Rattle.std.specs.List.{AllByRecursion}
use Rattle.std.specs.declared.cmp.Ordering.{Ordering}
use Rattle.std.specs.declared.cmp.Ordering.TheVariants.{Less, Equal, Greater}
use Rattle.std.proofs.lemmas.Bool.Decides.{nat_tests}
use Rattle.std.proofs.lemmas.List.{take_all}
use Rattle.rdb_base.specs.Order.{key_cmp}
use Rattle.rdb_base.proofs.KeyOrder.{total, same_key}
use Rattle.rdb_base.proofs.Lists.{all-weaker, all-append}
use Rattle.rdb_base.specs.declared.pair.Pair.{Pair}
use denote.Ref.{Bor}
use Rattle.std.specs.Option.{is_none, is_some}
use Rattle.std.proofs.Math.ListN.{set}
use Rattle.std.proofs.lemmas.Grind.{get_or_default_zero}
use Rattle.std.proofs.lemmas.List.{get_or-set_same, get_or-set_other}
use Rattle.rdb_base.specs.declared.change.Change.{Change}
use Rattle.rdb_base.specs.declared.change.Change.TheVariants.{Put, Del}
use Rattle.std.proofs.lemmas.List.Elements.{filter-append}
use Rattle.std.proofs.Common.{append-nil}
use Rattle.rdb_base.specs.Runs.{IsRun}
use Rattle.remix_seek.specs.Versions.{Version, AreSorted, is_before, before_by, versions_in, run_at, selector_of, selectors_after, key_before, has_key, is_deletion}
use Rattle.remix_build.specs.Merging.{head_at, head_of, IsNext, AreUsedUp, Merging, IsOrder, selector_after, selector_by, deletion_at}
use Rattle.remix_build.proofs.HeadLemmas.{PairThere}
use Rattle.remix_seek.specs.Reads.{KeyAt, KeyOf, ValueAt, ValueOf, LentOf}
use Rattle.remix_view.proofs.Lists.{some_same}
use Rattle.remix_seek.proofs.RisingLemmas.{run_rises}

pub not_past : {X : Type 0} (xs : List X) (i : ℕ) → slice_get xs i ≡ None → length xs ≤ i
not_past [] i e = omega arith
not_past (x ∷ xs) zero e = absurd cc
not_past (x ∷ xs) (suc i) e = let h = not_past xs i e in omega arith

-- ---- one version more

run_there : (runs : List (List Pair)) (run i : ℕ) (p : Pair) → slice_get (run_at runs run) i ≡ Some p → run < length runs
run_there [] run i p e = absurd cc
run_there (r ∷ rs) zero i p e = omega arith
run_there (r ∷ rs) (suc n) i p e = let h = run_there rs n i p e in omega arith

pub before_trans : (u v w : Version) → is_before u v ≡ true → is_before v w ≡ true → is_before u w ≡ true
before_trans u v w a b = by_order (key_cmp u.pair.key v.pair.key) (key_cmp v.pair.key w.pair.key) refl refl a b
  where
    lower : (l m n : ℕ) → nat_lt l m ≡ true → nat_lt m n ≡ true → nat_lt l n ≡ true
    lower l m n h g = grind (arith, nat_tests)

    with_order : (r : Ordering) → key_cmp u.pair.key w.pair.key ≡ r → before_by r u.run w.run ≡ true → is_before u w ≡ true
    with_order r e h = ap (λ (q : Ordering). before_by q u.run w.run) e ∙ h

    by_order : (r q : Ordering) → key_cmp u.pair.key v.pair.key ≡ r → key_cmp v.pair.key w.pair.key ≡ q → before_by r u.run v.run ≡ true → before_by q v.run w.run ≡ true → is_before u w ≡ true
    by_order Less Less e f h g = with_order Less (total.trans u.pair.key v.pair.key w.pair.key e f) refl
    by_order Less Equal e f h g = with_order Less (ap (key_cmp u.pair.key) (sym (same_key v.pair.key w.pair.key f)) ∙ e) refl
    by_order Equal Less e f h g = with_order Less (ap (λ (k : List ℕ). key_cmp k w.pair.key) (same_key u.pair.key v.pair.key e) ∙ f) refl
    by_order Equal Equal e f h g = with_order Equal (ap (λ (k : List ℕ). key_cmp k w.pair.key) (same_key u.pair.key v.pair.key e) ∙ f) (lower u.run v.run w.run h g)
    by_order Greater q e f h g = absurd cc
    by_order Less Greater e f h g = absurd cc
    by_order Equal Greater e f h g = absurd cc

sorted_snoc : (vs : List Version) (v : Version) → AreSorted vs → AllByRecursion (λ (w : Version). is_before w v ≡ true) vs → AreSorted (vs ++ v ∷ [])
sorted_snoc [] v sorted all = (tt, tt)
sorted_snoc (u ∷ us) v sorted all = (all-append (λ (w : Version). is_before u w ≡ true) us (v ∷ []) sorted.0 (all.0, tt), sorted_snoc us v sorted.1 all.1)

selectors_snoc : (last : Option (List ℕ)) (vs : List Version) (v : Version) → selectors_after last (vs ++ v ∷ []) ≡ selectors_after last vs ++ selector_of (key_before last vs (length vs)) v ∷ []
selectors_snoc last [] v = refl
selectors_snoc last (u ∷ us) v = ap (λ (xs : List ℕ). selector_of last u ∷ xs) (selectors_snoc (Some u.pair.key) us v)

key_snoc : (last : Option (List ℕ)) (vs : List Version) (v : Version) → key_before last (vs ++ v ∷ []) (length (vs ++ v ∷ [])) ≡ Some v.pair.key
key_snoc last [] v = refl
key_snoc last (u ∷ us) v = key_snoc (Some u.pair.key) us v

version_in : (run start : ℕ) (pairs : List Pair) (i n : ℕ) (p : Pair) → slice_get pairs i ≡ Some p → n ≡ start + i → slice_get (versions_in run start pairs) i ≡ Some (record { run = run; place = n; pair = p })
version_in run start [] i n p e f = absurd cc
version_in run start (x ∷ xs) zero n p e f = λ i. Some (record { run = run; place = same_place start n f i; pair = some_same x p e i })
  where
    same_place : (s n : ℕ) → n ≡ s + 0 → s ≡ n
    same_place s n h = omega arith
version_in run start (x ∷ xs) (suc i) n p e f = version_in run (start + 1) xs i n p e (omega (arith, f))

take_snoc : (vs : List Version) (i : ℕ) (v : Version) → slice_get vs i ≡ Some v → take (suc i) vs ≡ take i vs ++ v ∷ []
take_snoc [] i v e = absurd cc
take_snoc (u ∷ us) zero v e = ap (λ (w : Version). w ∷ []) (some_same u v e)
take_snoc (u ∷ us) (suc i) v e = ap (λ (ws : List Version). u ∷ ws) (take_snoc us i v e)

pub merging_begun : (runs : List (List Pair)) (places : List ℕ) → ((run : ℕ) → slice_index places run ≡ 0) → Merging runs places [] None
merging_begun runs places zeros = record {
  done = [];
  sorted = tt;
  all = λ run. sym (ap (λ (n : ℕ). take n (versions_in run 0 (run_at runs run))) (zeros run));
  ahead = λ run pair at. tt;
  told = refl;
  last_is = refl;
}

pub merging_next : (runs : List (List Pair)) (places later order : List ℕ) (last : Option (List ℕ)) (run : ℕ) (pair : Pair) → AllByRecursion IsRun runs → (m : Merging runs places order last) → (h : IsNext runs places run pair) → slice_index later run ≡ suc (slice_index places run) → ((q : ℕ) → q ≢ run → slice_index later q ≡ slice_index places q) → Merging runs later (order ++ selector_after last run (slice_index places run) (head_at runs places run) ∷ []) (Some pair.key)
merging_next runs places later order last run pair rise m h own others =
    record {
      done = m.done ++ v ∷ [];
      sorted = sorted_snoc m.done v m.sorted (m.ahead run pair h.head);
      all = λ r. filter-append (λ (w : Version). w.run == r) m.done (v ∷ []) ∙ all r (run == r) refl;
      ahead = λ q o at. ahead q o at (q == run) refl;
      told = (λ i. m.told i ++ selector i ∷ []) ∙ sym (selectors_snoc None m.done v);
      last_is = key_snoc None m.done v;
    }
  where
    v : Version
    v = head_of places run pair

    selector : selector_after last run (slice_index places run) (head_at runs places run) ≡ selector_of (key_before None m.done (length m.done)) v
    selector = (λ i. selector_after (sym m.last_is i) run (slice_index places run) (h.head i))

    of_rest : (r : ℕ) (b : Bool) → (run == r) ≡ b → filter (λ (w : Version). w.run == r) (v ∷ []) ≡ cond b (v ∷ []) []
    of_rest r b e = ap (λ (c : Bool). cond c (v ∷ []) []) e

    all : (r : ℕ) (b : Bool) → (run == r) ≡ b → filter (λ (w : Version). w.run == r) m.done ++ filter (λ (w : Version). w.run == r) (v ∷ []) ≡ take (slice_index later r) (versions_in r 0 (run_at runs r))
    all r true e =
        let same : run ≡ r = grind (arith, nat_tests) in
        (λ i. m.all r i ++ of_rest r true e i)
        ∙ subst (λ (q : ℕ). take (slice_index places q) (versions_in q 0 (run_at runs q)) ++ v ∷ [] ≡ take (slice_index later q) (versions_in q 0 (run_at runs q))) same mine
      where
        mine : take (slice_index places run) (versions_in run 0 (run_at runs run)) ++ v ∷ [] ≡ take (slice_index later run) (versions_in run 0 (run_at runs run))
        mine = sym (take_snoc (versions_in run 0 (run_at runs run)) (slice_index places run) v (version_in run 0 (run_at runs run) (slice_index places run) (slice_index places run) pair h.head (omega arith)))
            ∙ ap (λ (n : ℕ). take n (versions_in run 0 (run_at runs run))) (sym own)
    all r false e =
        let apart : r ≢ run = grind (arith, nat_tests) in
        (λ i. m.all r i ++ of_rest r false e i)
        ∙ append-nil (take (slice_index places r) (versions_in r 0 (run_at runs r)))
        ∙ ap (λ (n : ℕ). take n (versions_in r 0 (run_at runs r))) (sym (others r apart))

    ahead : (q : ℕ) (o : Pair) → head_at runs later q ≡ Some o → (b : Bool) → (q == run) ≡ b → AllByRecursion (λ (w : Version). is_before w (head_of later q o) ≡ true) (m.done ++ v ∷ [])
    ahead q o at false e =
        let apart : q ≢ run = grind (arith, nat_tests) in
        let here : head_at runs places q ≡ Some o = ap (slice_get (run_at runs q)) (sym (others q apart)) ∙ at in
        all-append (λ (w : Version). is_before w (head_of later q o) ≡ true) m.done (v ∷ []) (m.ahead q o here) (h.first q o (run_there runs q (slice_index places q) o here) apart here, tt)
    ahead q o at true e =
        let same : q ≡ run = grind (arith, nat_tests) in
        let here : slice_get (run_at runs run) (suc (slice_index places run)) ≡ Some o = (λ i. slice_get (run_at runs (sym same i)) (own_at q same i)) ∙ at in
        let next : is_before v (head_of later q o) ≡ true = ap (λ (r : Ordering). before_by r run q) (run_rises (run_at runs run) (slice_index places run) pair o (rise_at runs run rise) h.head here) in
        all-append (λ (w : Version). is_before w (head_of later q o) ≡ true) m.done (v ∷ [])
        (all-weaker (λ (w : Version). is_before w v ≡ true) (λ (w : Version). is_before w (head_of later q o) ≡ true) (λ w before. before_trans w v (head_of later q o) before next) m.done (m.ahead run pair h.head))
        (next, tt)
      where
        own_at : (q : ℕ) → q ≡ run → suc (slice_index places run) ≡ slice_index later q
        own_at q e = sym own ∙ ap (slice_index later) (sym e)

        rise_at : (rs : List (List Pair)) (r : ℕ) → AllByRecursion IsRun rs → IsRun (run_at rs r)
        rise_at [] r all = tt
        rise_at (x ∷ xs) zero all = all.0
        rise_at (x ∷ xs) (suc r) all = rise_at xs r all.1

pub merging_ended : (runs : List (List Pair)) (places order : List ℕ) (last : Option (List ℕ)) → Merging runs places order last → AreUsedUp runs places → IsOrder runs order
merging_ended runs places order last m none = record { versions = m.done; view_of = record { sorted = m.sorted; all = λ run. m.all run ∙ whole run (nat_lt run (length runs)) refl }; told = m.told }
  where
    length_in : (run start : ℕ) (pairs : List Pair) → length (versions_in run start pairs) ≡ length pairs
    length_in run start [] = refl
    length_in run start (x ∷ xs) = let e = length_in run (start + 1) xs in omega arith

    no_run : (rs : List (List Pair)) (r : ℕ) → length rs ≤ r → run_at rs r ≡ []
    no_run [] r h = refl
    no_run (x ∷ xs) zero h = absurd (omega arith)
    no_run (x ∷ xs) (suc r) h = no_run xs r (omega arith)

    whole : (run : ℕ) (b : Bool) → nat_lt run (length runs) ≡ b → take (slice_index places run) (versions_in run 0 (run_at runs run)) ≡ versions_in run 0 (run_at runs run)
    whole run true e = take_all (slice_index places run) (versions_in run 0 (run_at runs run)) (omega (arith, length_in run 0 (run_at runs run), not_past (run_at runs run) (slice_index places run) (none run (grind (arith, nat_tests)))))
    whole run false e =
        let gone : run_at runs run ≡ [] = no_run runs run (grind (arith, nat_tests)) in
        (take_all (slice_index places run) (versions_in run 0 (run_at runs run)) (omega (arith, length_in run 0 (run_at runs run), ap length gone)))

-- ---- what is read of a pair

pub deletion_told : (pairs : List Pair) (place : ℕ) (lent : Option (Bor (List ℕ))) (b : Bool) → ValueAt pairs place lent → b ≡ is_none lent → b ≡ deletion_at (slice_get pairs place)
deletion_told pairs place lent b at e = e ∙ by_pair (slice_get pairs place) lent at
  where
    by_change : (change : Change) (l : Option (Bor (List ℕ))) → ValueOf change l → is_none l ≡ is_deletion change
    by_change (Put value) (Some v) h = refl
    by_change Del None h = refl
    by_change (Put value) None h = absurd h
    by_change Del (Some v) h = absurd h

    by_pair : (p : Option Pair) (l : Option (Bor (List ℕ))) → LentOf p l → is_none l ≡ deletion_at p
    by_pair None l h = absurd h
    by_pair (Some p) l h = by_change p.change l h

pub selector_told : (last : Option (List ℕ)) (run place : ℕ) (found : Option Pair) (key : List ℕ) (old deletion : Bool) (selector : ℕ) → KeyOf found key → selector ≡ selector_by run deletion old → deletion ≡ deletion_at found → old ≡ has_key last key → selector ≡ selector_after last run place found
selector_told last run place None key old deletion selector there e f g = absurd there
selector_told last run place (Some p) key old deletion selector there e f g = e ∙ (λ i. selector_by run (f i) (g i)) ∙ ap (λ (k : List ℕ). selector_by run (is_deletion p.change) (has_key last k)) there

pub none_told : {X : Type 0} (l : Option X) (b : Bool) → is_some l ≡ not b → b ≡ is_none l
none_told None true e = refl
none_told None false e = absurd cc
none_told (Some x) true e = absurd cc
none_told (Some x) false e = refl

pub zeros_at : (n r : ℕ) → slice_index (replicate n 0) r ≡ 0
zeros_at zero r = refl
zeros_at (suc n) zero = refl
zeros_at (suc n) (suc r) = zeros_at n r

-- one turn of the loop
pub merging_step : (runs : List (List Pair)) (places order grown : List ℕ) (last : Option (List ℕ)) (run place after selector : ℕ) (key : List ℕ) → AllByRecursion IsRun runs → Merging runs places order last → length places ≡ length runs → PairThere runs places run key → place ≡ get_or places run place → after ≡ place + 1 → selector ≡ selector_after last run place (slice_get (run_at runs run) place) → grown ≡ order ++ selector ∷ [] → Merging runs (set places run after) grown (Some key)
merging_step runs places order grown last run place after selector key rise m long there read next told e =
    let inside : run < length places = omega (arith, there.next.low) in
    let here : place ≡ slice_index places run = read ∙ get_or_default_zero places run place inside in
    let own : slice_index (set places run after) run ≡ suc (slice_index places run) = get_or-set_same places run after 0 inside ∙ next ∙ (one_more place (slice_index places run) here) in
    let go = merging_next runs places (set places run after) order last run there.pair rise m there.next own (λ q apart. get_or-set_other places run q after 0 apart) in
    let at : Merging runs (set places run after) (order ++ selector_after last run place (slice_get (run_at runs run) place) ∷ []) (Some there.pair.key) = subst (λ (p : ℕ). Merging runs (set places run after) (order ++ selector_after last run p (slice_get (run_at runs run) p) ∷ []) (Some there.pair.key)) (sym here) go in
    subst (λ (k : List ℕ). Merging runs (set places run after) grown (Some k)) there.same
    (subst (λ (xs : List ℕ). Merging runs (set places run after) xs (Some there.pair.key)) (sym (e ∙ ap (λ (s : ℕ). order ++ s ∷ []) told)) at)
  where
    one_more : (a b : ℕ) → a ≡ b → a + 1 ≡ suc b
    one_more a b e = omega arith

-- the key of the least head is there
pub key_there : (runs : List (List Pair)) (places : List ℕ) (run place : ℕ) (key : List ℕ) → length places ≡ length runs → PairThere runs places run key → place ≡ get_or places run place → KeyAt (run_at runs run) place key
key_there runs places run place key long there read =
    let here : place ≡ slice_index places run = read ∙ get_or_default_zero places run place (omega (arith, there.next.low)) in
    subst (λ (found : Option Pair). KeyOf found key) (sym (ap (slice_get (run_at runs run)) here ∙ there.next.head)) (sym there.same)

-- so its place is there
pub place_there : (pairs : List Pair) (place : ℕ) (key : List ℕ) → KeyAt pairs place key → place < length pairs
place_there [] place key at = absurd at
place_there (p ∷ ps) zero key at = omega arith
place_there (p ∷ ps) (suc place) key at = let h = place_there ps place key at in omega arith
