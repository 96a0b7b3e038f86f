-- Keys of a run at places. To know: `below_at-falls`, `below_at-read`, `change_at-place`.
use Rattle.std.proofs.Common.{◌≡◌, ◌≢◌, ℕ, zero, suc, ◌<◌, ◌≤◌, List, [], ◌∷◌, length, get_or, true, false, cond, Bool, Option, Some, None, refl, sym, ap, arith, ◌∙◌}
use denote.Ref.{Bor}
use Rattle.std.specs.Prelude.{slice_get}
use Rattle.std.specs.Ordering.{is_lt, is_eq}
use Rattle.std.specs.declared.cmp.Ordering.{Ordering}
use Rattle.std.specs.declared.cmp.Ordering.TheVariants.{Less, Equal, Greater}
use Rattle.rdb_base.specs.Order.{key_cmp}
use Rattle.rdb_base.specs.Halvings.{IsFalling}
use Rattle.rdb_base.specs.Runs.{IsRun, IsBelowAll, change_at}
use Rattle.rdb_base.specs.Searches.{is_below_at, IsPlaceOf, change_there, LendsChange}
use Rattle.rdb_base.specs.declared.change.Change.{Change}
use Rattle.rdb_base.specs.declared.pair.Pair.{Pair}
use Rattle.rdb_base.proofs.KeyOrder.{total, turned_greater, less_from_test}
use Rattle.rdb_base.proofs.RunLemmas.{IsBelowAll-trans}
use Rattle.rdb_base.proofs.ChangeLemmas.{change_at-below, change_at-rest}

-- the first key of a run is below each key that one after it is below
first_below : (pair : Pair) (pairs : List Pair) (key : List ℕ) (j : ℕ) → IsBelowAll pair.key pairs → is_below_at pairs key j ≡ true → is_lt (key_cmp pair.key key) ≡ true
first_below pair [] key j all is = absurd cc
first_below pair (other ∷ pairs) key zero all is = ap is_lt (total.trans pair.key other.key key all.0 (less_from_test (key_cmp other.key key) is))
first_below pair (other ∷ pairs) key (suc j) all is = first_below pair pairs key j all.1 is

-- the keys below another are the first ones
pub below_at-falls : (run : List Pair) (key : List ℕ) → IsRun run → IsFalling (is_below_at run key) (length run)
below_at-falls [] key rises i j le lt is = absurd (omega arith)
below_at-falls (pair ∷ pairs) key rises zero zero le lt is = is
below_at-falls (pair ∷ pairs) key rises zero (suc j) le lt is = first_below pair pairs key j rises.0 is
below_at-falls (pair ∷ pairs) key rises (suc i) zero le lt is = absurd (omega arith)
below_at-falls (pair ∷ pairs) key rises (suc i) (suc j) le lt is = below_at-falls pairs key rises.1 i j (omega arith) (omega arith) is

-- what a comparison of the key at a place tells of the place
pub below_at-read : (run : List Pair) (key : List ℕ) (place : ℕ) (any : Pair) (read : List ℕ) (order : Ordering) (b : Bool) → place < length run → read ≡ (get_or run place any).key
    → order ≡ key_cmp read key → is_lt order ≡ b → is_below_at run key place ≡ b
below_at-read [] key place any read order b lt at is tests = absurd (omega arith)
below_at-read (pair ∷ pairs) key zero any read order b lt at is tests = ap (λ (k : List ℕ). is_lt (key_cmp k key)) (sym at) ∙ ap is_lt (sym is) ∙ tests
below_at-read (pair ∷ pairs) key (suc place) any read order b lt at is tests = below_at-read pairs key place any read order b (omega arith) at is tests

some_less : (p : Pair) (key : List ℕ) → is_lt (key_cmp p.key key) ≡ true → key_cmp p.key key ≡ Less
some_less p key t = less_from_test (key_cmp p.key key) t

-- the place of a key in a run is one less in the run without its first pair
turn_rest : (p : Pair) (ps : List Pair) (key : List ℕ) (place : ℕ) → IsPlaceOf (p ∷ ps) key (suc place) → IsPlaceOf ps key place
turn_rest p ps key place t = record { inside = omega (arith, t.inside); before = λ i lt. t.before (suc i) (omega arith); after = λ i le lt. t.after (suc i) (omega arith) (omega arith) }

-- the change at a key stands at its place, or nowhere
pub change_at-place : (run : List Pair) (key : List ℕ) (place : ℕ) → IsRun run → IsPlaceOf run key place → change_at run key ≡ change_there (slice_get run place) key
change_at-place [] key place run turn = refl
change_at-place (p ∷ ps) key zero run turn = by_order (key_cmp p.key key) refl (turn.after 0 (omega arith) (omega arith))
  where
    by_order : (r : Ordering) → key_cmp p.key key ≡ r → is_lt (key_cmp p.key key) ≡ false → change_at (p ∷ ps) key ≡ change_there (Some p) key
    by_order Less e t = absurd (let l : is_lt (key_cmp p.key key) ≡ true = ap is_lt e in cc)
    by_order Equal e t = rw e refl
    by_order Greater e t = rw e (change_at-below key ps (IsBelowAll-trans key p.key ps (turned_greater p.key key e) run.0))
change_at-place (p ∷ ps) key (suc place) run turn =
    change_at-rest p ps key (ap is_eq (some_less p key (turn.before 0 (omega arith))))
    ∙ change_at-place ps key place run.1 (turn_rest p ps key place turn)

-- ---- what stands at the place

none_past : (run : List Pair) (place : ℕ) (key : List ℕ) → length run ≤ place → change_there (slice_get run place) key ≡ None
none_past [] place key le = refl
none_past (p ∷ ps) zero key le = absurd (omega arith)
none_past (p ∷ ps) (suc place) key le = none_past ps place key (omega arith)

some_at : (run : List Pair) (place : ℕ) (any : Pair) (key : List ℕ) → place < length run → change_there (slice_get run place) key ≡ cond (is_eq (key_cmp (get_or run place any).key key)) (Some (get_or run place any).change) None
some_at [] place any key lt = absurd (omega arith)
some_at (p ∷ ps) zero any key lt = refl
some_at (p ∷ ps) (suc place) any key lt = some_at ps place any key (omega arith)

lends_none : (o : Option Change) → o ≡ None → LendsChange None o
lends_none None e = tt
lends_none (Some change) e = absurd cc

lends_some : (lent : Bor Change) (o : Option Change) → o ≡ Some lent.now → LendsChange (Some lent) o
lends_some lent None e = absurd cc
lends_some lent (Some change) e = cc

-- the place is the length: the key is not there
pub lends-past : (run : List Pair) (key : List ℕ) (place : ℕ) → IsRun run → IsPlaceOf run key place → place ≡ length run → LendsChange None (change_at run key)
lends-past run key place rises turn is = lends_none (change_at run key) (change_at-place run key place rises turn ∙ none_past run place key (omega arith))

-- another key stands at the place: the key is not there
pub lends-other : (run : List Pair) (key : List ℕ) (place : ℕ) (any : Pair) (read : List ℕ) (order : Ordering) → IsRun run → IsPlaceOf run key place → place ≢ length run
    → read ≡ (get_or run place any).key → order ≡ key_cmp read key → is_eq order ≡ false → LendsChange None (change_at run key)
lends-other run key place any read order rises turn ne reads is test =
    let no : is_eq (key_cmp (get_or run place any).key key) ≡ false = ap (λ (k : List ℕ). is_eq (key_cmp k key)) (sym reads) ∙ ap is_eq (sym is) ∙ test in
    lends_none (change_at run key) (change_at-place run key place rises turn ∙ some_at run place any key (omega (arith, turn.inside, ne)) ∙ rw no refl)

-- the key stands at the place
pub lends-here : (run : List Pair) (key : List ℕ) (place : ℕ) (any : Pair) (read : List ℕ) (order : Ordering) (lent : Bor Change) → IsRun run → IsPlaceOf run key place → place ≢ length run
    → read ≡ (get_or run place any).key → order ≡ key_cmp read key → is_eq order ≡ true → lent.now ≡ (get_or run place any).change → LendsChange (Some lent) (change_at run key)
lends-here run key place any read order lent rises turn ne reads is test change =
    let yes : is_eq (key_cmp (get_or run place any).key key) ≡ true = ap (λ (k : List ℕ). is_eq (key_cmp k key)) (sym reads) ∙ ap is_eq (sym is) ∙ test in
    lends_some lent (change_at run key) (change_at-place run key place rises turn ∙ some_at run place any key (omega (arith, turn.inside, ne)) ∙ rw yes (ap Some (sym change)))
