-- What a call finds and leaves, by the leaf that covers its key. To know: `covers-cover`, `cover-covers`, `found`, `room-at`, `pairs-put`, `lows-put`.
use Rattle.std.proofs.Common.{◌≡◌, ◌≢◌, ℕ, suc, ◌+◌, ◌*◌, ◌<◌, ◌≤◌, Bool, true, false, cond, List, [], ◌∷◌, ◌++◌, length, get_or, set, refl, sym, ap, ◌∙◌, subst, arith, inl, inr}
use Rattle.std.specs.Prelude.{Option, Some, None, is_some, if◌then◌else◌, ◌==◌, slice_get}
use Rattle.std.specs.List.{AllByRecursion}
use Rattle.std.specs.Ordering.{is_eq}
use Rattle.std.specs.declared.cmp.Ordering.{Ordering}
use Rattle.std.specs.declared.cmp.Ordering.TheVariants.{Less, Equal, Greater}
use Rattle.std.specs.Borrow.{Bor}
use Rattle.std.specs.Option.{option_copied}
use Rattle.std.proofs.lemmas.Bool.{cases_lt, eqb-true}
use Rattle.std.proofs.lemmas.List.{get_or_default, length-append, map-append}
use Rattle.rdb_base.specs.Order.{key_cmp}
use Rattle.rdb_base.specs.Runs.{IsRun, IsBelowAll, change_at}
use Rattle.rdb_base.specs.Levels.{with_pair}
use Rattle.rdb_base.specs.declared.pair.Pair.{Pair}
use Rattle.rdb_base.proofs.KeyOrder.{turned_greater, turned_equal}
use Rattle.rdb_base.proofs.OrderLemmas.{irreflexive}
use Rattle.rdb_base.proofs.RangeLemmas.{range_from}
use Rattle.rdb_base.proofs.RunLemmas.{IsBelowAll-run}
use Rattle.rdb_base.proofs.ChangeLemmas.{change_at-below}
use Rattle.rdb_base.proofs.MergeLemmas.{with_pair-front, with_pair-same, with_pair-after}
use Rattle.rdb_base.proofs.Lists.{all-weaker, all-append, all-back}
use Rattle.worm_leaf.specs.Leaves.{LeafState, IsLeaf, unused, covers}
use Rattle.worm_leaf.specs.declared.limits.TheConstants.{LEAF_PAIRS_MAX}
use Rattle.meta_trie.specs.Tries.{Anchored, cover}
use Rattle.worm_leaf.proofs.LeafLemmas.{leaf-put, length-put}
use Rattle.leaf_table.specs.Chains.{pairs_of, lows_of, HasRoom, HasRoomAt, IsChain, PartsAll}
use Rattle.leaf_table.specs.Tables.{leaf_at, chain_of, IsTable, Around, Covers, IsOnce}
use Rattle.leaf_table.proofs.ChainLemmas.{IsRun-chain, lows-rise}
use Rattle.leaf_table.proofs.PairLemmas.{pairs_of-append, change_at-between, with_pair-between}
use Rattle.leaf_table.proofs.AnchorLemmas.{around-any, cover-around, number-within, one-of}
use Rattle.leaf_table.proofs.TableLemmas.{chain-around, chain-with, table-with}

-- a leaf that was read is the leaf with that number
pub leaf-is : (leaves : List LeafState) (n : ℕ) (x : LeafState) → n < length leaves → x ≡ get_or leaves n x → x ≡ leaf_at leaves n
leaf-is leaves n x lt e = e ∙ get_or_default leaves n x unused lt

-- the leaf that the trie gives covers the key
pub covers-cover : (leaves : List LeafState) (order : List ℕ) (added : List Anchored) → IsTable leaves order added → (key : List ℕ) (n : ℕ) → n ≡ cover added key → Covers leaves order key n
covers-cover leaves order added t key n e =
    let r : Around (leaf_at leaves) order key = around-any leaves order key t.parts in
    let same : n ≡ r.number = e ∙ cover-around leaves order added t key r in
    (r, same, subst (λ m. m < length leaves) (sym same) (number-within leaves order added t key r))

-- a leaf that covers the key is the one that the trie gives
pub cover-covers : (leaves : List LeafState) (order : List ℕ) (added : List Anchored) → IsTable leaves order added → (key : List ℕ) (n : ℕ) → n < length leaves → covers (leaf_at leaves n) key ≡ true → n ≡ cover added key
cover-covers leaves order added t key n lt c =
    let r : Around (leaf_at leaves) order key = around-any leaves order key t.parts in
    let p = t.there n lt in
    elim (one-of (λ (m : ℕ). covers (leaf_at leaves m) key ≡ false) (λ (m : ℕ). key_cmp key (leaf_at leaves m).low ≡ Less) r.before r.number r.after p.0 n r.not_before r.lows_after (subst (λ xs. slice_get xs p.0 ≡ Some n) r.order_is p.1)) [
      | inl not ↦ absurd (apart (sym c ∙ not))
      | inr (inl same) ↦ same ∙ sym (cover-around leaves order added t key r)
      | inr (inr above) ↦ absurd ((range_from (leaf_at leaves n).low (leaf_at leaves n).high key c).0 above)
    ]
  where
    apart : true ≡ false → ⊥
    apart e = absurd cc

-- how many pairs there are with one more in its place
pub length-with_pair : (p : Pair) (pairs : List Pair) → IsRun pairs → length (with_pair pairs p) ≡ (if is_some (change_at pairs p.key) then length pairs else length pairs + 1)
length-with_pair p [] run = refl
length-with_pair p (q ∷ pairs) run = by (key_cmp p.key q.key) refl (length-with_pair p pairs run.1)
  where
    later : (b : Bool) → length (with_pair pairs p) ≡ (if b then length pairs else length pairs + 1) → suc (length (with_pair pairs p)) ≡ (if b then suc (length pairs) else suc (length pairs) + 1)
    later true e = ap suc e
    later false e = omega (arith, e)

    by : (r : Ordering) → key_cmp p.key q.key ≡ r → length (with_pair pairs p) ≡ (if is_some (change_at pairs p.key) then length pairs else length pairs + 1)
        → length (with_pair (q ∷ pairs) p) ≡ (if is_some (change_at (q ∷ pairs) p.key) then length (q ∷ pairs) else length (q ∷ pairs) + 1)
    by Less e more =
        let all : IsBelowAll p.key (q ∷ pairs) = IsBelowAll-run p.key q pairs run e in
        ap length (with_pair-front p (q ∷ pairs) all) ∙ omega arith
        ∙ ap (λ o. if is_some o then length (q ∷ pairs) else length (q ∷ pairs) + 1) (sym (change_at-below p.key (q ∷ pairs) all))
    by Equal e more =
        ap length (with_pair-same p q pairs e run.0)
        ∙ ap (λ r. if is_some (cond (is_eq r) (Some q.change) (change_at pairs p.key)) then length (q ∷ pairs) else length (q ∷ pairs) + 1) (sym (turned_equal p.key q.key e))
    by Greater e more =
        ap length (with_pair-after p q pairs e)
        ∙ later (is_some (change_at pairs p.key)) more
        ∙ ap (λ r. if is_some (cond (is_eq r) (Some q.change) (change_at pairs p.key)) then length (q ∷ pairs) else length (q ∷ pairs) + 1) (sym (turned_greater p.key q.key e))

-- the pairs of a table are a run
pub IsRun-table : (leaves : List LeafState) (order : List ℕ) → PartsAll (chain_of leaves order) → IsRun (pairs_of (chain_of leaves order))
IsRun-table leaves [] h = tt
IsRun-table leaves (n ∷ order) h = IsRun-chain (leaf_at leaves) (n ∷ order) h.1

module _ (leaves : List LeafState) (order : List ℕ) (key : List ℕ) (n : ℕ) (k : Covers leaves order key n) where
  -- its pairs stand among those of the table
  pairs-around : pairs_of (chain_of leaves order) ≡ pairs_of (chain_of leaves k.0.before) ++ ((leaf_at leaves n).pairs ++ pairs_of (chain_of leaves k.0.after))
  pairs-around =
      ap pairs_of (ap (chain_of leaves) k.0.order_is ∙ chain-around leaves k.0.before k.0.number k.0.after)
      ∙ pairs_of-append (chain_of leaves k.0.before) (leaf_at leaves k.0.number ∷ chain_of leaves k.0.after)
      ∙ ap (λ m. pairs_of (chain_of leaves k.0.before) ++ ((leaf_at leaves m).pairs ++ pairs_of (chain_of leaves k.0.after))) (sym k.1)

  -- it has the table's change at the key
  pub found : change_at (leaf_at leaves n).pairs key ≡ change_at (pairs_of (chain_of leaves order)) key
  found = sym (ap (λ (pairs : List Pair). change_at pairs key) pairs-around
      ∙ change_at-between key (pairs_of (chain_of leaves k.0.before)) (leaf_at leaves n).pairs (pairs_of (chain_of leaves k.0.after)) k.0.below k.0.above)

  -- it covers the key
  pub covered : covers (leaf_at leaves n) key ≡ true
  covered = subst (λ m. covers (leaf_at leaves m) key ≡ true) (sym k.1) k.0.covered

  -- the table has room at the key where it has
  pub room-at : HasRoom (leaf_at leaves n) key → HasRoomAt (chain_of leaves order) key
  room-at has = subst (λ xs. HasRoomAt (chain_of leaves xs) key) (sym k.0.order_is)
      (subst (λ xs. HasRoomAt xs key) (sym (chain-around leaves k.0.before k.0.number k.0.after))
      (all-append (λ (leaf : LeafState). covers leaf key ≡ true → HasRoom leaf key) (chain_of leaves k.0.before) (leaf_at leaves k.0.number ∷ chain_of leaves k.0.after)
      (below k.0.before k.0.not_before) ((λ c. subst (λ m. HasRoom (leaf_at leaves m) key) k.1 has), above k.0.after k.0.lows_after)))
    where
      below : (xs : List ℕ) → AllByRecursion (λ (m : ℕ). covers (leaf_at leaves m) key ≡ false) xs → HasRoomAt (chain_of leaves xs) key
      below [] h = tt
      below (m ∷ xs) h = ((λ c. absurd (apart (covers (leaf_at leaves m) key) c h.0)), below xs h.1)
        where
          apart : (b : Bool) → b ≡ true → b ≡ false → ⊥
          apart true c f = absurd cc
          apart false c f = absurd cc

      above : (xs : List ℕ) → AllByRecursion (λ (m : ℕ). key_cmp key (leaf_at leaves m).low ≡ Less) xs → HasRoomAt (chain_of leaves xs) key
      above [] h = tt
      above (m ∷ xs) h = ((λ c. absurd ((range_from (leaf_at leaves m).low (leaf_at leaves m).high key c).0 h.0)), above xs h.1)

  -- and only there
  pub room-of : HasRoomAt (chain_of leaves order) key → HasRoom (leaf_at leaves n) key
  room-of h = subst (λ m. HasRoom (leaf_at leaves m) key) (sym k.1)
      ((all-back (λ (leaf : LeafState). covers leaf key ≡ true → HasRoom leaf key) (chain_of leaves k.0.before) (leaf_at leaves k.0.number ∷ chain_of leaves k.0.after)
      (subst (λ xs. HasRoomAt xs key) (ap (chain_of leaves) k.0.order_is ∙ chain-around leaves k.0.before k.0.number k.0.after) h)).0 k.0.covered)

-- a pair set in the leaf that covers its key is set in the table
pub pairs-put : (leaves : List LeafState) (order : List ℕ) (added : List Anchored) → IsTable leaves order added → (pair : Pair) (n : ℕ) → Covers leaves order pair.key n
    → (new : LeafState) → new.pairs ≡ with_pair (leaf_at leaves n).pairs pair
    → pairs_of (chain_of (set leaves n new) order) ≡ with_pair (pairs_of (chain_of leaves order)) pair
pairs-put leaves order added t pair n k new e =
    let lower = pairs_of (chain_of leaves k.0.before) in
    let higher = pairs_of (chain_of leaves k.0.after) in
    ap (λ m. pairs_of (chain_of (set leaves m new) order)) k.1
    ∙ ap pairs_of (chain-with leaves order added t pair.key k.0 new)
    ∙ pairs_of-append (chain_of leaves k.0.before) (new ∷ chain_of leaves k.0.after)
    ∙ ap (λ (pairs : List Pair). lower ++ (pairs ++ higher)) e
    ∙ sym (ap (λ (pairs : List Pair). with_pair pairs pair) (pairs-around leaves order pair.key n k) ∙ with_pair-between pair lower (leaf_at leaves n).pairs higher k.0.below k.0.above)

-- where the leaves begin stays where that leaf does
pub lows-put : (leaves : List LeafState) (order : List ℕ) (added : List Anchored) → IsTable leaves order added → (key : List ℕ) (n : ℕ) → Covers leaves order key n
    → (new : LeafState) → new.low ≡ (leaf_at leaves n).low → lows_of (chain_of (set leaves n new) order) ≡ lows_of (chain_of leaves order)
lows-put leaves order added t key n k new e =
    let begins = λ (leaf : LeafState). leaf.low in
    ap (λ m. lows_of (chain_of (set leaves m new) order)) k.1
    ∙ ap lows_of (chain-with leaves order added t key k.0 new)
    ∙ map-append begins (chain_of leaves k.0.before) (new ∷ chain_of leaves k.0.after)
    ∙ ap (λ low. lows_of (chain_of leaves k.0.before) ++ low ∷ lows_of (chain_of leaves k.0.after)) (e ∙ ap (λ m. (leaf_at leaves m).low) k.1)
    ∙ sym (map-append begins (chain_of leaves k.0.before) (leaf_at leaves k.0.number ∷ chain_of leaves k.0.after))
    ∙ sym (ap lows_of (ap (chain_of leaves) k.0.order_is ∙ chain-around leaves k.0.before k.0.number k.0.after))

-- the table with that leaf
pub table-put : (leaves : List LeafState) (order : List ℕ) (added : List Anchored) → IsTable leaves order added → (key : List ℕ) (n : ℕ) → Covers leaves order key n
    → (new : LeafState) → new.low ≡ (leaf_at leaves n).low → new.high ≡ (leaf_at leaves n).high → IsLeaf new → IsTable (set leaves n new) order added
table-put leaves order added t key n k new low high is =
    subst (λ m. IsTable (set leaves m new) order added) (sym k.1)
    (table-with leaves order added t key k.0 new (low ∙ ap (λ m. (leaf_at leaves m).low) k.1) (high ∙ ap (λ m. (leaf_at leaves m).high) k.1) is)

-- each number of a chain stands once
once-chain : (leaves : List LeafState) (n : ℕ) (rest : List ℕ) → IsChain (chain_of leaves (n ∷ rest)) → IsOnce (n ∷ rest)
once-chain leaves n [] h = (tt, tt)
once-chain leaves n (m ∷ rest) h = (
  all-weaker (λ (x : ℕ). key_cmp (leaf_at leaves n).low (leaf_at leaves x).low ≡ Less) (λ (x : ℕ). x ≢ n)
      (λ x lt e. irreflexive (leaf_at leaves n).low (subst (λ y. key_cmp (leaf_at leaves n).low (leaf_at leaves y).low ≡ Less) e lt)) (m ∷ rest) (lows-rise (leaf_at leaves) n (m ∷ rest) h),
  once-chain leaves m rest h.2,
)

-- each number of a table's order does
pub once : (leaves : List LeafState) (order : List ℕ) → PartsAll (chain_of leaves order) → IsOnce order
once leaves [] h = tt
once leaves (n ∷ order) h = once-chain leaves n order h.1

-- a leaf that is not full has room
pub not-full : (n : ℕ) (full : Bool) → full ≡ (n == LEAF_PAIRS_MAX) → full ≡ false → n ≤ LEAF_PAIRS_MAX → n < LEAF_PAIRS_MAX
not-full n full e f le = elim (cases_lt n LEAF_PAIRS_MAX) [ inl lt ↦ lt | inr ge ↦ absurd (apart (sym f ∙ e ∙ eqb-is n (omega (arith, ge, le)))) ]
  where
    eqb-is : (n : ℕ) → n ≡ LEAF_PAIRS_MAX → (n == LEAF_PAIRS_MAX) ≡ true
    eqb-is n same = ap (λ m. m == LEAF_PAIRS_MAX) same

    apart : false ≡ true → ⊥
    apart x = absurd cc

-- a full leaf has none
pub full-is : (n : ℕ) (full : Bool) → full ≡ (n == LEAF_PAIRS_MAX) → full ≡ true → n < LEAF_PAIRS_MAX → ⊥
full-is n full e f lt = let same : n ≡ LEAF_PAIRS_MAX = eqb-true n LEAF_PAIRS_MAX (sym e ∙ f) in absurd (omega (arith, same, lt))

-- what was copied is there where it was
pub copied-some : {A : Type 0} (o : Option (Bor A)) → is_some (option_copied o) ≡ is_some o
copied-some None = refl
copied-some (Some x) = refl

-- the covering leaf is a leaf
pub is-leaf : (leaves : List LeafState) (order : List ℕ) → PartsAll (chain_of leaves order) → (key : List ℕ) (n : ℕ) → Covers leaves order key n → IsLeaf (leaf_at leaves n)
is-leaf leaves order parts key n k =
    subst (λ m. IsLeaf (leaf_at leaves m)) (sym k.1)
    (in-parts (chain_of leaves k.0.before) (leaf_at leaves k.0.number) (chain_of leaves k.0.after) (subst PartsAll (ap (chain_of leaves) k.0.order_is ∙ chain-around leaves k.0.before k.0.number k.0.after) parts))
  where
    in-chain : (before : List LeafState) (leaf : LeafState) (after : List LeafState) → IsChain (before ++ leaf ∷ after) → IsLeaf leaf
    in-chain [] leaf after h = h.0
    in-chain (x ∷ before) leaf after h = in-chain before leaf after h.2

    in-parts : (before : List LeafState) (leaf : LeafState) (after : List LeafState) → PartsAll (before ++ leaf ∷ after) → IsLeaf leaf
    in-parts [] leaf after h = h.1.0
    in-parts (x ∷ before) leaf after h = in-chain (x ∷ before) leaf after h.1

-- a pair that fits is set in the covering leaf: still a table
pub put-table : (leaves : List LeafState) (order : List ℕ) (added : List Anchored) → IsTable leaves order added → (pair : Pair) (n : ℕ) (k : Covers leaves order pair.key n)
    → HasRoom (leaf_at leaves n) pair.key → (new : LeafState) → new ≡ record (leaf_at leaves n) { pairs = with_pair (leaf_at leaves n).pairs pair } → IsTable (set leaves n new) order added
put-table leaves order added t pair n k room new e =
    let old = leaf_at leaves n in
    let is : IsLeaf old = is-leaf leaves order t.parts pair.key n k in
    let there = is_some (change_at old.pairs pair.key) in
    let most : length (with_pair old.pairs pair) ≤ LEAF_PAIRS_MAX = length-put there (length old.pairs) (length (with_pair old.pairs pair)) (length-with_pair pair old.pairs is.rises) is.most room in
    let leaf : IsLeaf (record old { pairs = with_pair old.pairs pair }) = leaf-put old.low old.high old.pairs (with_pair old.pairs pair) pair is (covered leaves order pair.key n k) refl most in
    table-put leaves order added t pair.key n k new (ap (λ (x : LeafState). x.low) e) (ap (λ (x : LeafState). x.high) e) (subst IsLeaf (sym e) leaf)

-- how many pairs there are then
pub put-count : (leaves : List LeafState) (order : List ℕ) (added : List Anchored) → IsTable leaves order added → (pair : Pair) (n : ℕ) (k : Covers leaves order pair.key n)
    → (new : LeafState) → new.pairs ≡ with_pair (leaf_at leaves n).pairs pair
    → length (pairs_of (chain_of (set leaves n new) order)) ≡ (if is_some (change_at (leaf_at leaves n).pairs pair.key) then length (pairs_of (chain_of leaves order)) else length (pairs_of (chain_of leaves order)) + 1)
put-count leaves order added t pair n k new e =
    ap length (pairs-put leaves order added t pair n k new e)
    ∙ length-with_pair pair (pairs_of (chain_of leaves order)) (IsRun-table leaves order t.parts)
    ∙ ap (λ o. if is_some o then length (pairs_of (chain_of leaves order)) else length (pairs_of (chain_of leaves order)) + 1) (sym (found leaves order pair.key n k))

-- leaves side by side have no more pairs than they have room for
length-chain : (leaves : List LeafState) → IsChain leaves → length (pairs_of leaves) ≤ LEAF_PAIRS_MAX * length leaves
length-chain [] h = omega arith
length-chain (leaf ∷ more) h = let rest : length (pairs_of more) ≤ LEAF_PAIRS_MAX * length more = length-chain more h.2 in omega (arith, length-append leaf.pairs (pairs_of more), h.0.most, rest)

pub length-parts : (leaves : List LeafState) → PartsAll leaves → length (pairs_of leaves) ≤ LEAF_PAIRS_MAX * length leaves
length-parts [] h = absurd h
length-parts (leaf ∷ more) h = length-chain (leaf ∷ more) h.1
