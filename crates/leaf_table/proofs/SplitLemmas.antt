-- A full leaf split at its anchor. To know: `parting-same`, `anchor-covers`, `split-table`, `split-pairs`, `split-room`, `split-halves`, `parting`, `parted`.
use Rattle.std.proofs.Common.{◌≡◌, ◌≢◌, ℕ, suc, ◌+◌, ◌<◌, ◌≤◌, Bool, true, false, List, [], ◌∷◌, ◌++◌, length, take, drop, get_or, set, refl, sym, ap, ◌∙◌, subst, arith, inl, inr, append_assoc, eq-eqb}
use Rattle.std.specs.Prelude.{Some, None, slice_get, ◌==◌, if◌then◌else◌, nat_lt, Result, Ok, Err, IsErrOf}
use Rattle.std.specs.List.{AllByRecursion, insert, position, position_or_len}
use Rattle.std.specs.declared.cmp.Ordering.TheVariants.{Less}
use Rattle.std.proofs.lemmas.Bool.{cases_lt, lt-ltb, eqb-true}
use Rattle.std.proofs.lemmas.List.{get_or_append_left, length-append, length-set, length-take-le, length-drop, take-append-drop, take_at, drop_at}
use Rattle.std.proofs.lemmas.List.Edits.{length-insert}
use Rattle.std.proofs.lemmas.List.Quantifiers.{position-Some}
use Rattle.std.proofs.lemmas.List.Sums.{position_or_len_is}
use Rattle.std.proofs.Math.Seq.{get_or-append_seam}
use Rattle.rdb_base.specs.Order.{key_cmp}
use Rattle.rdb_base.specs.declared.pair.Pair.{Pair}
use Rattle.rdb_base.proofs.RangeLemmas.{range_from}
use Rattle.rdb_base.proofs.Lists.{all-append, all-front, all-back}
use Rattle.worm_leaf.specs.Anchors.{IsAnchor, PartsAt}
use Rattle.worm_leaf.specs.Leaves.{LeafState, IsLeaf, covers}
use Rattle.worm_leaf.specs.declared.limits.TheConstants.{LEAF_PAIRS_MAX, LEAF_PAIRS_KEPT}
use Rattle.worm_leaf.proofs.LeafLemmas.{leaf-left, leaf-right, some_at}
use Rattle.meta_trie.specs.Tries.{Anchored, cover, IsNew}
use Rattle.leaf_table.specs.Chains.{pairs_of, HasRoom, HasRoomAt}
use Rattle.leaf_table.specs.Splits.{SplitsAt, left_half, right_half}
use Rattle.leaf_table.specs.Tables.{leaf_at, chain_of, IsTable, Around, Covers, Lacks}
use Rattle.leaf_table.proofs.PairLemmas.{pairs_of-append}
use Rattle.leaf_table.proofs.AnchorLemmas.{around-any, one-of, cover-around, anchor-new}
use Rattle.leaf_table.proofs.TableLemmas.{lacks-before, lacks-after, chain-around, chain-split, table-split}
use Rattle.leaf_table.proofs.CallLemmas.{is-leaf, covers-cover, leaf-is, covered, room-at}
use Rattle.leaf_table.proofs.MoveLemmas.{all-at}

-- no anchor of two keys is shorter than another one
anchor-shortest : (last first a b : List ℕ) → IsAnchor last first a → IsAnchor last first b → length a < length b → ⊥
anchor-shortest last first a b x y lt = y.shortest (length a) lt (subst (λ s. key_cmp last s ≡ Less) x.prefix x.above)

-- two keys have one anchor
anchor-same : (last first a b : List ℕ) → IsAnchor last first a → IsAnchor last first b → a ≡ b
anchor-same last first a b x y = x.prefix ∙ ap (λ n. take n first) same ∙ sym y.prefix
  where
    same : length a ≡ length b
    same = elim (cases_lt (length a) (length b)) [
      | inl lt ↦ absurd (anchor-shortest last first a b x y lt)
      | inr ge ↦ elim (cases_lt (length b) (length a)) [
        | inl lt ↦ absurd (anchor-shortest last first b a y x lt)
        | inr le ↦ omega (arith, ge, le)
      ]
    ]

-- so a full leaf is parted at one anchor
pub parting-same : (pairs : List Pair) (a b : List ℕ) → length pairs ≡ LEAF_PAIRS_MAX → PartsAt pairs LEAF_PAIRS_KEPT a → PartsAt pairs LEAF_PAIRS_KEPT b → a ≡ b
parting-same pairs a b full x y =
    let last : (p : Pair) × (slice_get pairs 31 ≡ Some p) = some_at pairs 31 (omega (arith, full)) in
    let first : (p : Pair) × (slice_get pairs 32 ≡ Some p) = some_at pairs 32 (omega (arith, full)) in
    anchor-same last.0.key first.0.key a b (x last.0 first.0 last.1 first.1) (y last.0 first.0 last.1 first.1)

-- a leaf that covers a key is the one that does
pub covers-own : (leaves : List LeafState) (order : List ℕ) (added : List Anchored) → IsTable leaves order added → (key : List ℕ) (n : ℕ) → n < length leaves → covers (leaf_at leaves n) key ≡ true → Covers leaves order key n
covers-own leaves order added t key n lt c =
    let r : Around (leaf_at leaves) order key = around-any leaves order key t.parts in
    let p = t.there n lt in (
      r,
      elim (one-of (λ (m : ℕ). covers (leaf_at leaves m) key ≡ false) (λ (m : ℕ). key_cmp key (leaf_at leaves m).low ≡ Less) r.before r.number r.after p.0 n r.not_before r.lows_after (subst (λ xs. slice_get xs p.0 ≡ Some n) r.order_is p.1)) [
        | inl not ↦ absurd (apart (covers (leaf_at leaves n) key) c not)
        | inr (inl is) ↦ is
        | inr (inr above) ↦ absurd ((range_from (leaf_at leaves n).low (leaf_at leaves n).high key c).0 above)
      ],
      lt,
    )
  where
    apart : (b : Bool) → b ≡ true → b ≡ false → ⊥
    apart true e f = absurd cc
    apart false e f = absurd cc

-- where a number stands once, a search finds it
pub position-at : (before : List ℕ) (n : ℕ) (after : List ℕ) → Lacks n before → position (λ m. m == n) (before ++ n ∷ after) ≡ Some (length before)
position-at before n after lacks =
    let here : position_or_len (λ m. m == n) (before ++ n ∷ after) ≡ length before =
    position_or_len_is (λ m. m == n) (before ++ n ∷ after) (length before) 0 (omega (arith, long)) earlier (λ lt. ap (λ m. m == n) (get_or-append_seam before n after 0) ∙ same n) in
    ap (λ k. if nat_lt k (length (before ++ n ∷ after)) then Some k else None) here
    ∙ ap (λ b. if b then Some (length before) else None) (lt-ltb (length before) (length (before ++ n ∷ after)) (omega (arith, long)))
  where
    long : length (before ++ n ∷ after) ≡ length before + suc (length after)
    long = length-append before (n ∷ after)

    same : (m : ℕ) → (m == m) ≡ true
    same m = eq-eqb m m refl

    other : (m : ℕ) (b : Bool) → (m == n) ≡ b → m ≢ n → b ≡ false
    other m true e ne = absurd (ne (eqb-true m n e))
    other m false e ne = refl

    earlier : (k : ℕ) → k < length before → (get_or (before ++ n ∷ after) k 0 == n) ≡ false
    earlier k lt = ap (λ m. m == n) (get_or_append_left before (n ∷ after) 0 k lt) ∙ other (get_or before k 0) (get_or before k 0 == n) refl (all-at (λ (m : ℕ). m ≢ n) before k lt lacks)

-- a number put after another
insert-after : (before : List ℕ) (n : ℕ) (after : List ℕ) (new : ℕ) → insert (before ++ n ∷ after) (length before + 1) new ≡ before ++ n ∷ (new ∷ after)
insert-after before n after new =
    let front : (before ++ n ∷ []) ++ after ≡ before ++ n ∷ after = append_assoc before (n ∷ []) after in
    let len : length (before ++ n ∷ []) ≡ length before + 1 = length-append before (n ∷ []) in
    ap (λ xs. take (length before + 1) xs ++ new ∷ drop (length before + 1) xs) (sym front)
    ∙ ap (λ xs. xs ++ new ∷ drop (length before + 1) ((before ++ n ∷ []) ++ after)) (take_at (before ++ n ∷ []) after (length before + 1) len)
    ∙ ap (λ xs. (before ++ n ∷ []) ++ new ∷ xs) (drop_at (before ++ n ∷ []) after (length before + 1) len)
    ∙ append_assoc before (n ∷ []) (new ∷ after)

module _ (leaves : List LeafState) (order : List ℕ) (added : List Anchored) (t : IsTable leaves order added) (n : ℕ) (lt : n < length leaves) (full : length (leaf_at leaves n).pairs ≡ LEAF_PAIRS_MAX)
    (anchor : List ℕ) (parts : PartsAt (leaf_at leaves n).pairs LEAF_PAIRS_KEPT anchor) (above : key_cmp (leaf_at leaves n).low anchor ≡ Less) (inside : covers (leaf_at leaves n) anchor ≡ true) where
  abbrev pub old : LeafState
  old = leaf_at leaves n

  abbrev pub left : LeafState
  left = record { low = (leaf_at leaves n).low; high = Some anchor; pairs = take LEAF_PAIRS_KEPT (leaf_at leaves n).pairs }

  abbrev pub right : LeafState
  right = record { low = anchor; high = (leaf_at leaves n).high; pairs = drop LEAF_PAIRS_KEPT (leaf_at leaves n).pairs }

  pub k : Covers leaves order anchor n
  k = covers-own leaves order added t anchor n lt inside

  is : IsLeaf (leaf_at leaves n)
  is = is-leaf leaves order t.parts anchor n k

  -- the anchor belongs to the leaf, and is new
  pub anchor-covers : n ≡ cover added anchor
  anchor-covers = k.1 ∙ sym (cover-around leaves order added t anchor k.0)

  pub anchor-is_new : IsNew added anchor
  anchor-is_new = anchor-new leaves order added t anchor k.0 (subst (λ m. key_cmp (leaf_at leaves m).low anchor ≡ Less) k.1 above)

  last : (p : Pair) × (slice_get (leaf_at leaves n).pairs 31 ≡ Some p)
  last = some_at (leaf_at leaves n).pairs 31 (omega (arith, full))

  first : (p : Pair) × (slice_get (leaf_at leaves n).pairs 32 ≡ Some p)
  first = some_at (leaf_at leaves n).pairs 32 (omega (arith, full))

  few_left : length (take LEAF_PAIRS_KEPT (leaf_at leaves n).pairs) ≡ LEAF_PAIRS_KEPT
  few_left = length-take-le LEAF_PAIRS_KEPT (leaf_at leaves n).pairs (omega (arith, full))

  few_right : length (drop LEAF_PAIRS_KEPT (leaf_at leaves n).pairs) ≡ LEAF_PAIRS_KEPT
  few_right = length-drop LEAF_PAIRS_KEPT (leaf_at leaves n).pairs ∙ omega (arith, full)

  is_left : IsLeaf left
  is_left = leaf-left (leaf_at leaves n).low (leaf_at leaves n).high (leaf_at leaves n).pairs 31 last.0 first.0 anchor is last.1 (parts last.0 first.0 last.1 first.1) (omega (arith, few_left))

  is_right : IsLeaf right
  is_right = leaf-right (leaf_at leaves n).low (leaf_at leaves n).high (leaf_at leaves n).pairs 32 last.0 first.0 anchor is first.1 (parts last.0 first.0 last.1 first.1) (omega (arith, few_right))

  -- where the leaf's number stands
  pub place-there : position (λ m. m == n) order ≡ Some (length k.0.before)
  place-there = ap (λ m. position (λ x. x == m) order) k.1 ∙ ap (position (λ x. x == k.0.number)) k.0.order_is ∙ position-at k.0.before k.0.number k.0.after (lacks-before (leaf_at leaves) order anchor k.0)

  order-is : (place : ℕ) → place ≡ length k.0.before → insert order (place + 1) (length leaves) ≡ k.0.before ++ k.0.number ∷ (length leaves ∷ k.0.after)
  order-is place e = ap (λ p. insert order (p + 1) (length leaves)) e ∙ ap (λ xs. insert xs (length k.0.before + 1) (length leaves)) k.0.order_is ∙ insert-after k.0.before k.0.number k.0.after (length leaves)

  module _ (place : ℕ) (at : place ≡ length k.0.before) where
    same-leaves : set leaves n left ++ right ∷ [] ≡ set leaves k.0.number left ++ right ∷ []
    same-leaves = ap (λ m. set leaves m left ++ right ∷ []) k.1

    -- the leaves in order, with both in its place
    chain-is : chain_of (set leaves n left ++ right ∷ []) (insert order (place + 1) (length leaves)) ≡ chain_of leaves k.0.before ++ left ∷ (right ∷ chain_of leaves k.0.after)
    chain-is = ap (λ xs. chain_of xs (insert order (place + 1) (length leaves))) same-leaves ∙ ap (chain_of (set leaves k.0.number left ++ right ∷ [])) (order-is place at) ∙ chain-split leaves order added t anchor k.0 left right

    -- a table after the split
    pub split-table : IsTable (set leaves n left ++ right ∷ []) (insert order (place + 1) (length leaves)) (added ++ record { anchor = anchor; leaf = length leaves } ∷ [])
    split-table =
        subst (λ xs. IsTable xs (insert order (place + 1) (length leaves)) (added ++ record { anchor = anchor; leaf = length leaves } ∷ [])) (sym same-leaves)
        (subst (λ xs. IsTable (set leaves k.0.number left ++ right ∷ []) xs (added ++ record { anchor = anchor; leaf = length leaves } ∷ [])) (sym (order-is place at))
        (table-split leaves order added t anchor k.0 left right (ap (λ m. (leaf_at leaves m).low) k.1) refl (ap (λ m. (leaf_at leaves m).high) k.1) refl is_left is_right (subst (λ m. key_cmp (leaf_at leaves m).low anchor ≡ Less) k.1 above)))

    -- with the same pairs
    pub split-pairs : pairs_of (chain_of (set leaves n left ++ right ∷ []) (insert order (place + 1) (length leaves))) ≡ pairs_of (chain_of leaves order)
    split-pairs =
        ap pairs_of chain-is
        ∙ pairs_of-append (chain_of leaves k.0.before) (left ∷ (right ∷ chain_of leaves k.0.after))
        ∙ ap (λ xs. pairs_of (chain_of leaves k.0.before) ++ xs) (sym (append_assoc (take LEAF_PAIRS_KEPT (leaf_at leaves n).pairs) (drop LEAF_PAIRS_KEPT (leaf_at leaves n).pairs) (pairs_of (chain_of leaves k.0.after))) ∙ ap (λ xs. xs ++ pairs_of (chain_of leaves k.0.after)) (take-append-drop LEAF_PAIRS_KEPT (leaf_at leaves n).pairs))
        ∙ ap (λ m. pairs_of (chain_of leaves k.0.before) ++ ((leaf_at leaves m).pairs ++ pairs_of (chain_of leaves k.0.after))) k.1
        ∙ sym (pairs_of-append (chain_of leaves k.0.before) (leaf_at leaves k.0.number ∷ chain_of leaves k.0.after))
        ∙ sym (ap pairs_of (ap (chain_of leaves) k.0.order_is ∙ chain-around leaves k.0.before k.0.number k.0.after))

    -- its halves are in its place
    pub split-halves : (key : List ℕ) → covers (leaf_at leaves n) key ≡ true → SplitsAt (chain_of leaves order) key (chain_of (set leaves n left ++ right ∷ []) (insert order (place + 1) (length leaves)))
    split-halves key c = record {
      before = chain_of leaves k.0.before;
      leaf = leaf_at leaves n;
      behind = chain_of leaves k.0.after;
      anchor = anchor;
      was = ap (chain_of leaves) k.0.order_is ∙ chain-around leaves k.0.before k.0.number k.0.after ∙ ap (λ m. chain_of leaves k.0.before ++ leaf_at leaves m ∷ chain_of leaves k.0.after) (sym k.1);
      covered = c;
      parts = parts;
      effect = chain-is;
    }

    -- and room at each key that the leaf covered
    pub split-room : (key : List ℕ) → covers (leaf_at leaves n) key ≡ true → HasRoomAt (chain_of (set leaves n left ++ right ∷ []) (insert order (place + 1) (length leaves))) key
    unfolding covers-own k
    split-room key c = subst (λ xs. HasRoomAt xs key) (sym chain-is)
        (all-append (λ (leaf : LeafState). covers leaf key ≡ true → HasRoom leaf key) (chain_of leaves k.0.before) (left ∷ (right ∷ chain_of leaves k.0.after))
        (others k.0.before (all-front (λ (m : ℕ). m < length leaves) k.0.before (k.0.number ∷ k.0.after) within) (lacks-before (leaf_at leaves) order anchor k.0)) (
          (λ _. inl (omega (arith, few_left))),
          (
            (λ _. inl (omega (arith, few_right))),
            others k.0.after (all-back (λ (m : ℕ). m < length leaves) k.0.before (k.0.number ∷ k.0.after) within).1 (lacks-after (leaf_at leaves) order anchor k.0),
          ),
        ))
      where
        within : AllByRecursion (λ (m : ℕ). m < length leaves) (k.0.before ++ k.0.number ∷ k.0.after)
        within = subst (AllByRecursion (λ (m : ℕ). m < length leaves)) k.0.order_is t.within

        others : (xs : List ℕ) → AllByRecursion (λ (m : ℕ). m < length leaves) xs → Lacks k.0.number xs → HasRoomAt (chain_of leaves xs) key
        others [] w l = tt
        others (m ∷ xs) w l = ((λ d. absurd (l.0 ((covers-own leaves order added t key m w.0 d).1 ∙ sym (covers-own leaves order added t key n lt c).1 ∙ k.1))), others xs w.1 l.1)

-- an error that was handed on is the one that came
pub err-on : {X Y E : Type 0} (came : Result X E) (on : Result Y E) (x e : E) → came ≡ Err x → on ≡ Err x → IsErrOf on e → IsErrOf came e
err-on came on x e was is told = was ∙ ap Err (ap (err_or x) (sym is ∙ told))
  where
    err_or : {Z F : Type 0} → F → Result Z F → F
    err_or d (Ok z) = d
    err_or d (Err f) = f

-- the full leaf that covers a key, with its anchor
pub record Parting (leaves : List LeafState) (order : List ℕ) (added : List Anchored) (key : List ℕ) (n : ℕ) (anchor : List ℕ) : Type 0 where
  pub table : IsTable leaves order added
  pub here : Covers leaves order key n
  pub full : length (leaf_at leaves n).pairs ≡ LEAF_PAIRS_MAX
  pub parts : PartsAt (leaf_at leaves n).pairs LEAF_PAIRS_KEPT anchor
  pub above : key_cmp (leaf_at leaves n).low anchor ≡ Less
  pub inside : covers (leaf_at leaves n) anchor ≡ true

-- a table without room at a key has a full leaf there
pub full-at : (leaves : List LeafState) (order : List ℕ) (added : List Anchored) → IsTable leaves order added → (key : List ℕ) (n : ℕ) → Covers leaves order key n
    → (HasRoomAt (chain_of leaves order) key → ⊥) → length (leaf_at leaves n).pairs ≡ LEAF_PAIRS_MAX
full-at leaves order added t key n k none = elim (cases_lt (length (leaf_at leaves n).pairs) LEAF_PAIRS_MAX) [
  | inl lt ↦ absurd (none (room-at leaves order key n k (inl lt)))
  | inr ge ↦ let is : IsLeaf (leaf_at leaves n) = is-leaf leaves order t.parts key n k in omega (arith, ge, is.most)
]

-- the leaf that the trie gives, read, with its anchor
pub parting : (leaves : List LeafState) (order : List ℕ) (added : List Anchored) → IsTable leaves order added → (key : List ℕ) (n : ℕ) → n ≡ cover added key → (HasRoomAt (chain_of leaves order) key → ⊥)
    → (x : LeafState) → x ≡ get_or leaves n x → (anchor : List ℕ) → PartsAt x.pairs LEAF_PAIRS_KEPT anchor → (key_cmp x.low anchor ≡ Less) × (covers x anchor ≡ true) → Parting leaves order added key n anchor
parting leaves order added t key n e none x read anchor parts inside =
    let k : Covers leaves order key n = covers-cover leaves order added t key n e in
    let leaf : x ≡ leaf_at leaves n = leaf-is leaves n x k.2 read in
    record {
      table = t;
      here = k;
      full = full-at leaves order added t key n k none;
      parts = subst (λ (y : LeafState). PartsAt y.pairs LEAF_PAIRS_KEPT anchor) leaf parts;
      above = subst (λ (y : LeafState). key_cmp y.low anchor ≡ Less) leaf inside.0;
      inside = subst (λ (y : LeafState). covers y anchor ≡ true) leaf inside.1;
    }

-- a table in which that leaf was split
pub record Parted (leaves : List LeafState) (order : List ℕ) (key : List ℕ) (halves : List LeafState) (numbers : List ℕ) (anchors : List Anchored) : Type 0 where
  pub table : IsTable halves numbers anchors
  pub pairs : pairs_of (chain_of halves numbers) ≡ pairs_of (chain_of leaves order)
  pub halved : SplitsAt (chain_of leaves order) key (chain_of halves numbers)
  pub room : HasRoomAt (chain_of halves numbers) key
  pub leaves_one : length halves ≡ length leaves + 1
  pub order_one : length numbers ≡ length order + 1

module _ (leaves : List LeafState) (order : List ℕ) (added : List Anchored) (key : List ℕ) (n : ℕ) (anchor : List ℕ) (p : Parting leaves order added key n anchor) where
  -- the anchor is no anchor yet, and its leaf is this one
  pub parting-new : IsNew added anchor
  parting-new = anchor-is_new leaves order added p.table n p.here.2 p.full anchor p.parts p.above p.inside

  pub parting-cover : n ≡ cover added anchor
  parting-cover = anchor-covers leaves order added p.table n p.here.2 p.full anchor p.parts p.above p.inside

  -- its number stands in the order
  pub parting-place : position (λ m. m == n) order ≡ None → ⊥
  parting-place none = absurd (some-not_none (length at.0.before) (sym (place-there leaves order added p.table n p.here.2 p.full anchor p.parts p.above p.inside) ∙ none))
    where
      at : Covers leaves order anchor n
      at = k leaves order added p.table n p.here.2 p.full anchor p.parts p.above p.inside

      some-not_none : (place : ℕ) → Some place ≡ None → ⊥
      some-not_none place e = absurd cc

  -- and so is the table with both halves
  pub parted : (halves : List LeafState) → halves ≡ set leaves n (left_half (leaf_at leaves n) anchor) ++ right_half (leaf_at leaves n) anchor ∷ []
      → (numbers : List ℕ) → ((place : ℕ) → position (λ m. m == n) order ≡ Some place → numbers ≡ insert order (place + 1) (length leaves))
      → (anchors : List Anchored) → anchors ≡ added ++ record { anchor = anchor; leaf = length leaves } ∷ []
      → Parted leaves order key halves numbers anchors
  parted halves e numbers inserted anchors named =
      let at : Covers leaves order anchor n = k leaves order added p.table n p.here.2 p.full anchor p.parts p.above p.inside in
      let place : ℕ = length at.0.before in
      let there : position (λ m. m == n) order ≡ Some place = place-there leaves order added p.table n p.here.2 p.full anchor p.parts p.above p.inside in
      let f : numbers ≡ insert order (place + 1) (length leaves) = inserted place there in
      subst (λ xs. Parted leaves order key xs numbers anchors) (sym e)
      (subst (λ ns. Parted leaves order key (set leaves n (left_half (leaf_at leaves n) anchor) ++ right_half (leaf_at leaves n) anchor ∷ []) ns anchors) (sym f)
      (subst (λ named_so. Parted leaves order key (set leaves n (left_half (leaf_at leaves n) anchor) ++ right_half (leaf_at leaves n) anchor ∷ []) (insert order (place + 1) (length leaves)) named_so) (sym named) (record {
        table = split-table leaves order added p.table n p.here.2 p.full anchor p.parts p.above p.inside place refl;
        pairs = split-pairs leaves order added p.table n p.here.2 p.full anchor p.parts p.above p.inside place refl;
        halved = split-halves leaves order added p.table n p.here.2 p.full anchor p.parts p.above p.inside place refl key (covered leaves order key n p.here);
        room = split-room leaves order added p.table n p.here.2 p.full anchor p.parts p.above p.inside place refl key (covered leaves order key n p.here);
        leaves_one = length-append (set leaves n (left_half (leaf_at leaves n) anchor)) (right_half (leaf_at leaves n) anchor ∷ []) ∙ ap (λ m. m + 1) (length-set leaves n (left_half (leaf_at leaves n) anchor));
        order_one = length-insert order (place + 1) (length leaves) (within place there);
      })))
    where
      within : (place : ℕ) → position (λ m. m == n) order ≡ Some place → place + 1 ≤ length order
      within place e = let q = position-Some (λ m. m == n) order place 0 e in omega (arith, q.0)
