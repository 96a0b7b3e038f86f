-- What the parts of a world become is what the events say. To know: `best-next`, `split-is`, `goes-right`, `not-right`, `full-is`.
use Rattle.std.proofs.Common.{◌≡◌, ℕ, ◌+◌, ◌<◌, Bool, true, false, cond, ◌&&◌, ◌==◌, List, [], ◌∷◌, ◌++◌, length, drop, get_or, refl, sym, ap, ◌∙◌, subst}
use Rattle.std.specs.Prelude.{Option, Some, None, slice_get, IfNone}
use Rattle.std.specs.BTreeMap.{is_at}
use Rattle.std.specs.List.Sorted.{IsStrictlySortedBy}
use Rattle.std.specs.Map.{keys_of, set_value}
use Rattle.std.specs.Ordering.{is_le, is_lt, nat_cmp}
use Rattle.std.proofs.lemmas.Bool.{eqb-true}
use Rattle.std.proofs.lemmas.List.{at_drop_more, map-append}
use lib.ListN.{set}
use Rattle.rdb_base.specs.Order.{key_cmp}
use Rattle.rdb_base.proofs.PlaceLemmas.{some_injective}
use Rattle.meta_trie.specs.Tries.{Anchored, best_of}
use Rattle.worm_leaf.specs.Anchors.{PartsAt}
use Rattle.worm_leaf.specs.Leaves.{LeafState, covers}
use Rattle.worm_leaf.specs.declared.limits.TheConstants.{LEAF_PAIRS_MAX, LEAF_PAIRS_KEPT}
use Rattle.worm_core.specs.Events.{SplitsLeaf, GoesRight, left_half, right_half, moved, with_walker}
use Rattle.worm_core.specs.Worlds.{Stands, IsRightOf, walker_at, anchored, all_anchored}
use Rattle.worm_core.specs.declared.limits.TheConstants.{LEAVES_MAX}
use Rattle.worm_core.specs.declared.split.Split.{Split}
use Rattle.worm_core.specs.declared.walker.Walker.{Walker}
use Rattle.worm_core.proofs.WalkerLemmas.{set_value-is_insert}

-- ---- the table

-- one split more is looked at: it is the best one so far, or that stays
pub best-next : (table : List Split) (key : List ℕ) (best all : Anchored) (i : ℕ) (split : Split) (t : Bool) → i < length table → split ≡ get_or table i split
    → t ≡ (is_le (key_cmp split.anchor key) && is_lt (key_cmp best.anchor split.anchor)) → best_of key best (all_anchored (drop i table)) ≡ all
    → best_of key (cond t (anchored split) best) (all_anchored (drop (i + 1) table)) ≡ all
best-next table key best all i split t lt is test whole =
    let next : best_of key best (all_anchored (drop i table)) ≡ best_of key best (all_anchored (get_or table i split ∷ drop (i + 1) table)) = at_drop_more (λ (l : List Split). best_of key best (all_anchored l)) table i split lt in
    let here : best_of key best (all_anchored (drop i table)) ≡ best_of key best (all_anchored (split ∷ drop (i + 1) table)) = next ∙ ap (λ (s : Split). best_of key best (all_anchored (s ∷ drop (i + 1) table))) (sym is) in
    ap (λ (b : Bool). best_of key (cond b (anchored split) best) (all_anchored (drop (i + 1) table))) test ∙ sym here ∙ whole

-- ---- a split

-- the test of a full leaf
pub full-is : (n m : ℕ) (test : Bool) → test ≡ (n == m) → test ≡ true → n ≡ m
full-is n m test is on = eqb-true n m (sym is ∙ on)

pub split-is : (leaves after : List LeafState) (splits more : List Split) (number used : ℕ) (old left right : LeafState) (anchor : List ℕ) → slice_get leaves number ≡ Some old → used ≡ length leaves
    → used < LEAVES_MAX → length old.pairs ≡ LEAF_PAIRS_MAX → PartsAt old.pairs LEAF_PAIRS_KEPT anchor → left ≡ left_half old anchor → right ≡ right_half old anchor
    → after ≡ set leaves number left ++ right ∷ [] → more ≡ splits ++ record { anchor = anchor; leaf = used } ∷ []
    → SplitsLeaf leaves (all_anchored splits) number after (all_anchored more)
split-is leaves after splits more number used old left right anchor at count few full parts is_left is_right is_after is_more = record {
  leaf = old;
  at = at;
  full = full;
  few = subst (λ (n : ℕ). n < LEAVES_MAX) count few;
  anchor = anchor;
  parts = parts;
  effect = is_after ∙ (λ i. set leaves number (is_left i) ++ is_right i ∷ []);
  told = ap all_anchored is_more ∙ map-append anchored splits (record { anchor = anchor; leaf = used } ∷ []) ∙ (λ i. all_anchored splits ++ record { anchor = anchor; leaf = count i } ∷ []);
}

-- ---- a step right

pub goes-right : (leaves : List LeafState) (walkers after : List (ℕ × Walker)) (number right : ℕ) (walker there : Walker) (leaf : LeafState) → Stands leaves walkers number walker leaf
    → walker_at walkers number ≡ Some there → covers leaf walker.key ≡ false → IsRightOf leaves leaf right → IsStrictlySortedBy nat_cmp (keys_of walkers)
    → after ≡ set_value (is_at (nat_cmp number)) walkers (moved there right) → GoesRight leaves walkers number right after
goes-right leaves walkers after number right walker there leaf s got out neighbour sorted is =
    let same : there ≡ walker = some_injective there walker (sym got ∙ s.is) in
    record {
      walker = walker;
      leaf = leaf;
      stands = s;
      outside = out;
      neighbour = neighbour;
      effect = is ∙ set_value-is_insert walkers number there (moved there right) sorted got ∙ ap (λ (w : Walker). with_walker walkers number (moved w right)) same;
    }

-- no leaf begins where the walker's ends
pub not-right : (leaves : List LeafState) (walkers : List (ℕ × Walker)) (number : ℕ) (walker : Walker) (leaf : LeafState) → Stands leaves walkers number walker leaf
    → ((right : ℕ) → IsRightOf leaves leaf right → ⊥) → (right : ℕ) (after : List (ℕ × Walker)) → GoesRight leaves walkers number right after → ⊥
not-right leaves walkers number walker leaf s none right after g =
    let same : g.walker ≡ walker = some_injective g.walker walker (sym g.stands.is ∙ s.is) in
    let one : g.leaf ≡ leaf = some_injective g.leaf leaf (sym g.stands.on ∙ ap (λ (w : Walker). slice_get leaves w.leaf) same ∙ s.on) in
    none right (subst (λ (l : LeafState). IsRightOf leaves l right) one g.neighbour)

-- what holds in any case holds where there is nothing
pub if_none : {X P : Type 0} → (result : Option X) → P → IfNone result P
if_none None p = p
if_none (Some x) p = tt
