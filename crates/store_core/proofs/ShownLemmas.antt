-- What a version shows is what the map has. To know: `left_at-applied`, `shown-after`.
use Rattle.std.proofs.Common.{◌≡◌, ℕ, ◌≤◌, false, cond, List, [], ◌∷◌, refl, sym, ap, ◌∙◌}
use Rattle.std.specs.Ordering.{is_eq}
use Rattle.std.specs.declared.cmp.Ordering.{Ordering}
use Rattle.std.specs.declared.cmp.Ordering.TheVariants.{Less, Equal, Greater}
use Rattle.rdb_base.specs.Order.{key_cmp}
use Rattle.rdb_base.specs.Laws.{left_by}
use Rattle.rdb_base.specs.Maps.{value_at, applied, applied_all}
use Rattle.rdb_base.specs.Histories.{History, after}
use Rattle.rdb_base.specs.declared.row.Row.{Row}
use Rattle.rdb_base.specs.declared.entry.Entry.{Entry}
use Rattle.rdb_base.proofs.MapLemmas.{value_at-changed_same, value_at-changed_other}
use Rattle.rdb_base.proofs.KeyOrder.{same_key, key_cmp-same}
use Rattle.store_core.specs.Claims.{IsMapAt}
use Rattle.store_core.specs.Steps.{left_at, shown}
use Rattle.store_core.specs.Worlds.{range}
use Rattle.store_core.specs.declared.version.Version.{Version}
use Rattle.store_core.proofs.RangeLemmas.{after-range}

-- at each key the map after one entry has what the entry left there, or what it had
value_at-applied : (rows : List Row) (e : Entry) (key : List ℕ) → value_at (applied rows e) key ≡ cond (is_eq (key_cmp e.key key)) (left_by e.change) (value_at rows key)
value_at-applied rows e key = by_order (key_cmp e.key key) refl
  where
    differs : (r : Ordering) → key_cmp e.key key ≡ r → is_eq r ≡ false → key ≡ e.key → ⊥
    differs r h other same = let k : key_cmp e.key key ≡ Equal = ap (key_cmp e.key) same ∙ key_cmp-same e.key in let f : is_eq Equal ≡ false = ap is_eq (sym k ∙ h) ∙ other in absurd cc

    by_order : (r : Ordering) → key_cmp e.key key ≡ r → value_at (applied rows e) key ≡ cond (is_eq r) (left_by e.change) (value_at rows key)
    by_order Equal h = ap (value_at (applied rows e)) (sym (same_key e.key key h)) ∙ value_at-changed_same rows e.key e.change
    by_order Less h = value_at-changed_other rows key e.key e.change (differs Less h refl)
    by_order Greater h = value_at-changed_other rows key e.key e.change (differs Greater h refl)

-- what entries leave at a key is what the map after them has there
pub left_at-applied : (rows : List Row) (es : List Entry) (key : List ℕ) → left_at es key (value_at rows key) ≡ value_at (applied_all rows es) key
left_at-applied rows [] key = refl
left_at-applied rows (e ∷ es) key = ap (left_at es key) (sym (value_at-applied rows e key)) ∙ left_at-applied (applied rows e) es key

-- what a version shows up to a front is what the map after the front has
pub shown-after : (h : History) (v : Version) (key : List ℕ) (front : ℕ) → IsMapAt h v.base v.below → v.base ≤ front → shown h v key front ≡ value_at (after h front) key
shown-after h v key front m le =
    ap (λ rows. left_at (range h v.base front) key (value_at rows key)) m.rows
    ∙ left_at-applied (after h v.base) (range h v.base front) key
    ∙ ap (λ rows. value_at rows key) (after-range h v.base front m.from le)
