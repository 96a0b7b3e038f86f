-- Walkers by their numbers, with one more or one in another place. To know: `walker_at-with_walker`, `set_value-is_insert`.
use Rattle.std.proofs.Common.{◌≡◌, ◌⊎◌, ℕ, Bool, true, false, cond, List, [], ◌∷◌, refl, ap, sym, ◌∙◌, inl, inr, ⊎_elim}
use Rattle.std.specs.Prelude.{Option, Some, None}
use Rattle.std.specs.BTreeMap.{insert_entry, is_at}
use Rattle.std.specs.List.Sorted.{IsStrictlySortedBy}
use Rattle.std.specs.Map.{keys_of, lookup, set_value}
use Rattle.std.specs.Ordering.{is_eq, nat_cmp, match_ordering}
use Rattle.std.specs.declared.cmp.Ordering.{Ordering}
use Rattle.std.specs.declared.cmp.Ordering.TheVariants.{Less, Equal, Greater}
use Rattle.std.proofs.lemmas.Cmp.{nat_cmp_total}
use Rattle.std.proofs.lemmas.Map.{lookup-none}
use Rattle.std.proofs.lemmas.Map.Entries.{none_below_head}
use Rattle.rdb_base.proofs.PlaceLemmas.{some_injective}
use Rattle.worm_core.specs.Events.{with_walker}
use Rattle.worm_core.specs.Worlds.{walker_at}
use Rattle.worm_core.specs.declared.walker.Walker.{Walker}

-- at each number stands the new walker, or who stood there
pub walker_at-with_walker : (walkers : List (ℕ × Walker)) (number : ℕ) (walker : Walker) (n : ℕ) (other : Walker) → walker_at (with_walker walkers number walker) n ≡ Some other
    → (walker ≡ other) ⊎ (walker_at walkers n ≡ Some other)
walker_at-with_walker [] number walker n other is = by_test (is_eq (nat_cmp n number)) is
  where
    by_test : (b : Bool) → cond b (Some walker) None ≡ Some other → (walker ≡ other) ⊎ (walker_at [] n ≡ Some other)
    by_test true e = inl (some_injective walker other e)
    by_test false e = absurd cc
walker_at-with_walker (e ∷ es) number walker n other is = by_order (nat_cmp number e.0) (walker_at-with_walker es number walker n other) is
  where
    by_order : (r : Ordering) → (walker_at (with_walker es number walker) n ≡ Some other → (walker ≡ other) ⊎ (walker_at es n ≡ Some other))
        → walker_at (match_ordering r ((number, walker) ∷ e ∷ es) ((e.0, walker) ∷ es) (e ∷ with_walker es number walker)) n ≡ Some other
        → (walker ≡ other) ⊎ (walker_at (e ∷ es) n ≡ Some other)
    by_order Less rest is = by_test (is_eq (nat_cmp n number)) is
      where
        by_test : (b : Bool) → cond b (Some walker) (walker_at (e ∷ es) n) ≡ Some other → (walker ≡ other) ⊎ (walker_at (e ∷ es) n ≡ Some other)
        by_test true h = inl (some_injective walker other h)
        by_test false h = inr h
    by_order Equal rest is = by_test (is_eq (nat_cmp n e.0)) is
      where
        by_test : (b : Bool) → cond b (Some walker) (walker_at es n) ≡ Some other → (walker ≡ other) ⊎ (cond b (Some e.1) (walker_at es n) ≡ Some other)
        by_test true h = inl (some_injective walker other h)
        by_test false h = inr h
    by_order Greater rest is = by_test (is_eq (nat_cmp n e.0)) is
      where
        by_test : (b : Bool) → cond b (Some e.1) (walker_at (with_walker es number walker) n) ≡ Some other → (walker ≡ other) ⊎ (cond b (Some e.1) (walker_at es n) ≡ Some other)
        by_test true h = inr h
        by_test false h = rest h

-- a walker that is there, written in its place
pub set_value-is_insert : (walkers : List (ℕ × Walker)) (number : ℕ) (old new : Walker) → IsStrictlySortedBy nat_cmp (keys_of walkers) → walker_at walkers number ≡ Some old
    → set_value (is_at (nat_cmp number)) walkers new ≡ with_walker walkers number new
unfolding IsStrictlySortedBy
set_value-is_insert [] number old new sorted is = absurd cc
set_value-is_insert (e ∷ es) number old new sorted is = by_order (nat_cmp number e.0) refl (set_value-is_insert es number old new sorted.1) is
  where
    by_order : (r : Ordering) → nat_cmp number e.0 ≡ r → (walker_at es number ≡ Some old → set_value (is_at (nat_cmp number)) es new ≡ with_walker es number new)
        → cond (is_eq r) (Some e.1) (walker_at es number) ≡ Some old
        → cond (is_eq r) ((e.0, new) ∷ es) (e ∷ set_value (is_at (nat_cmp number)) es new) ≡ match_ordering r ((number, new) ∷ e ∷ es) ((e.0, new) ∷ es) (e ∷ with_walker es number new)
    by_order Less h rest there =
        let none : walker_at (e ∷ es) number ≡ None = lookup-none (is_at (nat_cmp number)) (e ∷ es) (none_below_head nat_cmp_total number e es sorted h) in
        let same : walker_at (e ∷ es) number ≡ Some old = is in
        absurd cc
    by_order Equal h rest there = refl
    by_order Greater h rest there = ap (λ (l : List (ℕ × Walker)). e ∷ l) (rest there)
