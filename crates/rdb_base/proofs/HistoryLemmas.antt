-- The maps of a history. To know: `after-next`, `applied_all-append`.
use Rattle.std.proofs.Common.{◌≡◌, ℕ, zero, suc, ◌+◌, ◌-◌, List, [], ◌∷◌, ◌++◌, take, Some, refl, ap, arith}
use Rattle.std.specs.Prelude.{slice_get}
use Rattle.rdb_base.specs.Maps.{applied, applied_all}
use Rattle.rdb_base.specs.Histories.{History, IsEntry, after}
use Rattle.rdb_base.specs.declared.row.Row.{Row}
use Rattle.rdb_base.specs.declared.entry.Entry.{Entry}

pub applied_all-append : (rows : List Row) (xs ys : List Entry) → applied_all rows (xs ++ ys) ≡ applied_all (applied_all rows xs) ys
applied_all-append rows [] ys = refl
applied_all-append rows (x ∷ xs) ys = applied_all-append (applied rows x) xs ys

some_is : (a b : Entry) → Some a ≡ Some b → a ≡ b
some_is a b e = cc

-- one entry more
pub applied_all-take_next : (rows : List Row) (entries : List Entry) (n : ℕ) (entry : Entry) → slice_get entries n ≡ Some entry → applied_all rows (take (suc n) entries) ≡ applied (applied_all rows (take n entries)) entry
applied_all-take_next rows [] n entry e = absurd cc
applied_all-take_next rows (x ∷ xs) zero entry e = ap (applied rows) (some_is x entry e)
applied_all-take_next rows (x ∷ xs) (suc n) entry e = applied_all-take_next (applied rows x) xs n entry e

-- the map after one number more is the map after that number's entry
pub after-next : (history : History) (number : ℕ) (entry : Entry) → IsEntry history number entry → after history (number + 1) ≡ applied (after history number) entry
after-next history number entry is =
    let n : number + 1 - history.first ≡ suc (number - history.first) = omega (arith, is.0) in
    rw n (applied_all-take_next history.base history.entries (number - history.first) entry is.1)
