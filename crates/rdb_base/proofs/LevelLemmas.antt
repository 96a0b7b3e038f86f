-- Entries over a level. To know: `over-with_pair`, `live-over_newest`.
use Rattle.std.proofs.Common.{◌≡◌, ℕ, Bool, true, false, cond, List, [], ◌∷◌, ◌++◌, Option, Some, refl, sym, ap, ◌∙◌}
use Rattle.std.specs.Ordering.{is_eq}
use Rattle.rdb_base.specs.Order.{key_cmp}
use Rattle.rdb_base.specs.Maps.{applied_all}
use Rattle.rdb_base.specs.Runs.{IsRun, change_at}
use Rattle.rdb_base.specs.Levels.{with_pair, over, live, newest, pair_of, or_change}
use Rattle.rdb_base.specs.declared.row.Row.{Row}
use Rattle.rdb_base.specs.declared.entry.Entry.{Entry}
use Rattle.rdb_base.specs.declared.change.Change.{Change}
use Rattle.rdb_base.specs.declared.pair.Pair.{Pair}
use Rattle.rdb_base.proofs.RunLemmas.{IsRun-with_pair, IsRun-over}
use Rattle.rdb_base.proofs.ChangeLemmas.{change_at-with_pair, change_at-over}
use Rattle.rdb_base.proofs.RunEqualityLemmas.{run_ext}
use Rattle.rdb_base.proofs.LiveLemmas.{live-with_pair}

-- one pair more among the newer ones is one more above all
pub over-with_pair : (newer older : List Pair) (p : Pair) → IsRun older → over (with_pair newer p) older ≡ with_pair (over newer older) p
over-with_pair newer older p run = run_ext (over (with_pair newer p) older) (with_pair (over newer older) p) (IsRun-over (with_pair newer p) older run) (IsRun-with_pair (over newer older) p (IsRun-over newer older run)) same
  where
    same : (key : List ℕ) → change_at (over (with_pair newer p) older) key ≡ change_at (with_pair (over newer older) p) key
    same key =
        change_at-over (with_pair newer p) older key
        ∙ ap (λ (o : Option Change). or_change o (change_at older key)) (change_at-with_pair newer p key)
        ∙ by_test (is_eq (key_cmp p.key key))
        ∙ sym (change_at-with_pair (over newer older) p key)
      where
        by_test : (b : Bool) → or_change (cond b (Some p.change) (change_at newer key)) (change_at older key) ≡ cond b (Some p.change) (change_at (over newer older) key)
        by_test true = refl
        by_test false = sym (change_at-over newer older key)

-- the newest changes over a base are the base's rows after the entries
pub live-over_newest : (pairs base : List Pair) (entries : List Entry) → IsRun base → live (over (newest pairs entries) base) ≡ applied_all (live (over pairs base)) entries
live-over_newest pairs base [] run = refl
live-over_newest pairs base (entry ∷ entries) run =
    live-over_newest (with_pair pairs (pair_of entry)) base entries run
    ∙ ap (λ (rows : List Row). applied_all rows entries)
    (ap live (over-with_pair pairs base (pair_of entry) run) ∙ live-with_pair (over pairs base) entry.key entry.change)

-- the newest changes of entries after others
pub newest-append : (pairs : List Pair) (xs ys : List Entry) → newest pairs (xs ++ ys) ≡ newest (newest pairs xs) ys
newest-append pairs [] ys = refl
newest-append pairs (x ∷ xs) ys = newest-append (with_pair pairs (pair_of x)) xs ys
