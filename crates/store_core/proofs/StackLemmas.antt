-- Members above what lies below them. To know: `over-assoc`, `stacked-over`, `IsRun-stacked`, `live-stacked`.
use Rattle.std.proofs.Common.{◌≡◌, ℕ, ◌≤◌, List, [], ◌∷◌, ◌++◌, Option, Some, None, refl, sym, ap, ◌∙◌, arith}
use Rattle.rdb_base.specs.Maps.{applied_all}
use Rattle.rdb_base.specs.Histories.{History, after}
use Rattle.rdb_base.specs.Levels.{over, live, or_change}
use Rattle.rdb_base.specs.Runs.{IsRun, change_at}
use Rattle.rdb_base.specs.declared.change.Change.{Change}
use Rattle.rdb_base.specs.declared.pair.Pair.{Pair}
use Rattle.rdb_base.proofs.ChangeLemmas.{change_at-over}
use Rattle.rdb_base.proofs.LevelLemmas.{live-over_newest}
use Rattle.rdb_base.proofs.RunEqualityLemmas.{run_ext}
use Rattle.rdb_base.proofs.RunLemmas.{IsRun-over}
use Rattle.store_core.specs.Claims.{Covers}
use Rattle.store_core.specs.Levels.{stacked}
use Rattle.store_core.specs.Worlds.{range}
use Rattle.store_core.specs.declared.member.Member.{Member}
use Rattle.store_core.proofs.RangeLemmas.{after-range}

or_change-assoc : (a b c : Option Change) → or_change (or_change a b) c ≡ or_change a (or_change b c)
or_change-assoc None b c = refl
or_change-assoc (Some x) b c = refl

-- levels may be joined from either end
pub over-assoc : (a b c : List Pair) → IsRun c → over (over a b) c ≡ over a (over b c)
over-assoc a b c run = run_ext (over (over a b) c) (over a (over b c)) (IsRun-over (over a b) c run) (IsRun-over a (over b c) (IsRun-over b c run)) same
  where
    same : (key : List ℕ) → change_at (over (over a b) c) key ≡ change_at (over a (over b c)) key
    same key =
        change_at-over (over a b) c key
        ∙ ap (λ (o : Option Change). or_change o (change_at c key)) (change_at-over a b key)
        ∙ or_change-assoc (change_at a key) (change_at b key) (change_at c key)
        ∙ ap (or_change (change_at a key)) (sym (change_at-over b c key))
        ∙ sym (change_at-over a (over b c) key)

pub IsRun-stacked : (ms : List Member) (low : List Pair) → IsRun low → IsRun (stacked ms low)
IsRun-stacked [] low run = run
IsRun-stacked (m ∷ ms) low run = IsRun-over m.run (stacked ms low) (IsRun-stacked ms low run)

pub stacked-over : (ms : List Member) (a b : List Pair) → IsRun b → stacked ms (over a b) ≡ over (stacked ms a) b
stacked-over [] a b run = refl
stacked-over (m ∷ ms) a b run = ap (over m.run) (stacked-over ms a b run) ∙ sym (over-assoc m.run (stacked ms a) b run)

pub stacked-append : (ms ns : List Member) (low : List Pair) → stacked (ms ++ ns) low ≡ stacked ms (stacked ns low)
stacked-append [] ns low = refl
stacked-append (m ∷ ms) ns low = ap (over m.run) (stacked-append ms ns low)

pub Covers-up : (h : History) (upto low : ℕ) (ms : List Member) → Covers h upto low ms → low ≤ upto
Covers-up h upto low [] c = omega (arith, c)
Covers-up h upto low (m ∷ ms) c = let r = Covers-up h m.base low ms c.3 in omega (arith, r, c.0, c.1)

-- members that cover a part of the history, above the map at its beginning, are the map at its end
pub live-stacked : (h : History) (upto low : ℕ) (ms : List Member) (below : List Pair) → Covers h upto low ms → h.first ≤ low → IsRun below → live below ≡ after h low → live (stacked ms below) ≡ after h upto
live-stacked h upto low [] below c from run is = is ∙ ap (after h) (sym c)
live-stacked h upto low (m ∷ ms) below c from run is =
    let rest = live-stacked h m.base low ms below c.3 from run is in
    let up = Covers-up h m.base low ms c.3 in
    ap (λ (r : List Pair). live (over r (stacked ms below))) c.2
    ∙ live-over_newest [] (stacked ms below) (range h m.base m.upto) (IsRun-stacked ms below run)
    ∙ ap (λ rows. applied_all rows (range h m.base m.upto)) rest
    ∙ after-range h m.base m.upto (omega (arith, from, up)) (omega (arith, c.1))
    ∙ ap (after h) c.0
