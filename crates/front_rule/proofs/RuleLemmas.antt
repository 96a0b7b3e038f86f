-- The rule does not see in which order the parts come, and what the table asks of a step, a split and a join follows.
-- To know: `Allows-step`, `SoundWith-pen`, `IsShared-same`, `passes-alone`.
use Rattle.std.proofs.Common.{◌≡◌, ℕ, ◌+◌, ◌≤◌, ◌<◌, List, [], ◌∷◌, ◌++◌, ◌∙◌, sym, subst, arith, lt_of_not-le}
use mathlib.Core.Option.{none}
use Rattle.atomic_table.specs.Table.{Me, Allows, Splits, Joins, step}
use Rattle.seat_parts.specs.Seats.{weigh, Holds, Told, Goes, but_last, last}
use Rattle.seat_parts.proofs.AlikeLemmas.{Alike}
use Rattle.seat_parts.proofs.StepLemmas as seats
use Rattle.front_rule.specs.declared.parts.Part.{Part}
use Rattle.front_rule.specs.declared.parts.Part.TheVariants as part
use Rattle.front_rule.specs.declared.parts.PenPart.{PenPart}
use Rattle.front_rule.specs.declared.parts.LivePart.{LivePart}
use Rattle.front_rule.specs.Parts.{pens, keepers, passes, ends, covers}
use Rattle.front_rule.specs.Rule.{IsWell, IsShared, Sound, SoundWith}

-- ---- the order of parts

pub SoundWith-alike : (first word : ℕ) (g : PenPart) (k : LivePart) (xs ys : List Part) → Alike xs ys → SoundWith first word g k xs → SoundWith first word g k ys
SoundWith-alike first word g k xs ys alike s =
    let h = s.shared in
    record {
      word_is = s.word_is;
      well = s.well;
      shared = record {
        one_pen = alike.sums _ ∙ h.one_pen;
        one_keeper = alike.sums _ ∙ h.one_keeper;
        made = λ c below. rw (alike.sums (passes c)) (h.made c below);
        unmade = λ c above. rw (alike.sums (passes c)) (h.unmade c above);
        apart = λ m key. rw (alike.sums (covers m key)) (h.apart m key);
      };
      fit = alike.all _ s.fit;
      upto = alike.all _ s.upto;
    }

pub Sound-alike : (first word : ℕ) (xs ys : List Part) → Alike xs ys → Sound first word xs → Sound first word ys
Sound-alike first word xs ys alike s = record { pen = s.pen; keeper = s.keeper; rule = SoundWith-alike first word s.pen s.keeper xs ys alike s.rule }

-- ---- what a table asks whose key is the history's first number

pub Allows-step : (first key slots id : ℕ) (me : Me ℕ (List Part)) (f : ℕ → ℕ) (tells : List Part → ℕ → List Part → Type 0) (a b : ℕ) → key ≡ first → me.1 ≡ [] → Goes (Sound first) me.0 f (tells me.0)
    → Allows (Holds (Sound key)) slots id me 0 f (Told tells (step slots 0 a b none) me)
Allows-step first key slots id me f tells a b is free goes =
    subst (λ (k : ℕ). Allows (Holds (Sound k)) slots id me 0 f (Told tells (step slots 0 a b none) me)) (sym is)
    (seats.Allows-goes (Sound first) (Sound-alike first) slots id me f tells a b free goes)

pub Splits-last : (first key id : ℕ) (v : List Part) → key ≡ first → Splits (Holds (Sound key)) id v (but_last v) (last v)
Splits-last first key id v is = subst (λ (k : ℕ). Splits (Holds (Sound k)) id v (but_last v) (last v)) (sym is) (seats.Splits-last (Sound first) (Sound-alike first) id v)

pub Joins-append : (first key id : ℕ) (v : List Part) (other : ℕ) (w : List Part) → key ≡ first → Joins (Holds (Sound key)) id v other w (v ++ w) []
Joins-append first key id v other w is =
    subst (λ (k : ℕ). Joins (Holds (Sound k)) id v other w (v ++ w) []) (sym is) (seats.Joins-append (Sound first) (Sound-alike first) id v other w)

-- ---- the rule, where a pen's part is at hand, and where pen and keeper stay

-- the rule holds with what that part knows
pub SoundWith-pen : (first n : ℕ) (p : PenPart) (xs : List Part) → Sound first n (part.Pen p ∷ xs) → (k : LivePart) × SoundWith first n p k (part.Pen p ∷ xs)
SoundWith-pen first n p xs s = (s.keeper, subst (λ (g : PenPart). SoundWith first n g s.keeper (part.Pen p ∷ xs)) (sym s.rule.fit.0) s.rule)

-- a pen that differs in other things than its list, bases, safe place and ended callers
pub IsWell-same : (first : ℕ) (g : PenPart) (memtable live next failed made : ℕ) → IsWell first g
    → IsWell first (record g { memtable = memtable; live = live; next = next; failed = failed; made = made })
IsWell-same first g memtable live next failed made w = record {
  room = w.room;
  fair = w.fair;
  ended = w.ended;
  safe = w.safe;
  some_base = w.some_base;
  bases = w.bases;
  climbs = w.climbs;
}

-- parts that weigh the same
pub IsShared-same : (g : PenPart) (xs ys : List Part) → weigh pens ys ≡ weigh pens xs → weigh keepers ys ≡ weigh keepers xs → ((c : ℕ) → weigh (passes c) ys ≡ weigh (passes c) xs)
    → ((m : ℕ) (key : List ℕ) → weigh (covers m key) ys ≡ weigh (covers m key) xs) → IsShared g xs → IsShared g ys
IsShared-same g xs ys one keeps pass cover h = record {
  one_pen = one ∙ h.one_pen;
  one_keeper = keeps ∙ h.one_keeper;
  made = λ c below. let m = h.made c below in let p = pass c in omega arith;
  unmade = λ c above. (let u = (h.unmade c above).0 in let p = pass c in omega arith, (h.unmade c above).1);
  apart = λ m key. let a = h.apart m key in let l = cover m key in omega arith;
}

-- ---- the caller of a pass

-- it was made, there is no other pass of it, and it has not ended
pub passes-alone : (g : PenPart) (c : ℕ) (xs : List Part) (m : ℕ) → IsShared g xs → weigh (passes c) xs ≡ 1 + m → Dec (g.made ≤ c) → (c < g.made) × (m ≡ 0) × (weigh (ends c) g.ended ≡ 0)
passes-alone g c xs m s is (yes above) = let h = (s.unmade c above).0 in absurd (omega arith)
passes-alone g c xs m s is (no below) = let made = lt_of_not-le below in let h = s.made c made in (made, omega arith, omega arith)
