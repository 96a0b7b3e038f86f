-- Live and next numbers: what the keeper keeps, and who is told. These steps touch no list. To know: `Goes-keep`, `Goes-take`, `Goes-meet`.
use Rattle.std.proofs.Common.{◌≡◌, ℕ, ◌≤◌, List, [], ◌∷◌, refl, ap, sym, subst, arith}
use Rattle.std.specs.List.{AllByRecursion}
use Rattle.seat_parts.specs.Seats.{weigh, Goes}
use Rattle.front_rule.specs.Parts.{pens, keepers}
use Rattle.front_rule.specs.Rule.{PassFits, IsUpTo, Sound}
use Rattle.front_rule.specs.Known.{pen_released, next_learnt}
use Rattle.front_rule.specs.Steps.{CanKeep, Keeps, CanTake, Takes, CanMeet, Meets}
use Rattle.front_rule.specs.declared.parts.LivePart.{LivePart}
use Rattle.front_rule.specs.declared.parts.Part.{Part}
use Rattle.front_rule.specs.declared.parts.Part.TheVariants as part
use Rattle.front_rule.proofs.RuleLemmas.{SoundWith-pen, IsWell-same, IsShared-same}
use Rattle.front_rule.proofs.PenLemmas.{IsLater, Fits-later_all}

-- ---- the keeper's numbers rise

IsUpTo-raised : (k to : LivePart) (x : Part) → k.live ≤ to.live → k.next ≤ to.next → k.failed ≤ to.failed → keepers x ≡ 0 → IsUpTo k x → IsUpTo to x
IsUpTo-raised k to (part.Pen p) live next failed none u = (let q = u.0 in omega arith, let q = u.1 in omega arith)
IsUpTo-raised k to (part.Leaf l) live next failed none u = tt
IsUpTo-raised k to (part.Pass a) live next failed none u = omega arith
IsUpTo-raised k to (part.Note n) live next failed none u = tt
IsUpTo-raised k to (part.Keeper o) live next failed none u = absurd (omega arith)
IsUpTo-raised k to (part.Live l) live next failed none u = (let q = u.0 in omega arith, let q = u.1 in omega arith, let q = u.2 in omega arith)

IsUpTo-raised_all : (k to : LivePart) (xs : List Part) → k.live ≤ to.live → k.next ≤ to.next → k.failed ≤ to.failed → weigh keepers xs ≡ 0 → AllByRecursion (IsUpTo k) xs → AllByRecursion (IsUpTo to) xs
IsUpTo-raised_all k to [] live next failed none u = tt
IsUpTo-raised_all k to (x ∷ xs) live next failed none u = (IsUpTo-raised k to x live next failed (omega arith) u.0, IsUpTo-raised_all k to xs live next failed (omega arith) u.1)

pub Goes-keep : (to : LivePart) (first : ℕ) (v : List Part) → CanKeep to first v → Goes (Sound first) v (λ n. n) (Keeps to first v)
Goes-keep to first (part.Keeper k ∷ []) can n others s =
    let g = s.pen in
    let r = s.rule in
    let mine : k ≡ s.keeper = r.upto.0 in
    let upto : AllByRecursion (IsUpTo k) others = subst (λ (x : LivePart). AllByRecursion (IsUpTo x) others) (sym mine) r.upto.1 in
    let none : weigh keepers others ≡ 0 = let o = r.shared.one_keeper in omega arith in (
      part.Keeper to ∷ part.Live to ∷ [],
      record {
        pen = g;
        keeper = to;
        rule = record {
          word_is = r.word_is;
          well = r.well;
          shared = IsShared-same g (part.Keeper k ∷ others) (part.Keeper to ∷ part.Live to ∷ others) (omega arith) (omega arith) (λ c. omega arith) (λ m key. omega arith) r.shared;
          fit = (tt, (tt, r.fit.1));
          upto = (refl, ((omega arith, omega arith, omega arith), IsUpTo-raised_all k to others can.0 can.1 can.2 none upto));
        };
      },
      refl,
    )
Goes-keep to first v can n others s = absurd can

-- ---- the pen or a pass takes in a live note

pub Goes-take : (first : ℕ) (v : List Part) → CanTake first v → Goes (Sound first) v (λ n. n) (Takes first v)
Goes-take first (part.Pen p ∷ part.Live l ∷ []) can n others s =
    let w = SoundWith-pen first n p (part.Live l ∷ others) s in
    let r = w.1 in
    let h = pen_released p l in
    let none : weigh pens others ≡ 0 = let o = r.shared.one_pen in omega arith in
    let later : IsLater p h = record { list = refl; bases = refl; memtable = refl; safe = omega arith; failed = omega arith } in
    let q = IsShared-same p (part.Pen p ∷ part.Live l ∷ others) (part.Pen h ∷ others) (omega arith) (omega arith) (λ c. omega arith) (λ m key. omega arith) r.shared in (
      part.Pen h ∷ [],
      record {
        pen = h;
        keeper = w.0;
        rule = record {
          word_is = r.word_is;
          well = IsWell-same first p p.memtable h.live p.next p.failed p.made r.well;
          shared = record { one_pen = q.one_pen; one_keeper = q.one_keeper; made = q.made; unmade = q.unmade; apart = q.apart };
          fit = (refl, Fits-later_all p h others later none r.fit.1.1);
          upto = ((let m = r.upto.0.0 in let u = r.upto.1.0.0 in omega arith, r.upto.0.1), r.upto.1.1);
        };
      },
      refl,
    )
Goes-take first (part.Pass a ∷ part.Live l ∷ []) can n others s =
    let g = s.pen in
    let r = s.rule in
    let f = r.fit.0 in
    let b = next_learnt a l in
    let fits : PassFits g b = record { stands = f.stands; calls = f.calls; seen_calls = f.seen_calls; safe = f.safe; told = f.told } in (
      part.Pass b ∷ [],
      record {
        pen = g;
        keeper = s.keeper;
        rule = record {
          word_is = r.word_is;
          well = r.well;
          shared = IsShared-same g (part.Pass a ∷ part.Live l ∷ others) (part.Pass b ∷ others) (omega arith) (omega arith) (λ c. omega arith) (λ m key. omega arith) r.shared;
          fit = (fits, r.fit.1.1);
          upto = (let q = r.upto.0 in let u = r.upto.1.0.1 in omega arith, r.upto.1.1);
        };
      },
      refl,
    )
Goes-take first v can n others s = absurd can

-- ---- the pen is compared with the keeper

pub Goes-meet : (first : ℕ) (v : List Part) → CanMeet first v → Goes (Sound first) v (λ n. n) (Meets first v)
Goes-meet first (part.Pen p ∷ part.Keeper k ∷ []) can n others s =
    let u = s.rule.upto in
    let mine : k ≡ s.keeper = u.1.0 in (
      part.Pen p ∷ part.Keeper k ∷ [],
      s,
      (
        refl,
        let q = u.0.0 in let m = ap (λ (x : LivePart). x.live) mine in omega arith,
        let q = u.0.1 in let m = ap (λ (x : LivePart). x.next) mine in omega arith,
      ),
    )
Goes-meet first v can n others s = absurd can
