-- Steps by which the pen's list and memtables stay: a safe place, a failure, a new pass, a pass that catches up, a pass that ends.
-- To know: `Fits-later_all`, `Goes-settle`, `Goes-fail`, `Goes-make`, `Goes-catch`, `Goes-end`.
use Rattle.std.proofs.Common.{◌≡◌, ℕ, ◌+◌, ◌≤◌, ◌<◌, ◌==◌, List, [], ◌∷◌, length, take, get_or, refl, ap, sym, ◌∙◌, subst, arith, eq-eqb, ne_eqb}
use Rattle.std.specs.List.{AllByRecursion}
use native.Mathlib.Decide.{ℕ_discrete, dec_le}
use mathlib.Core.List.{IsPrefix}
use Rattle.seat_parts.specs.Seats.{weigh, Goes}
use Rattle.seat_parts.proofs.AlikeLemmas.{weigh-append}
use Rattle.rdb_base.specs.Histories.{calls_of}
use Rattle.rdb_base.specs.declared.entry.Entry.{Entry}
use Rattle.rdb_base.proofs.Lists.{all-append, all-weaker}
use Rattle.front_rule.specs.Parts.{one_if, pens, passes, ends, end_of, entries_in, Stands}
use Rattle.front_rule.specs.Rule.{PassFits, Fits, IsShared, Sound}
use Rattle.front_rule.specs.Known.{pass_caught, pen_failed, pass_failed, pen_settled, pen_made, pass_made, pen_ended}
use Rattle.front_rule.specs.Steps.{CanCatch, Catches, CanFail, Fails, CanSettle, Settles, CanMake, Makes, CanEnd, Ends}
use Rattle.front_rule.specs.declared.parts.PenPart.{PenPart}
use Rattle.front_rule.specs.declared.parts.Ended.{Ended}
use Rattle.front_rule.specs.declared.parts.Part.{Part}
use Rattle.front_rule.specs.declared.parts.Part.TheVariants as part
use Rattle.front_rule.proofs.CallLemmas.{ends-none}
use Rattle.front_rule.proofs.RuleLemmas.{SoundWith-pen, IsWell-same, passes-alone}
use Rattle.front_rule.proofs.StandsLemmas.{Stands-whole, GoesOn-pen}

-- ---- what other seats know stays true

-- the pen's list and memtables are as they were; neither its safe place nor its failures fell
pub record IsLater (g h : PenPart) : Type 0 where
  pub list : h.list ≡ g.list
  pub bases : h.bases ≡ g.bases
  pub memtable : h.memtable ≡ g.memtable
  pub safe : g.safe ≤ h.safe
  pub failed : g.failed ≤ h.failed

end_of-later : (g h : PenPart) (bases : List ℕ) → IsLater g h → end_of h bases ≡ end_of g bases
end_of-later g h bases l = (λ i. get_or (l.bases i) (length bases) (length (l.list i)))

Stands-later : (g h : PenPart) (m : ℕ) (bases : List ℕ) (list : List Entry) → IsLater g h → Stands g m bases list → Stands h m bases list
Stands-later g h m bases list l s = record {
  list_is = subst (λ x. IsPrefix list x) (sym l.list) s.list_is;
  bases_is = subst (λ x. IsPrefix bases x) (sym l.bases) s.bases_is;
  some_base = s.some_base;
  number = let n = s.number in let a = ap length l.bases in let b = l.memtable in omega arith;
  from = s.from;
  upto = let u = s.upto in let e = end_of-later g h bases l in omega arith;
}

Fits-later : (g h : PenPart) (x : Part) → IsLater g h → pens x ≡ 0 → Fits g x → Fits h x
Fits-later g h (part.Pen p) l none f = absurd (omega arith)
Fits-later g h (part.Leaf t) l none f = record {
  stands = Stands-later g h t.memtable t.bases t.list l f.stands;
  has = (λ i. entries_in t (take (end_of-later g h t.bases l i) (l.list i))) ∙ f.has;
}
Fits-later g h (part.Pass a) l none f = record {
  stands = Stands-later g h a.memtable a.bases a.seen l f.stands;
  calls = ap (λ x. calls_of x a.caller) l.list ∙ f.calls;
  seen_calls = f.seen_calls;
  safe = let s = l.safe in let q = f.safe in omega arith;
  told = let s = l.failed in let q = f.told in omega arith;
}
Fits-later g h (part.Note t) l none f = record {
  stands = Stands-later g h t.memtable t.bases t.list l f.stands;
  safe = let s = l.safe in let q = f.safe in omega arith;
}
Fits-later g h (part.Keeper k) l none f = tt
Fits-later g h (part.Live k) l none f = tt

pub Fits-later_all : (g h : PenPart) (xs : List Part) → IsLater g h → weigh pens xs ≡ 0 → AllByRecursion (Fits g) xs → AllByRecursion (Fits h) xs
Fits-later_all g h [] l none f = tt
Fits-later_all g h (x ∷ xs) l none f = (Fits-later g h x l (omega arith) f.0, Fits-later_all g h xs l (omega arith) f.1)

-- ---- the safe place

pub Goes-settle : (upto first : ℕ) (v : List Part) → CanSettle upto first v → Goes (Sound first) v (λ n. n) (Settles upto first v)
Goes-settle upto first (part.Pen p ∷ []) can n others s =
    let w = SoundWith-pen first n p others s in
    let r = w.1 in
    let h = pen_settled p upto in
    let none : weigh pens others ≡ 0 = let o = r.shared.one_pen in omega arith in
    let later : IsLater p h = record { list = refl; bases = refl; memtable = refl; safe = omega arith; failed = omega arith } in
    let q = r.shared in (
      part.Pen h ∷ [],
      record {
        pen = h;
        keeper = w.0;
        rule = record {
          word_is = r.word_is;
          well = record {
            room = r.well.room;
            fair = r.well.fair;
            ended = r.well.ended;
            safe = let u = r.well.safe in omega arith;
            some_base = r.well.some_base;
            bases = all-weaker (λ b. b ≤ p.safe) (λ b. b ≤ h.safe) (λ b u. omega arith) p.bases r.well.bases;
            climbs = r.well.climbs;
          };
          shared = record { one_pen = q.one_pen; one_keeper = q.one_keeper; made = q.made; unmade = q.unmade; apart = q.apart };
          fit = (refl, Fits-later_all p h others later none r.fit.1);
          upto = r.upto;
        };
      },
      (refl, let u = r.well.safe in omega arith),
    )
Goes-settle upto first v can n others s = absurd can

-- ---- one more failure is told to a pass

pub Goes-fail : (failed first : ℕ) (v : List Part) → CanFail failed first v → Goes (Sound first) v (λ n. n) (Fails failed first v)
Goes-fail failed first (part.Pen p ∷ part.Pass a ∷ []) can n others s =
    let w = SoundWith-pen first n p (part.Pass a ∷ others) s in
    let r = w.1 in
    let h = pen_failed p failed in
    let b = pass_failed a failed in
    let pass = r.fit.1.0 in
    let none : weigh pens others ≡ 0 = let o = r.shared.one_pen in omega arith in
    let later : IsLater p h = record { list = refl; bases = refl; memtable = refl; safe = omega arith; failed = omega arith } in
    let fits : PassFits h b = record { stands = Stands-later p h a.memtable a.bases a.seen later pass.stands; calls = pass.calls; seen_calls = pass.seen_calls; safe = pass.safe; told = omega arith } in
    let q = r.shared in (
      part.Pen h ∷ part.Pass b ∷ [],
      record {
        pen = h;
        keeper = w.0;
        rule = record {
          word_is = r.word_is;
          well = IsWell-same first p p.memtable p.live p.next failed p.made r.well;
          shared = record { one_pen = q.one_pen; one_keeper = q.one_keeper; made = q.made; unmade = q.unmade; apart = q.apart };
          fit = (refl, (fits, Fits-later_all p h others later none r.fit.1.1));
          upto = (r.upto.0, (r.upto.1.0, r.upto.1.1));
        };
      },
      (refl, pass.told),
    )
Goes-fail failed first v can n others s = absurd can

-- ---- the pen makes the next caller's pass

-- that caller has no call, and its pass has seen all
pub Goes-make : (first : ℕ) (v : List Part) → CanMake first v → Goes (Sound first) v (λ n. n) (Makes first v)
Goes-make first (part.Pen p ∷ []) can n others s =
    let w = SoundWith-pen first n p others s in
    let r = w.1 in
    let h = pen_made p in
    let a = pass_made p in
    let none : weigh pens others ≡ 0 = let o = r.shared.one_pen in omega arith in
    let later : IsLater p h = record { list = refl; bases = refl; memtable = refl; safe = omega arith; failed = omega arith } in
    let no_call = (r.shared.unmade p.made (omega arith)).1 in
    let well = IsWell-same first p p.memtable p.live p.next p.failed h.made r.well in
    let fits : PassFits h a = record { stands = Stands-whole first h well; calls = no_call; seen_calls = no_call; safe = omega arith; told = omega arith } in (
      part.Pen h ∷ part.Pass a ∷ [],
      record {
        pen = h;
        keeper = w.0;
        rule = record {
          word_is = r.word_is;
          well = well;
          shared = record {
            one_pen = let o = r.shared.one_pen in omega arith;
            one_keeper = let o = r.shared.one_keeper in omega arith;
            made = λ c below. made_by r.shared c below (ℕ_discrete p.made c);
            unmade = λ c above. (
              let u = (r.shared.unmade c (omega arith)).0 in let z : one_if (p.made == c) ≡ 0 = ap one_if (ne_eqb p.made c (λ e. omega arith)) in omega arith,
              (r.shared.unmade c (omega arith)).1,
            );
            apart = λ m key. let q = r.shared.apart m key in omega arith;
          };
          fit = (refl, (fits, Fits-later_all p h others later none r.fit.1));
          upto = (r.upto.0, (omega arith, r.upto.1));
        };
      },
      (refl, no_call),
    )
  where
    made_by : IsShared p (part.Pen p ∷ others) → (c : ℕ) → c < p.made + 1 → Dec (p.made ≡ c) → weigh (passes c) (part.Pen (pen_made p) ∷ part.Pass (pass_made p) ∷ others) + weigh (ends c) p.ended ≡ 1
    made_by h c below (yes e) = let o : one_if (p.made == c) ≡ 1 = ap one_if (eq-eqb p.made c e) in let u = (h.unmade c (omega arith)).0 in omega arith
    made_by h c below (no ne) = let z : one_if (p.made == c) ≡ 0 = ap one_if (ne_eqb p.made c ne) in let m = h.made c (omega (arith, ne)) in omega arith
Goes-make first v can n others s = absurd can

-- ---- a pass sees all that the pen knows

pub Goes-catch : (first : ℕ) (v : List Part) → CanCatch first v → Goes (Sound first) v (λ n. n) (Catches first v)
Goes-catch first (part.Pen p ∷ part.Pass a ∷ []) can n others s =
    let w = SoundWith-pen first n p (part.Pass a ∷ others) s in
    let r = w.1 in
    let b = pass_caught a p in
    let pass = r.fit.1.0 in
    let fits : PassFits p b = record { stands = Stands-whole first p r.well; calls = pass.calls; seen_calls = pass.calls; safe = omega arith; told = pass.told } in
    let q = r.shared in (
      part.Pen p ∷ part.Pass b ∷ [],
      record {
        pen = p;
        keeper = w.0;
        rule = record {
          word_is = r.word_is;
          well = r.well;
          shared = record { one_pen = q.one_pen; one_keeper = q.one_keeper; made = q.made; unmade = q.unmade; apart = q.apart };
          fit = (refl, (fits, r.fit.1.1));
          upto = (r.upto.0, (r.upto.1.0, r.upto.1.1));
        };
      },
      (refl, pass.stands.list_is, pass.calls, pass.safe, GoesOn-pen p a.memtable a.bases a.seen pass.stands),
    )
Goes-catch first v can n others s = absurd can

-- ---- a pass ends, and leaves its calls with the pen

pub Goes-end : (first : ℕ) (v : List Part) → CanEnd first v → Goes (Sound first) v (λ n. n) (Ends first v)
Goes-end first (part.Pen p ∷ part.Pass a ∷ []) can n others s =
    let w = SoundWith-pen first n p (part.Pass a ∷ others) s in
    let r = w.1 in
    let h = pen_ended p a in
    let pass = r.fit.1.0 in
    let none : weigh pens others ≡ 0 = let o = r.shared.one_pen in omega arith in
    let later : IsLater p h = record { list = refl; bases = refl; memtable = refl; safe = omega arith; failed = omega arith } in
    let has_calls = λ (e : Ended). calls_of p.list e.caller ≡ e.calls in
    let t : Ended = record { caller = a.caller; calls = a.own } in
    let ended : AllByRecursion has_calls h.ended = all-append has_calls p.ended (t ∷ []) r.well.ended (pass.calls, tt) in
    let more = λ (c : ℕ). weigh-append (ends c) p.ended (t ∷ []) in
    let mine : one_if (a.caller == a.caller) ≡ 1 = ap one_if (eq-eqb a.caller a.caller refl) in
    let sole = passes-alone p a.caller (part.Pen p ∷ part.Pass a ∷ others) (weigh (passes a.caller) others) r.shared (omega arith) (dec_le p.made a.caller) in (
      part.Pen h ∷ [],
      record {
        pen = h;
        keeper = w.0;
        rule = record {
          word_is = r.word_is;
          well = record { room = r.well.room; fair = r.well.fair; ended = ended; safe = r.well.safe; some_base = r.well.some_base; bases = r.well.bases; climbs = r.well.climbs };
          shared = record {
            one_pen = let o = r.shared.one_pen in omega arith;
            one_keeper = let o = r.shared.one_keeper in omega arith;
            made = λ c below. let m = r.shared.made c below in omega (arith, more c);
            unmade = λ c above. (let m = (r.shared.unmade c above).0 in omega (arith, more c), (r.shared.unmade c above).1);
            apart = λ m key. let q = r.shared.apart m key in omega arith;
          };
          fit = (refl, Fits-later_all p h others later none r.fit.1.1);
          upto = ((r.upto.0.0, let q = r.upto.0.1 in let u = r.upto.1.0 in omega arith), r.upto.1.1);
        };
      },
      (
        refl,
        pass.stands.list_is,
        pass.calls,
        pass.safe,
        pass.told,
        r.word_is,
        record { fair = r.well.fair; ended = ended; unmade = λ c above. (r.shared.unmade c above).1 },
        record { made = sole.0; ended = ends-none a.caller p.ended sole.2 },
        GoesOn-pen p a.memtable a.bases a.seen pass.stands,
      ),
    )
Goes-end first v can n others s = absurd can
