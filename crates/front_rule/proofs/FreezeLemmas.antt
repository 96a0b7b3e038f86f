-- The open memtable ends and the next one begins: the rule is kept. To know: `Goes-freeze`.
use Rattle.std.proofs.Common.{◌≡◌, ℕ, ◌+◌, ◌≤◌, ◌<◌, ◌^◌, ◌%◌, ◌==◌, ◌&&◌, Bool, true, false, None, List, [], ◌∷◌, length, take, refl, ap, ◌∙◌, subst, arith, length-append, ne_eqb}
use Rattle.std.specs.List.{AllByRecursion}
use Rattle.std.proofs.lemmas.List.{take_all}
use Rattle.std.proofs.Math.Nat.{mod-eq_of_lt}
use native.Mathlib.Decide.{ℕ_discrete}
use Rattle.seat_parts.specs.Seats.{weigh, Goes}
use Rattle.rdb_base.specs.Ranges.{in_range}
use Rattle.rdb_base.specs.declared.entry.Entry.{Entry}
use Rattle.rdb_base.proofs.Lists.{all-append}
use Rattle.rdb_base.proofs.PrefixLemmas.{prefix_more, prefix_length}
use Rattle.front_rule.specs.Parts.{one_if, pens, covers, end_of, entries_in, Stands}
use Rattle.front_rule.specs.Rule.{LeafFits, Fits, IsWell, SoundWith, Sound}
use Rattle.front_rule.specs.Known.{pen_frozen, leaf_first}
use Rattle.front_rule.specs.Steps.{CanFreeze, Freezes}
use Rattle.front_rule.specs.declared.parts.PenPart.{PenPart}
use Rattle.front_rule.specs.declared.parts.LivePart.{LivePart}
use Rattle.front_rule.specs.declared.parts.Part.{Part}
use Rattle.front_rule.specs.declared.parts.Part.TheVariants as part
use Rattle.front_rule.proofs.BaseLemmas.{get_or-past, get_or-push, Climbs-push}
use Rattle.front_rule.proofs.RuleLemmas.{SoundWith-pen}
use Rattle.front_rule.proofs.StandsLemmas.{Stands-whole}

-- ---- what other seats know stays true

-- no memtable's end moves: where the open one ended with the list, it ends at the next one's base
end_of-frozen : (g : PenPart) (bases : List ℕ) → end_of (pen_frozen g) bases ≡ end_of g bases
end_of-frozen g bases = get_or-push g.bases (length g.list) (length bases)

Stands-frozen : (g : PenPart) (m : ℕ) (bases : List ℕ) (list : List Entry) → Stands g m bases list → Stands (pen_frozen g) m bases list
Stands-frozen g m bases list s = record {
  list_is = s.list_is;
  bases_is = prefix_more bases g.bases (length g.list ∷ []) s.bases_is;
  some_base = s.some_base;
  number = let n = s.number in omega (arith, length-append g.bases (length g.list ∷ []));
  from = s.from;
  upto = let u = s.upto in let e = end_of-frozen g bases in omega arith;
}

Fits-frozen : (g : PenPart) (x : Part) → pens x ≡ 0 → Fits g x → Fits (pen_frozen g) x
Fits-frozen g (part.Pen p) none f = absurd (omega arith)
Fits-frozen g (part.Leaf t) none f = record {
  stands = Stands-frozen g t.memtable t.bases t.list f.stands;
  has = ap (λ k. entries_in t (take k g.list)) (end_of-frozen g t.bases) ∙ f.has;
}
Fits-frozen g (part.Pass a) none f = record { stands = Stands-frozen g a.memtable a.bases a.seen f.stands; calls = f.calls; seen_calls = f.seen_calls; safe = f.safe; told = f.told }
Fits-frozen g (part.Note t) none f = record { stands = Stands-frozen g t.memtable t.bases t.list f.stands; safe = f.safe }
Fits-frozen g (part.Keeper k) none f = tt
Fits-frozen g (part.Live k) none f = tt

Fits-frozen_all : (g : PenPart) (xs : List Part) → weigh pens xs ≡ 0 → AllByRecursion (Fits g) xs → AllByRecursion (Fits (pen_frozen g)) xs
Fits-frozen_all g [] none f = tt
Fits-frozen_all g (x ∷ xs) none f = (Fits-frozen g x (omega arith) f.0, Fits-frozen_all g xs (omega arith) f.1)

-- ---- the new leaf is alone in its memtable

one_if-off : (x y : Bool) → x ≡ false → one_if (x && y) ≡ 0
one_if-off true y h = absurd cc
one_if-off false y h = refl

one_if-most : (b : Bool) → one_if b ≤ 1
one_if-most true = omega arith
one_if-most false = omega arith

-- no leaf is of a memtable after the open one
covers-ahead : (g : PenPart) (m : ℕ) (key : List ℕ) (xs : List Part) → g.memtable < m → AllByRecursion (Fits g) xs → weigh (covers m key) xs ≡ 0
covers-ahead g m key [] ahead f = refl
covers-ahead g m key (part.Pen p ∷ xs) ahead f = let r = covers-ahead g m key xs ahead f.1 in omega arith
covers-ahead g m key (part.Leaf l ∷ xs) ahead f =
    let r = covers-ahead g m key xs ahead f.1 in
    let s = f.0.stands in
    let below : l.memtable ≤ g.memtable = let n = s.number in let p = prefix_length l.bases g.bases s.bases_is in omega arith in
    let off : one_if ((l.memtable == m) && in_range l.low l.high key) ≡ 0 = one_if-off (l.memtable == m) (in_range l.low l.high key) (ne_eqb l.memtable m (λ e. omega arith)) in omega arith
covers-ahead g m key (part.Pass a ∷ xs) ahead f = let r = covers-ahead g m key xs ahead f.1 in omega arith
covers-ahead g m key (part.Note t ∷ xs) ahead f = let r = covers-ahead g m key xs ahead f.1 in omega arith
covers-ahead g m key (part.Keeper k ∷ xs) ahead f = let r = covers-ahead g m key xs ahead f.1 in omega arith
covers-ahead g m key (part.Live k ∷ xs) ahead f = let r = covers-ahead g m key xs ahead f.1 in omega arith

-- ---- the step

IsWell-frozen : (first : ℕ) (p : PenPart) → p.safe ≡ length p.list → IsWell first p → IsWell first (pen_frozen p)
IsWell-frozen first p safe w = record {
  room = w.room;
  fair = w.fair;
  ended = w.ended;
  safe = w.safe;
  some_base = omega (arith, length-append p.bases (length p.list ∷ []));
  bases = all-append (λ (b : ℕ). b ≤ p.safe) p.bases (length p.list ∷ []) w.bases (omega arith, tt);
  climbs = Climbs-push 0 p.bases (length p.list) w.climbs (subst (λ (k : ℕ). AllByRecursion (λ b. b ≤ k) p.bases) safe w.bases) (omega arith);
}

pub Goes-freeze : (first : ℕ) (v : List Part) → CanFreeze first v → Goes (Sound first) v (λ n. (n + 0) % 2 ^ 64) (Freezes first v)
Goes-freeze first (part.Pen p ∷ []) can n others s =
    let w = SoundWith-pen first n p others s in
    let r = w.1 in
    let h = pen_frozen p in
    let l = leaf_first p in
    let none : weigh pens others ≡ 0 = let o = r.shared.one_pen in omega arith in
    let well = IsWell-frozen first p can r.well in
    let last : end_of h l.bases ≡ length p.list = get_or-past h.bases (length l.bases) (length p.list) (omega arith) in
    let leaf : LeafFits h l = record { stands = Stands-whole first h well; has = ap (λ k. entries_in l (take k p.list)) last ∙ ap (entries_in l) (take_all (length p.list) p.list (omega arith)) } in (
      part.Pen h ∷ part.Leaf l ∷ [],
      record {
        pen = h;
        keeper = w.0;
        rule = record {
          word_is = let q = r.word_is in let room = r.well.room in let same : n + 0 ≡ n = omega arith in ap (λ k. k % 2 ^ 64) same ∙ mod-eq_of_lt (omega arith) ∙ q;
          well = well;
          shared = record {
            one_pen = let o = r.shared.one_pen in omega arith;
            one_keeper = let o = r.shared.one_keeper in omega arith;
            made = λ c below. let m = r.shared.made c below in omega arith;
            unmade = λ c above. (let u = (r.shared.unmade c above).0 in omega arith, (r.shared.unmade c above).1);
            apart = λ m key. apart_by r m key (ℕ_discrete (p.memtable + 1) m);
          };
          fit = (refl, (leaf, Fits-frozen_all p others none r.fit.1));
          upto = (r.upto.0, (tt, r.upto.1));
        };
      },
      (refl, r.word_is),
    )
  where
    apart_by : {k : LivePart} → SoundWith first n p k (part.Pen p ∷ others) → (m : ℕ) (key : List ℕ) → Dec (p.memtable + 1 ≡ m) → weigh (covers m key) (part.Pen (pen_frozen p) ∷ part.Leaf (leaf_first p) ∷ others) ≤ 1
    apart_by r m key (yes e) =
        let z = covers-ahead p m key others (omega arith) r.fit.1 in
        let o = one_if-most ((p.memtable + 1 == m) && in_range [] None key) in omega arith
    apart_by r m key (no ne) =
        let q = r.shared.apart m key in
        let z = one_if-off (p.memtable + 1 == m) (in_range [] None key) (ne_eqb (p.memtable + 1) m ne) in omega arith
Goes-freeze first v can n others s = absurd can
