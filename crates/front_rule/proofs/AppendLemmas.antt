-- One more entry keeps the rule. To know: `Goes-append`.
use Rattle.std.proofs.Common.{◌≡◌, ℕ, ◌+◌, ◌≤◌, ◌<◌, ◌^◌, ◌%◌, ◌==◌, ◌&&◌, Bool, true, false, List, [], ◌∷◌, ◌++◌, length, take, refl, ap, sym, ◌∙◌, subst, arith, length-append, eq-eqb, lt_of_not-le}
use Rattle.std.specs.List.{AllByRecursion}
use Rattle.std.proofs.lemmas.List.{take-append-le, take_all}
use Rattle.std.proofs.lemmas.Bool.Decides.{nat_tests}
use Rattle.std.proofs.Math.Nat.{mod-eq_of_lt}
use native.Mathlib.Decide.{dec_le}
use Rattle.seat_parts.specs.Seats.{weigh, Goes}
use Rattle.rdb_base.specs.Histories.{calls_of}
use Rattle.rdb_base.specs.declared.entry.Entry.{Entry}
use Rattle.rdb_base.specs.Ranges.{in_range}
use Rattle.front_rule.specs.Parts.{one_if, pens, passes, ends, covers, base_of, end_of, entries_in, Stands}
use Rattle.front_rule.specs.Rule.{LeafFits, Fits, IsWell, Sound}
use Rattle.front_rule.specs.Known.{pen_with, leaf_after, pass_with}
use Rattle.front_rule.specs.Steps.{three, CanAppend, Appends}
use Rattle.front_rule.specs.declared.parts.PenPart.{PenPart}
use Rattle.front_rule.specs.declared.parts.LeafPart.{LeafPart}
use Rattle.front_rule.specs.declared.parts.PassPart.{PassPart}
use Rattle.front_rule.specs.declared.parts.Part.{Part}
use Rattle.front_rule.specs.declared.parts.Part.TheVariants as part
use Rattle.rdb_base.proofs.PrefixLemmas.{prefix_more, prefix_length, prefix_whole, filter-push_other, filter-push_own}
use Rattle.front_rule.proofs.BaseLemmas.{get_or-all, get_or-past, get_or-within, get_or-greater}
use Rattle.front_rule.proofs.CallLemmas.{one_if-zero, calls_of-more_other, calls_of-more_own, calls_of-more_ended, IsFair-more}
use Rattle.front_rule.proofs.RuleLemmas.{SoundWith-pen, passes-alone}
use Rattle.front_rule.proofs.StandsLemmas.{Stands-whole, Stands-open, GoesOn-pen, entries_in-open}

-- ---- what other seats know stays true

-- a memtable's end moves only where the memtable is open
end_of-more : (g : PenPart) (e : Entry) (bases : List ℕ) → end_of g bases ≤ end_of (pen_with g e) bases
end_of-more g e bases = get_or-greater g.bases (length bases) (length g.list) (length (g.list ++ e ∷ [])) (omega (arith, length-append g.list (e ∷ [])))

Stands-more : (g : PenPart) (e : Entry) (m : ℕ) (bases : List ℕ) (list : List Entry) → Stands g m bases list → Stands (pen_with g e) m bases list
Stands-more g e m bases list s = record {
  list_is = prefix_more list g.list (e ∷ []) s.list_is;
  bases_is = s.bases_is;
  some_base = s.some_base;
  number = s.number;
  from = s.from;
  upto = let h = end_of-more g e bases in let u = s.upto in omega arith;
}

-- a leaf that does not have the key in its range, or whose memtable has ended
entries_in-more_other : (first : ℕ) (g : PenPart) (e : Entry) (l : LeafPart) → IsWell first g → covers g.memtable e.key (part.Leaf l) ≡ 0 → LeafFits g l → Dec (length g.bases ≤ length l.bases)
    → entries_in l (take (end_of (pen_with g e) l.bases) (g.list ++ e ∷ [])) ≡ entries_in l l.list
unfolding entries_in
entries_in-more_other first g e l well none f (no closed) =
    let below : length l.bases < length g.bases = lt_of_not-le closed in
    let same : end_of (pen_with g e) l.bases ≡ end_of g l.bases = get_or-within g.bases (length l.bases) _ _ below in
    let within : end_of g l.bases ≤ g.safe = get_or-all (λ b. b ≤ g.safe) g.bases (length l.bases) (length g.list) well.bases below in
    let fits : end_of g l.bases ≤ length g.list = let w = well.safe in omega arith in
    ap (entries_in l) (ap (λ k. take k (g.list ++ e ∷ [])) same ∙ take-append-le (end_of g l.bases) g.list (e ∷ []) fits) ∙ f.has
entries_in-more_other first g e l well none f (yes opened) =
    let s = f.stands in
    let all = prefix_whole l.bases g.bases s.bases_is opened in
    let number : l.memtable ≡ g.memtable = let n = s.number in let k = ap length all in omega arith in
    let here : (l.memtable == g.memtable) ≡ true = eq-eqb l.memtable g.memtable number in
    let out : in_range l.low l.high e.key ≡ false = subst (λ (b : Bool). b && in_range l.low l.high e.key ≡ false) here (one_if-zero _ none) in
    let le : base_of l.bases ≤ length g.list = let b = s.from in let p = prefix_length l.list g.list s.list_is in omega arith in
    let now : end_of (pen_with g e) l.bases ≡ length (g.list ++ e ∷ []) = get_or-past g.bases (length l.bases) _ opened in
    let was : end_of g l.bases ≡ length g.list = get_or-past g.bases (length l.bases) _ opened in
    ap (entries_in l) (ap (λ k. take k (g.list ++ e ∷ [])) now ∙ take_all _ (g.list ++ e ∷ []) (omega arith))
    ∙ filter-push_other (λ (x : Entry). in_range l.low l.high x.key) (base_of l.bases) g.list e le out
    ∙ ap (entries_in l) (sym (ap (λ k. take k g.list) was ∙ take_all _ g.list (omega arith)))
    ∙ f.has

-- a part that is no pen, no pass of the caller's and no open leaf with the key
Fits-more : (first : ℕ) (g : PenPart) (e : Entry) (x : Part) → IsWell first g → pens x ≡ 0 → passes e.caller x ≡ 0 → covers g.memtable e.key x ≡ 0 → Fits g x → Fits (pen_with g e) x
Fits-more first g e (part.Pen p) well pen pass leaf f = absurd (omega arith)
Fits-more first g e (part.Leaf l) well pen pass leaf f = record {
  stands = Stands-more g e l.memtable l.bases l.list f.stands;
  has = entries_in-more_other first g e l well leaf f (dec_le (length g.bases) (length l.bases));
}
Fits-more first g e (part.Pass a) well pen pass leaf f = record {
  stands = Stands-more g e a.memtable a.bases a.seen f.stands;
  calls = calls_of-more_other g.list e a.caller pass ∙ f.calls;
  seen_calls = f.seen_calls;
  safe = f.safe;
  told = f.told;
}
Fits-more first g e (part.Note t) well pen pass leaf f = record { stands = Stands-more g e t.memtable t.bases t.list f.stands; safe = f.safe }
Fits-more first g e (part.Keeper k) well pen pass leaf f = tt
Fits-more first g e (part.Live l) well pen pass leaf f = tt

Fits-more_all : (first : ℕ) (g : PenPart) (e : Entry) (xs : List Part) → IsWell first g → weigh pens xs ≡ 0 → weigh (passes e.caller) xs ≡ 0 → weigh (covers g.memtable e.key) xs ≡ 0
    → AllByRecursion (Fits g) xs → AllByRecursion (Fits (pen_with g e)) xs
Fits-more_all first g e [] well pen pass leaf f = tt
Fits-more_all first g e (x ∷ xs) well pen pass leaf f =
    (Fits-more first g e x well (omega arith) (omega arith) (omega arith) f.0, Fits-more_all first g e xs well (omega arith) (omega arith) (omega arith) f.1)

-- ---- the list itself

IsWell-more : (first : ℕ) (p : PenPart) (a : PassPart) (e : Entry) → IsWell first p → calls_of p.list a.caller ≡ a.own → e.caller ≡ a.caller → e.ordinal ≡ length a.own → first + length p.list < 2 ^ 62
    → weigh (ends e.caller) p.ended ≡ 0 → IsWell first (pen_with p e)
IsWell-more first p a e well own caller ordinal room none = record {
  room = omega (arith, length-append p.list (e ∷ []));
  fair = IsFair-more p.list e a.own well.fair (ap (calls_of p.list) caller ∙ own) ordinal;
  ended = calls_of-more_ended p.list e p.ended none well.ended;
  safe = let s = well.safe in omega (arith, length-append p.list (e ∷ []));
  some_base = well.some_base;
  bases = well.bases;
  climbs = well.climbs;
}

-- ---- who else could have the caller, or the key

and-true : (x y : Bool) → x ≡ true → y ≡ true → x && y ≡ true
and-true true y h k = k
and-true false y h k = absurd cc

one_if-turned : (a b c : ℕ) → c ≡ a → one_if (a == b) ≡ 0 → one_if (b == c) ≡ 0
one_if-turned a b c same h =
    let apart : (a == b) ≡ false = one_if-zero (a == b) h in
    let off : (b == c) ≡ false = grind (arith, nat_tests) in
    ap one_if off

-- ---- the step

Goes-append_three : (first : ℕ) (e : Entry) (p : PenPart) (l : LeafPart) (a : PassPart) → CanAppend first e (three p l a)
    → Goes (Sound first) (three p l a) (λ n. (n + 1) % 2 ^ 64) (Appends first e (three p l a))
unfolding entries_in
Goes-append_three first e p l a (memtable, range, caller, ordinal, room) n others s =
    let h = SoundWith-pen first n p (part.Leaf l ∷ part.Pass a ∷ others) s in
    let r = h.1 in
    let shared = r.shared in
    let leaf = r.fit.1.0 in
    let pass = r.fit.1.1.0 in
    let g = pen_with p e in
    let list = p.list ++ e ∷ [] in
    let no_pen : weigh pens others ≡ 0 = let o = shared.one_pen in omega arith in
    let mine : one_if (a.caller == e.caller) ≡ 1 = ap one_if (eq-eqb a.caller e.caller (sym caller)) in
    let sole = passes-alone p e.caller (three p l a ++ others) (weigh (passes e.caller) others) shared (omega arith) (dec_le p.made e.caller) in
    let here : (l.memtable == p.memtable) ≡ true = eq-eqb l.memtable p.memtable memtable in
    let covering : covers p.memtable e.key (part.Leaf l) ≡ 1 = ap one_if (and-true (l.memtable == p.memtable) (in_range l.low l.high e.key) here range) in
    let no_leaf : weigh (covers p.memtable e.key) others ≡ 0 = let o = shared.apart p.memtable e.key in omega arith in
    let now = IsWell-more first p a e r.well pass.calls caller ordinal room sole.2 in
    let whole = Stands-whole first g now in
    let bases = Stands-open p l.memtable l.bases l.list leaf.stands memtable in
    let leaf_whole : Stands g l.memtable l.bases list = subst (λ (b : ℕ × List ℕ). Stands g b.0 b.1 list) (λ i. (sym memtable i, sym bases i)) whole in
    let last : end_of g l.bases ≡ length list = ap (λ b. end_of g b) bases ∙ get_or-past g.bases (length g.bases) (length list) (omega arith) in
    let all : entries_in l (take (end_of g l.bases) list) ≡ entries_in l list = ap (entries_in l) (ap (λ j. take j list) last ∙ take_all (length list) list (omega arith)) in
    let later : length list ≡ length p.list + 1 = omega (arith, length-append p.list (e ∷ [])) in
    let own : calls_of list a.caller ≡ a.own ++ e ∷ [] = calls_of-more_own p.list e a.caller caller ∙ ap (λ x. x ++ e ∷ []) pass.calls in
    let within : base_of l.bases ≤ length p.list = let f = leaf.stands.from in let q = prefix_length l.list p.list leaf.stands.list_is in omega arith in (
      three g (leaf_after l list) (pass_with a p e),
      record {
        pen = g;
        keeper = h.0;
        rule = record {
          word_is = let w = r.word_is in mod-eq_of_lt (omega arith) ∙ omega arith;
          well = now;
          shared = record {
            one_pen = shared.one_pen;
            one_keeper = shared.one_keeper;
            made = shared.made;
            unmade = λ c above. (
              (shared.unmade c above).0,
              calls_of-more_other p.list e c (one_if-turned a.caller c e.caller caller (let u = (shared.unmade c above).0 in omega arith)) ∙ (shared.unmade c above).1,
            );
            apart = shared.apart;
          };
          fit = (
            refl,
            (
              record { stands = leaf_whole; has = all },
              (
                record { stands = whole; calls = own; seen_calls = own; safe = pass.safe; told = pass.told },
                Fits-more_all first p e others r.well no_pen sole.1 no_leaf r.fit.1.1.1,
              ),
            ),
          );
          upto = r.upto;
        };
      },
      (
        refl,
        r.word_is,
        pass.stands.list_is,
        leaf.stands.list_is,
        filter-push_own (λ (x : Entry). in_range l.low l.high x.key) (base_of l.bases) p.list e within range ∙ ap (λ x. x ++ e ∷ []) (entries_in-open p l leaf bases),
        own,
        bases,
        GoesOn-pen p a.memtable a.bases a.seen pass.stands,
      ),
    )

pub Goes-append : (first : ℕ) (e : Entry) (v : List Part) → CanAppend first e v → Goes (Sound first) v (λ n. (n + 1) % 2 ^ 64) (Appends first e v)
Goes-append first e (part.Pen p ∷ part.Leaf l ∷ part.Pass a ∷ []) can = Goes-append_three first e p l a can
Goes-append first e v can = absurd can
