-- A leaf's range is cut in two: the rule is kept. To know: `Goes-cut`.
use Rattle.std.proofs.Common.{◌≡◌, ℕ, ◌+◌, ◌≤◌, ◌==◌, ◌&&◌, Bool, true, false, List, [], ◌∷◌, take, drop, refl, ap, sym, ◌∙◌, arith, Option, Some}
use Rattle.std.specs.List.{filter}
use Rattle.seat_parts.specs.Seats.{Goes}
use Rattle.rdb_base.specs.Ranges.{in_range}
use Rattle.rdb_base.specs.declared.entry.Entry.{Entry}
use Rattle.rdb_base.proofs.PrefixLemmas.{filter-narrower}
use Rattle.rdb_base.proofs.RangeLemmas.{left_in, right_in, not_both}
use Rattle.front_rule.specs.Parts.{one_if, base_of, end_of, entries_in}
use Rattle.front_rule.specs.Rule.{LeafFits, Sound}
use Rattle.front_rule.specs.Known.{left_of, right_of}
use Rattle.front_rule.specs.Steps.{CanCut, Cuts}
use Rattle.front_rule.specs.declared.parts.PenPart.{PenPart}
use Rattle.front_rule.specs.declared.parts.LeafPart.{LeafPart}
use Rattle.front_rule.specs.declared.parts.Part.{Part}
use Rattle.front_rule.specs.declared.parts.Part.TheVariants as part

-- of two tests that hold nowhere together, and only where a third does, at most one counts where the third does
one_if-parts : (x y z : Bool) → (x ≡ true → z ≡ true) → (y ≡ true → z ≡ true) → (x ≡ true → y ≡ true → ⊥) → (m : Bool) → one_if (m && x) + one_if (m && y) ≤ one_if (m && z)
one_if-parts x y z f g h false = omega arith
one_if-parts true true z f g h true = absurd (h refl refl)
one_if-parts true false z f g h true = let e : one_if z ≡ 1 = ap one_if (f refl) in omega arith
one_if-parts false true z f g h true = let e : one_if z ≡ 1 = ap one_if (g refl) in omega arith
one_if-parts false false z f g h true = omega arith

-- a leaf with a part of the range has all entries of that part
LeafFits-part : (g : PenPart) (l : LeafPart) (low : List ℕ) (high : Option (List ℕ)) → ((key : List ℕ) → in_range low high key ≡ true → in_range l.low l.high key ≡ true) → LeafFits g l
    → LeafFits g (record l { low = low; high = high })
unfolding entries_in
LeafFits-part g l low high inside f =
    let wide = λ (e : Entry). in_range l.low l.high e.key in
    let narrow = λ (e : Entry). in_range low high e.key in
    let xs = drop (base_of l.bases) (take (end_of g l.bases) g.list) in
    let ys = drop (base_of l.bases) l.list in
    record {
      stands = f.stands;
      has = sym (filter-narrower wide narrow (λ e. inside e.key) xs) ∙ ap (filter narrow) f.has ∙ filter-narrower wide narrow (λ e. inside e.key) ys;
    }

pub Goes-cut : (at : List ℕ) (first : ℕ) (v : List Part) → CanCut at first v → Goes (Sound first) v (λ n. n) (Cuts at first v)
Goes-cut at first (part.Leaf l ∷ []) can n others s =
    let g = s.pen in
    let r = s.rule in
    let in_left = λ (key : List ℕ). left_in l.low l.high at key can in
    let in_right = λ (key : List ℕ). right_in l.low l.high at key can in (
      part.Leaf (left_of l at) ∷ part.Leaf (right_of l at) ∷ [],
      record {
        pen = g;
        keeper = s.keeper;
        rule = record {
          word_is = r.word_is;
          well = r.well;
          shared = record {
            one_pen = let o = r.shared.one_pen in omega arith;
            one_keeper = let o = r.shared.one_keeper in omega arith;
            made = λ c below. let m = r.shared.made c below in omega arith;
            unmade = λ c above. (let u = (r.shared.unmade c above).0 in omega arith, (r.shared.unmade c above).1);
            apart = λ m key. let a = r.shared.apart m key in
                let p = one_if-parts (in_range l.low (Some at) key) (in_range at l.high key) (in_range l.low l.high key)
                (in_left key) (in_right key) (not_both l.low l.high at key) (l.memtable == m) in omega arith;
          };
          fit = (LeafFits-part g l l.low (Some at) in_left r.fit.0, (LeafFits-part g l at l.high in_right r.fit.0, r.fit.1));
          upto = (tt, (tt, r.upto.1));
        };
      },
      refl,
    )
Goes-cut at first v can n others s = absurd can
