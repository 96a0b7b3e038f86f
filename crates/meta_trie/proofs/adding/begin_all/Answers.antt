use Rattle.std.proofs.Common.{◌+◌, ℕ, take, sym, ◌∙◌, subst, arith, inl, inr}
use Rattle.meta_trie.specs.Growths.{BegunAt}
use Rattle.meta_trie.proofs.FrontLemmas.{keep-begun, above-next, take-differ}
use Rattle.meta_trie.proofs.PopLemmas.{popped}
use Rattle.meta_trie.proofs.adding.begin_all.Goals as goal

pub begin_at-requires-clause-made : goal.begin_at-requires-clause-made
begin_at-requires-clause-made c = (popped (λ v. v.items) c.args.anchor.now c.args.len c.fronts.left c.fronts.prefixes.items c.pop.new.self.items c.in-Some.prefix c.fronts-test.true c.fronts.invariant.made c.in-Some.ensures.items).0

pub begin_at-requires-clause-absent : goal.begin_at-requires-clause-absent
begin_at-requires-clause-absent c =
    let anchor = c.args.anchor.now in
    let k = c.args.len + c.fronts.left in
    c.fronts.invariant.others (take k anchor) (λ n lt le e. take-differ k n anchor lt le e)
    ∙ c.requires.absent k (omega (arith, c.fronts-test.true)) c.fronts.invariant.within

pub fronts-preserved : goal.fronts-preserved
fronts-preserved c =
    let i = c.fronts.invariant in
    let left = c.fronts.left in
    let k = c.args.len + left in
    let anchor = c.args.anchor.now in
    let some = c.fronts-test.true in
    record {
      within = omega (arith, i.within);
      made = (popped (λ v. v.items) anchor c.args.len left c.fronts.prefixes.items c.pop.new.self.items c.in-Some.prefix some i.made c.in-Some.ensures.items).1;
      begun = λ n lt le. elim (above-next n k (omega (arith, lt, some))) [
        | inl above ↦ keep-begun anchor n k c.args.place c.fronts.table c.begin_at.new.table above le c.begin_at.ensures.others (i.begun n above le)
        | inr e ↦ subst (λ (j : ℕ). BegunAt anchor j c.args.place c.begin_at.new.table) (sym e) c.begin_at.ensures.begun
      ];
      others = λ p f. c.begin_at.ensures.others p (f k (omega (arith, some)) i.within) ∙ i.others p (λ n lt le. f n (omega (arith, lt)) le);
      count = omega (arith, c.begin_at.ensures.count, i.count, some);
      room = omega (arith, c.begin_at.ensures.room, i.room, some);
    }
