use Rattle.std.proofs.Common.{ℕ, sym, ◌∙◌, subst, arith, inl, inr}
use Rattle.meta_trie.specs.Growths.{GrownAt}
use Rattle.meta_trie.specs.Leaves.{all_of}
use Rattle.meta_trie.proofs.FrontLemmas.{keep-grown, below-next}
use Rattle.meta_trie.proofs.adding.grow_all.Goals as goal

pub fronts-preserved : goal.fronts-preserved
fronts-preserved c =
    let i = c.fronts.invariant in
    let k = c.fronts.n in
    let all = all_of c.args.leaves.now in
    let anchor = c.args.anchor.now in
    record {
      grown = λ n lt. elim (below-next n k lt) [
        | inl below ↦ keep-grown all anchor n k c.fronts.table c.grow_at.new.table below (omega (arith, c.fronts-test.true, c.requires.within)) c.grow_at.ensures.others (i.grown n below)
        | inr e ↦ subst (λ (j : ℕ). GrownAt all anchor j c.grow_at.new.table) (sym e) c.grow_at.ensures.grown
      ];
      others = λ p f. c.grow_at.ensures.others p (f k (omega arith)) ∙ i.others p (λ n lt. f n (omega (arith, lt)));
      count = c.grow_at.ensures.count ∙ i.count;
      room = omega (arith, c.grow_at.ensures.room, i.room);
    }
