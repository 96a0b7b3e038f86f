use Rattle.std.proofs.Common.{◌≡◌, ◌≤◌, ◌+◌, ℕ, suc, length, take, arith, subst, inl, inr}
use Rattle.worm_leaf.specs.Anchors.{IsAnchor}
use Rattle.worm_leaf.proofs.PartingLemmas.{Parts, parted}
use Rattle.worm_leaf.proofs.parting.parting_length.Goals as goal
use Rattle.worm_leaf.proofs.parting.parting_length.Goals.{then-common-test+else-n-first, else-common-test}

pub returns-then-last-n-clause-anchor : goal.returns-then-last-n-clause-anchor
returns-then-last-n-clause-anchor c =
    let i = c.common.invariant in
    let one : suc c.common.n ≡ c.common.n + 1 = omega arith in
    subst (λ (k : ℕ). IsAnchor c.args.last.now c.args.first.now (take k c.args.first.now)) one (parted c.common.n c.args.last.now c.args.first.now i.0 i.1 i.2 (inr (inr c.if-last-n.true)) c.requires.below).0

pub returns-clause-anchor : goal.returns-clause-anchor
returns-clause-anchor c =
    let i = c.common.invariant in
    let p : c.common.n ≤ length c.args.last.now = i.1 in
    let q : c.common.n ≤ length c.args.first.now = i.2 in
    let one : suc c.common.n ≡ c.common.n + 1 = omega arith in
    let parts : Parts c.common.n c.args.last.now c.args.first.now = elim c.common-test.branch [
      | then-common-test+else-n-first w ↦ inr (inl (omega arith))
      | else-common-test w ↦ inl (omega arith)
    ] in
    subst (λ (k : ℕ). IsAnchor c.args.last.now c.args.first.now (take k c.args.first.now)) one (parted c.common.n c.args.last.now c.args.first.now i.0 i.1 i.2 parts c.requires.below).0

pub returns-clause-within : goal.returns-clause-within
returns-clause-within c =
    let i = c.common.invariant in
    let p : c.common.n ≤ length c.args.last.now = i.1 in
    let q : c.common.n ≤ length c.args.first.now = i.2 in
    let parts : Parts c.common.n c.args.last.now c.args.first.now = elim c.common-test.branch [
      | then-common-test+else-n-first w ↦ inr (inl (omega arith))
      | else-common-test w ↦ inl (omega arith)
    ] in
    omega (arith, (parted c.common.n c.args.last.now c.args.first.now i.0 i.1 i.2 parts c.requires.below).1)
