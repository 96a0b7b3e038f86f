use Rattle.std.proofs.Common.{◌≡◌, ◌-◌, ◌≤◌, ◌++◌, ℕ, zero, suc, length, drop, arith, ap, ◌∙◌}
use Rattle.std.specs.Prelude.{replicate}
use Rattle.remix_view.specs.declared.selector.TheConstants.{FILLER}
use Rattle.remix_build.proofs.cutting.closed.Goals as goal

drop_fillers : (n m : ℕ) → n ≤ m → drop n (replicate m FILLER) ≡ replicate (m - n) FILLER
drop_fillers zero m le = ap (λ (k : ℕ). replicate k FILLER) (same m)
  where
    same : (m : ℕ) → m ≡ m - 0
    same m = omega arith
drop_fillers (suc n) zero le = absurd (omega arith)
drop_fillers (suc n) (suc m) le = drop_fillers n m (omega arith) ∙ ap (λ (k : ℕ). replicate k FILLER) (same m n)
  where
    same : (m n : ℕ) → m - n ≡ suc m - suc n
    same m n = omega arith

pub returns : goal.returns
returns c =
    let front : c.copy_from_slice.new.self ≡ c.args.front.now = c.copy_from_slice.ensures.after in
    let back : c.split_at_mut-head.result.1.now ≡ replicate (32 - length c.args.front.now) FILLER = c.split_at_mut-head.ensures.back ∙ drop_fillers (length c.args.front.now) 32 c.requires in
    λ i. front i ++ back i
