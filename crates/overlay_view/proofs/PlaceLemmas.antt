-- The order of places of one view is that of how many versions stand before them. To know: nat_less, nat_equal, nat_greater, before-less.
use Rattle.std.proofs.Common.{◌≡◌, inl, inr, ℕ, suc, ◌+◌, ◌<◌, ◌≤◌, Bool, true, false, cond, length, refl, arith}
use Rattle.std.specs.Prelude.{nat_lt, ◌==◌}
use Rattle.std.specs.Ordering.{nat_cmp}
use Rattle.std.specs.declared.cmp.Ordering.{Ordering}
use Rattle.std.specs.declared.cmp.Ordering.TheVariants.{Less, Equal, Greater}
use Rattle.std.proofs.lemmas.Bool.Decides.{nat_tests}
use Rattle.std.proofs.lemmas.Option.{slice_get_within}
use Rattle.remix_view.specs.Views.{ViewState}
use Rattle.remix_seek.specs.Places.{IsStanding, versions_before}
use Rattle.remix_seek.proofs.SegmentLemmas.{start_of}
use Rattle.remix_seek.proofs.KnownLemmas.{start_next, start_grows}

-- ---- the order of two numbers

abbrev told_by : Bool → Bool → Ordering
told_by lt eq = cond lt Less (cond eq Equal Greater)

pub nat_less : (a b : ℕ) → nat_cmp a b ≡ Less → a < b
nat_less a b e = by_tests (nat_lt a b) (a == b) refl e
  where
    by_tests : (lt eq : Bool) → nat_lt a b ≡ lt → told_by lt eq ≡ Less → a < b
    by_tests true eq t e = grind (arith, nat_tests)
    by_tests false true t e = absurd cc
    by_tests false false t e = absurd cc

pub nat_equal : (a b : ℕ) → nat_cmp a b ≡ Equal → a ≡ b
nat_equal a b e = by_tests (nat_lt a b) (a == b) refl e
  where
    by_tests : (lt eq : Bool) → (a == b) ≡ eq → told_by lt eq ≡ Equal → a ≡ b
    by_tests true eq t e = absurd cc
    by_tests false true t e = grind (arith, nat_tests)
    by_tests false false t e = absurd cc

pub nat_greater : (a b : ℕ) → nat_cmp a b ≡ Greater → b < a
nat_greater a b e = by_tests (nat_lt a b) (a == b) refl refl e
  where
    by_tests : (lt eq : Bool) → nat_lt a b ≡ lt → (a == b) ≡ eq → told_by lt eq ≡ Greater → b < a
    by_tests true eq t u e = absurd cc
    by_tests false true t u e = absurd cc
    by_tests false false t u e = grind (arith, nat_tests)

-- ---- places of one view

inside : (view : ViewState) (t k : ℕ) → IsStanding view t k → t ≤ length view.segments
inside view t k (inl ends) = omega (arith, ends.0)
inside view t k (inr (g, at, lt)) = let h = slice_get_within view.segments t g at in omega (arith, h)

-- fewer versions stand before a place of an earlier segment
pub before-less : (view : ViewState) (s j t k : ℕ) → IsStanding view s j → IsStanding view t k → s < t → versions_before view s j < versions_before view t k
before-less view s j t k (inl ends) there lt = absurd (let h = inside view t k there in omega (arith, ends.0))
before-less view s j t k (inr (g, at, few)) there lt =
    let next : start_of view.segments (suc s) ≡ start_of view.segments s + _ = start_next view.segments s g at in
    let grows : start_of view.segments (suc s) ≤ start_of view.segments t = start_grows view.segments (suc s) t (omega arith) in
    omega (arith, next, grows)
