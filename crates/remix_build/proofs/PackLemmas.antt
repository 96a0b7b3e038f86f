-- An index grows by a segment. To know: named_snoc, anchored_snoc, packed_snoc, offsets_told.
use Rattle.std.proofs.Common.{◌-◌, ◌≤◌, zero, suc, Bool, true, false, ◌≡◌, ℕ, ◌+◌, ◌<◌, List, [], ◌∷◌, ◌++◌, length, take, refl, sym, ap, subst, ◌∙◌, arith}
use Rattle.std.specs.Prelude.{◌==◌, slice_index, replicate, nat_lt}
use Rattle.std.proofs.lemmas.Bool.Decides.{nat_tests}
use Rattle.std.proofs.lemmas.List.{length-append, length-replicate, get_or_append_left, get_or-append_right}
use Rattle.remix_build.specs.Packing.{eight_counts}
use Rattle.std.specs.List.{flat_map, count_by, sum_by}
use Rattle.std.proofs.lemmas.Grind.{flat_map-append}
use Rattle.std.proofs.lemmas.List.{append-nil}
use Rattle.std.proofs.lemmas.List.Sums.{sum_by-cons}
use Rattle.rdb_base.specs.declared.pair.Pair.{Pair}
use Rattle.remix_view.specs.declared.segment.Segment.{Segment}
use Rattle.remix_seek.specs.Versions.{Version, IsSortedView, run_at}
use Rattle.remix_seek.specs.Indexes.{filled, ArePacked, AreAnchored, IsKeyAt, counts_below, below_in}
use Rattle.remix_build.specs.Packing.{LastFull}
use Rattle.remix_seek.proofs.VersionLemmas.{SplitsAt, below_of_run}

pub flat_snoc : {X Y : Type 0} (f : X → List Y) (xs : List X) (x : X) → flat_map f (xs ++ x ∷ []) ≡ flat_map f xs ++ f x
flat_snoc f xs x = flat_map-append f xs (x ∷ []) ∙ ap (λ (ys : List _). flat_map f xs ++ ys) (append-nil (f x))

pub anchored_snoc : (runs : List (List Pair)) (vs : List Version) (n : ℕ) (segments : List Segment) (anchors : List (List ℕ)) (g : Segment) (a : List ℕ) → AreAnchored runs vs n segments anchors → IsKeyAt (n + sum_by filled segments) vs a → g.offsets ≡ counts_below a runs → AreAnchored runs vs n (segments ++ g ∷ []) (anchors ++ a ∷ [])
anchored_snoc runs vs n [] [] g a all after offsets = (subst (λ (m : ℕ). IsKeyAt m vs a) (no_more n) after, offsets, tt)
  where
    no_more : (m : ℕ) → m + 0 ≡ m
    no_more m = omega arith
anchored_snoc runs vs n [] (b ∷ bs) g a all after offsets = absurd all
anchored_snoc runs vs n (x ∷ xs) [] g a all after offsets = absurd all
anchored_snoc runs vs n (x ∷ xs) (b ∷ bs) g a all after offsets =
    (all.0, all.1, anchored_snoc runs vs (n + filled x) xs bs g a all.2 (subst (λ (m : ℕ). IsKeyAt m vs a) (regroup (sum_by filled (x ∷ xs)) (filled x) (sum_by filled xs) (sum_by-cons filled x xs)) after) offsets)
  where
    regroup : (s b c : ℕ) → s ≡ b + c → n + s ≡ (n + b) + c
    regroup s b c e = omega arith

pub packed_snoc : (segments : List Segment) (g : Segment) → ArePacked segments → LastFull segments g → ArePacked (segments ++ g ∷ [])
packed_snoc [] g packed full = tt
packed_snoc (x ∷ []) g packed full = (full, tt)
packed_snoc (x ∷ (y ∷ ys)) g packed full = (packed.0, packed_snoc (y ∷ ys) g packed.1 full)

eight : (xs : List ℕ) → length xs ≡ 8 → xs ≡ slice_index xs 0 ∷ slice_index xs 1 ∷ slice_index xs 2 ∷ slice_index xs 3 ∷ slice_index xs 4 ∷ slice_index xs 5 ∷ slice_index xs 6 ∷ slice_index xs 7 ∷ []
eight (a ∷ (b ∷ (c ∷ (d ∷ (e ∷ (f ∷ (g ∷ (h ∷ [])))))))) long = refl
eight [] long = absurd (omega arith)
eight (a ∷ []) long = absurd (omega arith)
eight (a ∷ (b ∷ [])) long = absurd (omega arith)
eight (a ∷ (b ∷ (c ∷ []))) long = absurd (omega arith)
eight (a ∷ (b ∷ (c ∷ (d ∷ [])))) long = absurd (omega arith)
eight (a ∷ (b ∷ (c ∷ (d ∷ (e ∷ []))))) long = absurd (omega arith)
eight (a ∷ (b ∷ (c ∷ (d ∷ (e ∷ (f ∷ [])))))) long = absurd (omega arith)
eight (a ∷ (b ∷ (c ∷ (d ∷ (e ∷ (f ∷ (g ∷ []))))))) long = absurd (omega arith)
eight (a ∷ (b ∷ (c ∷ (d ∷ (e ∷ (f ∷ (g ∷ (h ∷ (i ∷ xs))))))))) long = absurd (omega arith)

-- the counts of the versions before an anchor are its offsets, 0 for each run that there is not
pub offsets_told : (runs : List (List Pair)) (vs : List Version) (key : List ℕ) (n : ℕ) (counts : List ℕ) → length runs ≤ 8 → IsSortedView runs vs → SplitsAt key vs n → length counts ≡ length runs → ((run : ℕ) → run < length runs → slice_index counts run ≡ count_by (λ (v : Version). v.run == run) (take n vs)) → eight_counts counts ≡ counts_below key runs
offsets_told runs vs key n counts few view splits long told =
    eight (eight_counts counts) eight_long
    ∙ (λ i. at 0 (omega arith) i ∷ at 1 (omega arith) i ∷ at 2 (omega arith) i ∷ at 3 (omega arith) i ∷ at 4 (omega arith) i ∷ at 5 (omega arith) i ∷ at 6 (omega arith) i ∷ at 7 (omega arith) i ∷ [])
  where
    zeros_at : (m r : ℕ) → slice_index (replicate m 0) r ≡ 0
    zeros_at zero r = refl
    zeros_at (suc m) zero = refl
    zeros_at (suc m) (suc r) = zeros_at m r

    eight_long : length (eight_counts counts) ≡ 8
    eight_long = length-append counts (replicate (8 - length counts) 0) ∙ ap (λ (m : ℕ). length counts + m) (length-replicate (8 - length counts) 0) ∙ omega (arith, long, few)

    none_there : (rs : List (List Pair)) (run : ℕ) → length rs ≤ run → run_at rs run ≡ []
    none_there [] run h = refl
    none_there (r ∷ rs) zero h = absurd (omega arith)
    none_there (r ∷ rs) (suc run) h = none_there rs run (omega arith)

    at : (run : ℕ) → run < 8 → slice_index (eight_counts counts) run ≡ below_in key (run_at runs run)
    at run low = by_test (nat_lt run (length runs)) refl
      where
        by_test : (b : Bool) → nat_lt run (length runs) ≡ b → slice_index (eight_counts counts) run ≡ below_in key (run_at runs run)
        by_test true e =
            let there : run < length runs = grind (arith, nat_tests) in
            get_or_append_left counts (replicate (8 - length counts) 0) 0 run (omega (arith, long)) ∙ told run there ∙ sym (below_of_run runs vs key n run view splits)
        by_test false e =
            let past : length runs ≤ run = grind (arith, nat_tests) in
            get_or-append_right counts (replicate (8 - length counts) 0) (length counts) run 0 refl (omega (arith, long)) ∙ zeros_at (8 - length counts) (run - length counts) ∙ ap (below_in key) (sym (none_there runs run past))
