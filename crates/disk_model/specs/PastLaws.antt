-- The laws of moments, for a device that keeps its earlier states. To know: since-earlier, since-now, since-push.
use Rattle.std.specs.Prelude.{◌≡◌, ◌⊎◌, ℕ, zero, suc, ◌≤◌, List, [], ◌∷◌, ◌++◌, length, drop}
use Rattle.std.proofs.Common.{inl, inr, sym, subst, arith, length-append}
use Rattle.std.proofs.lemmas.List.{drop-append-le}
use Rattle.disk_model.specs.Crashes.{Elapses}
use Rattle.disk_model.specs.Pasts.{LeftIn, LeftSince}

module _ {F C : Type 0} (leaves : F → C → Type 0) where
  -- what later states left, some of all left
  left-drop : (t : ℕ) (states : List F) (c : C) → LeftIn leaves (drop t states) c → LeftIn leaves states c
  left-drop zero states c left = left
  left-drop (suc t) [] c left = left
  left-drop (suc t) (state ∷ states) c left = inr (left-drop t states c left)

  left-earlier : (t u : ℕ) (states : List F) (c : C) → t ≤ u → LeftIn leaves (drop u states) c → LeftIn leaves (drop t states) c
  left-earlier zero u states c le left = left-drop u states c left
  left-earlier (suc t) zero states c le left = absurd (omega (arith, le))
  left-earlier (suc t) (suc u) [] c le left = left
  left-earlier (suc t) (suc u) (state ∷ states) c le left = left-earlier t u states c (omega (arith, le)) left

  -- one state more
  left-push : (states : List F) (state : F) (c : C) → LeftIn leaves (states ++ state ∷ []) c → LeftIn leaves states c ⊎ leaves state c
  left-push [] state c (inl left) = inr left
  left-push [] state c (inr none) = absurd none
  left-push (first ∷ states) state c (inl left) = inl (inl left)
  left-push (first ∷ states) state c (inr left) = elim (left-push states state c left) [ inl before ↦ inl (inr before) | inr now ↦ inr now ]

  left-pushed : (states : List F) (state : F) (c : C) → leaves state c → LeftIn leaves (states ++ state ∷ []) c
  left-pushed [] state c left = inl left
  left-pushed (first ∷ states) state c left = inr (left-pushed states state c left)

  left-kept : (states : List F) (state : F) (c : C) → LeftIn leaves states c → LeftIn leaves (states ++ state ∷ []) c
  left-kept [] state c none = absurd none
  left-kept (first ∷ states) state c (inl left) = inl left
  left-kept (first ∷ states) state c (inr left) = inr (left-kept states state c left)

  -- what counts since a moment counts since each earlier one
  pub since-earlier : (past : List F) (now : F) (t u : ℕ) (c : C) → t ≤ u → LeftSince leaves past now u c → LeftSince leaves past now t c
  since-earlier past now t u c le (inl left) = inl left
  since-earlier past now t u c le (inr left) = inr (left-earlier t u past c le left)

  none-left : (states : List F) (c : C) → LeftIn leaves (drop (length states) states) c → ⊥
  none-left [] c left = left
  none-left (state ∷ states) c left = none-left states c left

  -- since this moment there is no other
  pub since-now : (past : List F) (now : F) (c : C) → LeftSince leaves past now (length past) c → leaves now c
  since-now past now c (inl left) = left
  since-now past now c (inr left) = absurd (none-left past c left)

  -- a call after which the state before it is one of those in the past
  pub since-push : (past : List F) (before now : F) → Elapses (length past) (length (past ++ before ∷ [])) (LeftSince leaves past before) (LeftSince leaves (past ++ before ∷ []) now) (leaves now)
  since-push past before now = record {
    later = omega (arith, length-append past (before ∷ []));
    nothing_else = nothing_else;
    keeps = keeps;
  }
    where
      dropped : (t : ℕ) → t ≤ length past → drop t (past ++ before ∷ []) ≡ drop t past ++ before ∷ []
      dropped t le = drop-append-le t past (before ∷ []) le

      nothing_else : (t : ℕ) (c : C) → t ≤ length past → LeftSince leaves (past ++ before ∷ []) now t c → LeftSince leaves past before t c ⊎ leaves now c
      nothing_else t c le (inl left) = inr left
      nothing_else t c le (inr left) = elim (left-push (drop t past) before c (subst (λ (l : List F). LeftIn leaves l c) (dropped t le) left)) [ inl earlier ↦ inl (inr earlier) | inr then ↦ inl (inl then) ]

      keeps : (t : ℕ) (c : C) → t ≤ length past → LeftSince leaves past before t c → LeftSince leaves (past ++ before ∷ []) now t c
      keeps t c le (inl left) = inr (subst (λ (l : List F). LeftIn leaves l c) (sym (dropped t le)) (left-pushed (drop t past) before c left))
      keeps t c le (inr left) = inr (subst (λ (l : List F). LeftIn leaves l c) (sym (dropped t le)) (left-kept (drop t past) before c left))
