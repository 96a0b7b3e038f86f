-- What a crash leaves of a journal's strip. To know: spans-call, spans-both, crash-call, crash-calls, step-call, step-calls,
-- no_more-call, no_more-both, front-left.
use Rattle.std.proofs.Common.{◌≡◌, inl, inr, ℕ, ◌+◌, ◌<◌, ◌≤◌, true, false, List, [], ◌∷◌, length, take, drop, refl, sym, ap, subst, ◌∙◌, arith}
use Rattle.std.proofs.lemmas.Bool.{cases_eq}
use Rattle.std.proofs.lemmas.List.{length-take, length-take-le}
use Rattle.disk_model.specs.declared.strip.Strip.{Ghosts}
use Rattle.disk_model.specs.Crashes.{IsStepOf, Follows, Narrows, Elapses}
use Rattle.disk_model.specs.Strips.{Holds, Torn}
use Rattle.disk_model.specs.FileLaws.{torn_held}
use Rattle.frame_journal.specs.declared.format.TheConstants.{OPEN_GATE}
use Rattle.frame_journal.specs.Devices.{LeavesNoMore, Spans}
use Rattle.frame_journal.specs.Frames.{IsClosedAt, StandsFor}
use Rattle.frame_journal.specs.declared.phase.Phase.{Phase}
use Rattle.frame_journal.specs.declared.phase.Phase.TheVariants.{Fresh, Shut, Ready, Staged, Body, Gate}
use Rattle.frame_journal.specs.JournalState.{staged_in, opening_in}
use Rattle.frame_journal.specs.Journals.{standing_to, opened, covered, EndsAt, LeftIn, StandsForNoneOr}
use Rattle.frame_journal.proofs.FrameLemmas.{frames-none}
use Rattle.frame_journal.proofs.JournalLemmas.{closed_stands_none}
use Rattle.frame_journal.proofs.PhaseLemmas.{body-stands}

module _ {S : Type 0} (strip : Ghosts S) where
  -- one call
  pub spans-call : (old new : S) → ((t : ℕ) (c : List ℕ) → t ≤ strip.moment new → strip.may_leave new c → strip.left_since new t c)
      → Elapses (strip.moment old) (strip.moment new) (strip.left_since old) (strip.left_since new) (strip.may_leave new) → Spans strip old new
  spans-call old new counts time = record {
    later = time.later;
    nothing_else = λ t c earlier since. elim (time.nothing_else t c earlier since) [ inl past ↦ inl past | inr now ↦ inr (counts (strip.moment old) c time.later now) ];
    keeps = time.keeps;
  }

  -- calls, and calls after them
  pub spans-both : (old mid new : S) → ((t u : ℕ) (c : List ℕ) → t ≤ u → strip.left_since new u c → strip.left_since new t c)
      → Spans strip old mid → Spans strip mid new → Spans strip old new
  spans-both old mid new earlier first second = record {
    later = omega (arith, first.later, second.later);
    nothing_else = λ t c le since. elim (second.nothing_else t c (omega (arith, le, first.later)) since) [
      | inl past ↦ elim (first.nothing_else t c le past) [ inl before ↦ inl before | inr in_first ↦ inr (second.keeps (strip.moment old) c first.later in_first) ]
      | inr in_second ↦ inr (earlier (strip.moment old) (strip.moment mid) c first.later in_second)
    ];
    keeps = λ t c le since. second.keeps t c (omega (arith, le, first.later)) (first.keeps t c le since);
  }

  module _ (P : List ℕ → Type 0) where
    -- what holds of the images before a call and after it holds at each moment within it
    pub crash-call : (old new : S) → ((c : List ℕ) → strip.left_since old (strip.moment old) c → strip.may_leave old c)
        → Elapses (strip.moment old) (strip.moment new) (strip.left_since old) (strip.left_since new) (strip.may_leave new)
        → ((c : List ℕ) → strip.may_leave old c → P c) → ((c : List ℕ) → strip.may_leave new c → P c)
        → (c : List ℕ) → strip.left_since new (strip.moment old) c → P c
    crash-call old new only time before after c since = elim (time.nothing_else (strip.moment old) c (omega arith) since) [ inl past ↦ before c (only c past) | inr now ↦ after c now ]

    -- the same of two calls
    pub crash-calls : (old mid new : S) → ((c : List ℕ) → strip.left_since old (strip.moment old) c → strip.may_leave old c)
        → Elapses (strip.moment old) (strip.moment mid) (strip.left_since old) (strip.left_since mid) (strip.may_leave mid)
        → Elapses (strip.moment mid) (strip.moment new) (strip.left_since mid) (strip.left_since new) (strip.may_leave new)
        → ((c : List ℕ) → strip.may_leave old c → P c) → ((c : List ℕ) → strip.may_leave mid c → P c) → ((c : List ℕ) → strip.may_leave new c → P c)
        → (c : List ℕ) → strip.left_since new (strip.moment old) c → P c
    crash-calls old mid new only first second before between after c since =
        elim (second.nothing_else (strip.moment old) c first.later since) [ inl past ↦ crash-call old mid only first before between c past | inr now ↦ after c now ]

    -- what holds within calls, and within calls after them
    pub crash-spans : (old mid new : S) → Spans strip old mid → Spans strip mid new
        → ((c : List ℕ) → strip.left_since mid (strip.moment old) c → P c) → ((c : List ℕ) → strip.left_since new (strip.moment mid) c → P c)
        → (c : List ℕ) → strip.left_since new (strip.moment old) c → P c
    crash-spans old mid new first second in_first in_second c since =
        elim (second.nothing_else (strip.moment old) c first.later since) [ inl past ↦ in_first c past | inr later ↦ in_second c later ]

  module _ (step : List ℕ → List ℕ → Type 0) (same : (c : List ℕ) → step c c) where
    -- at each moment within a call an image is one from before, after a step of its kind
    pub step-call : (old new : S) → ((c : List ℕ) → strip.left_since old (strip.moment old) c → strip.may_leave old c)
        → Elapses (strip.moment old) (strip.moment new) (strip.left_since old) (strip.left_since new) (strip.may_leave new)
        → Follows step (strip.may_leave old) (strip.may_leave new) → Follows step (strip.may_leave old) (strip.left_since new (strip.moment old))
    step-call old new only time follows = crash-call (IsStepOf step (strip.may_leave old)) old new only time (λ c left. (c, left, same c)) follows

    -- so it is within that call and one that adds no image
    pub step-calls : (old mid new : S) → ((c : List ℕ) → strip.left_since old (strip.moment old) c → strip.may_leave old c)
        → Elapses (strip.moment old) (strip.moment mid) (strip.left_since old) (strip.left_since mid) (strip.may_leave mid)
        → Elapses (strip.moment mid) (strip.moment new) (strip.left_since mid) (strip.left_since new) (strip.may_leave new)
        → Follows step (strip.may_leave old) (strip.may_leave mid) → Narrows (strip.may_leave mid) (strip.may_leave new)
        → Follows step (strip.may_leave old) (strip.left_since new (strip.moment old))
    step-calls old mid new only first second follows narrows =
        crash-calls (IsStepOf step (strip.may_leave old)) old mid new only first second (λ c left. (c, left, same c)) follows (λ c left. follows c (narrows c left))

  -- within a call that adds no image there is none but those from before
  pub no_more-call : (old new : S) → ((c : List ℕ) → strip.left_since old (strip.moment old) c → strip.may_leave old c)
      → Elapses (strip.moment old) (strip.moment new) (strip.left_since old) (strip.left_since new) (strip.may_leave new)
      → Narrows (strip.may_leave old) (strip.may_leave new) → LeavesNoMore strip old new
  no_more-call old new only time narrows = crash-call (strip.may_leave old) old new only time (λ c left. left) narrows

  -- the same of calls, and calls after them
  pub no_more-both : (old mid new : S) → Spans strip old mid → Spans strip mid new → Narrows (strip.may_leave old) (strip.may_leave mid)
      → LeavesNoMore strip old mid → LeavesNoMore strip mid new → LeavesNoMore strip old new
  no_more-both old mid new first second narrows in_first in_second = crash-spans (strip.may_leave old) old mid new first second in_first (λ c left. narrows c (in_second c left))

-- torn twice in one range
pub torn-twice : (at n : ℕ) (a b c : List ℕ) → Torn at n a b → Torn at n b c → Torn at n a c
torn-twice at n a b c first second = record {
  before = second.before ∙ first.before;
  after = second.after ∙ first.after;
  no_shorter = omega (arith, first.no_shorter, second.no_shorter);
  no_longer = omega (arith, first.no_longer, second.no_longer);
}

-- a write that was done is one of the outcomes of a torn one
pub torn-holds : (at : ℕ) (bytes old new : List ℕ) → at ≤ length old → Holds old at bytes new → Torn at (length bytes) old new
torn-holds at bytes old new within holds = subst (λ (l : List ℕ). Torn at (length bytes) old l) (sym holds) (torn_held at bytes old within)

-- the images of a frame that is staged and not yet written have the bytes up to the gate after the frames
pub front-left : (phase : Phase) (bytes : List ℕ) (end : ℕ) (image : List ℕ) → staged_in phase ≡ true → opening_in phase ≡ false → LeftIn phase bytes end image → take (end + 1) image ≡ take (end + 1) bytes
front-left Fresh bytes end image some unwritten left = absurd cc
front-left Shut bytes end image some unwritten left = absurd cc
front-left Ready bytes end image some unwritten left = absurd cc
front-left Staged bytes end image some unwritten left = ap (take (end + 1)) left
front-left Body bytes end image some unwritten left = left
front-left Gate bytes end image some unwritten left = absurd cc

pub front-inside : (end : ℕ) (bytes image : List ℕ) → end < length bytes → take (end + 1) image ≡ take (end + 1) bytes → end < length image
front-inside end bytes image inside same =
    omega (arith, ap length same, length-take (end + 1) image, length-take-le (end + 1) bytes (omega (arith, inside)))

-- they stand for the frames from before
pub front-stands : (end : ℕ) (bytes image : List ℕ) → EndsAt bytes end → IsClosedAt bytes end → take (end + 1) image ≡ take (end + 1) bytes → StandsFor (standing_to end bytes) image
front-stands end bytes image ends shut same = body-stands bytes image end ends shut same (front-inside end bytes image ends.inside same)

-- with the first gate torn they stand for what is covered, or for none
pub first-stands : (bytes image : List ℕ) → StandsFor (covered bytes) (opened bytes) → drop 1 image ≡ drop 1 bytes → StandsForNoneOr (covered bytes) image
first-stands bytes [] stands same = inl (record { whole = frames-none 0 [] refl; gate = λ some. absurd (omega arith) })
first-stands bytes (byte ∷ image) stands same = elim (cases_eq byte OPEN_GATE) [
  | inl open_gate ↦
      let is : opened bytes ≡ byte ∷ image = ap (λ (l : List ℕ). OPEN_GATE ∷ l) (sym same) ∙ ap (λ (g : ℕ). g ∷ image) (sym open_gate) in
      inr (subst (StandsFor (covered bytes)) is stands)
  | inr shut ↦ inl (closed_stands_none (byte ∷ image) (record { inside = omega arith; closed = shut }))
]
