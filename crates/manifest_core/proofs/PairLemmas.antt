-- Calls of two strips: none (`pair-none`), of one of them (`pair-one`), one after another (`pair-join`, `joined`), and
-- with the strips in the order in which they are handed out (`oriented`, `standing_now`).
use Rattle.std.proofs.Common.{◌≡◌, inl, inr, ◌⊎◌, ℕ, ◌+◌, ◌<◌, ◌≤◌, Bool, true, false, not, List, refl, sym, ap, subst, ◌∙◌, arith}
use Rattle.std.specs.Prelude.{if◌then◌else◌}
use Rattle.disk_model.specs.declared.strip.Strip.{Ghosts}
use Rattle.disk_model.specs.Crashes.{IsSpan}
use Rattle.frame_journal.specs.Devices.{SameStrip, OfCrashes, OfImages, Spans}
use Rattle.frame_journal.specs.JournalState.{JournalState, is_ready, has_staged}
use Rattle.frame_journal.specs.Journals.{standing, survivors, HasSurvivors, StandsForNoneOr, StandsWithOrWithout, StandsIn, Leaves}
use Rattle.edition_code.specs.Values.{EditionValue}
use Rattle.manifest_core.specs.Manifests.{HasEdition, HasOne}
use Rattle.manifest_core.specs.ManifestState.{ManifestState, first_strip, second_strip}
use Rattle.manifest_core.specs.Pairs.{IfBoth, OfBothImages, StandNow, PairCalls}
use Rattle.manifest_core.specs.Kept.{IsKept}
use Rattle.manifest_core.specs.Commits.{CommitCrashes}
use Rattle.std.specs.Prelude.{nat_le, ◌||◌}
use Rattle.std.proofs.lemmas.Bool.Decides.{nat_tests}
use Rattle.manifest_core.specs.Steps.{is_full, IsTurn}
use Rattle.manifest_core.specs.declared.limits.TheConstants.{STRIP_FULL}
use Rattle.manifest_core.proofs.ReadLemmas.{EitherWay, OneWay}
use Rattle.manifest_core.proofs.KeptLemmas.{one_now, one_settling, one_clearing}

module _ {S : Type 0} (strip : Ghosts S) where
  -- since this moment there is no other
  abbrev pub OnlyNow : S → Type 0
  OnlyNow s = (c : List ℕ) → strip.left_since s (strip.moment s) c → strip.may_leave s c

  -- what counts since a moment counts since each earlier one
  abbrev pub CountsEarlier : S → Type 0
  CountsEarlier s = (t u : ℕ) (c : List ℕ) → t ≤ u → strip.left_since s u c → strip.left_since s t c

  span-none : (s : S) → Spans strip s s
  span-none s = record { later = omega arith; nothing_else = λ t c le since. inl since; keeps = λ t c le past. past }

  span-both : (a b c : S) → CountsEarlier c → Spans strip a b → Spans strip b c → Spans strip a c
  span-both a b c earlier one two = record {
    later = omega (arith, one.later, two.later);
    nothing_else = λ t image le since. elim (two.nothing_else t image (omega (arith, le, one.later)) since) [
      | inl past ↦ elim (one.nothing_else t image le past) [
        | inl old ↦ inl old
        | inr now ↦ inr (two.keeps (strip.moment a) image one.later now)
      ]
      | inr now ↦ inr (earlier (strip.moment a) (strip.moment b) image one.later now)
    ];
    keeps = λ t image le past. two.keeps t image (omega (arith, le, one.later)) (one.keeps t image le past);
  }

  -- no call
  pub pair-none : (most : ℕ) (a b : S) (P : List ℕ → List ℕ → Type 0) → OnlyNow a → OnlyNow b → OfBothImages strip a b P → PairCalls strip most a b a b P
  pair-none most a b P only_a only_b images = record {
    crash = λ told_a told_b x y since_a since_b. images told_a told_b x y (only_a x since_a) (only_b y since_b);
    time = (span-none a, span-none b);
    calls = omega arith;
    book = (refl, refl);
    tells = (refl, refl);
    tells_images = (refl, refl);
  }

  -- calls of the first strip alone
  pub pair-one : (most : ℕ) (a c b : S) (P : List ℕ → List ℕ → Type 0) → SameStrip strip most a c → Spans strip a c → OnlyNow b → IfBoth strip a b ((x y : List ℕ) → strip.left_since c (strip.moment a) x → strip.may_leave b y → P x y) → PairCalls strip most a b c b P
  pair-one most a c b P same time only crash = record {
    crash = λ told_a told_b x y since_a since_b. crash told_a told_b x y since_a (only y since_b);
    time = (time, span-none b);
    calls = omega (arith, same.calls);
    book = (same.book, refl);
    tells = (same.tells, refl);
    tells_images = (same.tells_images, refl);
  }

  pub pair-weaker : (most more : ℕ) (a b c d : S) (P Q : List ℕ → List ℕ → Type 0) → most ≤ more → ((x y : List ℕ) → P x y → Q x y) → PairCalls strip most a b c d P → PairCalls strip more a b c d Q
  pair-weaker most more a b c d P Q le weaker pair = record {
    crash = λ told_a told_b x y since_a since_b. weaker x y (pair.crash told_a told_b x y since_a since_b);
    time = pair.time;
    calls = omega (arith, le, pair.calls);
    book = pair.book;
    tells = pair.tells;
    tells_images = pair.tells_images;
  }

  pub pair-swap : (most : ℕ) (a b c d : S) (P Q : List ℕ → List ℕ → Type 0) → ((x y : List ℕ) → P x y → Q y x) → PairCalls strip most a b c d P → PairCalls strip most b a d c Q
  pair-swap most a b c d P Q turn pair = record {
    crash = λ told_b told_a y x since_b since_a. turn x y (pair.crash told_a told_b x y since_a since_b);
    time = (pair.time.1, pair.time.0);
    calls = omega (arith, pair.calls);
    book = (pair.book.1, pair.book.0);
    tells = (pair.tells.1, pair.tells.0);
    tells_images = (pair.tells_images.1, pair.tells_images.0);
  }

  -- calls of the second strip, and more calls of it
  pub pair-join : (m n : ℕ) (a b c d : S) (P Q R : List ℕ → List ℕ → Type 0) → CountsEarlier d → ((x y : List ℕ) → P x y → R x y) → ((x y : List ℕ) → Q x y → R x y) → PairCalls strip m a b a c P → PairCalls strip n a c a d Q → PairCalls strip (m + n) a b a d R
  pair-join m n a b c d P Q R earlier one_weaker two_weaker one two = record {
    crash = λ told_a told_b x y since_a since_b. elim (two.time.1.nothing_else (strip.moment b) y one.time.1.later since_b) [
      | inl past ↦ one_weaker x y (one.crash told_a told_b x y since_a past)
      | inr now ↦ two_weaker x y (two.crash told_a (one.tells.1 ∙ told_b) x y since_a now)
    ];
    time = (one.time.0, span-both b c d earlier one.time.1 two.time.1);
    calls = omega (arith, one.calls, two.calls);
    book = (refl, two.book.1 ∙ one.book.1);
    tells = (refl, two.tells.1 ∙ one.tells.1);
    tells_images = (refl, two.tells_images.1 ∙ one.tells_images.1);
  }

  -- the same, where the first strip is known to be the same at each time
  join-second : (a a1 a2 b c d : S) (P Q R : List ℕ → List ℕ → Type 0) → a1 ≡ a → a2 ≡ a → CountsEarlier d → ((x y : List ℕ) → P x y → R x y) → ((x y : List ℕ) → Q x y → R x y) → PairCalls strip 4 a b a1 c P → PairCalls strip 4 a1 c a2 d Q → PairCalls strip 8 a b a2 d R
  join-second a a1 a2 b c d P Q R e1 e2 earlier one_weaker two_weaker one two =
      let first = subst (λ (s : S). PairCalls strip 4 a b s c P) e1 one in
      let second = subst (λ (s : S). PairCalls strip 4 a c s d Q) e2 (subst (λ (s : S). PairCalls strip 4 s c a2 d Q) e1 two) in
      subst (λ (s : S). PairCalls strip 8 a b s d R) (sym e2) (pair-join 4 4 a b c d P Q R earlier one_weaker two_weaker first second)

  join-first : (a c d b b1 b2 : S) (P Q R : List ℕ → List ℕ → Type 0) → b1 ≡ b → b2 ≡ b → CountsEarlier d → ((x y : List ℕ) → P x y → R x y) → ((x y : List ℕ) → Q x y → R x y) → PairCalls strip 4 a b c b1 P → PairCalls strip 4 c b1 d b2 Q → PairCalls strip 8 a b d b2 R
  join-first a c d b b1 b2 P Q R e1 e2 earlier one_weaker two_weaker one two =
      pair-swap 8 b a b2 d (λ y x. R x y) R (λ y x r. r)
      (join-second b b1 b2 a c d (λ y x. P x y) (λ y x. Q x y) (λ y x. R x y) e1 e2 earlier (λ y x p. one_weaker x y p) (λ y x q. two_weaker x y q)
      (pair-swap 4 a b c b1 P (λ y x. P x y) (λ x y p. p) one) (pair-swap 4 c b1 d b2 Q (λ y x. Q x y) (λ x y q. q) two))

  turned_joined : (old mid new : ManifestState S) (P Q R : List ℕ → List ℕ → Type 0) (full : Bool) → IsTurn full old mid → new.other.strip ≡ mid.other.strip → new.on_second ≡ mid.on_second → CountsEarlier new.current.strip → ((x y : List ℕ) → P x y → R x y) → ((x y : List ℕ) → Q x y → R x y)
      → PairCalls strip 4 (first_strip old) (second_strip old) (first_strip mid) (second_strip mid) P → PairCalls strip 4 (first_strip mid) (second_strip mid) (first_strip new) (second_strip new) Q → PairCalls strip 8 (first_strip old) (second_strip old) (first_strip new) (second_strip new) R
  turned_joined old mid new P Q R false turn same_other same_side earlier one_weaker two_weaker one two =
      pair-weaker 4 8 (first_strip old) (second_strip old) (first_strip new) (second_strip new) Q R (omega arith) two_weaker
      (subst (λ (m : ManifestState S). PairCalls strip 4 (first_strip m) (second_strip m) (first_strip new) (second_strip new) Q) turn two)
  turned_joined old mid new P Q R true turn same_other same_side earlier one_weaker two_weaker one two = by_side old.on_second refl
    where
      by_side : (b : Bool) → old.on_second ≡ b → PairCalls strip 8 (first_strip old) (second_strip old) (first_strip new) (second_strip new) R
      by_side true e =
          let on_mid : mid.on_second ≡ false = turn.0 ∙ ap not e in
          let on_new : new.on_second ≡ false = same_side ∙ on_mid in
          let still : second_strip mid ≡ second_strip old = rw (e, on_mid) (ap (λ (j : JournalState S). j.strip) turn.1) in
          let stays : second_strip new ≡ second_strip old = rw (e, on_new) (same_other ∙ ap (λ (j : JournalState S). j.strip) turn.1) in
          let current : first_strip new ≡ new.current.strip = rw on_new refl in
          join-first (first_strip old) (first_strip mid) (first_strip new) (second_strip old) (second_strip mid) (second_strip new) P Q R still stays (subst CountsEarlier (sym current) earlier) one_weaker two_weaker one two
      by_side false e =
          let on_mid : mid.on_second ≡ true = turn.0 ∙ ap not e in
          let on_new : new.on_second ≡ true = same_side ∙ on_mid in
          let still : first_strip mid ≡ first_strip old = rw (e, on_mid) (ap (λ (j : JournalState S). j.strip) turn.1) in
          let stays : first_strip new ≡ first_strip old = rw (e, on_new) (same_other ∙ ap (λ (j : JournalState S). j.strip) turn.1) in
          let current : second_strip new ≡ new.current.strip = rw on_new refl in
          join-second (first_strip old) (first_strip mid) (first_strip new) (second_strip old) (second_strip mid) (second_strip new) P Q R still stays (subst CountsEarlier (sym current) earlier) one_weaker two_weaker one two

  -- A turn, and then calls of the strip that is current. Between them an edition is staged, by no call.
  pub joined : (old mid staged new : ManifestState S) (P Q R : List ℕ → List ℕ → Type 0) (full : Bool) → IsTurn full old mid → staged.current.strip ≡ mid.current.strip → staged.other ≡ mid.other → staged.on_second ≡ mid.on_second → new.other ≡ staged.other → new.on_second ≡ staged.on_second
      → CountsEarlier new.current.strip → ((x y : List ℕ) → P x y → R x y) → ((x y : List ℕ) → Q x y → R x y)
      → PairCalls strip 4 (first_strip old) (second_strip old) (first_strip mid) (second_strip mid) P → PairCalls strip 4 (first_strip staged) (second_strip staged) (first_strip new) (second_strip new) Q → PairCalls strip 8 (first_strip old) (second_strip old) (first_strip new) (second_strip new) R
  joined old mid staged new P Q R full turn current other side same_other same_side earlier one_weaker two_weaker one two =
      let first : first_strip staged ≡ first_strip mid = λ i. if side i then (other i).strip else current i in
      let second : second_strip staged ≡ second_strip mid = λ i. if side i then current i else (other i).strip in
      let from_first = subst (λ (s : S). PairCalls strip 4 s (second_strip staged) (first_strip new) (second_strip new) Q) first two in
      let from_mid = subst (λ (s : S). PairCalls strip 4 (first_strip mid) s (first_strip new) (second_strip new) Q) second from_first in
      turned_joined old mid new P Q R full turn (ap (λ (j : JournalState S). j.strip) (same_other ∙ other)) (same_side ∙ side) earlier one_weaker two_weaker one from_mid

  -- the strips in the order in which they are handed out
  pub oriented : (most : ℕ) (on_second : Bool) (c o d p : S) (P Q : List ℕ → List ℕ → Type 0) → ((x y : List ℕ) → P x y → Q x y) → ((x y : List ℕ) → P x y → Q y x) → PairCalls strip most c o d p P
      → PairCalls strip most (if on_second then o else c) (if on_second then c else o) (if on_second then p else d) (if on_second then d else p) Q
  oriented most true c o d p P Q forth back pair = pair-swap most c o d p P Q back pair
  oriented most false c o d p P Q forth back pair = pair-weaker most most c o d p P Q (omega arith) forth pair

pub one_forth : (one other : EditionValue) (x y : List ℕ) → OneWay one other x y → HasOne one other x y
one_forth one other x y (inl has) = inl has.forth
one_forth one other x y (inr has) = inr has.forth

pub one_back : (one other : EditionValue) (x y : List ℕ) → OneWay one other x y → HasOne one other y x
one_back one other x y (inl has) = inl has.back
one_back one other x y (inr has) = inr has.back

pub one_as : (one other a b : EditionValue) → one ≡ a → other ≡ b → (x y : List ℕ) → HasOne one other x y → HasOne a b x y
one_as one other a b e f x y (inl has) = inl (subst (λ (edition : EditionValue). HasEdition edition x y) e has)
one_as one other a b e f x y (inr has) = inr (subst (λ (edition : EditionValue). HasEdition edition x y) f has)

module _ {S : Type 0} (strip : Ghosts S) where
  stand_by : (on_second : Bool) (c o : S) (P Q : List ℕ → List ℕ → Type 0) → ((x y : List ℕ) → P x y → Q x y) → ((x y : List ℕ) → P x y → Q y x) → StandNow strip c o P → StandNow strip (if on_second then o else c) (if on_second then c else o) Q
  stand_by true c o P Q forth back now = record {
    content = λ told_o told_c. back (strip.content c) (strip.content o) (now.content told_c told_o);
    images = λ told_o told_c y x may_y may_x. back x y (now.images told_c told_o x y may_x may_y);
  }
  stand_by false c o P Q forth back now = record {
    content = λ told_c told_o. forth (strip.content c) (strip.content o) (now.content told_c told_o);
    images = λ told_c told_o x y may_x may_y. forth x y (now.images told_c told_o x y may_x may_y);
  }

  -- what the strips stand for now
  pub standing_now : (on_second : Bool) (current other : JournalState S) (stands newest : EditionValue) → IsKept strip current other stands newest → Leaves strip current → Leaves strip other
      → StandNow strip (if on_second then other.strip else current.strip) (if on_second then current.strip else other.strip) (HasOne stands newest)
  standing_now on_second current other stands newest kept left_current left_other = stand_by on_second current.strip other.strip (OneWay stands newest) (HasOne stands newest) (one_forth stands newest) (one_back stands newest) (record {
    content = λ told_c told_o. one_now strip current other stands newest (strip.content current.strip) (strip.content other.strip) kept (kept.reads told_c told_o) (left_current.content told_c) (left_other.content told_o);
    images = λ told_c told_o x y may_x may_y. one_now strip current other stands newest x y kept (kept.reads told_c told_o) (left_current.images told_c x may_x) (left_other.images told_o y may_y);
  })

  -- with nothing in doubt there is one edition
  pub stand_one : (a b : S) (one other edition : EditionValue) → one ≡ edition → other ≡ edition → StandNow strip a b (HasOne one other) → StandNow strip a b (HasEdition edition)
  stand_one a b one other edition e f now = record {
    content = λ told_a told_b. alone (strip.content a) (strip.content b) (now.content told_a told_b);
    images = λ told_a told_b x y may_x may_y. alone x y (now.images told_a told_b x y may_x may_y);
  }
    where
      alone : (x y : List ℕ) → HasOne one other x y → HasEdition edition x y
      alone x y (inl has) = subst (λ (e : EditionValue). HasEdition e x y) e has
      alone x y (inr has) = subst (λ (e : EditionValue). HasEdition e x y) f has

  -- within a settle
  pub pair-settle : (on_second : Bool) (current other : JournalState S) (new : S) (stands newest : EditionValue) → IsKept strip current other stands newest → has_staged current ≡ true → Leaves strip other → OnlyNow strip other.strip → SameStrip strip 4 current.strip new → Spans strip current.strip new → OfCrashes strip current.strip new (StandsWithOrWithout strip current)
      → PairCalls strip 4 (if on_second then other.strip else current.strip) (if on_second then current.strip else other.strip) (if on_second then other.strip else new) (if on_second then new else other.strip) (HasOne stands newest)
  pair-settle on_second current other new stands newest kept staged left only same time crash =
      oriented strip 4 on_second current.strip other.strip new other.strip (OneWay stands newest) (HasOne stands newest) (one_forth stands newest) (one_back stands newest)
      (pair-one strip 4 current.strip new other.strip (OneWay stands newest) same time only (λ told_c told_o x y since may.
      one_settling strip current other stands newest x y kept (kept.reads told_c told_o) staged (crash told_c x since) (left.images told_o y may)))

  -- within a clear of the other strip
  pub pair-clear : (on_second : Bool) (current other : JournalState S) (new : S) (stands newest : EditionValue) → IsKept strip current other stands newest → has_staged current ≡ false → (is_ready current ≡ true → 0 < current.end) → Leaves strip current → OnlyNow strip current.strip → SameStrip strip 4 other.strip new → Spans strip other.strip new
      → (is_ready other ≡ true → HasSurvivors strip other (standing strip other)) → OfCrashes strip other.strip new (StandsForNoneOr (survivors strip other))
      → PairCalls strip 4 (if on_second then other.strip else current.strip) (if on_second then current.strip else other.strip) (if on_second then new else current.strip) (if on_second then current.strip else new) (HasEdition stands)
  pair-clear on_second current other new stands newest kept idle full left only same time own crash =
      oriented strip 4 on_second current.strip other.strip current.strip new (EitherWay stands) (HasEdition stands) (λ x y has. has.forth) (λ x y has. has.back)
      (pair-swap strip 4 other.strip current.strip new current.strip (λ y x. EitherWay stands x y) (EitherWay stands) (λ y x has. has)
      (pair-one strip 4 other.strip new current.strip (λ y x. EitherWay stands x y) same time only (λ told_o told_c y x since may.
      one_clearing strip current other stands x y (kept.reads told_c told_o) idle full told_o own (left.images told_c x may) (crash told_o y since))))

  -- the same, once the strips changed places
  pub pair-turn : (most : ℕ) (on_second : Bool) (a b c new : S) (P : List ℕ → List ℕ → Type 0) → PairCalls strip most a b (if on_second then new else c) (if on_second then c else new) P → PairCalls strip most a b (if not on_second then c else new) (if not on_second then new else c) P
  pair-turn most true a b c new P pair = pair
  pair-turn most false a b c new P pair = pair

-- a journal that is full and ready has frames
pub full_end : {S : Type 0} (journal : JournalState S) → is_full journal ≡ true → is_ready journal ≡ true → 0 < journal.end
full_end journal full ready = least (subst (λ (b : Bool). (not b || nat_le STRIP_FULL journal.end) ≡ true) ready full)
  where
    least : nat_le STRIP_FULL journal.end ≡ true → 0 < journal.end
    least e = grind (arith, nat_tests, e)

-- what crashes leave is told of the strips alone
module _ {S : Type 0} (strip : Ghosts S) where
  pub crashes-as : (old new other : ManifestState S) (edition : EditionValue) → first_strip other ≡ first_strip new → second_strip other ≡ second_strip new → CommitCrashes strip old new edition → CommitCrashes strip old other edition
  crashes-as old new other edition first second crashes = elim crashes [
    | inl pair ↦ inl (at_other 4 (first_strip old) (second_strip old) (HasOne old.stands old.newest) pair)
    | inr parts ↦ inr (record { first = parts.first; second = parts.second; nothing = parts.nothing; settling = parts.settling; writing = at_other 8 parts.first parts.second (HasOne old.newest edition) parts.writing })
  ]
    where
      at_other : (most : ℕ) (a b : S) (P : List ℕ → List ℕ → Type 0) → PairCalls strip most a b (first_strip new) (second_strip new) P → PairCalls strip most a b (first_strip other) (second_strip other) P
      at_other most a b P pair = subst (λ s. PairCalls strip most a b (first_strip other) s P) (sym second) (subst (λ s. PairCalls strip most a b s (second_strip new) P) (sym first) pair)
